-- Lemmas on making a line buffered, and on the step to the next line by it.
use Rattle.bt_lines.proofs.Std.{suc, append-nil, refl, IsErrAnd, err_from_is_err_and, common_steps, ◌≡◌, ℕ, ◌-◌, ◌<◌, Bool, true, false, List, [], ◌++◌, length, take, Option, Result, None, Some, Ok, Err, sym, ap, ◌∙◌, subst, append_assoc, length-append, arith, ◌+◌, ◌≤◌, ◌∷◌, drop, eqb, take-add, take-append-drop, take_at, drop_at, length-take-le, length-drop, All-append, replicate, get_or, get_or-append_right, get_or-append_seam, get_or-replicate, get_or_append_left, length-replicate, drop_more, take-append-le, take-take}
use Rattle.bt_lines.specs.declared.device.Source.{Ghosts as Source}
use Rattle.bt_lines.proofs.lemmas.reader.block.ReadsLemmas.{hands_both, hands_none, hands_still, some_is}
use Rattle.bt_lines.proofs.lemmas.reader.lines.BufferedLemmas.{CutsFirst}
use Rattle.bt_lines.proofs.lemmas.reader.lines.ComingLemmas.{made_coming}
use Rattle.bt_lines.proofs.lemmas.reader.lines.TextLemmas.{line_feeds-append}
use Rattle.bt_lines.specs.calls.Columns.{IsBefore, IsFirstOf, Lacks}
use Rattle.bt_lines.specs.calls.Line.{line_feeds, line_seen}
use Rattle.bt_lines.specs.calls.Names.{fault_value}
use Rattle.bt_lines.specs.model.Lines.{TextLine}
use Rattle.bt_lines.specs.inside.ReadBuffer.{complete}
use Rattle.bt_lines.specs.calls.Reader.{FillsItsRoom, FillsLines, GivesLine, MakesLine, NextLine, buffered_bytes, bytes_taken, end_told, fault_kept, feeds_taken, has_ended, held, input_of, lines_coming, lines_given, source_of}
use Rattle.bt_lines.specs.declared.fault.Fault.{Fault}
use Rattle.bt_lines.specs.declared.reader.line.Line.{Line}
use Rattle.bt_lines.specs.declared.reader.line_reader.LineReader.{LineReader}
use Rattle.bt_lines.specs.declared.reader.line_reader.State.TheVariants.{LastLine, Ended}

module _ {S : Type 0} (device : Source S) where
  -- a line is buffered already
  pub fills_ready : (reader : LineReader S) → (length (complete reader.buffer) ≡ 0 → ⊥) → FillsLines device reader (Ok true) reader
  unfolding buffered_bytes fault_kept has_ended bytes_taken
  fills_ready reader some = record {
    answers = record {
      some = grind arith;
      bytes = ([], hands_none device reader, sym (append-nil (held reader)));
      counted = refl;
      ready = λ h. refl;
      served = refl;
      was_going = grind arith;
      goes = grind arith;
      within = grind arith;
    };
    unread = λ h. refl;
    kept = λ h. h;
  }

  -- a fault is returned again
  pub fails_again : (reader : LineReader S) (fault : Fault) → fault_kept reader ≡ Some (fault_value fault) → FillsLines device reader (Err fault) reader
  unfolding fault_kept has_ended
  fails_again reader fault is =
      let never : fault_kept reader ≡ None → ⊥ = λ none. (let apart : None ≡ Some (fault_value fault) = sym none ∙ is in cc) in
      record {
        answers = record {
          kept = is;
          bytes = ([], hands_none device reader);
          counted = refl;
          again = λ before e. (some_is (fault_value fault) before (sym is ∙ e), refl);
          was_going = grind arith;
          before_end = λ none. absurd (never none);
          no_line = λ none. absurd (never none);
          first = λ none. absurd (never none);
          cut_off = λ none e. absurd (never none);
          near = λ none. absurd (never none);
          served = λ e. refl;
        };
        unread = λ h. refl;
        kept = λ h. h;
      }

  -- after the last line comes the end
  pub fills_after_last : (old new : LineReader S) → complete old.buffer ≡ [] → old.state ≡ LastLine → new.source ≡ old.source → new.buffer ≡ old.buffer → new.taken ≡ old.taken → new.lines ≡ old.lines
      → new.input ≡ old.input → new.state ≡ Ended → FillsLines device old (Ok false) new
  unfolding source_of input_of lines_given bytes_taken held fault_kept has_ended end_told feeds_taken buffered_bytes
  fills_after_last old new none was same_source same_buffer same_taken same_lines same_input ended = grind (arith, (hands_still device old new same_source))

  pub fills_again : (old : LineReader S) → complete old.buffer ≡ [] → old.state ≡ Ended → FillsLines device old (Ok false) old
  unfolding source_of lines_given bytes_taken held fault_kept has_ended end_told buffered_bytes
  fills_again old none was = grind (arith, (hands_none device old))

  -- a line that was made buffered, and then given
  gives_after : (old mid new : LineReader S) (line : TextLine) → MakesLine device old mid → GivesLine device mid line new → GivesLine device old line new
  gives_after old mid new line made gives =
      let first = made.bytes.0 in
      let second = gives.bytes.0 in
      record {
        bytes = (
          first ++ second,
          hands_both device old mid new first second made.bytes.1 gives.bytes.1,
          sym (append_assoc (held old) first second) ∙ ap (λ l. l ++ second) (sym made.bytes.2) ∙ gives.bytes.2,
          λ rest follows. ap (λ l. lines_coming l old) (append_assoc first second rest) ∙ made_coming device old mid made (second ++ rest) ∙ gives.bytes.3 rest follows,
        );
        ahead = gives.ahead;
        ready = λ some. gives.ready (omega (arith, some, ap line_feeds made.bytes.2, line_feeds-append (held old) first)) ∙ made.ready some;
        number = gives.number ∙ ap suc made.counted;
        counted = gives.counted ∙ ap suc made.counted;
        below = gives.below;
        shrinks = omega (arith, gives.shrinks, made.bytes.1.counted, ap length made.bytes.2, length-append (held old) first, made.within);
        served = gives.served ∙ made.served;
        was_going = made.was_going;
        goes = gives.goes;
      }

  -- a call of `next` that met no line
  pub ends_by : (old new : LineReader S) (answer : Result Bool Fault) → answer ≡ Ok false → FillsLines device old answer new → NextLine device old (Ok None) new
  ends_by old new answer e fills =
      let filled = subst (λ (r : Result Bool Fault). FillsLines device old r new) e fills in
      grind arith

  -- or a fault
  pub stops_by : (old new : LineReader S) (fault : Fault) → FillsLines device old (Err fault) new → FillsItsRoom {A = Bool} old (Err fault) new → NextLine device old (Err fault) new
  stops_by old new fault fills room = grind arith

  -- the line that was made buffered, or was so, is given
  pub next_by : (old mid new : LineReader S) (answer : Result Bool Fault) (line : Line) → answer ≡ Ok true → FillsLines device old answer mid
      → CutsFirst device mid (line_seen line) new → NextLine device old (Ok (Some line)) new
  next_by old mid new answer line e fills cuts =
      let filled = subst (λ (r : Result Bool Fault). FillsLines device old r mid) e fills in
      record {
        answers = gives_after old mid new (line_seen line) filled.answers cuts.gives;
        memory = tt;
        sound = λ h. cuts.sound (filled.kept (record { within = h.within }));
      }

  -- it is there
  pub is_made : (old mid : LineReader S) (answer : Result Bool Fault) → answer ≡ Ok true → FillsLines device old answer mid → complete mid.buffer ≡ [] → ⊥
  unfolding buffered_bytes
  is_made old mid answer e fills none =
      let made = (subst (λ (r : Result Bool Fault). FillsLines device old r mid) e fills).answers in
      absurd (omega (arith, made.some, ap length none))

  -- a fault that is passed on
  pub passes_on : (old new : LineReader S) (result : Result (Option Line) Fault) (fault : Fault) → IsErrAnd result (λ e. e ≡ fault) → NextLine device old (Err fault) new → NextLine device old result new
  passes_on old new result fault is stops =
      let p = err_from_is_err_and result is in
      subst (λ (r : Result (Option Line) Fault). NextLine device old r new) (sym (p.1 ∙ ap Err p.2)) stops

-- Lemmas on the first byte of a value among some bytes.

-- bytes that are cut at one before which there is none
pub feed_at : (value : ℕ) (text xs ys : List ℕ) (n : ℕ) → text ≡ xs ++ value ∷ ys → Lacks value xs → n ≡ length xs → IsFirstOf value text (Some n)
feed_at value text xs ys n e clear size = grind (arith, (take_at xs (value ∷ ys) n (sym size)), (append_assoc xs (value ∷ []) ys), drop_at, length-append)

-- the next `n` bytes
pub record Chunk (text : List ℕ) (at : ℕ) (near : List ℕ) (n : ℕ) : Type 0 where
  pub enough : n ≤ length (drop at text)
  pub same : near ≡ take n (drop at text)

pub chunk_of : (text : List ℕ) (at : ℕ) (near : List ℕ) (n : ℕ) → near ≡ take n (take (length text - at) (drop at text)) → n ≤ length (take (length text - at) (drop at text)) → Chunk text at near n
chunk_of text at near n e h = grind (arith, common_steps)

pub chunk_first : (text near : List ℕ) (n : ℕ) → near ≡ take n text → n ≤ length text → Chunk text 0 near n
chunk_first text near n e h = record { enough = h; same = e }

-- what is left of a text
pub chunk_left : (text : List ℕ) (at : ℕ) (rest : List ℕ) → rest ≡ take (length text - at) (drop at text) → Chunk text at rest (length rest)
chunk_left text at rest e = grind (arith, common_steps)

-- the first one, if some bytes before it have none
module _ (value : ℕ) (text : List ℕ) (at : ℕ) (inside : at ≤ length text) (clear : Lacks value (take at text)) where
  pub feed_behind : (near : List ℕ) (n place : ℕ) → Chunk text at near n → IsFirstOf value near (Some place) → IsFirstOf value text (Some (at + place))
  feed_behind near n place chunk first =
      let rest = drop n (drop at text) in
      let cut : drop at text ≡ take place near ++ value ∷ (drop (place + 1) near ++ rest) =
      sym (take-append-drop n (drop at text)) ∙ ap (λ l. l ++ rest) (sym chunk.same ∙ first.1) ∙ append_assoc (take place near) (value ∷ drop (place + 1) near) rest in
      let whole : text ≡ (take at text ++ take place near) ++ value ∷ (drop (place + 1) near ++ rest) =
      sym (take-append-drop at text) ∙ ap (λ l. take at text ++ l) cut ∙ sym (append_assoc (take at text) (take place near) (value ∷ (drop (place + 1) near ++ rest))) in
      feed_at value text (take at text ++ take place near) (drop (place + 1) near ++ rest) (at + place) whole
      (All-append (λ b. eqb b value ≡ false) (take at text) (take place near) clear first.2)
      (omega (arith, length-append (take at text) (take place near), length-take-le at text inside, length-take-le place near (omega (arith, first.0))))

  pub none_behind : (near : List ℕ) (n : ℕ) → Chunk text at near n → Lacks value near → Lacks value (take (at + n) text)
  none_behind near n chunk none = grind (arith, take-add, (All-append (λ b. eqb b value ≡ false) (take at text) near clear none))

  pub chunk_inside : (near : List ℕ) (n : ℕ) → Chunk text at near n → at + n ≤ length text
  chunk_inside near n chunk = omega (arith, chunk.enough, length-drop at text, inside)

  -- so many bytes of what is left come before it, and those before them
  pub before_behind : (rest : List ℕ) (n : ℕ) → rest ≡ take (length text - at) (drop at text) → IsBefore value rest n → IsBefore value text (at + n)
  before_behind rest n e is =
      let left = chunk_left text at rest e in
      let size : length rest ≡ length text - at = ap length e ∙ length-take-le (length text - at) (drop at text) (omega (arith, length-drop at text)) in
      let front : Chunk text at (take n rest) n = record {
        enough = omega (arith, is.within, left.enough);
        same = ap (take n) left.same ∙ take-take n (length rest) (drop at text) is.within;
      } in
      record {
        within = chunk_inside (take n rest) n front;
        clear = none_behind (take n rest) n front is.clear;
        cut = λ h.
            let below : n < length rest = omega (arith, size, h) in
            (feed_behind rest (length rest) n left (below, is.cut below, is.clear)).1;
      }

-- the count of bytes before it
pub before_feed : (value : ℕ) (text : List ℕ) (n : ℕ) → IsFirstOf value text (Some n) → IsBefore value text n
before_feed value text n first = record { within = omega (arith, first.0); clear = first.2; cut = λ h. first.1 }

-- the first one among the first bytes
pub feed_first : (value : ℕ) (text near : List ℕ) (n place : ℕ) → near ≡ take n text → n ≤ length text → IsFirstOf value near (Some place) → IsFirstOf value text (Some place)
feed_first value text near n place e h first =
    subst (λ (k : ℕ). IsFirstOf value text (Some k)) (omega arith)
    (feed_behind value text 0 (omega arith) (λ k d below. absurd (omega (arith, below))) near n place (chunk_first text near n e h) first)

-- a value that is first among some bytes with others of one value after them is first among those bytes
module _ (value other : ℕ) (text : List ℕ) (n : ℕ) (differs : other ≡ value → ⊥) where
  read_at : (place : ℕ) → IsFirstOf value (text ++ replicate n other) (Some place) → get_or (text ++ replicate n other) place 0 ≡ value
  read_at place first = rw first.1 (grind (arith, length-take-le, get_or-append_seam))

  inside_text : (place : ℕ) → IsFirstOf value (text ++ replicate n other) (Some place) → place < length text
  inside_text place first = grind (arith, (read_at place first), get_or-append_right, get_or-replicate, length-append, length-replicate)

  pub first_before_pad : (place : ℕ) → IsFirstOf value (text ++ replicate n other) (Some place) → IsFirstOf value text (Some place)
  first_before_pad place first =
      let inside = inside_text place first in
      let read : get_or text place 0 ≡ value = sym (get_or_append_left text (replicate n other) 0 place inside) ∙ read_at place first in
      let cut : text ≡ take place text ++ value ∷ drop (place + 1) text = sym (take-append-drop place text) ∙ ap (λ l. take place text ++ l) (drop_more text place 0 inside ∙ ap (λ b. b ∷ drop (place + 1) text) read) in
      (inside, cut, subst (Lacks value) (take-append-le place text (replicate n other) (omega (arith, inside))) first.2)

-- it isn't among some bytes if it isn't with others after them
pub none_before_pad : (value : ℕ) (text others : List ℕ) → Lacks value (text ++ others) → Lacks value text
none_before_pad value text others none = λ k d h. subst (λ b. eqb b value ≡ false) (get_or_append_left text others d k h) (none k d (omega (arith, h, length-append text others)))
