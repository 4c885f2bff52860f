-- Lemmas on a step of the reader of lines.
use Rattle.bt_lines.proofs.Std.{common_steps, ◌≡◌, ℕ, suc, ◌+◌, ◌-◌, ◌^◌, ◌<◌, ◌≤◌, ◌⊎◌, inl, inr, true, false, cond, List, [], ◌∷◌, ◌++◌, length, None, Some, Ok, Err, take, refl, sym, ap, ◌∙◌, subst, append_assoc, append-nil, length-append, arith, is_some, take_all, false≢true, take-append-add, take-append_seam, ends_with_byte, strip_last}
use Rattle.bt_lines.specs.declared.device.Source.{Ghosts as Source}
use Rattle.bt_lines.proofs.lemmas.reader.block.BufferLemmas.{unread_fits, one_line}
use Rattle.bt_lines.proofs.lemmas.reader.lines.TextLemmas.{lines_from-fed, lines_from-last, lines_from-nil, spelled-fed, line_feeds-append, line_feeds-none, line_feeds-fed, bytes_behind_first}
use Rattle.bt_lines.specs.inside.ReadBuffer.{complete, unread, lends_at, open_at, told_at}
use Rattle.bt_lines.specs.model.Lines.{TextLine, fed_line, last_line, lines_from, spelled}
use Rattle.bt_lines.specs.model.Fault.{read_failed}
use Rattle.bt_lines.specs.calls.Faults.{no_memory}
use Rattle.bt_lines.specs.inside.Shape.{held_at, IsLast}
use Rattle.bt_lines.proofs.lemmas.reader.block.ReadsLemmas.{Ends, reads_ended, ends_untold, hands_by, hands_on, hands_still, memory_failed, read_on, read_up_to}
use Rattle.bt_lines.specs.calls.Device.{EndsAfter, ReadsOn}
use Rattle.bt_lines.specs.inside.Spill.{Buffers, closed}
use Rattle.bt_lines.specs.calls.Output.{block_size}
use Rattle.bt_lines.specs.calls.Line.{NoLineFeed, line_feeds}
use Rattle.bt_lines.specs.calls.Names.{fault_value}
use Rattle.bt_lines.specs.calls.Reader.{CutsOff, AreRead, FillsLines, IsKept, IsSound, buffered_bytes, Hands, IsNear, FailsToRead, end_told, GivesLine, source_of, input_of, lines_given, bytes_taken, held, fault_kept, has_ended, feeds_taken, lines_coming, MayStillCome}
use Rattle.bt_lines.specs.declared.fault.Fault.{Fault}
use Rattle.bt_lines.specs.declared.fault.Input.{Input}
use Rattle.bt_lines.specs.declared.reader.spill.Stop.{Stop}
use Rattle.bt_lines.specs.declared.reader.spill.Stop.TheVariants.{Failed, LineFeed as StopLineFeed, End as StopEnd, TooLong as StopTooLong, NoMemory as StopNoMemory}
use Rattle.bt_lines.specs.declared.reader.line.LineEnd.TheVariants.{Absent, Cr}
use Rattle.bt_lines.specs.declared.reader.line_reader.LineReader.{LineReader}
use Rattle.bt_lines.specs.declared.reader.line_reader.State.TheVariants.{Reading, LastLine, Ended, ReadFailed, TooLong, NoMemory}
use Rattle.bt_lines.specs.declared.reader.line_reader.State.{State}

-- ---- what a reader shows, by how far it is

-- a reader that goes on holds the bytes of its buffer
pub record Goes {S : Type 0} (reader : LineReader S) : Type 0 where
  pub holds : held reader ≡ complete reader.buffer ++ unread reader.buffer
  pub good : fault_kept reader ≡ None
  pub open_ended : has_ended reader ≡ false
  pub untold : end_told reader ≡ false
  pub taken : bytes_taken reader ≡ reader.taken

pub goes : {S : Type 0} (reader : LineReader S) → reader.state ≡ Reading → Goes reader
unfolding held fault_kept has_ended end_told bytes_taken
goes reader e = record { holds = rw e refl; good = rw e refl; open_ended = rw e refl; untold = rw e refl; taken = rw e refl }

-- a reader to which the end was reported
pub record IsTold {S : Type 0} (reader : LineReader S) : Type 0 where
  pub good : fault_kept reader ≡ None
  pub is_told : end_told reader ≡ true
  pub taken : bytes_taken reader ≡ reader.taken

pub told_last : {S : Type 0} (reader : LineReader S) → reader.state ≡ LastLine → IsTold reader
unfolding fault_kept end_told bytes_taken
told_last reader e = record { good = rw e refl; is_told = rw e refl; taken = rw e refl }

pub told_ended : {S : Type 0} (reader : LineReader S) → reader.state ≡ Ended → IsTold reader
unfolding fault_kept end_told bytes_taken
told_ended reader e = record { good = rw e refl; is_told = rw e refl; taken = rw e refl }

-- ---- a line with a line feed

module _ {S : Type 0} (device : Source S) {old : LineReader S} (new : LineReader S) (bytes piece : List ℕ) (was : Goes old) (is : Goes new)
    (same : input_of new ≡ input_of old) (more : lines_given new ≡ suc (lines_given old)) (reads : ReadsOn device.is_read (source_of old) bytes (source_of new))
    (counted : new.taken ≡ old.taken + length bytes) (joined : held old ++ bytes ≡ piece ++ 10 ∷ held new) (clear : NoLineFeed piece)
    (near : length (held new) ≤ block_size) (ready : 0 < line_feeds (held old) → source_of new ≡ source_of old) (served : device.has_failed (source_of new) ≡ device.has_failed (source_of old)) where
  fed_size : length (held old) + length bytes ≡ length piece + suc (length (held new))
  fed_size = omega (arith, length-append (held old) bytes, ap length joined, length-append piece (10 ∷ held new))

  within : bytes_taken new < 2 ^ 63
  within = rw is.taken new.counted

  fed_below : lines_given new < 2 ^ 63
  unfolding lines_given
  fed_below = omega (arith, new.a_byte_each, new.counted)

  fed_feeds : feeds_taken new ≡ feeds_taken old + line_feeds bytes
  unfolding feeds_taken
  fed_feeds = grind (arith, line_feeds-append, line_feeds-fed)

  fed_hands : Hands device old bytes new
  fed_hands = hands_on device old new bytes was.good is.good reads (omega (arith, is.taken, was.taken, counted)) same (λ untold below. fed_feeds) was.untold (ends_untold device old new bytes is.untold)

  fed_held : held old ++ bytes ≡ spelled (fed_line (suc (lines_given old)) piece) ++ held new
  fed_held = grind (arith, (spelled-fed (suc (lines_given old)) piece), (append_assoc piece (10 ∷ []) (held new)))

  fed_lines : (rest : List ℕ) → MayStillCome new rest → lines_coming (bytes ++ rest) old ≡ fed_line (suc (lines_given old)) piece ∷ lines_coming rest new
  unfolding lines_coming
  fed_lines rest follows =
      ap (lines_from (suc (lines_given old))) (sym (append_assoc (held old) bytes rest) ∙ ap (λ l. l ++ rest) joined ∙ append_assoc piece (10 ∷ held new) rest)
      ∙ lines_from-fed (suc (lines_given old)) piece (held new ++ rest) clear
      ∙ ap (λ n. fed_line (suc (lines_given old)) piece ∷ lines_from (suc n) (held new ++ rest)) (sym more)

  pub gives_fed : GivesLine device old (fed_line (suc (lines_given old)) piece) new
  gives_fed = record {
    bytes = (bytes, fed_hands, fed_held, fed_lines);
    ahead = near;
    ready = ready;
    number = refl;
    counted = more;
    below = fed_below;
    shrinks = omega (arith, fed_size, is.taken, was.taken, counted, new.counted);
    served = served;
    was_going = (was.good, was.open_ended);
    goes = is.good;
  }

  pub sound_fed : IsKept device old → IsSound device new
  sound_fed h = grind arith

-- ---- the last line, which has no line feed

module _ {S : Type 0} (device : Source S) {old : LineReader S} (new : LineReader S) {piece : List ℕ} (was : IsTold old) (is : IsTold new) (ended : has_ended old ≡ false)
    (same : input_of new ≡ input_of old) (same_source : source_of new ≡ source_of old) (same_taken : new.taken ≡ old.taken)
    (holds : held old ≡ piece) (gone : held new ≡ []) (clear : NoLineFeed piece) (more : lines_given new ≡ suc (lines_given old)) (some : 0 < length piece) where
  abbrev pub line : TextLine
  line = record { number = suc (lines_given old); text = strip_last 13 piece; ending = cond (ends_with_byte 13 piece) Cr Absent }

  one : last_line (suc (lines_given old)) piece ≡ line ∷ []
  one = grind arith

  last_hands : Hands device old [] new
  last_hands = hands_still device old new same_source (is.taken ∙ same_taken ∙ sym was.taken) same (λ e. absurd (false≢true (sym e ∙ is.is_told))) (is.is_told ∙ sym was.is_told) (is.good ∙ sym was.good)

  last_held : held old ++ [] ≡ spelled line ++ held new
  last_held = grind (arith, common_steps)

  last_below : lines_given new < 2 ^ 63
  unfolding lines_given
  last_below = omega (arith, new.a_byte_each, new.counted)

  last_lines : (rest : List ℕ) → MayStillCome new rest → lines_coming ([] ++ rest) old ≡ line ∷ lines_coming rest new
  unfolding lines_coming
  last_lines rest follows =
      let none : rest ≡ [] = follows is.is_told in
      ap (lines_from (suc (lines_given old))) (ap (λ l. held old ++ l) none ∙ append-nil (held old) ∙ holds) ∙ lines_from-last (suc (lines_given old)) piece clear ∙ one
      ∙ ap (λ l. line ∷ l) (sym (ap (lines_from (suc (lines_given new))) (ap (λ l. l ++ rest) gone ∙ none) ∙ lines_from-nil (suc (lines_given new))))

  pub gives_last : GivesLine device old line new
  gives_last = record {
    bytes = ([], last_hands, last_held, last_lines);
    ahead = omega (arith, ap length gone);
    ready = λ h. same_source;
    number = refl;
    counted = more;
    below = last_below;
    shrinks = omega (arith, ap length holds, ap length gone, some, is.taken, was.taken, same_taken);
    served = ap device.has_failed same_source;
    was_going = (was.good, ended);
    goes = is.good;
  }

  pub sound_last : IsKept device old → IsSound device new
  sound_last h = grind arith

-- ---- a line that was made buffered

module _ {S : Type 0} (device : Source S) (old new : LineReader S) (bytes : List ℕ) (was : Goes old)
    (same : input_of new ≡ input_of old) (same_lines : lines_given new ≡ lines_given old) (reads : ReadsOn device.is_read (source_of old) bytes (source_of new))
    (taken : bytes_taken new ≡ bytes_taken old + length bytes) (holds : held new ≡ held old ++ bytes) (good : fault_kept new ≡ None)
    (ready : 0 < line_feeds (held old) → source_of new ≡ source_of old) (served : device.has_failed (source_of new) ≡ device.has_failed (source_of old))
    (some : 0 < length (buffered_bytes new)) (within : bytes_taken new < 2 ^ 63) (empty : buffered_bytes old ≡ []) where
  made_feeds : feeds_taken new ≡ feeds_taken old + line_feeds bytes
  unfolding feeds_taken
  made_feeds = grind (arith, line_feeds-append)

  made_hands : Ends device old new bytes → Hands device old bytes new
  made_hands = hands_on device old new bytes was.good good reads taken same (λ untold below. made_feeds) was.untold

  makes : Ends device old new bytes → FillsLines device old (Ok true) new
  makes ends = record {
    answers = record {
      some = some;
      bytes = (bytes, made_hands ends, holds);
      counted = same_lines;
      ready = ready;
      served = served;
      was_going = (was.good, was.open_ended);
      goes = good;
      within = within;
    };
    unread = λ h. absurd (omega (arith, h, ap length empty));
    kept = λ h. record { within = λ e. within };
  }

  pub makes_line : end_told new ≡ false → FillsLines device old (Ok true) new
  makes_line untold = makes (ends_untold device old new bytes untold)

  pub makes_last : EndsAfter device.is_read (source_of old) bytes (source_of new) → FillsLines device old (Ok true) new
  makes_last reads = makes (λ told. reads)

-- ---- the end of the text

module _ {S : Type 0} (device : Source S) (old new : LineReader S) (bytes : List ℕ) (was : Goes old) (is : IsTold new)
    (same : input_of new ≡ input_of old) (same_lines : lines_given new ≡ lines_given old) (reads : ReadsOn device.is_read (source_of old) bytes (source_of new))
    (counted : new.taken ≡ old.taken + length bytes) (nothing : held old ++ bytes ≡ []) (gone : held new ≡ [])
    (served : device.has_failed (source_of new) ≡ device.has_failed (source_of old)) (ended : has_ended new ≡ true) (empty : buffered_bytes old ≡ []) (ends_reads : EndsAfter device.is_read (source_of old) bytes (source_of new)) where
  end_hands : Hands device old bytes new
  end_hands = hands_on device old new bytes was.good is.good reads (omega (arith, is.taken, was.taken, counted)) same (λ untold below. absurd (false≢true (sym untold ∙ is.is_told))) was.untold (λ told. ends_reads)

  pub fills_end : FillsLines device old (Ok false) new
  fills_end = record {
    answers = record {
      nothing_held = gone;
      counted = same_lines;
      bytes = (bytes, end_hands, nothing);
      served = served;
      was_going = was.good;
      goes = is.good;
      ends = ended;
      told = is.is_told;
      again = λ e. absurd (false≢true (sym was.open_ended ∙ e));
    };
    unread = λ h. absurd (omega (arith, h, ap length empty));
    kept = λ h. record { within = λ e. rw is.taken new.counted };
  }

-- ---- a line that couldn't be given

-- a failed read has a place
some_place : {input : Input} {line : ℕ} → read_failed input line ≡ no_memory → ⊥
some_place e = false≢true (sym (ap (λ fault. is_some fault.place) e))

-- a prefix of bytes that were joined, without the bytes after it
front_of_joined : (block bytes text behind : List ℕ) → block ++ bytes ≡ text ++ behind → length behind ≤ length bytes → text ≡ block ++ take (length bytes - length behind) bytes
front_of_joined block bytes text behind e short = grind (arith, (length-append block bytes), (length-append text behind), (take-append_seam text behind), (take-append-add block bytes (length bytes - length behind)))

-- a fault cut a line off: of `bytes` its text was taken, which has no line feed, and `behind` after it
pub record CutLine {S : Type 0} (device : Source S) (old new : LineReader S) (bytes text behind : List ℕ) (fault : Fault) : Type 0 where
  pub was : Goes old
  pub no_line : line_feeds (held old) ≡ 0
  pub same : input_of new ≡ input_of old
  pub same_lines : lines_given new ≡ lines_given old
  pub reads : AreRead device old bytes new
  pub counted : bytes_taken new ≡ bytes_taken old + length bytes
  pub joined : held old ++ bytes ≡ text ++ behind
  pub clear : NoLineFeed text
  pub short : length behind ≤ block_size
  pub holds : bytes_taken new < 2 ^ 63 → lines_given old + line_feeds (held new) ≡ lines_given old + line_feeds (held old) + line_feeds bytes
  pub kept : fault_kept new ≡ Some (fault_value fault)
  pub untold : end_told new ≡ false
  pub empty : buffered_bytes old ≡ []

module _ {S : Type 0} {device : Source S} {old new : LineReader S} {bytes text behind : List ℕ} {fault : Fault} (line : CutLine device old new bytes text behind fault) where
  cut_feeds : bytes_taken new < 2 ^ 63 → feeds_taken new ≡ feeds_taken old + line_feeds bytes
  unfolding feeds_taken
  cut_feeds below = omega (arith, line.same_lines, line.holds below)

  cut_hands : Hands device old bytes new
  cut_hands = hands_by device old new bytes line.was.good line.reads line.counted line.same (λ untold. cut_feeds) line.was.untold (ends_untold device old new bytes line.untold)

  cut_near : IsNear old bytes new
  unfolding lines_coming
  cut_near rest follows =
      let one : suc (lines_given new) - lines_given old ≡ 1 = omega (arith, line.same_lines) in
      let all : held old ++ (bytes ++ rest) ≡ text ++ (behind ++ rest) =
      sym (append_assoc (held old) bytes rest) ∙ ap (λ l. l ++ rest) line.joined ∙ append_assoc text behind rest in
      rw (one, all) (omega (arith, bytes_behind_first (suc (lines_given old)) text (behind ++ rest) line.clear, length-append behind rest, line.short))

  cut_given : text ≡ held old ++ take (2 ^ 63 - 1 - bytes_taken old) bytes → CutsOff old bytes new
  unfolding feeds_taken
  cut_given e = grind (arith, line_feeds-append, line_feeds-none)

  pub stepped_cut : (fault_value fault ≡ read_failed (input_of old) (suc (lines_given old)) → text ≡ held old ++ take (2 ^ 63 - 1 - bytes_taken old) bytes)
      → FailsToRead device old (fault_value fault) new ⊎ (fault_value fault ≡ no_memory) → (fault_value fault ≡ no_memory → device.has_failed (source_of new) ≡ device.has_failed (source_of old))
      → FillsLines device old (Err fault) new
  stepped_cut cut cause served = record {
    answers = record {
      kept = line.kept;
      bytes = (bytes, cut_hands);
      counted = line.same_lines;
      again = λ before e. absurd (let apart : Some before ≡ None = sym e ∙ line.was.good in cc);
      was_going = line.was.open_ended;
      before_end = λ going. line.was.untold;
      no_line = λ going. line.no_line;
      first = λ going. cause;
      cut_off = λ going e. cut_given (cut e);
      near = λ going. cut_near;
      served = served;
    };
    unread = λ h. absurd (omega (arith, h, ap length line.empty));
    kept = λ h. record { within = λ e. absurd (let apart : None ≡ Some (fault_value fault) = sym e ∙ line.kept in cc) };
  }

-- ---- the same, by the fields of the reader

-- a last piece with its line feed holds the piece
pub held_closed : (all complete unread : List ℕ) → complete ≡ closed all → held_at true complete unread ≡ all
held_closed all complete unread e = grind (arith, common_steps)

module _ {S : Type 0} {device : Source S} (old new : LineReader S) (going : old.state ≡ Reading) (none : complete old.buffer ≡ [])
    (same : new.input ≡ old.input) (same_lines : new.lines ≡ old.lines) {stop : Stop}
    (buffers : Buffers device old.source (unread old.buffer) old.taken stop new.source (complete new.buffer) (unread new.buffer) new.taken) where
  old_holds : held old ≡ unread old.buffer
  old_holds = (goes old going).holds ∙ ap (λ l. l ++ unread old.buffer) none

  nothing_buffered : buffered_bytes old ≡ []
  unfolding buffered_bytes
  nothing_buffered = none

  pub line_step : stop ≡ StopLineFeed → new.state ≡ Reading → FillsLines device old (Ok true) new
  unfolding source_of input_of lines_given buffered_bytes
  line_step is state = let b = rw is at buffers in grind (arith, goes, makes_line, b.handed)

  pub last_step : stop ≡ StopEnd → (length (complete new.buffer) ≡ 0 → ⊥) → new.state ≡ LastLine → FillsLines device old (Ok true) new
  unfolding source_of input_of lines_given held buffered_bytes end_told
  last_step is some state = let b = rw is at buffers in let reads = reads_ended device.is_read b.handed in grind (arith, goes, told_last, held_closed, (makes_last device old new b.bytes (goes old going)), b.handed, reads)

  pub end_step : stop ≡ StopEnd → length (complete new.buffer) ≡ 0 → new.state ≡ Ended → FillsLines device old (Ok false) new
  unfolding source_of input_of lines_given held has_ended
  end_step is empty state = let b = rw is at buffers in let reads = reads_ended device.is_read b.handed in grind (arith, (fills_end device old new b.bytes (goes old going) (told_ended new state)), nothing_buffered, b.handed, reads)

  no_feeds : (stop ≡ StopLineFeed → ⊥) → line_feeds (held old) ≡ 0
  no_feeds other = rw old_holds (grind arith)

  joined_all : (all bytes : List ℕ) → unread old.buffer ++ bytes ≡ all → held old ++ bytes ≡ all
  joined_all all bytes e = ap (λ l. l ++ bytes) old_holds ∙ e

  module _ (fault : Fault) where
    is_read_failed : fault_value fault ≡ read_failed (input_of new) (suc (lines_given new)) → fault_value fault ≡ read_failed old.input (suc old.lines)
    unfolding input_of lines_given
    is_read_failed at = at ∙ ap (λ i. read_failed i (suc new.lines)) same ∙ ap (λ n. read_failed old.input (suc n)) same_lines

    -- the source failed
    pub failed_step : stop ≡ Failed → fault_value fault ≡ read_failed (input_of new) (suc (lines_given new)) → new.state ≡ ReadFailed → FillsLines device old (Err fault) new
    unfolding source_of input_of lines_given bytes_taken held fault_kept end_told
    failed_step is at state =
        let b = rw is at buffers in
        let was = goes old going in
        let is_fault = is_read_failed at in
        let counted : new.taken ≡ old.taken + length b.bytes = omega (arith, b.counted) in
        let clear : NoLineFeed (held old ++ b.bytes) = subst NoLineFeed (sym (joined_all (unread old.buffer ++ b.bytes) b.bytes refl)) b.stopped.0 in
        let kept : held new ≡ unread new.buffer = rw (state, b.stopped.1) refl in
        let none : line_feeds (held new) ≡ 0 = rw kept (line_feeds-none (unread new.buffer) b.stopped.2) in
        let line : CutLine device old new b.bytes (held old ++ b.bytes) [] fault = record {
          was = was;
          no_line = no_feeds (λ e. let apart : StopLineFeed ≡ Failed = sym e ∙ is in cc);
          same = same;
          same_lines = same_lines;
          reads = read_up_to device old new b.bytes b.handed (old.input, suc old.lines, rw (state, same, same_lines) refl);
          counted = rw (state, was.taken) counted;
          joined = sym (append-nil (held old ++ b.bytes));
          clear = clear;
          short = omega arith;
          holds = λ below. omega (arith, none, line_feeds-none (held old ++ b.bytes) clear, line_feeds-append (held old) b.bytes);
          kept = rw (state, is_fault, same, same_lines) refl;
          untold = rw state refl;
          empty = nothing_buffered;
        } in
        stepped_cut line (λ e. rw (was.taken, take_all (2 ^ 63 - 1 - old.taken) b.bytes (omega (arith, counted, new.counted))) refl) (inl (record { is = is_fault; cause = inl b.stopped.3 }))
        (λ e. absurd (some_place (sym is_fault ∙ e)))

    -- the text is too long
    pub long_step : stop ≡ StopTooLong → fault_value fault ≡ read_failed (input_of new) (suc (lines_given new)) → new.state ≡ TooLong → FillsLines device old (Err fault) new
    unfolding source_of input_of lines_given bytes_taken held fault_kept end_told
    long_step is at state =
        let b = rw is at buffers in
        let was = goes old going in
        let is_fault = is_read_failed at in
        let cut = b.stopped.0 in
        let counted : suc new.taken ≡ old.taken + length b.bytes = omega (arith, b.counted) in
        let room : length b.bytes - length cut.1 ≡ 2 ^ 63 - 1 - old.taken = omega (arith, counted, cut.4, b.stopped.3) in
        let joined : held old ++ b.bytes ≡ cut.0 ++ cut.1 = joined_all (cut.0 ++ cut.1) b.bytes cut.3 in
        let line : CutLine device old new b.bytes cut.0 cut.1 fault = record {
          was = was;
          no_line = no_feeds (λ e. let apart : StopLineFeed ≡ StopTooLong = sym e ∙ is in cc);
          same = same;
          same_lines = same_lines;
          reads = read_on device old new b.bytes b.handed (λ none failed. rw state (omega (arith, b.stopped.3)));
          counted = rw (state, was.taken) counted;
          joined = joined;
          clear = cut.2;
          short = omega (arith, cut.4);
          holds = λ below. absurd (omega (arith, b.stopped.3, rw state at below));
          kept = rw (state, is_fault, same, same_lines) refl;
          untold = rw state refl;
          empty = nothing_buffered;
        } in
        stepped_cut line (λ e. rw (was.taken, ← room) (front_of_joined (held old) b.bytes cut.0 cut.1 joined (omega (arith, counted, cut.4, b.stopped.3, old.counted))))
        (inl (record { is = is_fault; cause = inr (rw state (omega (arith, b.stopped.3))) }))
        (λ e. absurd (some_place (sym is_fault ∙ e)))

    -- the line couldn't grow
    pub refused_step : stop ≡ StopNoMemory → fault_value fault ≡ no_memory → new.state ≡ NoMemory → FillsLines device old (Err fault) new
    unfolding source_of input_of lines_given bytes_taken held fault_kept end_told
    refused_step is is_fault state =
        let b = rw is at buffers in
        let was = goes old going in
        let cut = b.stopped.0 in
        let joined : held old ++ b.bytes ≡ cut.0 ++ unread new.buffer = joined_all (cut.0 ++ unread new.buffer) b.bytes cut.2 in
        let kept : held new ≡ unread new.buffer = rw (state, b.stopped.1) refl in
        let line : CutLine device old new b.bytes cut.0 (unread new.buffer) fault = record {
          was = was;
          no_line = no_feeds (λ e. let apart : StopLineFeed ≡ StopNoMemory = sym e ∙ is in cc);
          same = same;
          same_lines = same_lines;
          reads = read_on device old new b.bytes b.handed (λ none failed. absurd (memory_failed (fault_kept new) (rw state refl) failed));
          counted = rw (state, was.taken) (omega (arith, b.counted));
          joined = joined;
          clear = cut.1;
          short = unread_fits new.buffer;
          holds = λ below. omega (arith, ap line_feeds kept, ap line_feeds joined, line_feeds-append (held old) b.bytes, line_feeds-append cut.0 (unread new.buffer), line_feeds-none cut.0 cut.1);
          kept = rw (state, is_fault) refl;
          untold = rw state refl;
          empty = nothing_buffered;
        } in
        stepped_cut line (λ e. absurd (some_place (sym e ∙ is_fault))) (inr is_fault) (λ e. b.stopped.2)

-- Lemmas on what a reader keeps in each state.

pub last_of_none : (complete unread : List ℕ) → IsLast false false complete unread
last_of_none complete unread = record { none_behind = λ e. absurd (false≢true e); one = λ e. absurd (false≢true e); some = λ e. absurd (false≢true e) }

pub last_going : (state : State) → state ≡ Reading → (complete unread : List ℕ) → IsLast (told_at state) (open_at state) complete unread
last_going state e complete unread = rw e (last_of_none complete unread)

pub quiet_going : (state : State) → state ≡ Reading → lends_at state ≡ false → ⊥
quiet_going state e f = false≢true (sym f ∙ ap lends_at e)

closed_feeds : (all : List ℕ) → NoLineFeed all → line_feeds (closed all) ≤ 1
closed_feeds [] clear = omega arith
closed_feeds (x ∷ xs) clear = one_line (x ∷ xs ++ 10 ∷ []) (x ∷ xs) clear refl

pub last_closed : (all complete unread : List ℕ) → NoLineFeed all → complete ≡ closed all → unread ≡ [] → IsLast true true complete unread
last_closed all complete unread clear e none = grind (arith, closed_feeds, length-append)

-- each line given has a byte, and those held come after them
module _ (lines : ℕ) {old_complete : List ℕ} (old_unread bytes : List ℕ) {old_taken taken : ℕ} (none : old_complete ≡ []) (counted : taken + 0 ≡ old_taken + length bytes) where
  pub spaced : (state : State) → state ≡ Reading → lines + length (held_at (open_at state) old_complete old_unread) ≤ old_taken
      → (complete unread : List ℕ) → old_unread ++ bytes ≡ complete ++ unread → lines + length (held_at (open_at state) complete unread) ≤ taken
  spaced state e before complete unread joined = grind (arith, length-append)

  spaced_all : (state : State) → state ≡ Reading → lines + length (held_at (open_at state) old_complete old_unread) ≤ old_taken → lines + length (old_unread ++ bytes) ≤ taken
  spaced_all state e before = grind (arith, length-append)

  pub spaced_last : (state : State) → state ≡ Reading → lines + length (held_at (open_at state) old_complete old_unread) ≤ old_taken
      → (complete unread : List ℕ) → complete ≡ closed (old_unread ++ bytes) → lines + length (held_at true complete unread) ≤ taken
  spaced_last state e before complete unread is = omega (arith, spaced_all state e before, ap length (held_closed (old_unread ++ bytes) complete unread is))

  pub spaced_fault : {state : State} → state ≡ Reading → lines + length (held_at (open_at state) old_complete old_unread) ≤ old_taken
      → {complete : List ℕ} (unread text : List ℕ) → complete ≡ [] → old_unread ++ bytes ≡ text ++ unread → lines + length (held_at false complete unread) ≤ taken
  spaced_fault e before unread text gone joined = grind (arith, spaced_all, length-append)

pub some_state : (state : State) → (lends_at state ≡ false → ⊥) → (state ≡ Reading) ⊎ (state ≡ LastLine)
some_state state h = grind arith
