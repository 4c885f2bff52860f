-- Lemmas on lines that a reader of records takes one after another.
use Rattle.bt_lines.proofs.Std.{◌≡◌, ℕ, suc, ◌+◌, ◌-◌, ◌^◌, ◌<◌, ◌≤◌, List, [], ◌∷◌, ◌++◌, length, take, drop, Some, None, sym, ap, ◌∙◌, arith, false, false≢true, is_some, append_assoc, append-nil, length-append, take-append-add, drop-drop, true, Ok, Err, refl, inl, inr, ◌⊎◌, add-zero}
use Rattle.bt_lines.specs.declared.device.Source.{Ghosts as Source}
use Rattle.bt_lines.proofs.lemmas.reader.lines.ComingLemmas.{made_coming, none_came, none_comes}
use Rattle.bt_lines.proofs.lemmas.reader.lines.TakingLemmas.{near_next, not_told, next_below, given_below, prefix_of}
use Rattle.bt_lines.proofs.lemmas.reader.lines.TextLemmas.{line_feeds-append, lines_are_numbered}
use Rattle.bt_lines.specs.model.Fault.{FaultValue, read_failed}
use Rattle.bt_lines.specs.calls.Faults.{no_memory}
use Rattle.bt_lines.specs.calls.Line.{AreNumbered, line_feeds}
use Rattle.bt_lines.specs.model.Lines.{TextLine}
use Rattle.bt_lines.specs.calls.Output.{block_size}
use Rattle.bt_lines.specs.calls.Reader.{CutsOff, GivesFault, Hands, IsKept, IsNear, MakesLine, MayStillCome, TakenLines, TakesLines, buffered_bytes, buffered_in, bytes_taken, fault_kept, has_ended, held, input_of, lines_coming, lines_given, room, source_of, FailsToRead, GivesEnd, end_told, room as line_room, fault_kept as line_fault}
use Rattle.bt_lines.specs.declared.reader.buffered_lines.ConsumedLines.{ConsumedLines}
use Rattle.bt_lines.specs.declared.reader.line_reader.LineReader.{LineReader}
use Rattle.bt_bed.specs.calls.Reading.{LinesPass, IsBeyond, MemberReader, SaidNothing, ahead_in, coming, first_from, Stays, GivesMember, EndsMembers, LineIsWrong, RunsOut, Cause, AnswersFault, is_of_line, Takes}
use Rattle.bt_lines.specs.declared.fault.Input.{Input}
use Rattle.bt_lines.specs.declared.fault.Kind.{Kind}
use Rattle.bt_bed.proofs.lemmas.read.good.SaidLemmas.{beyond_from}
use Rattle.bt_bed.specs.model.Good.{with_member, Format, Member, ends_with, good, good_after}
use Rattle.bt_bed.specs.model.BedLine.{fault_at_line}
use Rattle.bt_lines.proofs.lemmas.reader.block.ReadsLemmas.{comes_before, hands_both, hands_none}

-- Lines that come whatever follows, over two calls: `second` was handed over by the second one.
module _ {S : Type 0} (device : Source S) (old now new : LineReader S) (first second : List ℕ) (hands : Hands device now second new) (passes : LinesPass old first now) where
  abbrev passed : ℕ
  passed = lines_given now - lines_given old

  abbrev before : List ℕ → List TextLine
  before rest = lines_coming ((first ++ second) ++ rest) old

  old_lines : (rest : List ℕ) → MayStillCome new rest → drop passed (before rest) ≡ lines_coming (second ++ rest) now
  old_lines rest follows = ap (λ l. drop passed (lines_coming l old)) (append_assoc first second rest) ∙ sym (passes (second ++ rest) (comes_before device hands rest follows))

  further : (count more : ℕ) (rest : List ℕ) → MayStillCome new rest → passed + count ≡ more → drop more (before rest) ≡ drop count (lines_coming (second ++ rest) now)
  further count more rest follows e = ap (λ k. drop k (before rest)) (sym e) ∙ sym (drop-drop count passed (before rest)) ∙ ap (drop count) (old_lines rest follows)

  pub pass_more : LinesPass now second new → lines_given old ≤ lines_given now → lines_given now ≤ lines_given new → LinesPass old (first ++ second) new
  pass_more more low high rest follows = more rest follows ∙ sym (further (lines_given new - lines_given now) (lines_given new - lines_given old) rest follows (omega (arith, low, high)))

  pub near_pass : IsNear now second new → lines_given old ≤ lines_given now → lines_given now ≤ suc (lines_given new) → IsNear old (first ++ second) new
  near_pass near low high rest follows =
      rw (further (suc (lines_given new) - lines_given now) (suc (lines_given new) - lines_given old) rest follows (omega (arith, low, high))) (near rest follows)

-- the first n bytes of two texts, if the first text has at most n
pub front_of_both : (first second : List ℕ) (n m : ℕ) → n ≡ length first + m → take n (first ++ second) ≡ first ++ take m second
front_of_both first second n m e = rw e (take-append-add first second m)

module _ {S : Type 0} (old new : LineReader S) (bytes : List ℕ) where
  -- no line was given
  pub none_pass : ((rest : List ℕ) → lines_coming (bytes ++ rest) old ≡ lines_coming rest new) → lines_given new ≡ lines_given old → LinesPass old bytes new
  none_pass same counted rest follows = let none : lines_given new - lines_given old ≡ 0 = omega (arith, counted) in rw none (sym (same rest))

  -- one was
  pub one_passes : (line : TextLine) → ((rest : List ℕ) → MayStillCome new rest → lines_coming (bytes ++ rest) old ≡ line ∷ lines_coming rest new) → lines_given new ≡ suc (lines_given old) → LinesPass old bytes new
  one_passes line first counted rest follows = let one : lines_given new - lines_given old ≡ 1 = omega (arith, counted) in rw (one, first rest follows) refl

  -- what follows the lines given and one more is still to come
  pub near_after : LinesPass old bytes new → lines_given old ≤ lines_given new → IsNear old bytes new
  near_after passes low rest follows =
      let more : suc (lines_given new) - lines_given old ≡ (lines_given new - lines_given old) + 1 = omega (arith, low) in
      rw (more, ← drop-drop 1 (lines_given new - lines_given old) (lines_coming (bytes ++ rest) old), ← passes rest follows) (near_next new rest follows)

first_of : (all buffered more : List TextLine) (line : TextLine) → take (length buffered) all ≡ buffered → buffered ≡ line ∷ more → (rest : List TextLine) × (all ≡ line ∷ rest)
first_of all buffered more line p is = grind arith

-- a reader's next line, if one is buffered, comes first
pub next_comes : {S : Type 0} (reader : LineReader S) (line : TextLine) (more : List TextLine) → buffered_in reader ≡ line ∷ more → (rest : List ℕ) → MayStillCome reader rest → lines_coming rest reader ≡ line ∷ drop 1 (lines_coming rest reader)
next_comes reader line more is rest follows =
    let first = first_of (lines_coming rest reader) (buffered_in reader) more line (prefix_of reader rest follows) is in
    first.1 ∙ ap (λ l. line ∷ l) (sym (ap (λ (l : List TextLine). drop 1 l) first.1))

-- the reader's next line was made buffered, and taken
pub record LineCame {S : Type 0} (device : Source S) (old : LineReader S) (line : TextLine) (new : LineReader S) : Type 0 where
  pub bytes : (bytes : List ℕ) × Hands device old bytes new
  pub first : (rest : List ℕ) → MayStillCome new rest → lines_coming (bytes.0 ++ rest) old ≡ line ∷ lines_coming rest new
  pub number : line.number ≡ suc (lines_given old)
  pub counted : lines_given new ≡ suc (lines_given old)
  pub below : lines_given new < 2 ^ 63
  pub shrinks : room new < room old
  pub served : device.has_failed (source_of new) ≡ device.has_failed (source_of old)
  pub was_going : (fault_kept old ≡ None) × (has_ended old ≡ false)
  pub goes : fault_kept new ≡ None
  pub near : length (held new) ≤ block_size

-- if lines were taken, bytes were
pub some_bytes : (count : ℕ) (bytes : List ℕ) → 0 < line_feeds (take count bytes) → 0 < count
some_bytes count bytes some = grind arith

module _ {S : Type 0} (device : Source S) (old mid new : LineReader S) (makes : MakesLine device old mid) where
  pub same_room : room mid ≡ room old
  same_room = grind (arith, length-append)

  module _ (line : TextLine) (more : List TextLine) (first : buffered_in mid ≡ line ∷ more) (number : line.number ≡ suc (lines_given mid)) (consumed : ConsumedLines) (are : TakenLines mid consumed 1) (takes : TakesLines device mid consumed new) where
    taken_rest : (rest : List ℕ) → MayStillCome new rest → lines_coming rest new ≡ drop 1 (lines_coming rest mid)
    taken_rest rest follows = takes.left_is rest follows ∙ ap (λ k. drop k (lines_coming rest mid)) are.feeds

    first_then : (rest : List ℕ) → MayStillCome new rest → lines_coming ((makes.bytes.0 ++ []) ++ rest) old ≡ line ∷ lines_coming rest new
    first_then rest follows =
        ap (λ l. lines_coming l old) (append_assoc makes.bytes.0 [] rest) ∙ made_coming device old mid makes rest
        ∙ next_comes mid line more first rest (λ told. follows (takes.told_is ∙ told)) ∙ ap (λ l. line ∷ l) (sym (taken_rest rest follows))

    pub line_came : LineCame device old line new
    line_came = record {
      bytes = (makes.bytes.0 ++ [], hands_both device old mid new makes.bytes.0 [] makes.bytes.1 takes.hands);
      first = first_then;
      number = number ∙ ap suc makes.counted;
      counted = omega (arith, takes.given, are.given, makes.counted);
      below = takes.below;
      shrinks = omega (arith, same_room, takes.taken_is, takes.shrinks, are.feeds);
      served = ap device.has_failed takes.source_is ∙ makes.served;
      was_going = makes.was_going;
      goes = takes.fault_is ∙ makes.goes;
      near = takes.near (some_bytes consumed.bytes (buffered_bytes mid) (omega (arith, are.feeds)));
    }

module _ {S : Type 0} (device : Source S) where
  -- lines came, in some calls one after another
  pub record Came (old now : LineReader S) : Type 0 where
    pub bytes : (bytes : List ℕ) × Hands device old bytes now
    pub lines : LinesPass old bytes.0 now
    pub least : lines_given old ≤ lines_given now
    pub kept : IsKept device old → IsKept device now

  abbrev pub came_none : (reader : LineReader S) → Came reader reader
  came_none reader = record { bytes = ([], hands_none device reader); lines = none_pass reader reader [] (λ rest. refl) refl; least = omega arith; kept = λ h. h }

  module _ (old now new : LineReader S) (p : Came old now) where
    abbrev pub came_line : (line : TextLine) → LineCame device now line new → (IsKept device now → IsKept device new) → Came old new
    came_line line came kept = record {
      bytes = (p.bytes.0 ++ came.bytes.0, hands_both device old now new p.bytes.0 came.bytes.0 p.bytes.1 came.bytes.1);
      lines = pass_more device old now new p.bytes.0 came.bytes.0 came.bytes.1 p.lines (one_passes now new came.bytes.0 line came.first came.counted) p.least (omega (arith, came.counted));
      least = omega (arith, came.counted, p.least);
      kept = λ was. kept (p.kept was);
    }

    -- a line was made buffered
    abbrev pub came_made : MakesLine device now new → (IsKept device now → IsKept device new) → Came old new
    came_made makes kept = record {
      bytes = (p.bytes.0 ++ makes.bytes.0, hands_both device old now new p.bytes.0 makes.bytes.0 p.bytes.1 makes.bytes.1);
      lines = pass_more device old now new p.bytes.0 makes.bytes.0 makes.bytes.1 p.lines (none_pass now new makes.bytes.0 (made_coming device now new makes) makes.counted) p.least (omega (arith, makes.counted));
      least = omega (arith, makes.counted, p.least);
      kept = λ was. kept (p.kept was);
    }

    -- a line couldn't be read: what follows it is still to come
    pub near_fault : (fault : FaultValue) (gives : GivesFault device now fault new) → fault_kept now ≡ None → IsNear old (p.bytes.0 ++ gives.bytes.0) new
    near_fault fault gives going = near_pass device old now new p.bytes.0 gives.bytes.0 gives.bytes.1 p.lines (gives.near going) p.least (omega (arith, gives.counted))

    -- the line feeds among the bytes taken all end lines that were given
    pub cut_fault : (fault : FaultValue) (gives : GivesFault device now fault new) → fault_kept now ≡ None → fault ≡ read_failed (input_of now) (suc (lines_given now)) → IsKept device old → CutsOff old (p.bytes.0 ++ gives.bytes.0) new
    cut_fault fault gives going is kept =
        let within : bytes_taken now < 2 ^ 63 = (p.kept kept).within going in
        let fed = p.bytes.1.fed (gives.before_end going) within in
        let counted = p.bytes.1.counted in
        let given = gives.cut_off going is in
        let front = front_of_both p.bytes.0 gives.bytes.0 (2 ^ 63 - 1 - bytes_taken old) (2 ^ 63 - 1 - bytes_taken now) (omega arith) in
        grind (arith, (line_feeds-append p.bytes.0 (take (2 ^ 63 - 1 - bytes_taken now) gives.bytes.0)))

-- the lines that come are numbered on from those given
pub numbered_coming : {S : Type 0} (reader : LineReader S) (rest : List ℕ) → AreNumbered (suc (lines_given reader)) (lines_coming rest reader)
unfolding lines_coming
numbered_coming reader rest = lines_are_numbered (suc (lines_given reader)) (held reader ++ rest)

-- Lemmas on a step of a reader of members, whatever the lines say.

module _ {A State : Type 0} (format : Format A State) (input : Input) (state : State) where
  said_none : (line : TextLine) (lines : List TextLine) → format.says state line ≡ Ok None → good_after format input state (line ∷ lines) ≡ good_after format input state lines
  unfolding good_after
  said_none line lines e = rw e refl

  said_some : (line : TextLine) (lines : List TextLine) (item : A) → format.says state line ≡ Ok (Some item)
      → good_after format input state (line ∷ lines) ≡ with_member (record { line = line.number; item = item }) (good_after format input (format.after state item) lines)
  unfolding good_after
  said_some line lines item e = rw e refl

  wrong_good : (line : TextLine) (lines : List TextLine) (kind : Kind) → format.says state line ≡ Err kind
      → good_after format input state (line ∷ lines) ≡ ends_with (Some (fault_at_line input line.number kind))
  unfolding good_after
  wrong_good line lines kind e = rw e refl

  good_none : good_after format input state [] ≡ ends_with None
  unfolding good_after
  good_none = refl

buffered_below : {S : Type 0} (reader : LineReader S) → 0 < length (buffered_bytes reader) → suc (lines_given reader) < 2 ^ 63
unfolding buffered_bytes
buffered_below reader some = next_below reader some

module _ {S A State : Type 0} (device : Source S) where
  -- what comes, without a fault
  pub good_is : (reader : MemberReader S A State) → reader.fault ≡ None → (rest : List ℕ) → coming rest reader ≡ good_after reader.format (input_of reader.below) reader.state (lines_coming rest reader.below)
  unfolding coming
  good_is reader going rest = rw going refl

  -- the member of the first line comes first
  good_first : (reader : MemberReader S A State) → reader.fault ≡ None → (rest : List ℕ) (line : TextLine) (lines : List TextLine) (item : A) → lines_coming rest reader.below ≡ line ∷ lines → reader.format.says reader.state line ≡ Ok (Some item)
      → (more : List (Member A)) × ((coming rest reader).members ≡ record { line = line.number; item = item } ∷ more)
  good_first reader going rest line lines item first says = (
    (good_after reader.format (input_of reader.below) (reader.format.after reader.state item) lines).members,
    ap (λ g. g.members) (good_is reader going rest ∙ ap (good_after reader.format (input_of reader.below) reader.state) first ∙ said_some reader.format (input_of reader.below) reader.state line lines item says),
  )

  -- lines were read from the reader
  pub record Begun (old : MemberReader S A State) : Type 0 where
    pub was_going : old.fault ≡ None
    pub not_told : has_ended old.below ≡ false

  -- how far a step is: no member has come yet, and no fault but one of the reader of lines
  pub record Going (old now : MemberReader S A State) : Type 0 where
    pub passed : Came device old.below now.below
    pub good : (rest : List ℕ) → MayStillCome now.below rest → coming (passed.bytes.0 ++ rest) old ≡ coming rest now
    pub was_none : old.buffered ≡ []
    pub none_buffered : now.buffered ≡ []
    pub begun : (now ≡ old) ⊎ Begun old
    pub began : old.fault ≡ line_fault old.below
    pub rest : now.fault ≡ line_fault now.below
    pub going : old.fault ≡ None → now.fault ≡ None
    pub state : now.state ≡ old.state
    pub format : now.format ≡ old.format
    pub served : device.has_failed (source_of now.below) ≡ device.has_failed (source_of old.below)
    pub shrinks : line_room now.below ≤ line_room old.below

  -- the reader of lines moved, and nothing more is known after it
  pub record Follows (now new : MemberReader S A State) : Type 0 where
    pub state : new.state ≡ now.state
    pub format : new.format ≡ now.format

  -- what comes then
  good_then : (now new : MemberReader S A State) → Follows now new → input_of new.below ≡ input_of now.below → new.fault ≡ None → (rest : List ℕ)
      → good_after now.format (input_of now.below) now.state (lines_coming rest new.below) ≡ coming rest new
  good_then now new follows input going rest = sym (good_is new going rest ∙ (rw (follows.format, follows.state, input) refl))

  -- no member was taken
  pub takes_none : (reader : MemberReader S A State) → Takes device reader [] reader
  takes_none reader = record {
    buffered = refl;
    said = tt;
    state = refl;
    good = λ rest follows. refl;
    goes = refl;
    below_stays = refl;
    format = refl;
    given = sym (add-zero (lines_given reader.below));
    below = given_below reader.below;
    hands = hands_none device reader.below;
    source = refl;
    lines = (came_none device reader.below).lines;
    kept = λ h. h;
    near = λ some. absurd (omega (arith, some));
    shrinks = omega arith;
  }

  module _ (old : MemberReader S A State) where
    pub going_start : old.buffered ≡ [] → old.fault ≡ line_fault old.below → Going old old
    going_start none rest = record {
      passed = came_none device old.below;
      good = λ rest follows. refl;
      was_none = none;
      none_buffered = none;
      begun = inl refl;
      began = rest;
      rest = rest;
      going = λ e. e;
      state = refl;
      format = refl;
      served = refl;
      shrinks = omega arith;
    }

    module _ (now new : MemberReader S A State) (g : Going old now) {bytes : List ℕ} (hands : Hands device now.below bytes new.below) where
      -- what came before the step comes after it, behind the bytes of the call
      coming_then : (rest : List ℕ) → MayStillCome new.below rest → coming ((g.passed.bytes.0 ++ bytes) ++ rest) old ≡ coming (bytes ++ rest) now
      coming_then rest follows = ap (λ l. coming l old) (append_assoc g.passed.bytes.0 bytes rest) ∙ g.good (bytes ++ rest) (comes_before device hands rest follows)

    abbrev stays_more : (now new : MemberReader S A State) → Going old now → (bytes : List ℕ) × Hands device now.below bytes new.below → Follows now new → Stays device old new
    stays_more now new g more follows = record {
      bytes = (g.passed.bytes.0 ++ more.0, hands_both device old.below now.below new.below g.passed.bytes.0 more.0 g.passed.bytes.1 more.1);
      format = follows.format ∙ g.format;
    }

    -- what comes lies after the lines given
    beyond : (now : MemberReader S A State) (new : MemberReader S A State) (bytes : List ℕ) → Going old now → Hands device now.below bytes new.below → line_fault now.below ≡ None → lines_given new.below ≡ lines_given now.below → (rest : List ℕ) → MayStillCome new.below rest
        → (g : Going old now) → IsBeyond (lines_given new.below) (coming ((g.passed.bytes.0 ++ bytes) ++ rest) old)
    beyond now new bytes was hands going counted rest follows g =
        let there : coming ((g.passed.bytes.0 ++ bytes) ++ rest) old ≡ good_after now.format (input_of now.below) now.state (lines_coming (bytes ++ rest) now.below) =
        coming_then now new g hands rest follows ∙ good_is now (g.rest ∙ going) (bytes ++ rest) in
        rw (there, counted) (beyond_from now.format (input_of now.below) (lines_given now.below) now.state (lines_coming (bytes ++ rest) now.below) (numbered_coming now.below (bytes ++ rest)))

    begun_then : (now : MemberReader S A State) → Going old now → line_fault now.below ≡ None → has_ended now.below ≡ false → Begun old
    begun_then now g going open_ended =
        elim g.begun [
          | inl same ↦ record { was_going = ap (λ (r : MemberReader S A State). r.fault) (sym same) ∙ g.rest ∙ going; not_told = ap (λ (r : MemberReader S A State). has_ended r.below) (sym same) ∙ open_ended }
          | inr begun ↦ begun
        ]

    same_input : (now : MemberReader S A State) → Going old now → input_of now.below ≡ input_of old.below
    same_input now g = g.passed.bytes.1.same_input

    module _ (now new : MemberReader S A State) (line : TextLine) (g : Going old now) (gives : LineCame device now.below line new.below) where
      going_now : now.fault ≡ None
      going_now = g.rest ∙ gives.was_going.0

      -- the lines consumed and the one given
      abbrev passed_more : (IsKept device now.below → IsKept device new.below) → Came device old.below new.below
      passed_more kept = came_line device old.below now.below new.below g.passed line gives kept

      coming_line : (rest : List ℕ) → MayStillCome new.below rest
          → coming ((g.passed.bytes.0 ++ gives.bytes.0) ++ rest) old ≡ good_after now.format (input_of now.below) now.state (line ∷ lines_coming rest new.below)
      coming_line rest follows =
          coming_then now new g gives.bytes.1 rest follows ∙ good_is now going_now (gives.bytes.0 ++ rest) ∙ ap (good_after now.format (input_of now.below) now.state) (gives.first rest follows)

      -- the member of the last line given came first
      pub given_first : (item : A) → now.format.says now.state line ≡ Ok (Some item) → (rest : List ℕ) → MayStillCome new.below rest
          → (more : List (Member A)) × ((coming ((g.passed.bytes.0 ++ gives.bytes.0) ++ rest) old).members ≡ record { line = lines_given new.below; item = item } ∷ more)
      given_first item says rest follows =
          let at : line.number ≡ lines_given new.below = gives.number ∙ sym gives.counted in
          let there = coming_line rest follows ∙ said_some now.format (input_of now.below) now.state line (lines_coming rest new.below) item says in (
            (good_after now.format (input_of now.below) (now.format.after now.state item) (lines_coming rest new.below)).members,
            ap (λ g. g.members) there ∙ ap (λ (n : ℕ). record { line = n; item = item } ∷ (good_after now.format (input_of now.below) (now.format.after now.state item) (lines_coming rest new.below)).members) at,
          )

    -- a line said nothing
    pub going_more : (now new : MemberReader S A State) (line : TextLine) → Going old now → LineCame device now.below line new.below
        → (IsKept device now.below → IsKept device new.below) → now.format.says now.state line ≡ Ok None → new.buffered ≡ [] → new.fault ≡ line_fault new.below → Follows now new → Going old new
    going_more now new line g gives kept says ahead rest follows =
        let fine : new.fault ≡ None = rest ∙ gives.goes in
        record {
          passed = passed_more now new line g gives kept;
          good = λ more still.
              coming_line now new line g gives more still ∙ said_none now.format (input_of now.below) now.state line (lines_coming more new.below) says
              ∙ good_then now new follows gives.bytes.1.same_input fine more;
          was_none = g.was_none;
          none_buffered = ahead;
          begun = inr (begun_then now g gives.was_going.0 gives.was_going.1);
          began = g.began;
          rest = rest;
          going = λ e. fine;
          state = follows.state ∙ g.state;
          format = follows.format ∙ g.format;
          served = gives.served ∙ g.served;
          shrinks = omega (arith, gives.shrinks, g.shrinks);
        }

    -- a line was made buffered that says a member
    pub going_member : {now new : MemberReader S A State} {line : TextLine} {more : List TextLine} {item : A} {items : List A} → Going old now → MakesLine device now.below new.below
        → (IsKept device now.below → IsKept device new.below) → buffered_in new.below ≡ line ∷ more → line.number ≡ suc (lines_given new.below)
        → now.format.says now.state line ≡ Ok (Some item) → new.buffered ≡ item ∷ items → new.fault ≡ line_fault new.below → Follows now new
        → GivesMember device old (record { line = line.number; item = item }) new
    going_member {now} {new} {line} {more} {item} {items} g makes kept first number says buffered rest follows =
        let came = came_made device old.below now.below new.below g.passed makes kept in
        let was_going : now.fault ≡ None = g.rest ∙ makes.was_going.0 in
        let fine : new.fault ≡ None = rest ∙ makes.goes in
        let good : (rest : List ℕ) → MayStillCome new.below rest → coming (came.bytes.0 ++ rest) old ≡ coming rest new = λ rest still.
        coming_then now new g makes.bytes.1 rest still ∙ good_is now was_going (makes.bytes.0 ++ rest) ∙ ap (good_after now.format (input_of now.below) now.state) (made_coming device now.below new.below makes rest)
        ∙ good_then now new follows makes.bytes.1.same_input fine rest in
        let begun = begun_then now g makes.was_going.0 makes.was_going.1 in
        let says_then : new.format.says new.state line ≡ Ok (Some item) = rw (follows.format, follows.state) says in
        record {
          stays = record { bytes = came.bytes; format = follows.format ∙ g.format };
          ahead = ap (first_from (suc (lines_given new.below))) buffered ∙ ap (λ n. Some (record { line = n; item = item })) (sym number);
          state = follows.state ∙ g.state;
          good = good;
          first = λ rest still.
              let there = good_first new fine rest line (drop 1 (lines_coming rest new.below)) item (next_comes new.below line more first rest still) says_then in
              (there.0, ap (λ g. g.members) (good rest still) ∙ there.1);
          said = (line, rw (← g.format, ← g.state) says);
          again = λ some. absurd (let none : ahead_in old ≡ None = ap (first_from (suc (lines_given old.below))) g.was_none in false≢true (sym (ap is_some none) ∙ some));
          at = number;
          rises = came.least;
          below = omega (arith, number, buffered_below new.below makes.some);
          served = makes.served ∙ g.served;
          was_going = begun.was_going;
          goes = fine ∙ sym begun.was_going;
          below_goes = makes.goes;
          lines = came.lines;
          near = near_after old.below new.below came.bytes.0 came.lines came.least;
          shrinks = omega (arith, same_room device now.below new.below new.below makes, g.shrinks);
        }

    module _ {now new : MemberReader S A State} {line : TextLine} {fault : FaultValue} (g : Going old now) (gives : LineCame device now.below line new.below) where
      -- a line is at fault
      wrong_cause : (kind : Kind) → now.format.says now.state line ≡ Err kind → is_of_line kind ≡ true → fault ≡ fault_at_line (input_of old.below) line.number kind → LineIsWrong device old (g.passed.bytes.0 ++ gives.bytes.0) fault new
      wrong_cause kind says of_line is =
          let at : line.number ≡ lines_given new.below = gives.number ∙ sym gives.counted in
          record {
            none_left = λ rest follows.
                coming_line now new line g gives rest follows ∙ wrong_good now.format (input_of now.below) now.state line (lines_coming rest new.below) kind says
                ∙ ap (λ f. ends_with (Some f)) (ap (λ i. fault_at_line i line.number kind) (same_input now g) ∙ sym is);
            kind = kind;
            line = line;
            says = rw (← g.format, ← g.state) says;
            of_line = of_line;
            place = is ∙ ap (λ n. fault_at_line (input_of old.below) n kind) at;
            rises = omega (arith, gives.counted, g.passed.least);
            going = gives.goes;
            served = gives.served ∙ g.served;
            near = gives.near;
          }

      -- a member that couldn't be kept was good
      unkept_cause : (item : A) → now.format.says now.state line ≡ Ok (Some item) → fault ≡ no_memory → RunsOut device old (g.passed.bytes.0 ++ gives.bytes.0) fault new
      unkept_cause item says is = record {
        is = is;
        checked = inr (record {
          item = item;
          first = given_first now new line g gives item says;
          rises = omega (arith, gives.counted, g.passed.least);
          going = gives.goes;
          near = gives.near;
        });
        served = gives.served ∙ g.served;
      }

      lost_by : new.fault ≡ Some fault → new.buffered ≡ [] → Follows now new → (IsKept device now.below → IsKept device new.below) → Cause device old (g.passed.bytes.0 ++ gives.bytes.0) fault new → AnswersFault device old fault new
      lost_by kept ahead follows sound cause =
          let came = passed_more now new line g gives sound in
          record {
            stays = record { bytes = came.bytes; format = follows.format ∙ g.format };
            kept = kept;
            was_none = g.was_none;
            none_buffered = ahead;
            state = follows.state ∙ g.state;
            again = grind arith;
            first = λ none. cause;
            below_was_going = λ none. sym g.began ∙ none;
            rises = came.least;
            lines = λ none. came.lines;
            near = λ none. near_after old.below new.below came.bytes.0 came.lines came.least;
          }

      -- a line was wrong
      pub going_wrong : new.fault ≡ Some fault → new.buffered ≡ [] → Follows now new → (IsKept device now.below → IsKept device new.below) → {kind : Kind}
          → now.format.says now.state line ≡ Err kind → is_of_line kind ≡ true → fault ≡ fault_at_line (input_of old.below) line.number kind → AnswersFault device old fault new
      going_wrong kept ahead follows sound {kind} says of_line is = lost_by kept ahead follows sound (inl (wrong_cause kind says of_line is))

      -- a member had no room
      pub going_unkept : new.fault ≡ Some fault → new.buffered ≡ [] → Follows now new → (IsKept device now.below → IsKept device new.below) → {item : A}
          → now.format.says now.state line ≡ Ok (Some item) → fault ≡ no_memory → AnswersFault device old fault new
      going_unkept kept ahead follows sound {item} says is = lost_by kept ahead follows sound (inr (inr (unkept_cause item says is)))

      -- once these bytes were handed over
      pub unkept_bytes : (kept : new.fault ≡ Some fault) (ahead : new.buffered ≡ []) (follows : Follows now new) (sound : IsKept device now.below → IsKept device new.below) {item : A}
          (says : now.format.says now.state line ≡ Ok (Some item)) (is : fault ≡ no_memory) → (going_unkept kept ahead follows sound says is).stays.bytes.0 ≡ g.passed.bytes.0 ++ gives.bytes.0
      unfolding going_unkept lost_by
      unkept_bytes kept ahead follows sound says is = refl

    -- the line couldn't be read
    module _ (now new : MemberReader S A State) (fault : FaultValue) (g : Going old now) (gives : GivesFault device now.below fault new.below) where
      passed_unread : line_fault now.below ≡ None → SaidNothing old (g.passed.bytes.0 ++ gives.bytes.0) new
      passed_unread going rest follows = beyond now new gives.bytes.0 g gives.bytes.1 going gives.counted rest follows g

      read_cause : line_fault now.below ≡ None → FailsToRead device now.below fault new.below ⊎ (fault ≡ no_memory) → Cause device old (g.passed.bytes.0 ++ gives.bytes.0) fault new
      read_cause going (inl fails) =
          inr (inl (record {
            fails = record {
              is = fails.is ∙ ap (λ i. read_failed i (suc (lines_given now.below))) (same_input now g) ∙ ap (λ n. read_failed (input_of old.below) (suc n)) (sym gives.counted);
              kept = gives.kept;
              cause = fails.cause;
              before_end = not_told (end_told old.below) (end_told now.below) g.passed.bytes.1.told_stays (gives.before_end going);
              cut = cut_fault device old.below now.below new.below g.passed fault gives going fails.is;
            };
            passed = passed_unread going;
          }))
      read_cause going (inr is) = inr (inr (record { is = is; checked = inl (gives.kept ∙ ap Some is, passed_unread going); served = gives.served is ∙ g.served }))

    pub going_unread : (now new : MemberReader S A State) (fault : FaultValue) → Going old now → GivesFault device now.below fault new.below → new.fault ≡ Some fault → new.buffered ≡ [] → Follows now new → (new.below ≡ now.below → new.fault ≡ now.fault → new ≡ now)
        → AnswersFault device old fault new
    going_unread now new fault g gives kept ahead follows track = record {
      stays = stays_more now new g gives.bytes follows;
      kept = kept;
      was_none = g.was_none;
      none_buffered = ahead;
      state = follows.state ∙ g.state;
      again = grind arith;
      first = λ none. let going = sym g.rest ∙ g.going none in read_cause now new fault g gives going (gives.first going);
      below_was_going = λ none. sym g.began ∙ none;
      rises = omega (arith, g.passed.least, gives.counted);
      lines = λ none. absurd (let apart : None ≡ Some fault = sym none ∙ gives.kept in cc);
      near = λ none. near_fault device old.below now.below new.below g.passed fault gives (sym g.rest ∙ g.going none);
    }

    room_at_end : (now : LineReader S) (reader : LineReader S) → GivesEnd device now reader → line_room reader ≤ line_room now
    room_at_end now reader gives = let counted = gives.bytes.1.counted in rw gives.nothing_held (omega arith)

    pub going_end : (now new : MemberReader S A State) → Going old now → GivesEnd device now.below new.below → new.buffered ≡ [] → new.fault ≡ line_fault new.below → Follows now new → (new.below ≡ now.below → new.fault ≡ now.fault → new ≡ now)
        → EndsMembers device old new
    going_end now new g gives ahead rest follows track =
        let all = g.passed.bytes.0 ++ gives.bytes.0 in
        let still : MayStillCome now.below gives.bytes.0 = λ told. sym (append-nil gives.bytes.0) ∙ comes_before device gives.bytes.1 [] (λ e. refl) told in
        record {
          stays = stays_more now new g (gives.bytes.0, gives.bytes.1) follows;
          none_left = g.good gives.bytes.0 still ∙ good_is now (g.rest ∙ gives.was_going) gives.bytes.0
              ∙ ap (good_after now.format (input_of now.below) now.state) (none_came device now.below new.below gives) ∙ good_none now.format (input_of now.below) now.state;
          none_comes = good_is new (rest ∙ gives.goes) [] ∙ ap (good_after new.format (input_of new.below) new.state) (none_comes device now.below new.below gives) ∙ good_none new.format (input_of new.below) new.state;
          was_none = g.was_none;
          none_buffered = ahead;
          state = follows.state ∙ g.state;
          ends = gives.ends;
          told = gives.told;
          rises = omega (arith, g.passed.least, gives.counted);
          lines = ap (λ n. drop (n - lines_given old.below) (lines_coming all old.below)) gives.counted ∙ sym (g.passed.lines gives.bytes.0 still) ∙ none_came device now.below new.below gives;
          again = grind arith;
          served = gives.served ∙ g.served;
          was_going = grind arith;
          goes = rest ∙ gives.goes;
          below_goes = gives.goes;
          shrinks = omega (arith, room_at_end now.below new.below gives, g.shrinks);
        }

  -- a reader that has given no member has all of the good ones left
  pub good_at_first : (reader : MemberReader S A State) → reader.fault ≡ None → reader.state ≡ reader.format.begin
      → (rest : List ℕ) → coming rest reader ≡ good reader.format (input_of reader.below) (lines_coming rest reader.below)
  good_at_first reader going begin rest = good_is reader going rest ∙ (rw begin refl)

  -- the member ahead is given again
  pub gives_again : (old : MemberReader S A State) (line : TextLine) (more : List TextLine) (item : A) (items : List A) → old.fault ≡ None → line_fault old.below ≡ None → 0 < length (buffered_bytes old.below) → buffered_in old.below ≡ line ∷ more
      → line.number ≡ suc (lines_given old.below) → old.format.says old.state line ≡ Ok (Some item) → old.buffered ≡ item ∷ items → GivesMember device old (record { line = line.number; item = item }) old
  gives_again old line more item items going below_goes some first number says buffered = record {
    stays = record { bytes = ([], hands_none device old.below); format = refl };
    ahead = ap (first_from (suc (lines_given old.below))) buffered ∙ ap (λ n. Some (record { line = n; item = item })) (sym number);
    state = refl;
    good = λ rest follows. refl;
    first = λ rest follows. good_first old going rest line (drop 1 (lines_coming rest old.below)) item (next_comes old.below line more first rest follows) says;
    said = (line, says);
    again = λ some. refl;
    at = number;
    rises = omega arith;
    below = omega (arith, number, buffered_below old.below some);
    served = refl;
    was_going = going;
    goes = refl;
    below_goes = below_goes;
    lines = (came_none device old.below).lines;
    near = near_after old.below old.below [] (came_none device old.below).lines (omega arith);
    shrinks = omega arith;
  }
