-- How far a reader of members has come when it stops at a fault.
use Rattle.bt_lines.proofs.Std.{◌≡◌, ℕ, suc, ◌+◌, ◌-◌, ◌<◌, ◌≤◌, List, [], ◌∷◌, ◌++◌, length, drop, Option, Some, None, Result, refl, sym, ap, ◌∙◌, subst, arith, ◌⊎◌, All, IfSome, inl, inr, All-nil}
use Rattle.bt_lines.specs.declared.device.Source.{Ghosts as Source}
use Rattle.bt_lines.specs.model.Fault.{FaultValue}
use Rattle.bt_lines.specs.calls.Faults.{no_memory}
use Rattle.bt_lines.specs.model.Lines.{TextLine, bytes_in}
use Rattle.bt_lines.specs.calls.Line.{AreNumbered}
use Rattle.bt_lines.specs.calls.Output.{block_size}
use Rattle.bt_lines.specs.calls.Reader.{IsKept, MayStillCome, held, input_of, lines_coming, lines_given, fault_kept as line_fault}
use Rattle.bt_lines.specs.declared.fault.Input.{Input}
use Rattle.bt_lines.specs.declared.fault.Kind.{Kind}
use Rattle.bt_lines.proofs.lemmas.reader.lines.TakingLemmas.{sound_near}
use Rattle.bt_bed.proofs.lemmas.read.good.ReadingLemmas.{good_is, numbered_coming}
use Rattle.bt_bed.specs.model.Good.{Format, Good, Member, ends_with, good_after, good_with}
use Rattle.bt_bed.specs.calls.Reading.{AreAscending, Cause, IsBeyond, IsFaultBeyond, AnswersFault, LastUnkept, LineIsWrong, MemberReader, SaidNothing, coming}
use Rattle.bt_bed.specs.model.BedLine.{fault_at_line}
use Rattle.bt_bed.proofs.lemmas.read.good.SaidLemmas.{ascend_from, beyond_from}
use Rattle.bt_tool.specs.inside.Feed.{WhateverComes}

-- Once these bytes were handed over, the first `count` lines have none of the members still to come and no fault, and
-- what follows one more line is still to come, except at most a block, whatever follows.
pub record StopsBehind {S A State : Type 0} (old : MemberReader S A State) (bytes : List ℕ) (count : ℕ) (new : MemberReader S A State) : Type 0 where
  pub passed : WhateverComes old bytes new (IsBeyond count)
  pub from : lines_given old.below ≤ count
  pub near : (rest : List ℕ) → MayStillCome new.below rest → bytes_in (drop (suc count - lines_given old.below) (lines_coming (bytes ++ rest) old.below)) ≤ length rest + block_size

-- a fault of a line, if there is one, lies after the first `count` lines
abbrev FaultBeyond : ℕ → Option FaultValue → Type 0
FaultBeyond count fault = IfSome fault (IsFaultBeyond count)

module _ {A State : Type 0} (format : Format A State) (input : Input) where
  fault_with : (count line : ℕ) (state : State) (said : Result (Option A) Kind) (rest : State → Good A)
      → count < line → ((now : State) → FaultBeyond count (rest now).fault)
      → FaultBeyond count (good_with format input line state said rest).fault
  fault_with count line state said rest h f = grind arith

  fault_from : (count number : ℕ) (state : State) (lines : List TextLine) → AreNumbered number lines → count < number
      → FaultBeyond count (good_after format input state lines).fault
  unfolding good_after
  fault_from count number state [] n h = tt
  fault_from count number state (line ∷ lines) n h =
      fault_with count line.number state (format.says state line) (λ now. good_after format input now lines) (omega (arith, n.0))
      (λ now. fault_from count (suc number) now lines n.1 (omega arith))

  -- the fault lies after every member
  last_with : (line : ℕ) (state : State) (said : Result (Option A) Kind) (rest : State → Good A)
      → ((now : State) → All (λ m. FaultBeyond m.line (rest now).fault) (rest now).members)
      → ((now : State) → FaultBeyond line (rest now).fault)
      → All (λ m. FaultBeyond m.line (good_with format input line state said rest).fault) (good_with format input line state said rest).members
  last_with line state said rest h f = grind arith

  fault_comes_last : (number : ℕ) (state : State) (lines : List TextLine) → AreNumbered number lines
      → All (λ m. FaultBeyond m.line (good_after format input state lines).fault) (good_after format input state lines).members
  unfolding good_after
  fault_comes_last number state [] n = All-nil (λ (m : Member A). FaultBeyond m.line None)
  fault_comes_last number state (line ∷ lines) n =
      last_with line.number state (format.says state line) (λ now. good_after format input now lines)
      (λ now. fault_comes_last (suc number) now lines n.1)
      (λ now. fault_from line.number (suc number) now lines n.1 (omega (arith, n.0)))

  ascending_beyond : (line from : ℕ) (members : List (Member A)) → line < from → AreAscending from members
      → All (λ m. line < m.line) members
  ascending_beyond line from [] h a = All-nil (λ (m : Member A). line < m.line)
  ascending_beyond line from (m ∷ ms) h a = grind (arith, ascending_beyond line (suc m.line) ms (omega (arith, a.0)) a.1)

  -- a first member, what comes after it and the fault lie after the lines before its own
  beyond_first : (state : State) (number : ℕ) (lines : List TextLine) (rest : List (Member A)) (m : Member A) (count : ℕ) → AreNumbered number lines
      → (good_after format input state lines).members ≡ m ∷ rest → suc count ≡ m.line → IsBeyond count (good_after format input state lines)
  beyond_first state number lines rest m count n e at = grind (arith, (ascend_from format input number state lines n), (fault_comes_last number state lines n), ascending_beyond)

-- what is still to come lies after the lines given
pub beyond_now : {S A State : Type 0} (device : Source S) (reader : MemberReader S A State) → reader.fault ≡ None → (rest : List ℕ) → IsBeyond (lines_given reader.below) (coming rest reader)
beyond_now device reader going rest =
    subst (IsBeyond (lines_given reader.below)) (sym (good_is device reader going rest))
    (beyond_from reader.format (input_of reader.below) (lines_given reader.below) reader.state (lines_coming rest reader.below) (numbered_coming reader.below rest))

-- a member on this line comes first
abbrev FirstOn : {A : Type 0} → ℕ → Good A → Type 0
FirstOn {A} line good = (m : Member A) × (rest : List (Member A)) × (good.members ≡ m ∷ rest) × (m.line ≡ line)

first_beyond : {S A State : Type 0} (device : Source S) (reader : MemberReader S A State) → reader.fault ≡ None → (rest : List ℕ) (count line : ℕ) → FirstOn line (coming rest reader) → suc count ≡ line → IsBeyond count (coming rest reader)
first_beyond device reader going rest count line f at =
    let is = good_is device reader going rest in
    subst (IsBeyond count) (sym is)
    (beyond_first reader.format (input_of reader.below) reader.state (suc (lines_given reader.below)) (lines_coming rest reader.below) f.1 f.0 count (numbered_coming reader.below rest) (sym (ap (λ g. g.members) is) ∙ f.2) (at ∙ sym f.3))

beyond_end : {A : Type 0} (count : ℕ) (fault : Option FaultValue) (good : Good A) → FaultBeyond count fault → good ≡ ends_with fault → IsBeyond count good
beyond_end {A} count fault good h is = subst (IsBeyond count) (sym is) (record { members = All-nil (λ (m : Member A). count < m.line); fault = h })

module _ {S A State : Type 0} (device : Source S) (old : MemberReader S A State) (going : old.fault ≡ None) (kept : IsKept device old.below)
    (new : MemberReader S A State) (fault : FaultValue) (answers : AnswersFault device old fault new) (next : IsKept device new.below) where
  abbrev bytes : List ℕ
  bytes = answers.stays.bytes.0

  -- before a line that is the last one given
  before_line : (count : ℕ) → suc count ≡ lines_given new.below → lines_given old.below ≤ count → WhateverComes old bytes new (IsBeyond count) → line_fault new.below ≡ None → length (held new.below) ≤ block_size
      → StopsBehind old bytes count new
  before_line count at from passed clear near = record {
    passed = passed;
    from = from;
    near = λ rest follows. rw (at, ← answers.lines clear rest follows) (sound_near device new.below (record { within = next.within; near = λ none. near }) clear rest);
  }

  -- at a line that wasn't given
  stops_unread : WhateverComes old bytes new (IsBeyond (lines_given new.below)) → (count : ℕ) × StopsBehind old bytes count new
  stops_unread passed = (lines_given new.below, record { passed = passed; from = answers.rises; near = answers.near going })

  -- at a line that was given and is at fault
  stops_wrong : LineIsWrong device old bytes fault new → (count : ℕ) × StopsBehind old bytes count new
  stops_wrong wrong =
      let count = lines_given new.below - 1 in
      let rises = wrong.rises in
      let behind : count < lines_given new.below = omega arith in (
        count,
        before_line count (omega arith) (omega arith)
            (λ rest follows. beyond_end count (Some (fault_at_line (input_of old.below) (lines_given new.below) wrong.kind)) (coming (bytes ++ rest) old) behind
            (wrong.none_left rest follows ∙ ap (λ f. ends_with (Some f)) wrong.place)) wrong.going wrong.near,
      )

  stops_out : ((line_fault new.below ≡ Some no_memory) × SaidNothing old bytes new) ⊎ LastUnkept old bytes new → (count : ℕ) × StopsBehind old bytes count new
  stops_out (inl unread) = stops_unread unread.1
  stops_out (inr unkept) =
      let count = lines_given new.below - 1 in
      let rises = unkept.rises in (
        count,
        before_line count (omega arith) (omega arith)
            (λ rest follows. (let first = unkept.first rest follows in first_beyond device old going (bytes ++ rest) count (lines_given new.below) (record { line = lines_given new.below; item = unkept.item }, first.0, first.1, refl) (omega arith)))
            unkept.going unkept.near,
      )

  -- at a fault
  pub stops_faulty : (count : ℕ) × StopsBehind old bytes count new
  stops_faulty = stops_by (answers.first going)
    where
      stops_by : Cause device old bytes fault new → (count : ℕ) × StopsBehind old bytes count new
      stops_by (inl wrong) = stops_wrong wrong
      stops_by (inr (inl unread)) = stops_unread unread.passed
      stops_by (inr (inr ran)) = stops_out ran.checked
