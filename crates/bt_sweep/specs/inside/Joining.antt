-- Steps of a sweep over records of both inputs.
use Rattle.std.specs.Prelude.{◌≡◌, ◌⊎◌, ℕ, ◌<◌, ◌≤◌, ⊤, Bool, true, All, IfSome, List, [], ◌∷◌, ◌++◌, Option, None, Some, Result, Ok, Err, length, option_map, option_to_list, false, cond, decimal, filter, nat_lt, bytes_eq, drop, take}
use Rattle.std.specs.Bool.{then_some}
use Rattle.bt_lines.specs.model.Fault.{FaultValue}
use Rattle.bt_lines.specs.calls.Faults.{no_memory, write_failed}
use Rattle.bt_lines.specs.calls.Names.{fault_value}
use Rattle.bt_lines.specs.model.Lines.{max_number}
use Rattle.bt_lines.specs.calls.Output.{Output, FailsToAdd, Grown}
use Rattle.bt_lines.specs.declared.fault.Fault.{Fault}
use Rattle.bt_bed.specs.model.Feature.{Feature, intervals_of}
use Rattle.bt_bed.specs.declared.read.cursor.Cursor.{Ghosts as Cursor}
use Rattle.bt_bed.specs.declared.record.Record.{Ghosts as Record}
use Rattle.bt_bed.specs.model.BedLine.{bed_text}
use Rattle.bt_bed.specs.calls.Orders.{ArePlaced, IsTotal}
use Rattle.bt_bed.specs.model.Order.{Order}
use Rattle.bt_sweep.specs.calls.Sweeping.{Proceeds, SharesBase, AreDecided, CannotBeHeld, LeavesLast, TakenEach, HoldsFor, SameConfig, Sweeping, is_held, CannotHold, IsLong, has_room}
use Rattle.bt_sweep.specs.calls.Held.{CanHit}
use Rattle.bt_sweep.specs.model.Lines.{intersect, line_with, lines_of}
use Rattle.bt_sweep.specs.declared.output.shape.Shape.{Shape}
use Rattle.bt_sweep.specs.declared.sweep.pending.Pending.{Pending}
use Rattle.bt_sweep.specs.declared.sweep.state.Phase.TheVariants.{Over, SecondEnded}
use Rattle.bt_sweep.specs.declared.output.unmatched.Unmatched.{Unmatched}
use Rattle.bt_sweep.specs.declared.output.unmatched.Unmatched.TheVariants.{Nothing, Itself, Counted}
use Rattle.std.specs.declared.cmp.Ordering.{Ordering}
use Rattle.std.specs.declared.cmp.Ordering.TheVariants.{Less, Equal, Greater}
use Rattle.bt_sweep.specs.declared.sweep.state.Phase.{Phase}
use Rattle.bt_sweep.specs.declared.sweep.relation.Relation.{Relation}
use Rattle.bt_sweep.specs.declared.sweep.relation.Relation.TheVariants.{Unknown, Before, Beside, After}

-- What runs of steps over records of both inputs come to. Callers know them by `AdvancesOn`.

-- the sweep holds what it has to once these records of both inputs were given and taken
pub record HoldsDue (order : Order) (as_given taken : List Feature) (sweep : Sweeping) : Type 0 where
  pub holds : HoldsFor order as_given taken sweep.held
  pub within : IfSome sweep.limit (λ most. length sweep.held ≤ most)

-- it holds what it has to, and goes by the rules that it went by
pub record KeepsRules (order : Order) (as_given taken : List Feature) (old new : Sweeping) : Type 0 where
  pub same : SameConfig old new
  pub holds : HoldsDue order as_given taken new

-- these lines were put after those that were pending, except the ones that are left pending
pub record GrownWith (pending : List ℕ) (out : Output) (lines left : List ℕ) (grown : Output) : Type 0 where
  pub bytes : List ℕ
  pub parts : pending ++ lines ≡ bytes ++ left
  pub puts : Grown out bytes grown

-- what putting them does, where none of them could be left out
abbrev pub AddsWith : {T : Type 0} → List ℕ → Output → List ℕ → Result T Fault → List ℕ → Output → Type 0
AddsWith pending out lines (Ok done) left grown = GrownWith pending out lines left grown
AddsWith pending out lines (Err fault) left grown = FailsToAdd out (pending ++ lines) (fault_value fault) grown

-- A sweep was given `first` last, in an order for which `For` holds. `firsts` and `seconds` come in order after what
-- was given and taken before.
pub record GivenLast (For : Order → Type 0) (first : Feature) (firsts seconds : List Feature) (old : Sweeping)
    : Type 0 where
  pub order : Order
  pub before : List Feature
  pub taken : List Feature
  pub is_for : For order
  pub holds : HoldsDue order (before ++ first ∷ []) taken old
  pub placed : ArePlaced order (intervals_of (before ++ first ∷ firsts))
  pub placed_taken : ArePlaced order (intervals_of (taken ++ seconds))

-- What holds wherever it is, once these were given and taken.
module _ (For : Order → Type 0) (first : Feature) (firsts seconds : List Feature) (old : Sweeping) where
  -- it keeps what it has to
  abbrev pub GoesToFor : Sweeping → Type 0
  GoesToFor new =
      (at : GivenLast For first firsts seconds old)
      → KeepsRules at.order (at.before ++ first ∷ firsts) (at.taken ++ seconds) old new

  -- the lines of these were written after those that were pending, except the ones that are left pending
  abbrev pub WritesFor : List Feature → List ℕ → Output → List ℕ → Output → Type 0
  WritesFor newly pending out left grown =
      (at : GivenLast For first firsts seconds old)
      → GrownWith pending out (intersect old.shape old.rule newly (at.taken ++ seconds)) left grown

  -- they couldn't all be
  abbrev pub CutsFor : List Feature → List ℕ → Output → FaultValue → Output → Type 0
  CutsFor newly pending out fault grown =
      (at : GivenLast For first firsts seconds old)
      → FailsToAdd out (pending ++ intersect old.shape old.rule newly (at.taken ++ seconds)) fault grown

  -- each of the second was taken for one that those taken leave undecided
  abbrev pub TakesEachFor : Type 0
  TakesEachFor =
      (at : GivenLast For first firsts seconds old) → TakenEach at.order old.limit (first ∷ firsts) at.taken seconds

-- each lies on the chromosome
abbrev pub LieOn : List ℕ → List Feature → Type 0
LieOn name [] = ⊤
LieOn name (b ∷ more) = (b.chrom ≡ name) × LieOn name more

-- each lies on the chromosome, and ends at the place or before it
abbrev pub EndUpTo : List ℕ → ℕ → List Feature → Type 0
EndUpTo name place [] = ⊤
EndUpTo name place (a ∷ more) = (a.chrom ≡ name) × (a.stop ≤ place) × EndUpTo name place more

-- the record that waits lies on the chromosome, and those that are held can hit it
abbrev pub WaitsOn : List ℕ → List Feature → Option Feature → Type 0
WaitsOn name held waiting = IfSome waiting (λ a. (a.chrom ≡ name) × All (CanHit a) held)

-- records of the first input alone, from `first` on
module _ {A R : Type 0} (cursor : Cursor A R) (place : ℕ) (old : Sweeping) (first : Feature) (from : A)
    (pending : List ℕ) (out : Output) where
  -- their lines were written or are left pending, except the last one, if that waits
  pub record WritesSo (waiting : Option Feature) (new : Sweeping) (to : A) (left : List ℕ)
      (grown : Output) : Type 0 where
    pub firsts : List Feature
    pub newly : List Feature
    pub given : cursor.gives from firsts to
    pub are : first ∷ firsts ≡ newly ++ option_to_list waiting
    pub end : EndUpTo first.chrom place newly
    pub waits : WaitsOn first.chrom new.held waiting
    pub goes : GoesToFor IsTotal first firsts [] old new
    pub writes : WritesFor IsTotal first firsts [] old newly pending out left grown

  -- they couldn't all be written
  pub record BreaksOff (fault : FaultValue) (to : A) (grown : Output) : Type 0 where
    pub firsts : List Feature
    pub newly : List Feature
    pub waiting : Option Feature
    pub given : cursor.gives from firsts to
    pub are : first ∷ firsts ≡ newly ++ option_to_list waiting
    pub end : EndUpTo first.chrom place newly
    pub cuts : CutsFor IsTotal first firsts [] old newly pending out fault grown

-- the record that waits, if one is left
abbrev pub waiting_in : {R : Type 0} → R → Result Bool Fault → Result (Option R) Fault
waiting_in r (Ok is_left) = Ok (then_some is_left r)
waiting_in r (Err fault) = Err fault

-- where a sweep is: what it keeps, its inputs, the lines of the first that are left pending, and the output
pub record SweepAt (I : Type 0) : Type 0 where
  pub sweep : Sweeping
  pub inputs : I
  pub pending : List ℕ
  pub out : Output

-- where it is with these lines pending
abbrev pub stands : {I : Type 0} → Sweeping → I → List ℕ → Output → SweepAt I
stands sweep inputs pending out = record { sweep = sweep; inputs = inputs; pending = pending; out = out }

-- one waits that ends after the place, or there is none
abbrev pub StopsBehind : {A R : Type 0} → Cursor A R → ℕ → Option Feature → A → Type 0
StopsBehind cursor place None to = cursor.has_ended to
StopsBehind cursor place (Some a) to = (place < a.stop) × (a.stop ≤ max_number)

abbrev pub WritesUpTo : {A R : Type 0} → Cursor A R → (R → Feature) → ℕ → Feature → SweepAt A
    → Result (Option R) Fault → SweepAt A → Type 0
WritesUpTo cursor feature place first before (Ok waiting) after =
    WritesSo cursor place before.sweep first before.inputs before.pending before.out (option_map feature waiting)
    after.sweep after.inputs after.pending after.out
    × StopsBehind cursor place (option_map feature waiting) after.inputs
WritesUpTo cursor feature place first before (Err fault) after =
    BreaksOff cursor place before.sweep first before.inputs before.pending before.out (fault_value fault) after.inputs
    after.out

-- all records that there were are given
pub record SkipsAll {B S : Type 0} (cursor : Cursor B S) (from to : B) : Type 0 where
  pub seconds : List Feature
  pub given : cursor.gives from seconds to
  pub on : LieOn (cursor.name from) seconds
  pub ended : cursor.has_ended to

-- records of both inputs, from `first` of the first on
module _ {A B R S : Type 0} (cursor_a : Cursor A R) (cursor_b : Cursor B S) (For : Order → Type 0)
    (Settles : List Feature → List Feature → Type 0) (old : Sweeping) (first : Feature) (from_a : A) (from_b : B) where
  abbrev pub JoinProceeded : Option Feature → A → B → Type 0
  JoinProceeded waiting to_a to_b =
      Proceeds cursor_a cursor_b Settles (λ firsts seconds. TakesEachFor For first firsts seconds old) (first ∷ [])
      waiting from_a to_a from_b to_b

  module _ (pending : List ℕ) (out : Output) where
    -- the lines of those of the first were written or are left pending, except the last one, if that waits
    pub record JoinsSo (waiting : Option Feature) (new : Sweeping) (to_a : A) (to_b : B) (left : List ℕ)
        (grown : Output) : Type 0 where
      pub proceeds : JoinProceeded waiting to_a to_b
      pub waits : WaitsOn first.chrom new.held waiting
      pub goes : GoesToFor For first proceeds.firsts proceeds.seconds old new
      pub writes : WritesFor For first proceeds.firsts proceeds.seconds old proceeds.newly pending out left grown

    -- the next record of the second input shares a base with the one that waits, and can't be held
    pub record LacksRoom (firsts seconds newly : List Feature) (waiting : Option Feature) (to_b : B)
        (fault : FaultValue) (left : List ℕ) (grown : Output) : Type 0 where
      pub shares : SharesBase cursor_b.gives waiting to_b
      pub writes : WritesFor For first firsts seconds old newly pending out left grown
      pub lacks : (at : GivenLast For first firsts seconds old)
          → CannotBeHeld old.limit shares.last (at.taken ++ seconds) (cursor_b.line shares.after) fault

    -- it failed once these lines of the first were settled
    pub record Breaks (fault : FaultValue) (to_a : A) (to_b : B) (left : List ℕ) (grown : Output) : Type 0 where
      pub waiting : Option Feature
      pub proceeds : JoinProceeded waiting to_a to_b
      pub cause : CutsFor For first proceeds.firsts proceeds.seconds old proceeds.newly pending out fault grown
          ⊎ LacksRoom proceeds.firsts proceeds.seconds proceeds.newly waiting to_b fault left grown

-- one waits and there is none of the second input, or there is none of the first
abbrev pub LacksNext : {A B R S : Type 0} → Cursor A R → Cursor B S → Option Feature → A → B → Type 0
LacksNext cursor_a cursor_b None to_a to_b = cursor_a.has_ended to_a
LacksNext cursor_a cursor_b (Some a) to_a to_b = cursor_b.has_ended to_b

abbrev pub Joins : {A B R S : Type 0} → Cursor A R → Cursor B S → (Order → Type 0)
    → (List Feature → List Feature → Type 0) → (List Feature → Feature → Type 0) → (R → Feature) → Feature
    → SweepAt (A × B) → Result (Option R) Fault → SweepAt (A × B) → Type 0
Joins cursor_a cursor_b For Settles Leaves feature first before (Ok waiting) after =
    (j : JoinsSo cursor_a cursor_b For Settles before.sweep first before.inputs.0 before.inputs.1 before.pending
    before.out (option_map feature waiting) after.sweep after.inputs.0 after.inputs.1 after.pending after.out)
    × LacksNext cursor_a cursor_b (option_map feature waiting) after.inputs.0 after.inputs.1
    × IfSome (option_map feature waiting) (Leaves j.proceeds.seconds)
Joins cursor_a cursor_b For Settles Leaves feature first before (Err fault) after =
    Breaks cursor_a cursor_b For Settles before.sweep first before.inputs.0 before.inputs.1 before.pending before.out
    (fault_value fault) after.inputs.0 after.inputs.1 after.pending after.out

-- the last of these leaves it undecided, in every order that knows its chromosome
abbrev pub LeavesOn : List Feature → Feature → Type 0
LeavesOn seconds a =
    (order : Order) → IsTotal order → order.knows a.chrom ≡ true → LeavesLast order seconds a

-- in every order that knows the chromosome the records of the second input decide each
abbrev pub AreDecidedOn : List ℕ → List Feature → List Feature → Type 0
AreDecidedOn name as_given bs =
    (order : Order) → IsTotal order → order.knows name ≡ true → AreDecided order as_given bs

-- What the steps of a sweep do to what it keeps. Callers know them by `GivesA`, `GivesB` and `AdvancesOn`.

-- whether the records lie on the chromosome, if there are any
abbrev pub are_on : List Feature → List ℕ → Bool
are_on [] name = false
are_on (b ∷ held) name = bytes_eq b.chrom name

-- what is held once a is given
abbrev pub held_with : List Feature → Feature → List Feature
held_with held a = cond (are_on held a.chrom) (filter (λ b. nat_lt a.start b.stop) held) []

-- a record that nothing hits has no line in this shape
abbrev pub NeedsHit : Shape → Type 0
NeedsHit shape = (a : Feature) → lines_of shape a [] ≡ []

-- what is written in this shape of a record that nothing hits
abbrev pub IsUnmatched : Unmatched → Shape → Type 0
IsUnmatched Nothing shape = NeedsHit shape
IsUnmatched Itself shape = (a : Feature) → a.start < a.stop → lines_of shape a [] ≡ line_with (bed_text a ∷ [])
IsUnmatched Counted shape = (a : Feature) → lines_of shape a [] ≡ line_with (bed_text a ∷ decimal 0 ∷ [])

-- the sweep with b held, if a or a later record can be hit by it
abbrev pub holding_second : Sweeping → Feature → Feature → Sweeping
holding_second old a b = record old { held = old.held ++ filter (is_held a) (b ∷ []) }

-- the sweep after a fault
abbrev pub stopped : Sweeping → Sweeping
stopped old = record old { phase = Over }

-- whether the limit leaves room for one more
abbrev pub has_room_in : Sweeping → Bool
has_room_in sweep = has_room sweep.limit (length sweep.held)

-- taking b, at a line, which leaves a undecided
abbrev pub TakesSecond : {A : Type 0} → Sweeping → Feature → Feature → ℕ → Result A Fault → Sweeping → Type 0
TakesSecond old a b line (Ok done) new =
    (new ≡ holding_second old a b) × (is_held a b ≡ true → has_room_in old ≡ true)
TakesSecond old a b line (Err fault) new =
    (new ≡ stopped old) × (is_held a b ≡ true) × CannotHold (has_room_in old) line (fault_value fault)

-- keeping a copy of a, which waits; a short one is kept inline
abbrev pub KeepsOne : {A : Type 0} → Sweeping → Feature → Result A Fault → Sweeping → Type 0
KeepsOne old a (Ok done) new = new ≡ record old { current = Some a }
KeepsOne old a (Err fault) new = (new ≡ stopped old) × (fault_value fault ≡ no_memory) × IsLong a

-- Lines of the first input that are to be copied through together.

-- the bytes between two offsets
unfoldable pub pending_in : List ℕ → ℕ → ℕ → List ℕ
pending_in consumed from to = drop from (take to consumed)

-- the lines that are pending there
abbrev pub lines_pending : {A R : Type 0} {cursor : Cursor A R} {reads : Record R} → Pending A R cursor reads → List ℕ
lines_pending {cursor = cursor} firsts = pending_in (cursor.consumed firsts.cursor) firsts.from firsts.to

-- the line that follows them
unfoldable pub line_in : List ℕ → ℕ → List ℕ
line_in consumed to = drop to consumed

-- no line is left pending in a shape that writes none of a record that nothing hits
abbrev pub FitsShape : Shape → List ℕ → Type 0
FitsShape shape pending = NeedsHit shape → pending ≡ []

-- whether these bytes, which may be none, could be put
abbrev pub PutsOr : Bool → Output → List ℕ → Output → Type 0
PutsOr true out bytes grown = Grown out bytes grown
PutsOr false out bytes grown = FailsToAdd out bytes write_failed grown

-- Where the records of the second input lie beside those of the first.

module _ {B S : Type 0} (cursor : Cursor B S) (order : Order) (phase : Phase) (chrom : List ℕ) (seconds : B) where
  -- the second input goes on, and the chromosome of these records is known, which is compared so
  pub record Compares (is : Ordering) : Type 0 where
    pub going : phase ≡ SecondEnded → ⊥
    pub known : order.knows (cursor.name seconds) ≡ true
    pub compared : order.compare (cursor.name seconds) chrom ≡ is

  -- the next one lies on a later chromosome
  pub record LiesAfter : Type 0 where
    pub b : Feature
    pub after : B
    pub gives_b : cursor.gives seconds (b ∷ []) after
    pub on : b.chrom ≡ cursor.name seconds
    pub compares : Compares Greater

  abbrev pub Relates : Relation → Type 0
  Relates Unknown = cursor.has_ended seconds × (phase ≡ SecondEnded → ⊥)
  Relates Before = Compares Less
  Relates Beside = Compares Equal
  Relates After = (phase ≡ SecondEnded) ⊎ LiesAfter

-- the same cursor; its end also says that the second input hasn't ended
abbrev pub going_on : {B S : Type 0} → Phase → Cursor B S → Cursor B S
going_on phase cursor = record cursor { has_ended = λ to. cursor.has_ended to × (phase ≡ SecondEnded → ⊥) }
