-- What a sweep holds, and what its calls do.
use Rattle.std.specs.Prelude.{◌≡◌, ℕ, Bool, true, false, List, Option, is_some, ◌≤◌, ◌+◌, not, IfSome, IsTrue, cond, [], ◌∷◌, ◌++◌, length, Some, None, option_to_list, ◌⊎◌, ⊤, filter, nat_lt, Result, Ok, Err, ◌<◌}
use Rattle.bt_bed.specs.model.Feature.{Feature, intervals_of}
use Rattle.bt_bed.specs.model.BedLine.{fault_at_line}
use Rattle.bt_bed.specs.calls.Bed.{inline_size}
use Rattle.bt_sweep.specs.declared.hits.hit_rule.HitRule.{HitRule}
use Rattle.bt_sweep.specs.declared.sweep.state.Phase.{Phase}
use Rattle.bt_sweep.specs.declared.sweep.state.Phase.TheVariants.{Both, SecondEnded, Over}
use Rattle.bt_sweep.specs.declared.output.shape.Shape.{Shape}
use Rattle.bt_sweep.specs.declared.sweep.Want.{Want}
use Rattle.bt_sweep.specs.declared.sweep.Want.TheVariants.{A as WantA, B as WantB, Nothing}
use Rattle.std.specs.List.{list_any, list_all}
use Rattle.bt_bed.specs.calls.Orders.{ArePlaced}
use Rattle.bt_bed.specs.calls.Stage.{Stage, given, with_first, with_second, with_second_ended, with_written}
use Rattle.bt_bed.specs.model.Order.{Order}
use Rattle.bt_sweep.specs.model.Hits.{decides, decided}
pub use Rattle.bt_sweep.specs.model.Hits.{is_held, held_for}
use Rattle.bt_lines.specs.model.Fault.{FaultValue}
use Rattle.bt_lines.specs.calls.Faults.{no_memory}
use Rattle.bt_lines.specs.declared.fault.Input.TheVariants.{Second}
use Rattle.bt_lines.specs.declared.fault.Kind.TheVariants.{TooManyHeld}
use Rattle.bt_lines.specs.calls.Names.{fault_value}
use Rattle.bt_lines.specs.calls.Output.{Output, FailsToAdd, Grown}
use Rattle.bt_lines.specs.declared.fault.Fault.{Fault}
use Rattle.bt_sweep.specs.model.Lines.{lines_for, intersect}
use Rattle.bt_sweep.specs.calls.LineLaws.{LinesBefore}
use Rattle.bt_bed.specs.declared.read.cursor.Cursor.{Ghosts as Cursor}
use Rattle.bt_bed.specs.declared.record.taken.Taken.{Taken}
use Rattle.bt_bed.specs.declared.record.taken.Taken.TheVariants.{Yes, No}

-- What a sweep holds between calls.

-- the rule that one common base satisfies
abbrev pub any_overlap : HitRule
any_overlap = record { billionths = 0; both = false; same_strand = false }

-- The shape of what it writes, the rule of what hits a record, and how many records may be held, if
-- that is limited. Then the record of the first input that waits, if one does, the records of the second
-- input that are held, and how far it has come.
pub record Sweeping : Type 0 where
  pub shape : Shape
  pub rule : HitRule
  pub limit : Option ℕ
  pub current : Option Feature
  pub held : List Feature
  pub phase : Phase

-- lines of the same shape, hits by the same rule, and the same limit
pub record SameConfig (old new : Sweeping) : Type 0 where
  pub shape_is : new.shape ≡ old.shape
  pub rule_is : new.rule ≡ old.rule
  pub limit_is : new.limit ≡ old.limit

-- what is wanted: the second input while lines are to be written, then the first, and nothing at
-- the end or after a fault
abbrev pub want_of : Bool → Bool → Want
want_of true done = WantB
want_of false true = Nothing
want_of false false = WantA

abbrev pub phase_is_over : Phase → Bool
phase_is_over Both = false
phase_is_over SecondEnded = false
phase_is_over Over = true

abbrev pub want_in : Sweeping → Want
want_in sweep = want_of (is_some sweep.current) (phase_is_over sweep.phase)

-- After which records of both inputs a sweep is.

-- the records of both inputs are in order
pub record IsInOrder (order : Order) (stage : Stage Feature Feature) : Type 0 where
  pub first : ArePlaced order (intervals_of (given stage))
  pub second : ArePlaced order (intervals_of stage.taken)

-- the last of the record and those after it
abbrev pub last_after : Feature → List Feature → Feature
last_after a [] = a
last_after a (next ∷ more) = last_after next more

-- the record that was given last, if one was
abbrev pub last_given : List Feature → Option Feature
last_given [] = None
last_given (a ∷ more) = Some (last_after a more)

-- whether b leaves one of the given records undecided
abbrev pub leaves_some : Order → List Feature → Feature → Bool
leaves_some order as_given b = list_any (λ a. not (decides order a b)) as_given

-- What is held after these records of both inputs. Each of those that were taken left one of the
-- given undecided.
pub record HoldsFor (order : Order) (as_given taken held : List Feature) : Type 0 where
  pub held_is : held ≡ held_for (last_given as_given) taken
  pub reached : IsTrue (list_all (leaves_some order as_given) taken)

-- how far it has come with its inputs, by whether each has ended
abbrev pub phase_of : Bool → Bool → Phase
phase_of true second_ended = Over
phase_of false true = SecondEnded
phase_of false false = Both

-- the sweep is after these
pub record StandsAt (order : Order) (stage : Stage Feature Feature) (sweep : Sweeping) : Type 0 where
  pub current_is : sweep.current ≡ stage.waiting
  pub phase_is : sweep.phase ≡ phase_of stage.first_ended stage.second_ended
  pub holds : HoldsFor order (given stage) stage.taken sweep.held
  -- no more records are held than the limit allows
  pub within : IfSome sweep.limit (λ most. length sweep.held ≤ most)
  -- a record waits only while neither input has ended
  pub unended : is_some stage.waiting ≡ true → (stage.first_ended ≡ false) × (stage.second_ended ≡ false)

-- it is after these, and writes and holds by the same rules
pub record MovesTo (order : Order) (old : Sweeping) (stage : Stage Feature Feature) (new : Sweeping) : Type 0 where
  pub stands : StandsAt order stage new
  pub same : SameConfig old new

-- the stage with one more record of the first input: its lines are written at once if the second
-- input has ended
abbrev pub with_a : Stage Feature Feature → Feature → Stage Feature Feature
with_a stage a = with_first stage.second_ended stage a

-- How records of the second input meet those of the first: which they decide, and for which they are taken.

-- the records of the second input decide each
abbrev pub AreDecided : Order → List Feature → List Feature → Type 0
AreDecided order as_given bs = list_all (λ a. decided order a bs) as_given ≡ true

-- a record of the second input was taken while one of these of the first was the first that those taken
-- leave undecided, and no more of them were held for it then than the limit allows
pub record TakenFor (order : Order) (limit : Option ℕ) (as_given taken : List Feature) (b : Feature)
    : Type 0 where
  pub before : List Feature
  pub a : Feature
  pub after : List Feature
  pub parts : as_given ≡ before ++ a ∷ after
  pub settled : AreDecided order before (taken ++ b ∷ [])
  pub undecided : decides order a b ≡ false
  pub within : IfSome limit (λ most. length (filter (is_held a) (taken ++ b ∷ [])) ≤ most)

-- so was each of these, one after another
abbrev pub TakenEach : Order → Option ℕ → List Feature → List Feature → List Feature → Type 0
TakenEach order limit as_given taken [] = ⊤
TakenEach order limit as_given taken (b ∷ more) =
    TakenFor order limit as_given taken b × TakenEach order limit as_given (taken ++ b ∷ []) more

-- the record of the second input that was taken last leaves it undecided
abbrev pub LeavesLast : Order → List Feature → Feature → Type 0
LeavesLast order seconds a =
    (before : List Feature) (b : Feature) → seconds ≡ before ++ b ∷ [] → decides order a b ≡ false

-- whether one more record may be held beside `count`
abbrev pub has_room : Option ℕ → ℕ → Bool
has_room None count = true
has_room (Some most) count = nat_lt count most

-- a record from a line that has to be held can't be: there is no room for it, or no memory
abbrev pub CannotHold : Bool → ℕ → FaultValue → Type 0
CannotHold room line fault =
    ((room ≡ false) × (fault ≡ fault_at_line Second line TooManyHeld))
    ⊎ ((room ≡ true) × (fault ≡ no_memory))

-- the same beside those that are held for `last`
abbrev pub CannotBeHeld : Option ℕ → Feature → List Feature → ℕ → FaultValue → Type 0
CannotBeHeld limit last taken line fault =
    CannotHold (has_room limit (length (held_for (Some last) taken))) line fault

-- the record that a cursor gives next, if it is known
abbrev pub ComesNext : {B R : Type 0} → Cursor B R → B → Option Feature → Type 0
ComesNext {B} cursor to next = IfSome next (λ b. (after : B) × cursor.gives to (b ∷ []) after)

-- the chromosome of each record that a cursor gives is known
abbrev pub GivesKnown : {B R : Type 0} → Cursor B R → Order → B → Type 0
GivesKnown {B} cursor order from =
    (records : List Feature) (to : B) → cursor.gives from records to
    → list_all (λ r. order.knows r.chrom) records ≡ true

-- What the calls of a sweep do.

-- its name and other columns are longer than what is kept inline, so that a copy of it allocates
abbrev pub IsLong : Feature → Type 0
IsLong a = inline_size < length a.chrom + length a.rest

-- the second input goes on, so that the record given is to be kept, and there is no memory for it
pub record FailsToKeepA (stage : Stage Feature Feature) (a : Feature) (fault : FaultValue) (out grown : Output) : Type 0 where
  pub goes_on : stage.second_ended ≡ false
  pub is : fault ≡ no_memory
  pub long : IsLong a
  pub same_output : grown ≡ out

-- the lines that are written when a is given: its own if the second input has ended,
-- and else none
abbrev pub lines_with : Sweeping → Stage Feature Feature → Feature → List ℕ
lines_with sweep stage a = cond stage.second_ended (lines_for sweep.shape sweep.rule a stage.taken) []

-- what a call with the next record of the first input does; after a fault nothing is wanted
abbrev pub GivesA : {A : Type 0} → Order → Stage Feature Feature → Feature → Sweeping → Output → Result A Fault → Sweeping
    → Output → Type 0
GivesA order stage a old out (Ok done) new grown =
    MovesTo order old (with_a stage a) new × Grown out (lines_with old stage a) grown
GivesA order stage a old out (Err fault) new grown =
    (want_in new ≡ Nothing)
    × (FailsToAdd out (lines_with old stage a) (fault_value fault) grown
    ⊎ FailsToKeepA stage a (fault_value fault) out grown)

-- what the end of the second input does, while a waits
abbrev pub EndsB : {A : Type 0} → Order → Stage Feature Feature → Feature → Sweeping → Output → Result A Fault → Sweeping
    → Output → Type 0
EndsB order stage a old out (Ok done) new grown =
    MovesTo order old (with_second_ended stage) new
    × Grown out (lines_for old.shape old.rule a stage.taken) grown
EndsB order stage a old out (Err fault) new grown =
    (want_in new ≡ Nothing)
    × FailsToAdd out (lines_for old.shape old.rule a stage.taken) (fault_value fault) grown

-- one more record of the second input, at a line, while a waits
module _ (order : Order) (stage : Stage Feature Feature) (a b : Feature) (line : ℕ) (old : Sweeping) (out : Output) where
  -- it leaves a undecided, and is taken
  pub record TakesB (new : Sweeping) (grown : Output) : Type 0 where
    pub undecided : decides order a b ≡ false
    pub stands : MovesTo order old (with_second stage b) new
    pub same_output : grown ≡ out

  -- it decides a: the lines of a are written, which stay whatever follows in order
  pub record WritesA (new : Sweeping) (grown : Output) : Type 0 where
    pub decides : decides order a b ≡ true
    pub stands : MovesTo order old (with_written stage) new
    pub puts : Grown out (lines_for old.shape old.rule a stage.taken) grown
    pub settled : LinesBefore order old.shape old.rule a stage.taken b

  -- it decides a, whose lines couldn't be written
  pub record FailsToWriteA (fault : FaultValue) (grown : Output) : Type 0 where
    pub decides : decides order a b ≡ true
    pub fails : FailsToAdd out (lines_for old.shape old.rule a stage.taken) fault grown

  -- it leaves a undecided and has to be held, for which the limit leaves no room, or there is no
  -- memory
  pub record FailsToHold (fault : FaultValue) (grown : Output) : Type 0 where
    pub undecided : decides order a b ≡ false
    pub to_hold : is_held a b ≡ true
    pub lacks : CannotBeHeld old.limit a stage.taken line fault
    pub same_output : grown ≡ out

  -- what the result says
  abbrev pub GivesB : Result Taken Fault → Sweeping → Output → Type 0
  GivesB (Ok Yes) new grown = TakesB new grown
  GivesB (Ok No) new grown = WritesA new grown
  GivesB (Err fault) new grown =
      (want_in new ≡ Nothing)
      × (FailsToWriteA (fault_value fault) grown ⊎ FailsToHold (fault_value fault) grown)

-- What a sweep does with records of both inputs that come one after another.

-- the stage with the lines of more records written, another one that waits, and more records of
-- the second input taken
abbrev pub stage_after : Stage Feature Feature → List Feature → Option Feature → List Feature → Stage Feature Feature
stage_after stage newly waiting seconds =
    record stage { written = stage.written ++ newly; waiting = waiting; taken = stage.taken ++ seconds }

-- the second input has ended, or these of it decide each
abbrev pub Settles : Order → Phase → List Feature → List Feature → Type 0
Settles order phase as_given bs = (phase ≡ SecondEnded) ⊎ AreDecided order as_given bs

-- Records of both inputs were consumed, after `before` of the first: those that are settled are `newly`, and one
-- may wait.
pub record Proceeds {A B R S : Type 0} (cursor_a : Cursor A R) (cursor_b : Cursor B S)
    (Settled Each : List Feature → List Feature → Type 0) (before : List Feature) (waiting : Option Feature)
    (from_a to_a : A) (from_b to_b : B) : Type 0 where
  pub firsts : List Feature
  pub seconds : List Feature
  pub newly : List Feature
  pub gives_firsts : cursor_a.gives from_a firsts to_a
  pub gives_seconds : cursor_b.gives from_b seconds to_b
  pub are : before ++ firsts ≡ newly ++ option_to_list waiting
  pub next : Option Feature
  pub comes : ComesNext cursor_b to_b next
  pub settles : Settled newly (seconds ++ option_to_list next)
  -- each of the second was taken for one that those taken leave undecided, within the limit
  pub each : Each firsts seconds

-- the next record of the second input shares a base with the one that waits
pub record SharesBase {B : Type 0} (gives_b : B → List Feature → B → Type 0) (waiting : Option Feature) (to_b : B)
    : Type 0 where
  pub last : Feature
  pub waits : waiting ≡ Some last
  pub b : Feature
  pub after : B
  pub gives : gives_b to_b (b ∷ []) after
  pub chrom : b.chrom ≡ last.chrom
  pub starts : b.start < last.stop
  pub ends : last.start < b.stop

-- the order is this one
abbrev pub IsThis : Order → Order → Type 0
IsThis order other = other ≡ order

-- At every stage that it is at, if all that were given and taken are in order.
abbrev pub AtEach : Order → Sweeping → List Feature → List Feature → (Stage Feature Feature → Type 0) → Type 0
AtEach order old firsts seconds P =
    (stage : Stage Feature Feature) → StandsAt order stage old
    → ArePlaced order (intervals_of (given stage ++ firsts))
    → ArePlaced order (intervals_of (stage.taken ++ seconds))
    → P stage

-- the lines of these were written
abbrev pub PutsEach : Order → Sweeping → List Feature → List Feature → List Feature → Output → Output
    → Type 0
PutsEach order old firsts seconds newly out grown =
    AtEach order old firsts seconds
    (λ stage. Grown out (intersect old.shape old.rule newly (stage.taken ++ seconds)) grown)

-- why it failed, after records of which `newly` are settled and one may wait
module _ {B S : Type 0} (cursor_b : Cursor B S) (order : Order) (old : Sweeping) (out : Output)
    (firsts seconds newly : List Feature) (waiting : Option Feature) (to_b : B) (fault : FaultValue)
    (grown : Output) where
  -- they were written; the next record of the second input shares a base with the one that waits, and
  -- can't be held
  pub record FailsToTake : Type 0 where
    pub shares : SharesBase cursor_b.gives waiting to_b
    pub puts : PutsEach order old firsts seconds newly out grown
    pub lacks : AtEach order old firsts seconds
        (λ stage. CannotBeHeld old.limit shares.last (stage.taken ++ seconds) (cursor_b.line shares.after) fault)

  -- they were written; neither input has ended, none waited before, all records of the second input that
  -- there are were taken, and the one of the first that waits can't be kept
  pub record FailsToKeep : Type 0 where
    pub last : Feature
    pub waits : waiting ≡ Some last
    pub is : fault ≡ no_memory
    pub long : IsLong last
    pub none : old.current ≡ None
    pub both : old.phase ≡ Both
    pub ended : cursor_b.has_ended to_b
    pub puts : PutsEach order old firsts seconds newly out grown

  -- the lines couldn't all be written, or one of these
  abbrev pub Fails : Type 0
  Fails =
      AtEach order old firsts seconds
      (λ stage. FailsToAdd out (intersect old.shape old.rule newly (stage.taken ++ seconds)) fault grown)
      ⊎ (FailsToTake ⊎ FailsToKeep)

-- the input that is asked for gives no more
abbrev pub StopsFor : {A B R S : Type 0} → Cursor A R → Cursor B S → Want → A → B → Type 0
StopsFor cursor_a cursor_b WantA to_a to_b = cursor_a.has_ended to_a
StopsFor cursor_a cursor_b WantB to_a to_b = cursor_b.has_ended to_b
StopsFor cursor_a cursor_b Nothing to_a to_b = ⊤

-- the one that waited before is written, and what comes after it isn't looked at
abbrev pub HasWritten : Sweeping → Sweeping → Type 0
HasWritten old new = (is_some old.current ≡ true) × (new.current ≡ None)

module _ {A B R S : Type 0} (cursor_a : Cursor A R) (cursor_b : Cursor B S) (order : Order) (old : Sweeping)
    (from_a : A) (from_b : B) where
  -- from the record that waited, and from what was taken, on
  abbrev pub Proceeded : Option Feature → A → B → Type 0
  Proceeded waiting to_a to_b =
      Proceeds cursor_a cursor_b (Settles order old.phase)
      (λ firsts seconds. AtEach order old firsts seconds
      (λ stage. TakenEach order old.limit (option_to_list old.current ++ firsts) stage.taken seconds))
      (option_to_list old.current) waiting from_a to_a from_b to_b

  module _ (out : Output) where
    -- the lines of those that are settled are written
    pub record AdvancesSo (new : Sweeping) (to_a : A) (to_b : B) (grown : Output) : Type 0 where
      pub proceeds : Proceeded new.current to_a to_b
      -- the record of the second input that was taken last leaves the one that waits undecided
      pub leaves : IfSome new.current (LeavesLast order proceeds.seconds)
      pub stands : AtEach order old proceeds.firsts proceeds.seconds
          (λ stage. MovesTo order old
          (stage_after stage proceeds.newly new.current proceeds.seconds) new)
      pub puts : PutsEach order old proceeds.firsts proceeds.seconds proceeds.newly out grown

    -- it failed once the lines of these records of the first input were settled
    pub record FailsAt (fault : FaultValue) (to_a : A) (to_b : B) (grown : Output) : Type 0 where
      pub waiting : Option Feature
      pub proceeds : Proceeded waiting to_a to_b
      pub cause : Fails cursor_b order old out proceeds.firsts proceeds.seconds proceeds.newly waiting to_b fault grown

    -- what the answer says
    abbrev pub AdvancesOn : {T : Type 0} → Result T Fault → Sweeping → A → B → Output → Type 0
    AdvancesOn (Ok done) new to_a to_b grown =
        AdvancesSo new to_a to_b grown × (StopsFor cursor_a cursor_b (want_in new) to_a to_b ⊎ HasWritten old new)
    AdvancesOn (Err fault) new to_a to_b grown = FailsAt (fault_value fault) to_a to_b grown

-- a cursor that gives no record
abbrev pub no_cursor : Cursor (Unit {0}) (Unit {0})
no_cursor = record {
  name = λ from. [];
  gives = λ from records to. records ≡ [];
  has_ended = λ from. ⊤;
  room = λ from. 0;
  line = λ from. 0;
  consumed = λ from. [];
}
