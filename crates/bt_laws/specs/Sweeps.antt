-- What a sweep decides, takes and writes.
use Rattle.std.specs.Prelude.{◌≡◌, ℕ, ◌<◌, false, true, List, [], ◌∷◌, ◌++◌, Some, filter, length, map, Bool, IsTrue, Option, None, Result, Ok, codes}
use Rattle.std.specs.List.{list_all, take_while}
use Rattle.bt_lines.specs.declared.fault.Input.TheVariants.{Second}
use Rattle.bt_lines.specs.declared.fault.Kind.TheVariants.{TooManyHeld}
use Rattle.bt_bed.specs.model.Feature.{Feature, intervals_of}
use Rattle.bt_bed.specs.model.BedLine.{fault_at_line}
use Rattle.bt_bed.specs.model.Good.{Good, Member, items_in}
use Rattle.bt_bed.specs.model.Meeting.{Rule, join_report, written, Report}
use Rattle.bt_bed.specs.model.Order.{Order, rank_order}
use Rattle.bt_bed.specs.calls.Orders.{IsTotal, ArePlaced}
use Rattle.bt_sweep.specs.model.Hits.{decided, is_held, within_limit, decides, is_hit}
use Rattle.bt_sweep.specs.model.Lines.{intersect, intersect_met, sweep_rule}
use Rattle.bt_sweep.specs.calls.LineLaws.{subtract}
use Rattle.bt_sweep.specs.declared.hits.hit_rule.HitRule.{HitRule}
use Rattle.bt_sweep.specs.declared.output.shape.Shape.{Shape}
use Rattle.bt_sweep.specs.calls.Sweeping.{Sweeping, leaves_some, GivesB, any_overlap}
use Rattle.bt_bed.specs.calls.Stage.{Stage}
use Rattle.bt_lines.specs.model.Fault.{FaultValue}
use Rattle.bt_lines.specs.calls.Output.{Output}
use Rattle.bt_lines.specs.declared.fault.Fault.{Fault}
use Rattle.bt_bed.specs.declared.record.taken.Taken.{Taken}
use Rattle.bt_bed.specs.declared.record.taken.Taken.TheVariants.{Yes}
use Rattle.bt_bed.specs.declared.record.strand.Strand.TheVariants.{Dot}
use Rattle.bt_sweep.specs.declared.output.shape.Shape.TheVariants.{Cut, Pieces}

-- Laws of a limit on the held records.

-- a is the first record of the first input that these of the second leave undecided, and more of
-- them than `most` are held for it
pub record HoldsTooMany (order : Order) (most : ℕ) (before : List Feature) (a : Feature)
    (second : List Feature) : Type 0 where
  pub decided_before : list_all (λ x. decided order x second) before ≡ true
  pub undecided : decided order a second ≡ false
  pub many : most < length (filter (is_held a) second)

-- no record of the first input is one for which too many of these of the second are held
abbrev pub HoldsEnough : Order → ℕ → List Feature → List Feature → Type 0
HoldsEnough order most first second =
    (before after : List Feature) (a : Feature) → first ≡ before ++ a ∷ after
    → HoldsTooMany order most before a second → ⊥

-- The case that the records up to a line of the second input are too many, and those up to no line
-- before it. The lines of the records before the undecided one are written, and the limit's fault is
-- reported at that line.
abbrev pub limit_stops : Type 0
limit_stops =
    (order : Order) (shape : Shape) (rule : HitRule) (most : ℕ) (first second : Good Feature)
    (before after : List Feature) (a : Feature) (past more : List (Member Feature))
    (m : Member Feature)
    → items_in first ≡ before ++ a ∷ after → second.members ≡ past ++ m ∷ more
    → ((front rest : List (Member Feature)) → past ≡ front ++ rest
    → HoldsEnough order most (items_in first) (map (λ m. m.item) front))
    → HoldsTooMany order most before a (map (λ m. m.item) (past ++ m ∷ []))
    → intersect_met order shape rule first (within_limit order (Some most) (items_in first) second)
    ≡ record {
      output = intersect shape rule before (map (λ m. m.item) (past ++ m ∷ []));
      fault = Some (fault_at_line Second m.line TooManyHeld);
    }

-- If the records up to no line are too many, the limit changes nothing.
abbrev pub limit_is_kept : Type 0
limit_is_kept =
    (order : Order) (most : ℕ) (first : List Feature) (second : Good Feature)
    → ((front rest : List (Member Feature)) → second.members ≡ front ++ rest
    → HoldsEnough order most first (map (λ m. m.item) front))
    → within_limit order (Some most) first second ≡ second

-- Laws of what a sweep takes, and of what it writes early.

-- If each record taken leaves one of the given undecided, and the next one with those decides
-- all, the records taken are those before the first that decides all.
abbrev pub taken_are_first : Type 0
taken_are_first =
    (order : Order) (as_given taken more : List Feature) (next : Feature) → IsTotal order
    → ArePlaced order (intervals_of as_given)
    → ArePlaced order (intervals_of (taken ++ next ∷ more))
    → IsTrue (list_all (leaves_some order as_given) taken)
    → IsTrue (list_all (λ a. decided order a (taken ++ next ∷ [])) as_given)
    → take_while (leaves_some order as_given) (taken ++ next ∷ more) ≡ taken

-- a record that leaves the waiting one undecided and hasn't to be held is taken,
-- and nothing is written
abbrev pub quiet_are_taken : Type 0
quiet_are_taken =
    (order : Order) (stage : Stage Feature Feature) (a b : Feature) (line : ℕ) (old : Sweeping) (out : Output)
    (answer : Result Taken Fault) (new : Sweeping) (grown : Output)
    → GivesB order stage a b line old out answer new grown → decides order a b ≡ false
    → is_held a b ≡ false
    → (answer ≡ Ok Yes) × (grown ≡ out)

-- what is decided stays so
abbrev pub decided_stays : Type 0
decided_stays = (order : Order) (a : Feature) (bs more : List Feature)
    → IsTrue (decided order a bs) → IsTrue (decided order a (bs ++ more))

-- without a fraction it doesn't matter whether it is required of both
abbrev pub both_of_nothing : Type 0
both_of_nothing = (both same_strand : Bool) (a b : Feature)
    → is_hit (record { billionths = 0; both = both; same_strand = same_strand }) a b
    ≡ is_hit (record { billionths = 0; both = false; same_strand = same_strand }) a b

-- what the first good records of the second input make of them
abbrev pub early_rule : Order → Shape → HitRule → List Feature → Rule Feature
early_rule order shape rule second =
    record (sweep_rule order shape rule second None) { decided = λ a. decided order a second }

-- the bytes that are decided by a prefix of each input, and so are written, begin what is written for all of both,
-- whatever their faults
abbrev pub written_are_a_prefix : Type 0
written_are_a_prefix =
    (order : Order) (shape : Shape) (rule : HitRule)
    (first more_first second more_second : List Feature)
    (first_fault second_fault : Option FaultValue)
    → IsTotal order → ArePlaced order (intervals_of first)
    → ArePlaced order (intervals_of (second ++ more_second))
    → (rest : List ℕ)
    × ((join_report (sweep_rule order shape rule (second ++ more_second) second_fault)
    (first ++ more_first)
    first_fault).output ≡ written (early_rule order shape rule second) first ++ rest)

-- Small inputs, worked by hand: what is written and reported of them.

-- a record of chr1, without other columns
abbrev pub at : ℕ → ℕ → Feature
at start stop = record { chrom = codes "chr1"; start = start; stop = stop; strand = Dot; rest = [] }

-- two records on two lines, and a fault after them
abbrev pub two : Feature → Feature → Option FaultValue → Good Feature
two first next fault = record {
  members = record { line = 1; item = first } ∷ record { line = 2; item = next } ∷ [];
  fault = fault;
}

abbrev pub one : Feature → Option FaultValue → Good Feature
one first fault = record { members = record { line = 1; item = first } ∷ []; fault = fault }

abbrev pub only_chr1 : Order
only_chr1 = rank_order (codes "chr1" ∷ [])

-- The second input has a fault after 2 to 4 and 50 to 60. Of 0 to 10 and 100 to 110 it decides the
-- first, whose lines are written, and then its fault is reported.
abbrev pub fault_behind_undecided : Type 0
fault_behind_undecided = (fault : FaultValue)
    → intersect_met only_chr1 Cut any_overlap (two (at 0 10) (at 100 110) None)
    (two (at 2 4) (at 50 60) (Some fault))
    ≡ record { output = codes "chr1\t2\t4\n"; fault = Some fault }

-- if both have one and all records of the first are decided, that of the first is reported
abbrev pub fault_of_first : Type 0
fault_of_first = (fault other : FaultValue)
    → intersect_met only_chr1 Cut any_overlap (one (at 0 10) (Some fault))
    (two (at 2 4) (at 50 60) (Some other))
    ≡ record { output = codes "chr1\t2\t4\n"; fault = Some fault }

-- half of a record of ten bases is five
abbrev pub half : HitRule
half = record { billionths = 500000000; both = false; same_strand = false }

-- records that overlap leave the parts beside them,
-- and one that isn't half of the record takes nothing
abbrev pub parts_are_left : Type 0
parts_are_left =
    subtract false any_overlap (at 0 20 ∷ []) (at 3 6 ∷ at 5 8 ∷ at 18 30 ∷ [])
    ≡ codes "chr1\t0\t3\nchr1\t8\t18\n"

abbrev pub half_is_taken : Type 0
half_is_taken =
    subtract false half (at 0 10 ∷ []) (at 0 4 ∷ at 4 9 ∷ []) ≡ codes "chr1\t0\t4\nchr1\t9\t10\n"

-- with -A nothing is left of a record that is hit, and all of one that isn't
abbrev pub whole_is_left : Type 0
whole_is_left =
    subtract true any_overlap (at 0 10 ∷ at 20 30 ∷ []) (at 5 20 ∷ []) ≡ codes "chr1\t20\t30\n"

-- three records on three lines, and a fault after them
abbrev pub three : Feature → Feature → Feature → Option FaultValue → Good Feature
three first next last fault = record {
  members = record { line = 1; item = first } ∷ record { line = 2; item = next }
      ∷ record { line = 3; item = last } ∷ [];
  fault = fault;
}

-- the meeting of two inputs on chr1, if at most `most` records of the second are held
abbrev pub met_holding : Shape → ℕ → Good Feature → Good Feature → Report
met_holding shape most first second =
    intersect_met only_chr1 shape any_overlap first
    (within_limit only_chr1 (Some most) (items_in first) second)

-- Of 0 to 100 and 50 to 60 the first has three records within it: the third is too many for two,
-- and not for three.
abbrev pub third_is_too_many : Type 0
third_is_too_many =
    met_holding Cut 2 (two (at 0 100) (at 50 60) None) (three (at 10 20) (at 55 58) (at 90 95) None)
    ≡ record { output = []; fault = Some (fault_at_line Second 3 TooManyHeld) }

abbrev pub three_are_enough : Type 0
three_are_enough =
    met_holding Cut 3 (two (at 0 100) (at 50 60) None) (three (at 10 20) (at 55 58) (at 90 95) None)
    ≡ record {
      output = codes "chr1\t10\t20\nchr1\t55\t58\nchr1\t90\t95\nchr1\t55\t58\n";
      fault = None;
    }

-- The second of 1 to 2, 30 to 40 and 50 to 60 decides 0 to 10, whose lines are written. With the
-- third two are held for 20 to 100.
abbrev pub decided_before_the_limit : Type 0
decided_before_the_limit =
    met_holding Cut 1 (two (at 0 10) (at 20 100) None) (three (at 1 2) (at 30 40) (at 50 60) None)
    ≡ record { output = codes "chr1\t1\t2\n"; fault = Some (fault_at_line Second 3 TooManyHeld) }

-- none may be held: the first is too many, unless it ends before the undecided record,
-- or decides it
abbrev pub first_is_too_many : Type 0
first_is_too_many =
    met_holding Cut 0 (two (at 0 10) (at 20 100) None) (three (at 1 2) (at 30 40) (at 50 60) None)
    ≡ record { output = []; fault = Some (fault_at_line Second 1 TooManyHeld) }

abbrev pub none_is_held : Type 0
none_is_held =
    met_holding Pieces 0 (one (at 20 30) None) (two (at 0 5) (at 30 40) None)
    ≡ record { output = codes "chr1\t20\t30\n"; fault = None }

-- a fault after the second of two records, of which one may be held, or two
abbrev pub limit_before_the_fault : Type 0
limit_before_the_fault = (fault : FaultValue)
    → met_holding Cut 1 (one (at 0 100) None) (two (at 10 20) (at 20 30) (Some fault))
    ≡ record { output = []; fault = Some (fault_at_line Second 2 TooManyHeld) }

abbrev pub fault_within_the_limit : Type 0
fault_within_the_limit = (fault : FaultValue)
    → met_holding Cut 2 (one (at 0 100) None) (two (at 10 20) (at 20 30) (Some fault))
    ≡ record { output = []; fault = Some fault }
