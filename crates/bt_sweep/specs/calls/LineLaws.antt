-- What is left of a record, which lines stay, and what subtract writes.
use Rattle.std.specs.Prelude.{◌≡◌, ℕ, ◌<◌, ◌≤◌, List, map, IsTrue, ◌∷◌, ◌++◌, Option, None, Bool, [], flat_map, true, false}
use Rattle.bt_lines.specs.model.Fault.{FaultValue}
use Rattle.bt_bed.specs.model.Feature.{Feature, interval_of, Span, span_of, intervals_of}
use Rattle.bt_bed.specs.model.Positions.{IsCovered, AreStretchesOf}
use Rattle.bt_bed.specs.calls.Orders.{ArePlaced, IsTotal}
use Rattle.bt_bed.specs.model.Order.{Order}
use Rattle.bt_bed.specs.model.Meeting.{join_report}
use Rattle.bt_bed.specs.model.BedLine.{bed_text}
use Rattle.bt_sweep.specs.model.Lines.{pieces, lines_for, intersect, sweep_rule, line_with, piece_line, subtract_shape}
use Rattle.bt_sweep.specs.model.Hits.{decided, decides, hits_among}
use Rattle.bt_sweep.specs.declared.hits.hit_rule.HitRule.{HitRule}
use Rattle.bt_sweep.specs.declared.output.shape.Shape.{Shape}

-- What is left of a record without the bases of others (bedtools manual, subtract).

-- where records of one chromosome lie on it
abbrev pub spans_of : List Feature → List Span
spans_of records = map (λ r. span_of (interval_of r)) records

-- a position of a that none of the others has; all lie on one chromosome
pub record IsLeft (a : Feature) (others : List Feature) (p : ℕ) : Type 0 where
  pub from_start : a.start ≤ p
  pub before_stop : p < a.stop
  pub bare : IsCovered (spans_of others) p → ⊥

-- the pieces of a are the stretches of those positions
abbrev pub pieces_are : Type 0
pieces_are =
    (a : Feature) (others : List Feature) → AreStretchesOf (IsLeft a others) (pieces a others)

-- no other list is
abbrev pub pieces_only : Type 0
pieces_only = (a : Feature) (others : List Feature) (spans : List Span)
    → AreStretchesOf (IsLeft a others) spans → spans ≡ pieces a others

-- Lines that stay, whatever follows.

-- once a is decided, what follows in order changes none of its lines
abbrev pub lines_stay : Type 0
lines_stay =
    (order : Order) (shape : Shape) (rule : HitRule) (a : Feature) (bs more : List Feature)
    → IsTotal order
    → IsTrue (order.knows a.chrom) → ArePlaced order (intervals_of (bs ++ more))
    → IsTrue (decided order a bs) → lines_for shape rule a (bs ++ more) ≡ lines_for shape rule a bs

-- the record that decides a, and what follows it in order, change none of its lines
abbrev pub LinesBefore : Order → Shape → HitRule → Feature → List Feature → Feature → Type 0
LinesBefore order shape rule a bs b =
    (more : List Feature) → ArePlaced order (intervals_of (bs ++ b ∷ more))
    → lines_for shape rule a (bs ++ b ∷ more) ≡ lines_for shape rule a bs

abbrev pub lines_are_before : Type 0
lines_are_before =
    (order : Order) (shape : Shape) (rule : HitRule) (a b : Feature) (bs : List Feature)
    → IsTotal order
    → IsTrue (order.knows a.chrom) → IsTrue (decides order a b)
    → LinesBefore order shape rule a bs b

-- without a fault the lines are those of all pairs
abbrev pub faultless_are_all : Type 0
faultless_are_all =
    (order : Order) (shape : Shape) (rule : HitRule) (first second : List Feature)
    (fault : Option FaultValue)
    → (join_report (sweep_rule order shape rule second None) first fault).output
    ≡ intersect shape rule first second

-- What subtract writes (bedtools manual, subtract, option -A).

-- what is left of a by those that hit it: its pieces, or whole a if none hits it
abbrev pub left_lines : Bool → Feature → List Feature → List ℕ
left_lines false a found = flat_map (piece_line a) (pieces a found)
left_lines true a [] = line_with (bed_text a ∷ [])
left_lines true a (b ∷ more) = []

-- what is left of the records of the first input by those of the second, in pieces or whole
abbrev pub subtract : Bool → HitRule → List Feature → List Feature → List ℕ
subtract whole rule first second =
    flat_map (λ a. left_lines whole a (hits_among rule a second)) first

-- what is left of one record is what the sweep writes of it in that shape
abbrev pub left_are_lines : Type 0
left_are_lines = (whole : Bool) (rule : HitRule) (a : Feature) (second : List Feature)
    → lines_for (subtract_shape whole) rule a second ≡ left_lines whole a (hits_among rule a second)

-- if the second input has no fault, it is what the meeting of the inputs writes
abbrev pub subtract_is_met : Type 0
subtract_is_met =
    (order : Order) (whole : Bool) (rule : HitRule) (first second : List Feature)
    (fault : Option FaultValue)
    → (join_report (sweep_rule order (subtract_shape whole) rule second None) first fault).output
    ≡ subtract whole rule first second
