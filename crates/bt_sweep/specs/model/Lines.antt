-- What intersect and subtract write.
use Rattle.std.specs.Prelude.{ℕ, Bool, not, ◌&&◌, List, nat_le, [], ◌∷◌, ◌++◌, codes, decimal, flat_map, length, max, min, ◌||◌, Option, is_none, true, false}
use Rattle.std.specs.List.{list_any}
use Rattle.bt_bed.specs.model.Feature.{Feature, Span, record_covers}
use Rattle.bt_bed.specs.model.Positions.{OneSpanList}
use Rattle.bt_bed.proofs.lemmas.StretchScans.{one_span_list}
use Rattle.bt_bed.specs.model.BedLine.{bed_text, cut_to}
use Rattle.bt_bed.specs.model.Order.{Order}
use Rattle.bt_sweep.specs.model.Hits.{decided, hits_among, shared_bases}
use Rattle.bt_sweep.specs.declared.hits.hit_rule.HitRule.{HitRule}
use Rattle.bt_sweep.specs.declared.output.shape.Shape.{Shape}
use Rattle.bt_sweep.specs.declared.output.shape.Shape.TheVariants.{Cut, OrigA, CutAndB, OrigBoth, Overlap, Once, Missing, Count, Pieces, Whole}
use Rattle.bt_lines.specs.model.Fault.{FaultValue}
use Rattle.bt_bed.specs.model.Good.{Good, items_in}
use Rattle.bt_bed.specs.model.Meeting.{Rule, Report, join_report}

-- What is left of a record without the bases of others (bedtools manual, subtract).

-- whether a position below the end of a is such a one
abbrev pub is_left : Feature → List Feature → ℕ → Bool
is_left a others p = nat_le a.start p && not (list_any (record_covers p) others)

-- the pieces that are left of a: the one list of intervals of those positions. Its type says which list it is, so how it is
-- found needn't be read
unfoldable pub pieces : Feature → List Feature → List Span
pieces a others =
    let one : OneSpanList (is_left a others) a.stop = one_span_list (is_left a others) a.stop in
    one.spans

-- What intersect and subtract write of a record and of those that hit it (bedtools manual). For
-- intersect these are the default behaviour and the options -wa, -wb, -wo, -u,
-- -v and -c, for subtract the default behaviour and -A.

-- a line of these texts, with tabs between them
abbrev pub line_with : List (List ℕ) → List ℕ
line_with [] = codes "\n"
line_with (text ∷ []) = text ++ codes "\n"
line_with (text ∷ next ∷ more) = (text ++ codes "\t") ++ line_with (next ∷ more)

-- the record a with start and end cut to the bases that b has too
abbrev pub cut : Feature → Feature → Feature
cut a b = cut_to (max a.start b.start) (min a.stop b.stop) a

-- the record a with a piece's start and end
abbrev pub piece_line : Feature → Span → List ℕ
piece_line a piece = line_with (bed_text (cut_to piece.start piece.stop a) ∷ [])

-- what is written of a and one record that hits it; the other shapes write no line of it
abbrev pub hit_line : Shape → Feature → Feature → List ℕ
hit_line Cut a b = line_with (bed_text (cut a b) ∷ [])
hit_line OrigA a b = line_with (bed_text a ∷ [])
hit_line CutAndB a b = line_with (bed_text (cut a b) ∷ bed_text b ∷ [])
hit_line OrigBoth a b = line_with (bed_text a ∷ bed_text b ∷ [])
hit_line Overlap a b = line_with (bed_text a ∷ bed_text b ∷ decimal (shared_bases a b) ∷ [])
hit_line _ a b = []

-- What is written of a and all that hit it: a, if there are some (-u); a, if there is none (-v, and subtract -A); a and how
-- many there are (-c); the pieces of a that they leave (subtract); or a line for each of them.
abbrev pub lines_of : Shape → Feature → List Feature → List ℕ
lines_of Once a [] = []
lines_of Once a (b ∷ more) = line_with (bed_text a ∷ [])
lines_of Missing a [] = line_with (bed_text a ∷ [])
lines_of Missing a (b ∷ more) = []
lines_of Count a found = line_with (bed_text a ∷ decimal (length found) ∷ [])
lines_of Pieces a found = flat_map (piece_line a) (pieces a found)
lines_of Whole a [] = line_with (bed_text a ∷ [])
lines_of Whole a (b ∷ more) = []
lines_of shape a found = flat_map (hit_line shape a) found

-- what is written of a against all records of the second input
unfoldable pub lines_for : Shape → HitRule → Feature → List Feature → List ℕ
lines_for shape rule a bs = lines_of shape a (hits_among rule a bs)

-- what intersect writes: each record of the first input in order, against all of the second
abbrev pub intersect : Shape → HitRule → List Feature → List Feature → List ℕ
intersect shape rule first second = flat_map (λ a. lines_for shape rule a second) first

-- Intersect as a meeting of two inputs.

-- what the good records of the second input, and its fault, make of the records of the first
abbrev pub sweep_rule : Order → Shape → HitRule → List Feature → Option FaultValue → Rule Feature
sweep_rule order shape rule second fault = record {
  decided = λ a. is_none fault || decided order a second;
  lines = λ a. lines_for shape rule a second;
  fault = fault;
  last = fault;
}

-- the lines that intersect writes of two inputs, and the fault that it reports
abbrev pub intersect_met : Order → Shape → HitRule → Good Feature → Good Feature → Report
intersect_met order shape rule first second =
    join_report (sweep_rule order shape rule (items_in second) second.fault) (items_in first) first.fault

-- What subtract writes (bedtools manual, subtract, option -A).

-- the shape that writes what is left of a record: its pieces, or with -A the record as it is
abbrev pub subtract_shape : Bool → Shape
subtract_shape false = Pieces
subtract_shape true = Whole
