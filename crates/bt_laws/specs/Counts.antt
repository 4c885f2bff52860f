-- Sums, pairs and bases.
use Rattle.std.specs.Prelude.{◌≡◌, ◌-◌, ◌*◌, ℕ, false, List, filter, min, sum_by, Option, Some, ◌⊎◌, true, [], ◌∷◌, map, flat_map, IsPermutation, None}
use Rattle.bt_bed.specs.model.Feature.{Feature, intervals_of, Interval, spans_on}
use Rattle.bt_bed.specs.model.Positions.{IsCovered}
use Rattle.bt_bed.specs.model.BedLine.{bed_text}
use Rattle.bt_bed.specs.model.Genome.{Entry}
use Rattle.bt_bed.specs.declared.record.strand.Strand.{Strand}
use Rattle.bt_runs.specs.model.Depth.{DepthInterval, coverage, depth_lines, is_counted_by}
use Rattle.bt_runs.specs.calls.Complementing.{length_in}
use Rattle.bt_tool.specs.model.Report.{Inputs, report_of}
use Rattle.bt_tool.specs.model.Behaviour.{or_empty, order_in_use}
use Rattle.bt_tool.specs.declared.planning.plan_type.Command.TheVariants.{Coverage, Intersect, Subtract}
use Rattle.bt_laws.specs.WholeRuns.{RunWrites, RunsWithoutFault, first_records, second_records}
use Rattle.bt_sweep.specs.model.Hits.{hits_among}
use Rattle.bt_sweep.specs.calls.Sweeping.{any_overlap}
use Rattle.bt_sweep.specs.model.Lines.{line_with}
use Rattle.bt_sweep.specs.declared.hits.hit_rule.HitRule.{HitRule}
use Rattle.bt_sweep.specs.declared.output.shape.Shape.TheVariants.{OrigBoth, Cut, Pieces}
use Rattle.std.specs.List.{AllPairs}
use Rattle.bt_laws.specs.Pipes.{records_written, AreDisjoint, IsInput}

-- The bases that genomecov counts.

-- depth times length of an interval
abbrev pub depth_bases : DepthInterval → ℕ
depth_bases r = r.depth * (r.stop - r.start)

-- how many bases of a record lie below the length of its chromosome
abbrev pub bases_below : List Entry → Feature → ℕ
bases_below entries r = min r.stop (length_in entries r.chrom) - r.start

-- The sum of depth times length over genomecov -bg is the number of bases of the counted records
-- below the lengths.
abbrev pub depths_sum : Type 0
depths_sum =
    (strand : Option Strand) (inputs : Inputs) (entries : List Entry)
    → RunsWithoutFault (Coverage false strand) inputs (Some entries)
    → let depths = coverage false strand entries (first_records (Some entries) inputs) in
    RunWrites (Coverage false strand) inputs (depth_lines depths)
    × (sum_by depth_bases depths
    ≡ sum_by (bases_below entries)
    (filter (λ r. is_counted_by strand r.strand) (first_records (Some entries) inputs)))

-- The pairs of intersect -wa -wb, from both sides.

-- two records that hit one another
pub record HitPair : Type 0 where
  pub left : Feature
  pub right : Feature

-- each record of the first list with each of the second that hits it
abbrev pub pairs_of : HitRule → List Feature → List Feature → List HitPair
pairs_of rule first second =
    flat_map (λ a. map (λ b. record { left = a; right = b }) (hits_among rule a second)) first

-- the line of a pair, and of one with its sides exchanged
abbrev pub pair_line : HitPair → List ℕ
pair_line p = line_with (bed_text p.left ∷ bed_text p.right ∷ [])

abbrev pub with_sides_exchanged : HitPair → HitPair
with_sides_exchanged p = record { left = p.right; right = p.left }

-- without -f, or with -f and -r, a rule that asks the same of both sides
abbrev pub IsMutual : HitRule → Type 0
IsMutual rule = (rule.billionths ≡ 0) ⊎ (rule.both ≡ true)

-- the inputs, exchanged
abbrev pub exchanged : Inputs → Inputs
exchanged inputs = record {
  genome = inputs.genome;
  first = or_empty inputs.second;
  second = Some inputs.first;
}

-- What intersect -wa -wb writes of both inputs are the lines of some pairs; of the inputs exchanged
-- it writes the lines of the same pairs, with their sides exchanged, in another order.
abbrev pub pairs_have_two_sides : Type 0
pairs_have_two_sides =
    (rule : HitRule) (held : Option ℕ) (inputs : Inputs) (chromosomes : Option (List Entry))
    → IsMutual rule → RunsWithoutFault (Intersect OrigBoth rule held) inputs chromosomes
    → let first = first_records chromosomes inputs in
    let second = second_records chromosomes inputs in
    RunWrites (Intersect OrigBoth rule held) inputs (flat_map pair_line (pairs_of rule first second))
    × RunWrites (Intersect OrigBoth rule None) (exchanged inputs)
    (flat_map pair_line (pairs_of rule second first))
    × IsPermutation (map with_sides_exchanged (pairs_of rule first second)) (pairs_of rule second first)

-- The bases that intersect writes and those that subtract leaves.

-- each base of some records is one of the first intervals or one of the others, and none is both
pub record PartBases (records first others : List Interval) : Type 0 where
  pub each : (name : List ℕ) (p : ℕ) → IsCovered (spans_on name records) p
      → IsCovered (spans_on name first) p ⊎ IsCovered (spans_on name others) p
  pub first_in : (name : List ℕ) (p : ℕ)
      → IsCovered (spans_on name first) p → IsCovered (spans_on name records) p
  pub others_in : (name : List ℕ) (p : ℕ)
      → IsCovered (spans_on name others) p → IsCovered (spans_on name records) p
  pub not_both : (name : List ℕ) (p : ℕ) → IsCovered (spans_on name first) p
      → IsCovered (spans_on name others) p → ⊥

-- What intersect writes without a shape and what subtract writes part the bases of the first input,
-- where no two of its records overlap, without -f and -s; neither has a fault if the other has none.
abbrev pub intersect_and_subtract_part : Type 0
intersect_and_subtract_part =
    (held : Option ℕ) (inputs : Inputs) (chromosomes : Option (List Entry))
    → RunsWithoutFault (Intersect Cut any_overlap held) inputs chromosomes
    → AllPairs AreDisjoint (intervals_of (first_records chromosomes inputs))
    → let first = first_records chromosomes inputs in
    let cuts = records_written Cut any_overlap first (second_records chromosomes inputs) in
    let left = records_written Pieces any_overlap first (second_records chromosomes inputs) in
    ((report_of (Subtract false any_overlap held) inputs).fault ≡ None)
    × IsInput (order_in_use chromosomes) (report_of (Intersect Cut any_overlap held) inputs).output cuts
    × IsInput (order_in_use chromosomes) (report_of (Subtract false any_overlap held) inputs).output left
    × PartBases (intervals_of first) (intervals_of cuts) (intervals_of left)
