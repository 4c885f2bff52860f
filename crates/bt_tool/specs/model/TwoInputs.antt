-- The reports of intersect, and so of subtract, and of maskfasta.
use Rattle.std.specs.Prelude.{ℕ, Bool, List, Option, flat_map, ◌≡◌, true, ◌⊎◌, is_some, false}
use Rattle.bt_bed.specs.model.Feature.{Feature}
use Rattle.bt_bed.specs.model.BedLine.{IsBedKind}
use Rattle.bt_bed.specs.model.Order.{Order}
use Rattle.bt_lines.specs.model.Lines.{Handed, TextLine}
use Rattle.bt_lines.specs.declared.fault.Input.TheVariants.{First, Second}
use Rattle.bt_lines.specs.declared.fault.Kind.{Kind}
use Rattle.bt_bed.specs.model.Good.{Good, good, items_in, bed_format, bed_good, block_good}
use Rattle.bt_bed.specs.model.Meeting.{Report}
use Rattle.bt_lines.specs.declared.fault.Kind.TheVariants.{TooManyHeld, TextBeforeHeader, TooFewColumns, EmptyName, BadStart, BadStop, EmptyFeature, OutOfOrder, NoSequence}
use Rattle.bt_bed.specs.model.Sorted.{sorting_of}
use Rattle.bt_sweep.specs.model.Hits.{within_limit}
use Rattle.bt_sweep.specs.model.Lines.{intersect, intersect_met}
use Rattle.bt_sweep.specs.declared.hits.hit_rule.HitRule.{HitRule}
use Rattle.bt_sweep.specs.declared.output.shape.Shape.{Shape}
use Rattle.bt_seq.specs.model.Masked.{mask_met, masked_line}
use Rattle.bt_seq.specs.model.Fasta.{SequenceLine, sequence_format, sequence_good}
use Rattle.bt_seq.specs.declared.mask.mask_how.MaskHow.{MaskHow}

-- The report of intersect, and so of subtract: what two inputs make it write.

-- what intersect makes of the good records of two inputs, if no more of the second are held than
-- the limit allows
abbrev pub met_within : Order → Shape → HitRule → Option ℕ → Good Feature → Good Feature
    → Report
met_within order shape rule limit first second =
    intersect_met order shape rule first (within_limit order limit (items_in first) second)

-- the report of intersect on its inputs, in an order of their chromosomes
abbrev pub intersect_report : Order → Shape → HitRule → Option ℕ → Handed → Handed → Report
intersect_report order shape rule limit first second =
    met_within order shape rule limit (bed_good First order first) (bed_good Second order second)

-- A line of the second input can be at fault as one of any BED input. If the number of held records is
-- limited, it can also be the one with which they are too many.
abbrev pub IsSweptKind : Order → Option ℕ → Kind → Type 0
IsSweptKind order limit kind =
    IsBedKind order kind ⊎ ((is_some limit ≡ true) × (kind ≡ TooManyHeld))

-- the good records on these lines of the first input
abbrev pub records_on : Order → List TextLine → List Feature
records_on order lines = items_in (good (bed_format (sorting_of order)) First lines)

-- what the records on these lines make intersect write, against all of the second input
abbrev pub intersect_settles : Order → Shape → HitRule → Handed → List TextLine → List ℕ
intersect_settles order shape rule second lines =
    intersect shape rule (records_on order lines) (items_in (bed_good Second order second))

-- The report of maskfasta: the lines of a FASTA input, masked by the records of a BED input.

-- the report of maskfasta on its inputs: with `full` a sequence's name is its whole header
abbrev pub mask_report : MaskHow → Bool → Handed → Handed → Report
mask_report how full first second =
    mask_met how (sequence_good full First first) (block_good Second second)

-- what these lines are as lines of sequences
abbrev pub lines_on : Bool → List TextLine → List SequenceLine
lines_on full lines = items_in (good (sequence_format full) First lines)

-- the first lines, masked by all records of the second input
abbrev pub mask_settles : MaskHow → Bool → Handed → List TextLine → List ℕ
mask_settles how full second lines =
    flat_map (masked_line how (items_in (block_good Second second))) (lines_on full lines)

-- the kinds of fault that a line of a FASTA input can have
abbrev pub is_fasta_kind : Kind → Bool
is_fasta_kind TextBeforeHeader = true
is_fasta_kind _ = false

-- and one of the records that mask it: any chromosome may come, in blocks,
-- as long as it has a sequence
abbrev pub is_mask_kind : Kind → Bool
is_mask_kind TooFewColumns = true
is_mask_kind EmptyName = true
is_mask_kind BadStart = true
is_mask_kind BadStop = true
is_mask_kind EmptyFeature = true
is_mask_kind OutOfOrder = true
is_mask_kind NoSequence = true
is_mask_kind _ = false
