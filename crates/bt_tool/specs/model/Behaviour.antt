-- What each command does with its inputs.
use Rattle.std.specs.Prelude.{ℕ, Bool, List, [], Option, Some, None, unwrap_or}
use Rattle.bt_lines.specs.model.Lines.{Handed, whole_text, TextLine}
use Rattle.bt_lines.specs.declared.fault.Kind.{Kind}
use Rattle.bt_bed.specs.model.Order.{byte_order, Order, rank_order}
use Rattle.bt_bed.specs.model.Feature.{Feature}
use Rattle.bt_bed.specs.model.BedLine.{IsBedKind}
use Rattle.bt_bed.specs.model.Genome.{Entry, genome_names}
use Rattle.bt_bed.specs.model.Good.{Format, bed_format, good}
use Rattle.bt_bed.specs.model.Sorted.{sorting_of}
use Rattle.bt_seq.specs.model.Alignment.{sam_format, is_sam_kind}
use Rattle.bt_seq.specs.declared.mask.mask_how.MaskHow.{MaskHow}
use Rattle.bt_seq.specs.model.Fasta.{sequence_format}
use Rattle.bt_sweep.specs.model.Lines.{subtract_shape}
use Rattle.bt_sweep.specs.declared.hits.hit_rule.HitRule.{HitRule}
use Rattle.bt_sweep.specs.declared.output.shape.Shape.{Shape}
use Rattle.bt_bed.specs.model.Meeting.{Report}
use Rattle.bt_tool.specs.model.Written.{IsOneOf, members_report, members_settle, Written, alignments_written, complement_written, coverage_written, merge_written}
use Rattle.bt_tool.specs.model.Reaches.{mask_reaches, intersect_reaches}
use Rattle.bt_tool.specs.model.TwoInputs.{is_fasta_kind, is_mask_kind, mask_report, mask_settles, IsSweptKind, intersect_report, intersect_settles}
use Rattle.bt_tool.specs.declared.planning.plan_type.Command.{Command}
use Rattle.bt_tool.specs.declared.planning.plan_type.Command.TheVariants.{Merge, Complement, Intersect, Subtract, Coverage, BamToBed, MaskFasta}
use Rattle.bt_lines.specs.model.Fault.{FaultValue}
use Rattle.bt_lines.specs.declared.fault.Input.TheVariants.{First}

-- a missing input is as an empty one
abbrev pub or_empty : Option Handed → Handed
or_empty handed = unwrap_or handed (whole_text [])

-- what a command does; a second input that it doesn't have isn't read
pub record Behaviour : Type 1 where
  -- the report on what the inputs hand over
  pub report : Handed → Option Handed → Report
  -- the bytes that the first lines of the first input settle
  pub settles : Option Handed → List TextLine → List ℕ
  -- the fault of the first of these lines that is at fault, if one is
  pub faults : List TextLine → Option FaultValue
  -- how much of the second input these lines need: its bytes up to the first record that decides
  -- all members among them, else up to the line at fault, or all of them
  pub reaches : Option Handed → List TextLine → ℕ
  -- the kinds of fault that a line of the first input can have, and one of the second
  pub FirstKinds : Kind → Type 0
  pub SecondKinds : Kind → Type 0

-- a command of one input, which writes these lines of its members
abbrev pub of_members : {A State : Type 0} → (Kind → Type 0) → Written A → Format A State → Behaviour
of_members Kinds written format = record {
  report = λ first second. members_report written format first;
  settles = λ second. members_settle written format;
  faults = λ lines. (good format First lines).fault;
  reaches = λ second lines. 0;
  FirstKinds = Kinds;
  SecondKinds = λ kind. ⊥;
}

-- a command of one input of records, in an order of their chromosomes
abbrev pub of_records : Order → Written Feature → Behaviour
of_records order written = of_members (IsBedKind order) written (bed_format (sorting_of order))

-- intersect, and in the shapes of what is left subtract
abbrev pub of_intersect : Order → Shape → HitRule → Option ℕ → Behaviour
of_intersect order shape rule limit = record {
  report = λ first second. intersect_report order shape rule limit first (or_empty second);
  settles = λ second. intersect_settles order shape rule (or_empty second);
  faults = λ lines. (good (bed_format (sorting_of order)) First lines).fault;
  reaches = λ second. intersect_reaches order (or_empty second);
  FirstKinds = IsBedKind order;
  SecondKinds = IsSweptKind order limit;
}

abbrev pub of_maskfasta : MaskHow → Bool → Behaviour
of_maskfasta how full = record {
  report = λ first second. mask_report how full first (or_empty second);
  settles = λ second. mask_settles how full (or_empty second);
  faults = λ lines. (good (sequence_format full) First lines).fault;
  reaches = λ second. mask_reaches full (or_empty second);
  FirstKinds = IsOneOf is_fasta_kind;
  SecondKinds = IsOneOf is_mask_kind;
}

-- the order in use: that of the genome file, if there is one, else that of the names' bytes
abbrev pub order_in_use : Option (List Entry) → Order
order_in_use None = byte_order
order_in_use (Some entries) = rank_order (genome_names entries)

-- the chromosomes of the genome file, of a command that has one
abbrev pub entries_in : Option (List Entry) → List Entry
entries_in chromosomes = unwrap_or chromosomes []

-- what each command does, by the chromosomes of the genome file, if there is one
abbrev pub behaviour_of : Command → Option (List Entry) → Behaviour
behaviour_of (Merge gap strand) chromosomes =
    of_records (order_in_use chromosomes) (merge_written (order_in_use chromosomes) gap strand)
behaviour_of (Complement limit) chromosomes =
    of_records (order_in_use chromosomes) (complement_written (entries_in chromosomes) limit)
behaviour_of (Coverage zeros strand) chromosomes =
    of_records (order_in_use chromosomes) (coverage_written (entries_in chromosomes) zeros strand)
behaviour_of (Intersect shape rule held) chromosomes =
    of_intersect (order_in_use chromosomes) shape rule held
behaviour_of (Subtract whole rule held) chromosomes =
    of_intersect (order_in_use chromosomes) (subtract_shape whole) rule held
behaviour_of (BamToBed split cigar) chromosomes =
    of_members (IsOneOf is_sam_kind) (alignments_written split cigar) sam_format
behaviour_of (MaskFasta how full) chromosomes = of_maskfasta how full
