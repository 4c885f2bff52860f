-- The report of a command of one input.
use Rattle.std.specs.Prelude.{ℕ, Bool, List, Option, flat_map, ◌≡◌, true, Some, None}
use Rattle.bt_bed.specs.model.Feature.{Feature, intervals_of, last_of}
use Rattle.bt_bed.specs.model.BedLine.{interval_lines}
use Rattle.bt_bed.specs.model.Genome.{Entry}
use Rattle.bt_bed.specs.model.Order.{Order}
use Rattle.bt_bed.specs.declared.record.strand.Strand.{Strand}
use Rattle.bt_runs.specs.model.Depth.{coverage, depth_lines, settled_depths}
use Rattle.bt_runs.specs.model.Gaps.{complement, settled_gaps}
use Rattle.bt_runs.specs.model.Merged.{passed_by, ordered_runs, places_of, settled_strand_runs, strand_runs}
use Rattle.bt_runs.specs.declared.merge.merge_strand.MergeStrand.{MergeStrand}
use Rattle.bt_runs.specs.declared.merge.merge_strand.MergeStrand.TheVariants.{All, Each, One}
use Rattle.bt_seq.specs.model.Alignment.{Alignment}
use Rattle.bt_seq.specs.model.BedLines.{bed_lines}
use Rattle.bt_lines.specs.model.Fault.{FaultValue}
use Rattle.bt_lines.specs.model.Lines.{Handed, TextLine}
use Rattle.bt_lines.specs.declared.fault.Input.TheVariants.{First}
use Rattle.bt_lines.specs.declared.fault.Kind.{Kind}
use Rattle.bt_bed.specs.model.Good.{Format, Good, good, good_handed, items_in}
use Rattle.bt_bed.specs.model.Meeting.{Report}

-- What a command of one input writes, by the members of that input.

-- the lines of the output if these are all members, and those that they settle, which no later
-- member can change
pub record Written (A : Type 0) : Type 0 where
  pub whole : List A → List ℕ
  pub settled : List A → List ℕ

-- the merged runs, chromosomes in order, and those that the last record closes
abbrev pub pooled_written : Order → ℕ → MergeStrand → Written Feature
pooled_written order gap strand = record {
  whole = λ records. interval_lines (ordered_runs order gap strand records);
  settled = λ records. interval_lines
      (passed_by gap (ordered_runs order gap strand records) (last_of (intervals_of records)));
}

-- the runs of each strand, all listed by their first records: the first ones, as long as
-- the last record closes them
abbrev pub strands_written : ℕ → Written Feature
strands_written gap = record {
  whole = λ records. interval_lines (places_of (strand_runs gap records));
  settled = λ records. interval_lines (places_of (settled_strand_runs gap records));
}

-- what merge writes, by the records that it merges
abbrev pub merge_written : Order → ℕ → MergeStrand → Written Feature
merge_written order gap Each = strands_written gap
merge_written order gap All = pooled_written order gap All
merge_written order gap (One strand) = pooled_written order gap (One strand)

-- the gaps between the records
abbrev pub complement_written : List Entry → Bool → Written Feature
complement_written entries limit = record {
  whole = λ records. interval_lines (complement limit entries records);
  settled = λ records. interval_lines (settled_gaps limit entries records);
}

-- the intervals of equal depth of the counted records
abbrev pub coverage_written : List Entry → Bool → Option Strand → Written Feature
coverage_written entries zeros strand = record {
  whole = λ records. depth_lines (coverage zeros strand entries records);
  settled = λ records. depth_lines (settled_depths zeros strand entries records);
}

-- the BED lines of alignments, in their order
abbrev pub alignment_lines : Bool → Bool → List Alignment → List ℕ
alignment_lines split cigar alignments = flat_map (bed_lines split cigar) alignments

-- each alignment settles its own
abbrev pub alignments_written : Bool → Bool → Written Alignment
alignments_written split cigar = record {
  whole = alignment_lines split cigar;
  settled = alignment_lines split cigar;
}

-- The report on the members of one input: the bytes written and the fault reported.

-- a fault is of one of the kinds that pass the test
abbrev pub IsOneOf : (Kind → Bool) → Kind → Type 0
IsOneOf test kind = test kind ≡ true

-- the lines of all members, or if a line is at fault, those that the members before it settle
abbrev pub report_by : {A : Type 0} → Written A → List A → Option FaultValue → Report
report_by written members None = record { output = written.whole members; fault = None }
report_by written members (Some fault) =
    record { output = written.settled members; fault = Some fault }

-- the report on good members, and on the fault after them, if there is one
abbrev pub good_report : {A : Type 0} → Written A → Good A → Report
good_report written good = report_by written (items_in good) good.fault

-- the report on the members of the first input
abbrev pub members_report : {A State : Type 0} → Written A → Format A State → Handed → Report
members_report written format first = good_report written (good_handed format First first)

-- the lines that the members on these lines of the first input settle
abbrev pub members_settle : {A State : Type 0} → Written A → Format A State → List TextLine → List ℕ
members_settle written format lines = written.settled (items_in (good format First lines))
