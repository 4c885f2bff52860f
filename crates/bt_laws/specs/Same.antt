-- The same bytes by another way.
use Rattle.std.specs.Prelude.{◌≡◌, ◌≢◌, ◌==◌, ℕ, Bool, true, false, List, ◌∷◌, ◌++◌, Option, None, map, filter, nat_lt, IsPermutation, ◌≤◌, Some, [], flat_map, cond, min, decimal, replicate, ◌<◌, ◌||◌, ⊤, length, bytes_eq, codes}
use Rattle.bt_bed.specs.model.Feature.{Feature, Interval, record_covers}
use Rattle.bt_bed.specs.model.BedLine.{interval_lines, says_nothing, bed_text}
use Rattle.bt_bed.specs.model.Genome.{Entry}
use Rattle.bt_bed.specs.declared.record.strand.Strand.{Strand}
use Rattle.bt_runs.specs.model.Depth.{DepthInterval, coverage, depth_lines}
use Rattle.bt_runs.specs.model.Gaps.{complement}
use Rattle.bt_runs.specs.calls.Complementing.{length_in}
use Rattle.bt_tool.specs.model.Report.{Inputs, report_of}
use Rattle.bt_tool.specs.model.Behaviour.{entries_in, order_in_use, or_empty}
use Rattle.bt_runs.specs.declared.merge.merge_strand.MergeStrand.{MergeStrand}
use Rattle.bt_runs.specs.declared.merge.merge_strand.MergeStrand.TheVariants.{All, Each}
use Rattle.bt_tool.specs.declared.planning.plan_type.Command.{Command}
use Rattle.bt_tool.specs.declared.planning.plan_type.Command.TheVariants.{Merge, Complement, Coverage, Intersect, Subtract, MaskFasta}
use Rattle.bt_laws.specs.WholeRuns.{RunWrites, RunsWithoutFault, first_records, second_records, piped, with_second_input, second_alone, two_texts}
use Rattle.std.specs.List.{AllByRecursion, list_any}
use Rattle.bt_sweep.specs.calls.Sweeping.{any_overlap}
use Rattle.bt_sweep.specs.declared.hits.hit_rule.HitRule.{HitRule}
use Rattle.bt_sweep.specs.declared.output.shape.Shape.TheVariants.{Cut, Missing, Once, Count, OrigA}
use Rattle.bt_runs.specs.model.Merged.{ordered_runs}
use Rattle.bt_sweep.specs.model.Hits.{hits_among}
use Rattle.bt_sweep.specs.model.Lines.{line_with}
use Rattle.bt_lines.specs.model.Lines.{Handed, whole_text}
use Rattle.bt_lines.specs.declared.fault.Input.TheVariants.{First, Second}
use Rattle.bt_lines.specs.declared.reader.line.LineEnd.{LineEnd}
use Rattle.bt_bed.specs.model.Good.{items_in, block_good}
use Rattle.bt_seq.specs.model.Masked.{names_of_sequences}
use Rattle.bt_seq.specs.model.Fasta.{SequenceLine, bases_up_to, sequence_good}
use Rattle.bt_seq.specs.model.SequenceBlocks.{own_records}
use Rattle.bt_seq.specs.declared.mask.mask_how.MaskHow.{MaskHow}
use Rattle.bt_seq.specs.declared.mask.mask_how.MaskHow.TheVariants.{Soft, Hard}

-- Runs of merge, complement and genomecov that write the same bytes.

-- merge of merge is merge, with the same -d; the first may have been of one strand
abbrev pub merge_of_merge : Type 0
merge_of_merge =
    (d : ℕ) (strand : MergeStrand) (inputs : Inputs) (chromosomes : Option (List Entry))
    → strand ≢ Each → RunsWithoutFault (Merge d strand) inputs chromosomes
    → RunWrites (Merge d All) (piped (Merge d strand) inputs) (report_of (Merge d strand) inputs).output

-- complement of merge is complement, with and without -L
abbrev pub complement_of_merge : Type 0
complement_of_merge =
    (limit : Bool) (inputs : Inputs) (chromosomes : Option (List Entry))
    → RunsWithoutFault (Complement limit) inputs chromosomes
    → RunWrites (Complement limit) (piped (Merge 0 All) inputs)
    (report_of (Complement limit) inputs).output

-- the same records in another order, which changes only the order of those of equal chromosome and
-- start, where both lists are in order
abbrev pub AreExchanged : List Feature → List Feature → Type 0
AreExchanged rs ss = IsPermutation rs ss

-- the same records, except that one of them comes once more, anywhere
pub record IsRepeated (rs ss : List Feature) : Type 0 where
  pub before : List Feature
  pub after : List Feature
  pub twice : Feature
  pub first : rs ≡ before ++ twice ∷ after
  pub second : IsPermutation (twice ∷ rs) ss

-- a command writes the same bytes of two first inputs, where their records are alike and both runs
-- are without a fault
abbrev pub WritesSame : (List Feature → List Feature → Type 0) → Command → Type 0
WritesSame Alike command =
    (inputs others : Inputs) (chromosomes : Option (List Entry))
    → RunsWithoutFault command inputs chromosomes → RunsWithoutFault command others chromosomes
    → Alike (first_records chromosomes inputs) (first_records chromosomes others)
    → (report_of command inputs).output ≡ (report_of command others).output

-- records of equal chromosome and start may be exchanged
abbrev pub exchanged_merge : Type 0
exchanged_merge =
    (d : ℕ) (strand : MergeStrand) → strand ≢ Each → WritesSame AreExchanged (Merge d strand)

abbrev pub exchanged_complement : Type 0
exchanged_complement = (limit : Bool) → WritesSame AreExchanged (Complement limit)

abbrev pub exchanged_genomecov : Type 0
exchanged_genomecov =
    (zeros : Bool) (strand : Option Strand) → WritesSame AreExchanged (Coverage zeros strand)

-- a record given twice changes nothing in merge and complement
abbrev pub repeated_merge : Type 0
repeated_merge =
    (d : ℕ) (strand : MergeStrand) → strand ≢ Each → WritesSame IsRepeated (Merge d strand)

abbrev pub repeated_complement : Type 0
repeated_complement = (limit : Bool) → WritesSame IsRepeated (Complement limit)

-- a gap, as an interval of depth 0
abbrev pub without_depth : Interval → DepthInterval
without_depth r = record { chrom = r.chrom; start = r.start; stop = r.stop; depth = 0 }

-- The lines of depth 0 of genomecov -bga are those of complement with a column 0. It is enough that
-- the run of -bga is without a fault.
abbrev pub depth_0_is_complement : Type 0
depth_0_is_complement =
    (inputs : Inputs) (chromosomes : Option (List Entry))
    → RunsWithoutFault (Coverage true None) inputs chromosomes
    → let depths = coverage true None (entries_in chromosomes) (first_records chromosomes inputs) in
    let gaps = complement false (entries_in chromosomes) (first_records chromosomes inputs) in
    RunWrites (Coverage true None) inputs (depth_lines depths)
    × RunWrites (Complement false) inputs (interval_lines gaps)
    × (filter (λ r. r.depth == 0) depths ≡ map without_depth gaps)

-- genomecov -bg is -bga without these lines
abbrev pub bg_is_bga_above_0 : Type 0
bg_is_bga_above_0 =
    (strand : Option Strand) (inputs : Inputs) (chromosomes : Option (List Entry))
    → RunsWithoutFault (Coverage true strand) inputs chromosomes
    → let depths = coverage true strand (entries_in chromosomes) (first_records chromosomes inputs) in
    RunWrites (Coverage true strand) inputs (depth_lines depths)
    × RunWrites (Coverage false strand) inputs (depth_lines (filter (λ r. nat_lt 0 r.depth) depths))

-- Runs of intersect and subtract that write the same bytes by another second input.

-- one shared base is enough; -r may be given, and says nothing without -f
abbrev pub one_base : Bool → HitRule
one_base both = record { billionths = 0; both = both; same_strand = false }

-- With merge of the second input in its place intersect -u, -v and subtract write the same, without
-- -f and -s: which bases it has is all that they see of it.
abbrev pub merged_second_once : Type 0
merged_second_once =
    (both : Bool) (held : Option ℕ) (inputs : Inputs) (chromosomes : Option (List Entry))
    → RunsWithoutFault (Intersect Once (one_base both) held) inputs chromosomes
    → RunWrites (Intersect Once (one_base both) None) (with_second_input (Merge 0 All) inputs)
    (report_of (Intersect Once (one_base both) held) inputs).output

abbrev pub merged_second_missing : Type 0
merged_second_missing =
    (both : Bool) (held : Option ℕ) (inputs : Inputs) (chromosomes : Option (List Entry))
    → RunsWithoutFault (Intersect Missing (one_base both) held) inputs chromosomes
    → RunWrites (Intersect Missing (one_base both) None) (with_second_input (Merge 0 All) inputs)
    (report_of (Intersect Missing (one_base both) held) inputs).output

abbrev pub merged_second_subtract : Type 0
merged_second_subtract =
    (held : Option ℕ) (inputs : Inputs) (chromosomes : Option (List Entry))
    → RunsWithoutFault (Subtract false any_overlap held) inputs chromosomes
    → RunWrites (Subtract false any_overlap None) (with_second_input (Merge 0 All) inputs)
    (report_of (Subtract false any_overlap held) inputs).output

-- the records lie within the lengths of the genome file
abbrev pub LieWithinLengths : List Entry → List Feature → Type 0
LieWithinLengths entries records = AllByRecursion (λ r. r.stop ≤ length_in entries r.chrom) records

-- subtract is intersect with the complement of the second input, without -f and -s, where the first
-- lies within the lengths
abbrev pub subtract_by_complement : Type 0
subtract_by_complement =
    (held : Option ℕ) (inputs : Inputs) (entries : List Entry)
    → RunsWithoutFault (Subtract false any_overlap held) inputs (Some entries)
    → LieWithinLengths entries (first_records (Some entries) inputs)
    → RunWrites (Intersect Cut any_overlap None) (with_second_input (Complement false) inputs)
    (report_of (Subtract false any_overlap held) inputs).output

-- Runs of merge, complement and genomecov that write the same bytes, as far as the lengths of the
-- genome file go.

-- a run cut at the length of its chromosome; one that starts there or past it is left out
abbrev pub cut_at_length : List Entry → Interval → List Interval
cut_at_length entries r =
    cond (nat_lt r.start (length_in entries r.chrom))
    (record { chrom = r.chrom; start = r.start; stop = min r.stop (length_in entries r.chrom) } ∷ [])
    []

-- Complement of complement is merge, cut at the lengths. No chromosome's name begins with
-- the word `track` or `browser`: the next complement skips its lines as headers.
abbrev pub complement_of_complement : Type 0
complement_of_complement =
    (inputs : Inputs) (entries : List Entry)
    → RunsWithoutFault (Complement false) inputs (Some entries)
    → AllByRecursion (λ entry. says_nothing entry.name ≡ false) entries
    → let runs = ordered_runs (order_in_use (Some entries)) 0 All (first_records (Some entries) inputs) in
    RunWrites (Merge 0 All) inputs (interval_lines runs)
    × RunWrites (Complement false) (piped (Complement false) inputs)
    (interval_lines (flat_map (cut_at_length entries) runs))

-- merge of genomecov -bg is merge, where the records lie within the lengths
abbrev pub merge_of_genomecov : Type 0
merge_of_genomecov =
    (d : ℕ) (inputs : Inputs) (entries : List Entry)
    → RunsWithoutFault (Merge d All) inputs (Some entries)
    → LieWithinLengths entries (first_records (Some entries) inputs)
    → RunWrites (Merge d All) (piped (Coverage false None) inputs)
    (report_of (Merge d All) inputs).output

-- Which options of intersect and subtract write the same lines.

-- intersect -v is subtract -A with the same rule: the same bytes and the same fault, whatever the
-- inputs
abbrev pub missing_is_whole : Type 0
missing_is_whole =
    (rule : HitRule) (held : Option ℕ) (inputs : Inputs)
    → report_of (Intersect Missing rule held) inputs ≡ report_of (Subtract true rule held) inputs

-- a record and how many of the second input hit it
pub record Counted : Type 0 where
  pub at : Feature
  pub hits : ℕ

-- the line of a record
abbrev pub own_line : Feature → List ℕ
own_line r = line_with (bed_text r ∷ [])

-- what intersect writes with -c, -u, -v and -wa, by one list of the records of the first input, in
-- their order, with the numbers of those that hit them
pub record HaveCounts (rule : HitRule) (held : Option ℕ) (inputs : Inputs) (counts : List Counted) : Type 0 where
  -- -c writes each with its number
  pub count : RunWrites (Intersect Count rule held) inputs
      (flat_map (λ c. line_with (bed_text c.at ∷ decimal c.hits ∷ [])) counts)
  -- -u writes those whose number isn't 0
  pub once : RunWrites (Intersect Once rule held) inputs
      (flat_map (λ c. own_line c.at) (filter (λ c. nat_lt 0 c.hits) counts))
  -- -v writes the others
  pub missing : RunWrites (Intersect Missing rule held) inputs
      (flat_map (λ c. own_line c.at) (filter (λ c. c.hits == 0) counts))
  -- -wa writes each as often as its number says
  pub original : RunWrites (Intersect OrigA rule held) inputs
      (flat_map (λ c. flat_map own_line (replicate c.hits c.at)) counts)

-- a record, and how many of these hit it
abbrev pub with_hits : HitRule → List Feature → Feature → Counted
with_hits rule second a = record { at = a; hits = length (hits_among rule a second) }

-- The numbers are those of the hits among all records of the second input. So -u and -v part the first
-- input. It is enough that the run of -c is without a fault.
abbrev pub counts_say_all : Type 0
counts_say_all =
    (rule : HitRule) (held : Option ℕ) (inputs : Inputs) (chromosomes : Option (List Entry))
    → RunsWithoutFault (Intersect Count rule held) inputs chromosomes
    → (counts : List Counted)
    × (map (λ c. c.at) counts ≡ first_records chromosomes inputs)
    × (counts ≡ map (with_hits rule (second_records chromosomes inputs)) (first_records chromosomes inputs))
    × HaveCounts rule held inputs counts

-- What maskfasta writes, as its input again.

-- A mask that can't end a line, as a line feed or a carriage return does, or begin a header, as `>`
-- does. Options allow printable characters of ASCII alone, so there it is any of these but `>`.
abbrev pub KeepsLines : MaskHow → Type 0
KeepsLines Soft = ⊤
KeepsLines (Hard mask) = (mask ≢ 10) × (mask ≢ 13) × (mask ≢ 62)

-- where a line is: its sequences' names, how many bases come before it, how many bytes it has,
-- and its line end
pub record Layout : Type 0 where
  pub names : List (List ℕ)
  pub before : ℕ
  pub bytes : ℕ
  pub ending : LineEnd

abbrev pub layout_of : SequenceLine → Layout
layout_of line = record {
  names = line.names;
  before = line.before;
  bytes = length line.text;
  ending = line.ending;
}

-- the sequences of the output have the names, the lengths and the lines of those of the input, so
-- that what masks the input masks the output
abbrev pub masked_keep_layout : Type 0
masked_keep_layout =
    (how : MaskHow) (full : Bool) (inputs : Inputs) (chromosomes : Option (List Entry))
    → KeepsLines how → RunsWithoutFault (MaskFasta how full) inputs chromosomes
    → let output = sequence_good full First (whole_text (report_of (MaskFasta how full) inputs).output) in
    (output.fault ≡ None)
    × (map layout_of (items_in output)
    ≡ map layout_of (items_in (sequence_good full First inputs.first)))

-- maskfasta twice is once
abbrev pub masked_twice : Type 0
masked_twice =
    (how : MaskHow) (full : Bool) (inputs : Inputs) (chromosomes : Option (List Entry))
    → KeepsLines how → RunsWithoutFault (MaskFasta how full) inputs chromosomes
    → RunWrites (MaskFasta how full) (piped (MaskFasta how full) inputs)
    (report_of (MaskFasta how full) inputs).output

-- the records of the BED
abbrev pub bed_records : Inputs → List Feature
bed_records inputs = items_in (block_good Second (or_empty inputs.second))

-- whether a position of a line's sequence is masked: a record of the block that belongs to that
-- sequence covers it
abbrev pub is_masked : Inputs → SequenceLine → ℕ → Bool
is_masked inputs line position =
    list_any (record_covers position) (own_records line.names (bed_records inputs))

-- the lines of the first input
abbrev pub sequence_lines : Bool → Inputs → List SequenceLine
sequence_lines full inputs = items_in (sequence_good full First inputs.first)

-- the same first input with another BED
abbrev pub with_bed : Inputs → Inputs → Inputs
with_bed inputs other =
    record { genome = inputs.genome; first = inputs.first; second = other.second }

-- Which positions of each sequence a BED masks is all that maskfasta sees of it: two that mask the
-- same make it write the same bytes.
abbrev pub masked_by_positions : Type 0
masked_by_positions =
    (how : MaskHow) (full : Bool) (inputs other : Inputs) (chromosomes : Option (List Entry))
    → RunsWithoutFault (MaskFasta how full) inputs chromosomes
    → RunsWithoutFault (MaskFasta how full) (with_bed inputs other) chromosomes
    → AllByRecursion (λ line. (p : ℕ) → line.before ≤ p → p < bases_up_to line
    → is_masked inputs line p ≡ is_masked other line p)
    (sequence_lines full inputs)
    → (report_of (MaskFasta how full) inputs).output
    ≡ (report_of (MaskFasta how full) (with_bed inputs other)).output

-- maskfasta by one BED and then by another is maskfasta by a BED that masks what either of them
-- masks
abbrev pub masked_by_both : Type 0
masked_by_both =
    (how : MaskHow) (full : Bool) (inputs other both : Inputs) (chromosomes : Option (List Entry))
    → KeepsLines how → RunsWithoutFault (MaskFasta how full) inputs chromosomes
    → RunsWithoutFault (MaskFasta how full) (with_bed inputs other) chromosomes
    → RunsWithoutFault (MaskFasta how full) (with_bed inputs both) chromosomes
    → AllByRecursion (λ line. (p : ℕ) → line.before ≤ p → p < bases_up_to line
    → is_masked both line p ≡ (is_masked inputs line p || is_masked other line p))
    (sequence_lines full inputs)
    → RunWrites (MaskFasta how full) (with_bed (piped (MaskFasta how full) inputs) other)
    (report_of (MaskFasta how full) (with_bed inputs both)).output

-- the same first input with merge of its BED, which is merged by a genome file or without one
abbrev pub with_merged_bed : Option Handed → Inputs → Inputs
with_merged_bed genome inputs = record {
  genome = inputs.genome;
  first = inputs.first;
  second = Some (whole_text (report_of (Merge 0 All) (second_alone genome inputs)).output);
}

-- maskfasta by merge of a BED is maskfasta by the BED, where that is in an order in which it can be
-- merged: that of some genome file, or the order of the names' bytes
abbrev pub masked_by_merged : Type 0
masked_by_merged =
    (how : MaskHow) (full : Bool) (inputs : Inputs) (chromosomes : Option (List Entry))
    (genome : Option Handed) (merging : Option (List Entry))
    → RunsWithoutFault (MaskFasta how full) inputs chromosomes
    → RunsWithoutFault (Merge 0 All) (second_alone genome inputs) merging
    → RunWrites (MaskFasta how full) (with_merged_bed genome inputs)
    (report_of (MaskFasta how full) inputs).output

-- at most one of the sequences has the name of the record's chromosome
abbrev pub NamesOne : List (List ℕ) → Feature → Type 0
NamesOne names r = length (filter (λ name. bytes_eq name r.chrom) names) ≤ 1

-- maskfasta by one BED and then by another is maskfasta by a BED that has the records of both, in
-- whichever order this is without a fault, where each record names one sequence
abbrev pub masked_by_sorted : Type 0
masked_by_sorted =
    (how : MaskHow) (full : Bool) (inputs other both : Inputs) (chromosomes : Option (List Entry))
    → KeepsLines how
    → AllByRecursion (NamesOne (names_of_sequences (sequence_lines full inputs))) (bed_records both)
    → RunsWithoutFault (MaskFasta how full) inputs chromosomes
    → RunsWithoutFault (MaskFasta how full) (with_bed inputs other) chromosomes
    → RunsWithoutFault (MaskFasta how full) (with_bed inputs both) chromosomes
    → IsPermutation (bed_records inputs ++ bed_records other) (bed_records both)
    → RunWrites (MaskFasta how full) (with_bed (piped (MaskFasta how full) inputs) other)
    (report_of (MaskFasta how full) (with_bed inputs both)).output

-- what masks the input masks the output: a BED that is without a fault with the one is so with the
-- other, by any mask
abbrev pub masked_goes_on : Type 0
masked_goes_on =
    (how next : MaskHow) (full : Bool) (inputs other : Inputs) (chromosomes : Option (List Entry))
    → KeepsLines how → RunsWithoutFault (MaskFasta how full) inputs chromosomes
    → RunsWithoutFault (MaskFasta next full) (with_bed inputs other) chromosomes
    → RunsWithoutFault (MaskFasta next full) (with_bed (piped (MaskFasta how full) inputs) other) chromosomes

-- Why the law on two BEDs needs records that name one sequence each.

-- two sequences of one name, and one between them
abbrev pub named_twice : List ℕ
named_twice = codes ">c\nAAAA\n>d\nAAAA\n>c\nAAAA\n"

-- what is masked by the first BED
abbrev pub masked_in_order : List ℕ
masked_in_order = codes ">c\naAAA\n>d\naAAA\n>c\nAAaA\n"

-- Two BEDs of the same records in different orders: in the first a block of records belongs to the
-- second sequence named `c`, in the other none does. An empty BED after the first changes nothing:
-- the records of both are those of the first.
abbrev pub repeated_names_differ : Type 0
repeated_names_differ =
    RunWrites (MaskFasta Soft false) (two_texts named_twice (codes "c\t0\t1\nd\t0\t1\nc\t2\t3\n"))
    masked_in_order
    × RunWrites (MaskFasta Soft false) (two_texts masked_in_order []) masked_in_order
    × RunWrites (MaskFasta Soft false) (two_texts named_twice (codes "c\t0\t1\nc\t2\t3\nd\t0\t1\n"))
    (codes ">c\naAaA\n>d\naAAA\n>c\nAAAA\n")
