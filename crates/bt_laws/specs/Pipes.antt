-- Outputs that are inputs of the next command.
use Rattle.std.specs.Prelude.{◌≡◌, ℕ, ◌<◌, ◌≤◌, Bool, not, List, [], ◌++◌, None, codes, decimal, zero, suc, true, false, ⊤, ◌∷◌, flat_map, length, map, replicate, ◌≢◌, filter, Option, if◌then◌else◌, Some}
use Rattle.bt_lines.specs.model.Lines.{whole_text, Handed}
use Rattle.bt_lines.specs.declared.fault.Input.{Input}
use Rattle.bt_bed.specs.model.Feature.{Feature, Interval, intervals_of}
use Rattle.bt_bed.specs.model.BedLine.{says_nothing, bed_text, cut_to, strand_named, strand_of, interval_lines, kept_columns, fault_at_line}
use Rattle.bt_bed.specs.calls.Features.{columns_in}
use Rattle.bt_bed.specs.model.Good.{items_in, bed_good, Good, good_handed}
use Rattle.bt_bed.specs.model.Order.{Order, byte_order}
use Rattle.bt_bed.specs.calls.Orders.{IsTotal, ArePlaced}
use Rattle.bt_bed.specs.declared.record.strand.Strand.TheVariants.{Dot, Plus, Minus}
use Rattle.bt_runs.specs.model.Depth.{DepthInterval, coverage, depth_lines}
use Rattle.std.specs.Io.BufRead.{ends_with_byte, strip_last}
use Rattle.bt_sweep.specs.model.Hits.{hits_among, shared_bases}
use Rattle.bt_sweep.specs.calls.Sweeping.{any_overlap}
use Rattle.bt_sweep.specs.model.Lines.{cut, pieces}
use Rattle.bt_sweep.specs.declared.hits.hit_rule.HitRule.{HitRule}
use Rattle.bt_sweep.specs.declared.output.shape.Shape.{Shape}
use Rattle.bt_sweep.specs.declared.output.shape.Shape.TheVariants.{Count, Cut, CutAndB, Missing, Once, OrigA, OrigBoth, Overlap, Pieces, Whole}
use Rattle.std.specs.List.{AllByRecursion, AllPairs}
use Rattle.bt_bed.specs.model.Genome.{Entry}
use Rattle.bt_bed.specs.declared.record.strand.Strand.{Strand}
use Rattle.bt_laws.specs.Runs.{interval_at}
use Rattle.bt_runs.specs.model.Gaps.{complement}
use Rattle.bt_runs.specs.model.Merged.{ordered_runs, places_of, strand_runs}
use Rattle.bt_runs.specs.declared.merge.merge_strand.MergeStrand.{MergeStrand}
use Rattle.bt_runs.specs.declared.merge.merge_strand.MergeStrand.TheVariants.{Each}
use Rattle.bt_tool.specs.model.Report.{Inputs, report_of}
use Rattle.bt_tool.specs.model.Behaviour.{entries_in, order_in_use}
use Rattle.bt_tool.specs.declared.planning.plan_type.Command.TheVariants.{Merge, Complement, Coverage, Intersect, Subtract, BamToBed}
use Rattle.bt_laws.specs.WholeRuns.{RunsWithoutFault, first_records, second_records, piped, two_texts}
use Rattle.bt_tool.specs.declared.planning.plan_type.Command.{Command}
use Rattle.bt_lines.specs.declared.fault.Input.TheVariants.{First}
use Rattle.bt_seq.specs.model.Alignment.{Alignment, sam_format}
use Rattle.bt_seq.specs.model.BedLines.{read_name, strand_sign}
use Rattle.bt_lines.specs.declared.fault.Kind.TheVariants.{OutOfOrder}

-- What a text is as an input of the next command, in an order of the chromosomes.

-- taken as the first or the second input, the text is without a fault, and these are its records
pub record IsInput (order : Order) (text : List ℕ) (records : List Feature) : Type 0 where
  pub records_are : (input : Input) → items_in (bed_good input order (whole_text text)) ≡ records
  pub faultless : (input : Input) → (bed_good input order (whole_text text)).fault ≡ None

-- a record of three columns
abbrev pub three_columns : Interval → Feature
three_columns r =
    record { chrom = r.chrom; start = r.start; stop = r.stop; strand = Dot; rest = [] }

-- of two intervals in order, the first ends where the second starts, or before: they have no base
-- in common
abbrev pub AreDisjoint : Interval → Interval → Type 0
AreDisjoint r s = r.chrom ≡ s.chrom → r.stop ≤ s.start

-- the first ends before the second starts: nor do they touch
abbrev pub AreSeparate : Interval → Interval → Type 0
AreSeparate r s = r.chrom ≡ s.chrom → r.stop < s.start

-- a record of four columns: where an interval lies, and its depth
abbrev pub four_columns : DepthInterval → Feature
four_columns r = record {
  chrom = r.chrom;
  start = r.start;
  stop = r.stop;
  strand = Dot;
  rest = codes "\t" ++ decimal r.depth;
}

-- whether a record's line isn't skipped as a header: the name of a chromosome in a genome file may
-- begin with the word `track` or `browser`, and a line of a BED file that does so says nothing
abbrev pub is_no_header : Feature → Bool
is_no_header r = not (says_nothing r.chrom)

-- What the lines of intersect and subtract are read as: records of the first input, whole or cut, and what follows them.

-- a record with these columns from the fourth on, each with the tab before it
abbrev pub with_rest : List ℕ → Feature → Feature
with_rest rest a = record {
  chrom = a.chrom;
  start = a.start;
  stop = a.stop;
  strand = strand_of (columns_in rest);
  rest = rest;
}

-- A record as it is read from a line of its own. A carriage return at the end of a line is part of
-- the line end, so the last column loses one that it ends with.
abbrev pub read_alone : Feature → Feature
read_alone a = with_rest (strip_last 13 a.rest) a

-- and from a line that goes on with a tab and this text
abbrev pub read_before : List ℕ → Feature → Feature
read_before text a = with_rest (a.rest ++ strip_last 13 (9 ∷ text)) a

-- the records that are read from the lines of a record of the first input and of those that hit it
abbrev pub records_for : Shape → Feature → List Feature → List Feature
records_for Cut a found = map (λ b. read_alone (cut a b)) found
records_for OrigA a found = map (λ b. read_alone a) found
records_for CutAndB a found = map (λ b. read_before (bed_text b) (cut a b)) found
records_for OrigBoth a found = map (λ b. read_before (bed_text b) a) found
records_for Overlap a found =
    map (λ b. read_before (bed_text b ++ 9 ∷ decimal (shared_bases a b)) a) found
records_for Once a [] = []
records_for Once a (b ∷ more) = read_alone a ∷ []
records_for Missing a [] = read_alone a ∷ []
records_for Missing a (b ∷ more) = []
records_for Count a found = read_before (decimal (length found)) a ∷ []
records_for Pieces a found = map (λ p. read_alone (cut_to p.start p.stop a)) (pieces a found)
records_for Whole a [] = read_alone a ∷ []
records_for Whole a (b ∷ more) = []

-- those of all records of the first input, in its order
abbrev pub records_written : Shape → HitRule → List Feature → List Feature → List Feature
records_written shape rule first second =
    flat_map (λ a. records_for shape a (hits_among rule a second)) first

-- whether each line begins with a record of the first input, as it lies: without a shape and with
-- -wb its start and its end are cut, and subtract writes its pieces
abbrev pub begins_with_a : Shape → Bool
begins_with_a Cut = false
begins_with_a CutAndB = false
begins_with_a Pieces = false
begins_with_a _ = true

-- whether it has nothing else: -wa, -u, -v, and subtract -A
abbrev pub is_a_alone : Shape → Bool
is_a_alone OrigA = true
is_a_alone Once = true
is_a_alone Missing = true
is_a_alone Whole = true
is_a_alone _ = false

-- how many lines begin with a record, by how many records hit it
abbrev pub line_count : Shape → ℕ → ℕ
line_count Once zero = 0
line_count Once (suc n) = 1
line_count Missing zero = 1
line_count Missing (suc n) = 0
line_count Whole zero = 1
line_count Whole (suc n) = 0
line_count Count n = 1
line_count _ n = n

-- the records of the first input, each as often as a line begins with it
abbrev pub copies_written : Shape → HitRule → List Feature → List Feature → List Feature
copies_written shape rule first second =
    flat_map (λ a. replicate (line_count shape (length (hits_among rule a second))) a) first

-- the last column of a record doesn't end with a carriage return
abbrev pub EndsPlain : Feature → Type 0
EndsPlain a = ends_with_byte 13 a.rest ≡ false

-- A line of a record of five columns has as its sixth the first column of what follows. With -wa -wb
-- and -wo that is the chromosome, which may be named `+` or `-`; with -c it is a number.
abbrev pub TakesNoStrand : Shape → Feature → Type 0
TakesNoStrand Count a = ⊤
TakesNoStrand _ a = length (columns_in a.rest) ≡ 2 → strand_named a.chrom ≡ Dot

-- what keeps the strand of a record that is cut: with -wb as above, else as that of a record alone
abbrev pub KeepsStrand : Shape → Feature → Type 0
KeepsStrand CutAndB a = TakesNoStrand CutAndB a
KeepsStrand _ a = EndsPlain a

-- Which outputs the next command takes as they are, in the same order of the chromosomes.

-- the runs that merge writes, where they lie; with -s those of each strand
abbrev pub runs_by : Order → ℕ → MergeStrand → List Feature → List Interval
runs_by order d Each records = places_of (strand_runs d records)
runs_by order d strand records = ordered_runs order d strand records

-- merge: always, and its lines are read as the runs that it wrote; without -s these neither overlap
-- nor touch
abbrev pub merge_is_input : Type 0
merge_is_input =
    (d : ℕ) (strand : MergeStrand) (inputs : Inputs) (chromosomes : Option (List Entry))
    → RunsWithoutFault (Merge d strand) inputs chromosomes
    → let runs = runs_by (order_in_use chromosomes) d strand (first_records chromosomes inputs) in
    ((report_of (Merge d strand) inputs).output ≡ interval_lines runs)
    × IsInput (order_in_use chromosomes) (report_of (Merge d strand) inputs).output
    (map three_columns runs)
    × (strand ≢ Each → AllPairs AreSeparate runs)

-- complement: always, and the gaps neither overlap nor touch. The name of a chromosome of the genome
-- file may begin with the word `track` or `browser`: the next command skips its lines as headers.
abbrev pub complement_is_input : Type 0
complement_is_input =
    (limit : Bool) (inputs : Inputs) (chromosomes : Option (List Entry))
    → RunsWithoutFault (Complement limit) inputs chromosomes
    → let gaps = complement limit (entries_in chromosomes) (first_records chromosomes inputs) in
    ((report_of (Complement limit) inputs).output ≡ interval_lines gaps)
    × IsInput (order_in_use chromosomes) (report_of (Complement limit) inputs).output
    (filter is_no_header (map three_columns gaps))
    × AllPairs AreSeparate gaps

-- genomecov: always, and no two of its intervals overlap
abbrev pub genomecov_is_input : Type 0
genomecov_is_input =
    (zeros : Bool) (strand : Option Strand) (inputs : Inputs) (chromosomes : Option (List Entry))
    → RunsWithoutFault (Coverage zeros strand) inputs chromosomes
    → let depths = coverage zeros strand (entries_in chromosomes) (first_records chromosomes inputs) in
    ((report_of (Coverage zeros strand) inputs).output ≡ depth_lines depths)
    × IsInput (order_in_use chromosomes) (report_of (Coverage zeros strand) inputs).output
    (filter is_no_header (map four_columns depths))
    × AllPairs AreDisjoint (map interval_at depths)

-- intersect -wa, -u, -v, -c, -wa -wb and -wo: always, since the lines begin with records of the
-- first input, in its order
abbrev pub intersect_is_input : Type 0
intersect_is_input =
    (shape : Shape) (rule : HitRule) (held : Option ℕ) (inputs : Inputs)
    (chromosomes : Option (List Entry))
    → begins_with_a shape ≡ true → RunsWithoutFault (Intersect shape rule held) inputs chromosomes
    → IsInput (order_in_use chromosomes) (report_of (Intersect shape rule held) inputs).output
    (records_written shape rule (first_records chromosomes inputs)
    (second_records chromosomes inputs))

-- subtract -A: always
abbrev pub whole_subtract_is_input : Type 0
whole_subtract_is_input =
    (rule : HitRule) (held : Option ℕ) (inputs : Inputs) (chromosomes : Option (List Entry))
    → RunsWithoutFault (Subtract true rule held) inputs chromosomes
    → IsInput (order_in_use chromosomes) (report_of (Subtract true rule held) inputs).output
    (records_written Whole rule (first_records chromosomes inputs)
    (second_records chromosomes inputs))

-- What -wa, -u, -v and subtract -A write are records of the first input, each as often as a line
-- begins with it, where none of its last columns ends with a carriage return.
abbrev pub kept_records_stay : Type 0
kept_records_stay =
    (shape : Shape) (rule : HitRule) (inputs : Inputs) (chromosomes : Option (List Entry))
    → is_a_alone shape ≡ true → AllByRecursion EndsPlain (first_records chromosomes inputs)
    → records_written shape rule (first_records chromosomes inputs)
    (second_records chromosomes inputs)
    ≡ copies_written shape rule (first_records chromosomes inputs)
    (second_records chromosomes inputs)

-- with -c, -wa -wb and -wo too they lie where these do
abbrev pub kept_places_stay : Type 0
kept_places_stay =
    (shape : Shape) (rule : HitRule) (inputs : Inputs) (chromosomes : Option (List Entry))
    → begins_with_a shape ≡ true
    → intervals_of
    (records_written shape rule (first_records chromosomes inputs)
    (second_records chromosomes inputs))
    ≡ intervals_of
    (copies_written shape rule (first_records chromosomes inputs)
    (second_records chromosomes inputs))

-- and have their strands, where no record of five columns lies on a chromosome named `+` or `-`
abbrev pub kept_strands_stay : Type 0
kept_strands_stay =
    (shape : Shape) (rule : HitRule) (inputs : Inputs) (chromosomes : Option (List Entry))
    → begins_with_a shape ≡ true → is_a_alone shape ≡ false
    → AllByRecursion (TakesNoStrand shape) (first_records chromosomes inputs)
    → map (λ r. r.strand)
    (records_written shape rule (first_records chromosomes inputs)
    (second_records chromosomes inputs))
    ≡ map (λ r. r.strand)
    (copies_written shape rule (first_records chromosomes inputs)
    (second_records chromosomes inputs))

-- each cut and each piece of a record has its strand: without a shape, with -wb, and from subtract
abbrev pub cut_strands_stay : Type 0
cut_strands_stay =
    (shape : Shape) (rule : HitRule) (inputs : Inputs) (chromosomes : Option (List Entry))
    → begins_with_a shape ≡ false
    → AllByRecursion (KeepsStrand shape) (first_records chromosomes inputs)
    → AllByRecursion (λ a. AllByRecursion (λ r. r.strand ≡ a.strand)
    (records_for shape a (hits_among rule a (second_records chromosomes inputs))))
    (first_records chromosomes inputs)

-- intersect without a shape, and with -wb: where no two records of the first input overlap
abbrev pub cut_intersect_is_input : Type 0
cut_intersect_is_input =
    (shape : Shape) (rule : HitRule) (held : Option ℕ) (inputs : Inputs)
    (chromosomes : Option (List Entry))
    → begins_with_a shape ≡ false → RunsWithoutFault (Intersect shape rule held) inputs chromosomes
    → AllPairs AreDisjoint (intervals_of (first_records chromosomes inputs))
    → IsInput (order_in_use chromosomes) (report_of (Intersect shape rule held) inputs).output
    (records_written shape rule (first_records chromosomes inputs)
    (second_records chromosomes inputs))

-- subtract: where no two records of the first input overlap; nor do its pieces then
abbrev pub subtract_is_input : Type 0
subtract_is_input =
    (rule : HitRule) (held : Option ℕ) (inputs : Inputs) (chromosomes : Option (List Entry))
    → RunsWithoutFault (Subtract false rule held) inputs chromosomes
    → AllPairs AreDisjoint (intervals_of (first_records chromosomes inputs))
    → let left = records_written Pieces rule (first_records chromosomes inputs)
    (second_records chromosomes inputs) in
    IsInput (order_in_use chromosomes) (report_of (Subtract false rule held) inputs).output left
    × AllPairs AreDisjoint (intervals_of left)

-- Outputs that go on where no two records may overlap.

-- no two records of the output overlap, once it is the first input of the next command: the
-- condition of intersect without a shape, of intersect -wb and of subtract
abbrev pub WritesDisjoint : Command → Type 0
WritesDisjoint command =
    (inputs : Inputs) (chromosomes : Option (List Entry)) → RunsWithoutFault command inputs chromosomes
    → AllPairs AreDisjoint (intervals_of (first_records chromosomes (piped command inputs)))

-- merge without -s, complement and genomecov
abbrev pub merge_writes_disjoint : Type 0
merge_writes_disjoint =
    (d : ℕ) (strand : MergeStrand) → strand ≢ Each → WritesDisjoint (Merge d strand)

abbrev pub complement_writes_disjoint : Type 0
complement_writes_disjoint = (limit : Bool) → WritesDisjoint (Complement limit)

abbrev pub genomecov_writes_disjoint : Type 0
genomecov_writes_disjoint =
    (zeros : Bool) (strand : Option Strand) → WritesDisjoint (Coverage zeros strand)

-- When the output of bamtobed goes on as an input of the next command.

-- where an alignment lies
abbrev pub aligned_at : Alignment → Interval
aligned_at a = record { chrom = a.chrom; start = a.start; stop = a.stop }

-- what is good of a SAM input: the alignments before the first line at fault,
-- and the fault of that line
abbrev pub sam_good : Input → Handed → Good Alignment
sam_good input handed = good_handed sam_format input handed

abbrev pub alignments_of : Inputs → List Alignment
alignments_of inputs = items_in (sam_good First inputs.first)

-- the record of its line: name, mapping quality and strand, and with -cigar the CIGAR
abbrev pub aligned_record : Bool → Alignment → Feature
aligned_record cigar a = record {
  chrom = a.chrom;
  start = a.start;
  stop = a.stop;
  strand = if a.reverse then Minus else Plus;
  rest = kept_columns
      (read_name a ∷ decimal a.quality ∷ strand_sign a.reverse
      ∷ (if cigar then a.cigar ∷ [] else []));
}

-- bamtobed without -split: where the alignments that give a line are sorted by chromosome, in the
-- order of the next command, and by position. The name of a reference may begin with the word
-- `track` or `browser`, or with `#`: then its lines are skipped as headers.
abbrev pub bamtobed_is_input : Type 0
bamtobed_is_input =
    (cigar : Bool) (inputs : Inputs) (order : Order) → IsTotal order
    → inputs.genome ≡ None → ArePlaced order (map aligned_at (alignments_of inputs))
    → IsInput order (report_of (BamToBed false cigar) inputs).output
    (filter is_no_header (map (aligned_record cigar) (alignments_of inputs)))

-- Small outputs that the next command refuses, or reads with other strands: why the laws on pipes have their premises.

-- the run writes these lines, and as an input they have a record that is out of order
pub record IsRefused (command : Command) (inputs : Inputs) (output : List ℕ) (line : ℕ) : Type 0 where
  pub written : report_of command inputs ≡ record { output = output; fault = None }
  pub refused : (bed_good First byte_order (whole_text output)).fault
      ≡ Some (fault_at_line First line OutOfOrder)

-- intersect cuts two records that overlap: the cut of the second starts before that of the first
abbrev pub cuts_go_back : Type 0
cuts_go_back =
    IsRefused (Intersect Cut any_overlap None)
    (two_texts (codes "c\t0\t10\nc\t5\t6\n") (codes "c\t5\t6\nc\t7\t8\n"))
    (codes "c\t5\t6\nc\t7\t8\nc\t5\t6\n") 3

-- subtract leaves two pieces of the first, and then one that starts before the second of these
abbrev pub pieces_go_back : Type 0
pieces_go_back =
    IsRefused (Subtract false any_overlap None)
    (two_texts (codes "c\t0\t10\nc\t2\t4\n") (codes "c\t5\t6\n"))
    (codes "c\t0\t5\nc\t6\t10\nc\t2\t4\n") 3

-- the blocks of two alignments that are sorted
abbrev pub blocks_go_back : Type 0
blocks_go_back =
    IsRefused (BamToBed true false)
    (record {
      genome = None;
      first = whole_text
          (codes "r\t0\tc\t1\t9\t2M5N2M\t*\t0\t0\t*\t*\nq\t0\tc\t2\t9\t3M\t*\t0\t0\t*\t*\n");
      second = None;
    })
    (codes "c\t0\t2\tr\t9\t+\nc\t7\t9\tr\t9\t+\nc\t1\t4\tq\t9\t+\n") 3

-- a record is written again by this command, and then read with another strand
pub record ChangesStrand (command : Command) (inputs : Inputs) (output : List ℕ) (old new : Strand)
    : Type 0 where
  pub written : report_of command inputs ≡ record { output = output; fault = None }
  pub before : map (λ r. r.strand) (items_in (bed_good First byte_order inputs.first)) ≡ old ∷ []
  pub after : map (λ r. r.strand) (items_in (bed_good First byte_order (whole_text output)))
      ≡ new ∷ []

-- The line ends with two carriage returns. The first of them belongs to the sixth column, which is
-- no `+` with it; written again, it's part of the line end.
abbrev pub returns_change_strands : Type 0
returns_change_strands =
    ChangesStrand (Intersect Once any_overlap None)
    (two_texts (codes "c\t0\t9\tn\t0\t+" ++ 13 ∷ 13 ∷ 10 ∷ []) (codes "c\t5\t6\n"))
    (codes "c\t0\t9\tn\t0\t+" ++ 13 ∷ 10 ∷ []) Dot Plus

-- the line has five columns, and gets the other record's chromosome as its sixth
abbrev pub names_become_strands : Type 0
names_become_strands =
    ChangesStrand (Intersect OrigBoth any_overlap None)
    (two_texts (codes "+\t0\t9\tn\t0\n") (codes "+\t5\t6\n"))
    (codes "+\t0\t9\tn\t0\t+\t5\t6\n") Dot Plus
