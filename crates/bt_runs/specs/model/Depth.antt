-- What `bedtools genomecov` gives: the intervals of equal depth.
use Rattle.std.specs.Prelude.{ℕ, ◌++◌, Bool, true, cond, List, [], Option, Some, None, ◌&&◌, ◌||◌, nat_lt, length, map, filter, flat_map, codes, decimal}
use Rattle.std.specs.Option.{option_map_or}
use Rattle.bt_bed.specs.model.Feature.{Feature, intervals_of, Interval, Span, last_of, spans_on, is_same_strand, covers}
use Rattle.bt_bed.specs.model.Genome.{Entry, genome_names}
use Rattle.bt_bed.specs.model.Order.{rank_order}
use Rattle.bt_bed.specs.declared.record.strand.Strand.{Strand}
use Rattle.bt_bed.specs.model.Sorted.{comes_first}
use Rattle.bt_bed.specs.model.Levels.{Level, OneList}
use Rattle.bt_bed.proofs.lemmas.LevelScans.{one_list}

-- the one list of intervals of equal value of a chromosome of this length: its type says which list it is, so how it is
-- found needn't be read
abbrev pub the_levels : (value : ℕ → Option ℕ) (size : ℕ) → OneList value size
the_levels = one_list

abbrev pub levels_of : (ℕ → Option ℕ) → ℕ → List Level
levels_of value size = (the_levels value size).levels

-- What `bedtools genomecov` gives with -bg: the intervals of equal depth above 0 of each
-- chromosome, in the order of the genome file. With -bga it gives those of depth 0 too (bedtools
-- manual, genomecov, options -bg, -bga and -strand).

-- the depth at a position: how many of the spans cover it
abbrev pub depth_at : List Span → ℕ → ℕ
depth_at spans p = length (filter (covers p) spans)

-- a depth that is reported: any above 0, and 0 if it is wanted
abbrev pub reported : Bool → ℕ → Option ℕ
reported zeros depth = cond (zeros || nat_lt 0 depth) (Some depth) None

-- the depth that is reported of a position
unfoldable pub depth_of : Bool → List Span → ℕ → Option ℕ
depth_of zeros spans p = reported zeros (depth_at spans p)

-- whether a record of this strand is counted: all are, or those of one strand
abbrev pub is_counted_by : Option Strand → Strand → Bool
is_counted_by None strand = true
is_counted_by (Some wanted) strand = is_same_strand wanted strand

-- the counted records on the chromosome of this name
abbrev pub counted_on : Option Strand → List ℕ → List Feature → List Span
counted_on strand name records =
    spans_on name (intervals_of (filter (λ r. is_counted_by strand r.strand) records))

-- an interval of a chromosome, with its depth
pub record DepthInterval : Type 0 where
  pub chrom : List ℕ
  pub start : ℕ
  pub stop : ℕ
  pub depth : ℕ

-- an interval of equal depth, on the chromosome of this name
abbrev pub depth_on : List ℕ → Level → DepthInterval
depth_on name l = record { chrom = name; start = l.start; stop = l.stop; depth = l.value }

-- the intervals of equal depth of a chromosome of the genome file
abbrev pub depths_on : Bool → Option Strand → List Feature → Entry → List DepthInterval
depths_on zeros strand records entry =
    let values = depth_of zeros (counted_on strand entry.name records) in
    map (depth_on entry.name) (levels_of values entry.length)

-- those of all chromosomes, in their order
unfoldable pub coverage : Bool → Option Strand → List Entry → List Feature → List DepthInterval
coverage zeros strand entries records = flat_map (depths_on zeros strand records) entries

-- the line of an interval with its depth: columns with tabs between them (UCSC bedGraph
-- description)
abbrev pub depth_line : DepthInterval → List ℕ
depth_line r =
    r.chrom ++ (codes "\t" ++ decimal r.start ++ codes "\t" ++ decimal r.stop
    ++ codes "\t" ++ decimal r.depth ++ codes "\n")

abbrev pub depth_lines : List DepthInterval → List ℕ
depth_lines intervals = flat_map depth_line intervals

-- whether an interval is settled by the last record: its chromosome comes before, or it is the
-- same and the interval ends below the record's start. One that ends there isn't: another record
-- may begin there, at an equal depth
abbrev pub is_ended_by : List (List ℕ) → Interval → DepthInterval → Bool
is_ended_by names last item =
    comes_first ((rank_order names).compare item.chrom last.chrom) (nat_lt item.stop last.start)

-- the intervals that are settled after the records
unfoldable pub settled_depths : Bool → Option Strand → List Entry → List Feature
    → List DepthInterval
settled_depths zeros strand entries records =
    option_map_or (λ last. filter (is_ended_by (genome_names entries) last) (coverage zeros strand entries records))
    (last_of (intervals_of records)) []
