-- What `bedtools complement` gives: the parts of each chromosome that no feature covers, in the
-- order of the genome file. With -L it gives only those of chromosomes that
-- have records (bedtools manual, complement).
use Rattle.std.specs.Prelude.{ℕ, Bool, not, ◌||◌, List, [], map, filter, flat_map, nat_le}
use Rattle.std.specs.Option.{option_map_or}
use Rattle.bt_bed.specs.model.Feature.{Feature, intervals_of, Interval, Span, last_of, placed_on, spans_on}
use Rattle.bt_bed.specs.model.Genome.{Entry, genome_names}
use Rattle.bt_bed.specs.model.Sorted.{comes_first, has_records}
use Rattle.bt_bed.specs.model.Order.{rank_order}
use Rattle.bt_runs.specs.model.Merged.{is_covered, stretches_of}

-- the gaps of a chromosome: the stretches of its bare positions
unfoldable pub gaps_of : ℕ → List Span → List Span
gaps_of size spans = stretches_of (λ p. not (is_covered spans p)) size

-- the gaps on a chromosome of the genome file
abbrev pub gaps_on : List Interval → Entry → List Interval
gaps_on records entry =
    map (placed_on entry.name) (gaps_of entry.length (spans_on entry.name records))

-- whether a chromosome's gaps are wanted: they all are, or with -L if it has records
abbrev pub is_asked : Bool → List Interval → Entry → Bool
is_asked limit records entry = not limit || has_records entry.name records

-- the gaps of the chromosomes whose gaps are wanted, in their order
unfoldable pub complement : Bool → List Entry → List Feature → List Interval
complement limit entries records =
    flat_map (gaps_on (intervals_of records))
    (filter (is_asked limit (intervals_of records)) entries)

-- Whether a gap is settled by the last record. It is if its chromosome comes before that of the record, or if it is the same
-- and the gap ends by the record's start.
abbrev pub is_over : List (List ℕ) → Interval → Interval → Bool
is_over names last gap =
    comes_first ((rank_order names).compare gap.chrom last.chrom) (nat_le gap.stop last.start)

-- the gaps that are settled after the records
unfoldable pub settled_gaps : Bool → List Entry → List Feature → List Interval
settled_gaps limit entries records =
    option_map_or (λ last. filter (is_over (genome_names entries) last) (complement limit entries records))
    (last_of (intervals_of records)) []
