-- What `bedtools merge` gives, with its options.
use Rattle.std.specs.Prelude.{ℕ, zero, suc, ◌+◌, Bool, false, not, ◌&&◌, ◌||◌, List, [], ◌∷◌, map, filter, flat_map, max, nat_le, nat_lt, bytes_eq, true, Option, Some, None, if◌then◌else◌, ◌++◌}
use Rattle.bt_bed.specs.model.Feature.{Interval, Span, spans_on, placed_on, Feature, intervals_of, is_same_strand, last_of, covers}
use Rattle.bt_bed.specs.model.Positions.{OneSpanList}
use Rattle.bt_bed.proofs.lemmas.StretchScans.{one_span_list}
use Rattle.bt_bed.specs.declared.record.strand.Strand.{Strand}
use Rattle.bt_runs.specs.declared.merge.merge_strand.MergeStrand.{MergeStrand}
use Rattle.bt_runs.specs.declared.merge.merge_strand.MergeStrand.TheVariants.{All, Each, One}
use Rattle.std.specs.Ordering.{is_lt}
use Rattle.bt_bed.specs.model.Order.{Order}
use Rattle.std.specs.List.{list_any, take_while}

-- the one list of intervals of the positions below a length that pass a test: its type says which list it is, so how it is
-- found needn't be read
abbrev pub stretches_of : (ℕ → Bool) → ℕ → List Span
stretches_of test size =
    let one : OneSpanList test size = one_span_list test size in
    one.spans

-- What `bedtools merge` gives: overlapping and touching features become one, and with -d also those
-- up to a gap apart (bedtools manual, merge).

-- some number below n passes the test
abbrev pub some_below : ℕ → (ℕ → Bool) → Bool
some_below zero test = false
some_below (suc n) test = test n || some_below n test

-- whether the position lies in one of the spans
abbrev pub is_covered : List Span → ℕ → Bool
is_covered [] p = false
is_covered (s ∷ ss) p = covers p s || is_covered ss p

-- whether the position is bridged: some covered position up to it has a covered position near it,
-- at or past the position
unfoldable pub is_bridged : ℕ → List Span → ℕ → Bool
is_bridged gap spans p =
    some_below (p + 1) (λ left. is_covered spans left
    && some_below (left + gap + 2) (λ right. is_covered spans right && nat_le p right))

-- the greatest stop
abbrev pub end_of : List Span → ℕ
end_of [] = 0
end_of (s ∷ ss) = max s.stop (end_of ss)

-- the merged runs of one chromosome: the stretches of the bridged positions
unfoldable pub runs_of : ℕ → List Span → List Span
runs_of gap spans = stretches_of (is_bridged gap spans) (end_of spans)

-- the merged runs on the chromosome of this name
abbrev pub runs_on : List ℕ → ℕ → List Interval → List Interval
runs_on name gap records = map (placed_on name) (runs_of gap (spans_on name records))

-- the merged runs, chromosome by chromosome in the order of the names
unfoldable pub merged : List (List ℕ) → ℕ → List Interval → List Interval
merged names gap records = flat_map (λ name. runs_on name gap records) names

-- the names but this one
abbrev pub without : List ℕ → List (List ℕ) → List (List ℕ)
without name names = filter (λ other. not (bytes_eq other name)) names

-- the names of the chromosomes that have records, each once, in the order in which they first come
abbrev pub chromosomes : List Interval → List (List ℕ)
chromosomes [] = []
chromosomes (r ∷ rs) = r.chrom ∷ without r.chrom (chromosomes rs)

-- Which records an engine counts (bedtools manual, merge, option -S).

-- whether a record of this strand is merged
abbrev pub is_counted : MergeStrand → Strand → Bool
is_counted All strand = true
is_counted Each strand = true
is_counted (One wanted) strand = is_same_strand wanted strand

-- where the records lie that are merged
abbrev pub counted : MergeStrand → List Feature → List Interval
counted strand records = intervals_of (filter (λ r. is_counted strand r.strand) records)

-- What a merge writes, and which of its runs are settled: a later record can't change them.

-- the merged runs of the records, chromosomes in the order in which they come
abbrev pub merged_runs : ℕ → MergeStrand → List Feature → List Interval
merged_runs gap strand records =
    merged (chromosomes (counted strand records)) gap (counted strand records)

-- whether the last record closes a run: the run lies on a chromosome before its own, which is
-- any other one, or ends more than `gap` below its start
abbrev pub is_closed : ℕ → Interval → Interval → Bool
is_closed gap last run = not (bytes_eq run.chrom last.chrom) || nat_lt (run.stop + gap) last.start

-- the runs that the last record, counted or not, closes
abbrev pub passed_by : ℕ → List Interval → Option Interval → List Interval
passed_by gap runs None = []
passed_by gap runs (Some last) = filter (is_closed gap last) runs

-- The merged runs in an order of the chromosomes, as that of a genome file or of the names' bytes.

-- a name among names in order: it is put before the first that comes after it
abbrev pub put_in_order : Order → List ℕ → List (List ℕ) → List (List ℕ)
put_in_order order name [] = name ∷ []
put_in_order order name (n ∷ ns) =
    if is_lt (order.compare name n) then name ∷ n ∷ ns else n ∷ put_in_order order name ns

-- the names in order
abbrev pub ordered_names : Order → List (List ℕ) → List (List ℕ)
ordered_names order [] = []
ordered_names order (n ∷ ns) = put_in_order order n (ordered_names order ns)

-- the merged runs of the records, their chromosomes in order
unfoldable pub ordered_runs : Order → ℕ → MergeStrand → List Feature → List Interval
ordered_runs order gap strand records =
    merged (ordered_names order (chromosomes (counted strand records))) gap (counted strand records)

-- What `bedtools merge -s` gives: the records of each strand are merged separately (bedtools
-- manual, merge, option -s), and the runs of all strands are listed by their first records.

-- a merged run, with the strand of its records
pub record StrandRun : Type 0 where
  pub strand : Strand
  pub run : Interval

-- the merged runs of the records of one strand
abbrev pub runs_of_strand : ℕ → List Feature → Strand → List StrandRun
runs_of_strand gap records strand =
    map (λ run. record { strand = strand; run = run }) (merged_runs gap (One strand) records)

-- whether a record is one of those of the run: of its strand, and in it
abbrev pub is_in : StrandRun → Feature → Bool
is_in item r =
    is_same_strand item.strand r.strand
    && (bytes_eq item.run.chrom r.chrom && (nat_le item.run.start r.start && nat_le r.stop item.run.stop))

-- of the runs the one whose first record this is, if there is one: the record lies in it,
-- and none of those before does
abbrev pub begun_by : List StrandRun → List Feature → Feature → List StrandRun
begun_by runs before r = filter (λ item. is_in item r && not (list_any (is_in item) before)) runs

-- for each record the run that it is the first of, if these come before them
abbrev pub listed_after : (Strand → List StrandRun) → List Feature → List Feature → List StrandRun
listed_after runs before [] = []
listed_after runs before (r ∷ rs) =
    begun_by (runs r.strand) before r ++ listed_after runs (before ++ r ∷ []) rs

-- the merged runs of all strands, listed by their first records
unfoldable pub strand_runs : ℕ → List Feature → List StrandRun
strand_runs gap records = listed_after (runs_of_strand gap records) [] records

-- the first of the listed runs, as long as the last record closes them
abbrev pub closed_prefix : ℕ → List StrandRun → Option Interval → List StrandRun
closed_prefix gap items None = []
closed_prefix gap items (Some last) = take_while (λ item. is_closed gap last item.run) items

-- the runs that are settled after the records: a run that is finished isn't settled while one that
-- is listed before it is open
unfoldable pub settled_strand_runs : ℕ → List Feature → List StrandRun
settled_strand_runs gap records =
    closed_prefix gap (strand_runs gap records) (last_of (intervals_of records))

-- where the runs lie
abbrev pub places_of : List StrandRun → List Interval
places_of items = map (λ item. item.run) items
