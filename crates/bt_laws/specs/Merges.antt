-- What a merge keeps, and the order of its runs.
use Rattle.std.specs.Prelude.{◌≡◌, ℕ, ◌≤◌, List, ◌++◌, filter, length, map, Option, Some, option_map}
use Rattle.bt_bed.specs.model.Feature.{Feature, is_same_strand, interval_of, intervals_of}
use Rattle.bt_bed.specs.calls.Orders.{AreNonEmpty, ArePlaced, IsTotal}
use Rattle.bt_bed.specs.declared.record.strand.Strand.{Strand}
use Rattle.bt_runs.specs.model.Merged.{merged_runs, runs_of_strand, settled_strand_runs, strand_runs, StrandRun, is_in, places_of}
use Rattle.bt_runs.specs.calls.MergedRuns.{AreMergeable, kept_runs, settled_runs, kept_strand_runs}
use Rattle.bt_runs.specs.declared.merge.merge_strand.MergeStrand.{MergeStrand}
use Rattle.std.specs.List.{find, position_or_len}
use Rattle.std.specs.List.Sorted.{IsStrictlyIncreasing}
use Rattle.bt_bed.specs.model.Sorted.{Locus, locus_of}
use Rattle.bt_bed.specs.model.Order.{Order}

-- What a merge keeps beside its settled runs.

-- the settled runs and the kept ones are all, and one run at most is kept
abbrev pub one_run_is_kept : Type 0
one_run_is_kept =
    (gap : ℕ) (strand : MergeStrand) (past : List Feature) → AreMergeable past
    → (merged_runs gap strand past ≡ settled_runs gap strand past ++ kept_runs gap strand past)
    × (length (kept_runs gap strand past) ≤ 1)

-- the runs of one strand come in their order, each of them once
abbrev pub strands_stay_in_order : Type 0
strands_stay_in_order =
    (gap : ℕ) (records : List Feature) (strand : Strand) → AreMergeable records
    → filter (λ item. is_same_strand item.strand strand) (strand_runs gap records)
    ≡ runs_of_strand gap records strand

-- the settled runs and the kept ones are all
abbrev pub strand_runs_divide : Type 0
strand_runs_divide =
    (gap : ℕ) (past : List Feature)
    → strand_runs gap past ≡ settled_strand_runs gap past ++ kept_strand_runs gap past

-- The order in which the runs of `bedtools merge -s` come: that of their first records (bedtools
-- manual, merge, option -s).

-- how many records come before the first one of a run
abbrev pub first_place : List Feature → StrandRun → ℕ
first_place records item = position_or_len (is_in item) records

-- where the first record of a run starts, if it has one
abbrev pub first_start : List Feature → StrandRun → Option Locus
first_start records item =
    option_map (λ r. locus_of (interval_of r)) (find (is_in item) records)

-- the runs come in the order of their first records in the file
abbrev pub strand_runs_come_in_turn : Type 0
strand_runs_come_in_turn =
    (gap : ℕ) (records : List Feature) → AreMergeable records
    → IsStrictlyIncreasing (map (first_place records) (strand_runs gap records))

-- each run has a first record, and starts where it does
abbrev pub strand_runs_start_with_records : Type 0
strand_runs_start_with_records =
    (gap : ℕ) (records : List Feature) → AreMergeable records
    → map (first_start records) (strand_runs gap records)
    ≡ map (λ item. Some (locus_of item.run)) (strand_runs gap records)

-- so for records in a total order of the chromosomes the runs are in that order:
-- by chromosome, then by start
abbrev pub strand_runs_come_in_order : Type 0
strand_runs_come_in_order =
    (order : Order) (gap : ℕ) (records : List Feature) → IsTotal order
    → ArePlaced order (intervals_of records) → AreNonEmpty (intervals_of records)
    → ArePlaced order (places_of (strand_runs gap records))
