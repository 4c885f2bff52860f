-- What a merge may take, where its runs lie, and which of them are settled and which are kept.
use Rattle.std.specs.Prelude.{ℕ, ◌+◌, ◌-◌, ◌≤◌, List, drop, length}
use Rattle.bt_bed.specs.model.Feature.{Interval, Span, Feature, intervals_of, last_of}
use Rattle.bt_bed.specs.calls.Orders.{AreNonEmpty, AreContiguous}
use Rattle.bt_bed.specs.model.Positions.{IsCovered}
use Rattle.bt_runs.specs.declared.merge.merge_strand.MergeStrand.{MergeStrand}
use Rattle.bt_runs.specs.model.Merged.{merged_runs, passed_by, StrandRun, strand_runs, settled_strand_runs}

-- covered positions lie on both sides, or here, with at most `gap` positions between them
pub record Bridged (gap : ℕ) (spans : List Span) (p : ℕ) : Type 0 where
  pub left : ℕ
  pub right : ℕ
  pub left_covered : IsCovered spans left
  pub right_covered : IsCovered spans right
  pub from_left : left ≤ p
  pub to_right : p ≤ right
  pub near : right - left ≤ gap + 1

-- records that a merge may take: those of one chromosome are contiguous, their starts don't fall,
-- and each has a base
pub record AreMergeable (records : List Feature) : Type 0 where
  pub contiguous : AreContiguous (intervals_of records)
  pub full : AreNonEmpty (intervals_of records)

-- the runs that are settled after the records
unfoldable pub settled_runs : ℕ → MergeStrand → List Feature → List Interval
settled_runs gap strand records =
    passed_by gap (merged_runs gap strand records) (last_of (intervals_of records))

-- the runs that come after the settled ones
unfoldable pub kept_runs : ℕ → MergeStrand → List Feature → List Interval
kept_runs gap strand records =
    drop (length (settled_runs gap strand records)) (merged_runs gap strand records)

-- of the runs of each strand, those that come after the settled ones
unfoldable pub kept_strand_runs : ℕ → List Feature → List StrandRun
kept_strand_runs gap records =
    drop (length (settled_strand_runs gap records)) (strand_runs gap records)
