-- What one more record does to the runs that a merge of all its records together keeps, exactly.
use Rattle.std.specs.Prelude.{ℕ, not, cond, List, [], ◌∷◌, max, filter, Option, Some, None, ◌≡◌, ◌==◌}
use Rattle.bt_bed.specs.model.Feature.{Feature, interval_of, Interval}
use Rattle.bt_bed.specs.model.BedLine.{interval_lines}
use Rattle.bt_runs.specs.model.Merged.{is_counted, is_closed, passed_by}
use Rattle.bt_bed.specs.declared.record.strand.Strand.{Strand}
use Rattle.bt_runs.specs.declared.merge.merge_strand.MergeStrand.{MergeStrand}
use Rattle.bt_runs.specs.declared.merge.merge_strand.MergeStrand.TheVariants.{All, One}
use Rattle.bt_runs.specs.calls.Unstranded.{Unstranded, unstranded}
use Rattle.bt_runs.specs.inside.Walk.{RuleDef}
use Rattle.bt_runs.specs.declared.merge.unstranded_merge.OpenRun.{OpenRun}

-- the records that are merged together: those of one strand, or all
abbrev pub merged_of : Option Strand → MergeStrand
merged_of None = All
merged_of (Some strand) = One strand

-- the run with the record joined to it
abbrev pub joined_run : Interval → Interval → Interval
joined_run run r = record { chrom = run.chrom; start = run.start; stop = max run.stop r.stop }

-- the runs with the record: joined to the first of them, or as the only one
abbrev pub runs_with : List Interval → Interval → List Interval
runs_with [] r = r ∷ []
runs_with (run ∷ runs) r = joined_run run r ∷ runs

-- the runs that the record closes
abbrev pub settled_by : ℕ → List Interval → Interval → List Interval
settled_by gap runs r = passed_by gap runs (Some r)

-- and the others
abbrev pub runs_left_by : ℕ → List Interval → Interval → List Interval
runs_left_by gap runs r = filter (λ run. not (is_closed gap r run)) runs

-- the runs that are kept after the record, which is added if it counts
abbrev pub kept_by : ℕ → MergeStrand → List Interval → Feature → List Interval
kept_by gap strand runs r =
    let left = runs_left_by gap runs (interval_of r) in
    cond (is_counted strand r.strand) (runs_with left (interval_of r)) left

-- the run of these numbers, or none
abbrev pub kept_at : List ℕ → OpenRun → List Interval
kept_at chrom run =
    cond (run.stop == 0) [] (record { chrom = chrom; start = run.start; stop = run.stop } ∷ [])

-- the line of each run that the record settles
abbrev pub lines_by : Unstranded → Feature → List ℕ
lines_by merge r = interval_lines (settled_by merge.gap merge.kept (interval_of r))

-- the merge took the record
pub record TakesUnstranded (old : Unstranded) (r : Feature) (new : Unstranded) : Type 0 where
  pub gap : new.gap ≡ old.gap
  pub strand : new.strand ≡ old.strand
  pub chrom : new.chrom ≡ r.chrom
  pub kept : new.kept ≡ kept_by old.gap old.strand old.kept r

-- the rule
abbrev pub unstranded_rule : RuleDef Unstranded
unstranded_rule = record { engine = unstranded; lines = lines_by; has = TakesUnstranded; is_on = λ merge name. merge.chrom ≡ name }
