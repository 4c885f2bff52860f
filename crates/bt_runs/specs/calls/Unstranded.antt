-- What a merge of all its records together holds after the records of the past.
use Rattle.std.specs.Prelude.{◌≡◌, ℕ, List, [], ◌∷◌, ◌++◌, length, None}
use Rattle.bt_bed.specs.model.Feature.{Feature, Interval}
use Rattle.bt_bed.specs.model.BedLine.{interval_lines}
use Rattle.bt_runs.specs.calls.Engine.{EngineDef, IsOnLast, IsQuiet}
use Rattle.bt_runs.specs.model.Merged.{merged_runs}
use Rattle.bt_runs.specs.calls.MergedRuns.{AreMergeable, kept_runs, settled_runs}
use Rattle.bt_runs.specs.declared.merge.merge_strand.MergeStrand.{MergeStrand}

-- the gap that it bridges, the records that it counts, the chromosome that it is on, and the run that it keeps, if
-- there is one
pub record Unstranded : Type 0 where
  pub gap : ℕ
  pub strand : MergeStrand
  pub chrom : List ℕ
  pub kept : List Interval

-- it has taken the records of the past since it began
pub record IsAfter (first : Unstranded) (past : List Feature) (now : Unstranded) : Type 0 where
  pub same_gap : now.gap ≡ first.gap
  pub same_strand : now.strand ≡ first.strand
  pub kept : now.kept ≡ kept_runs first.gap first.strand past
  -- it is on the chromosome of the last one
  pub on : (before : List Feature) (last : Feature) → past ≡ before ++ last ∷ [] → now.chrom ≡ last.chrom

-- the lines of the settled runs
abbrev pub settled_lines : Unstranded → List Feature → List ℕ
settled_lines first past = interval_lines (settled_runs first.gap first.strand past)

-- how many runs are kept
abbrev pub held_count : Unstranded → List Feature → ℕ
held_count first past = length (kept_runs first.gap first.strand past)

-- what it takes, writes and keeps, until it has failed
abbrev pub unstranded : EngineDef Unstranded
unstranded = record {
  takes = λ first past. AreMergeable past;
  settled = settled_lines;
  -- the lines of all runs
  output = λ first past. interval_lines (merged_runs first.gap first.strand past);
  held = held_count;
  is_after = IsAfter;
  fault = λ now. None;
  -- a record on the last chromosome that settles no run, with which no more are kept
  quiet = λ first past r. IsQuiet (settled_lines first) (held_count first) past r × IsOnLast past r;
  -- the name of another chromosome has to be kept
  wants = λ old r. old.chrom ≡ r.chrom → ⊥;
}
