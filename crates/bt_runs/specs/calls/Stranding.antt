-- What a merge that keeps the strands apart holds after the records of the past.
use Rattle.std.specs.Prelude.{◌≡◌, ℕ, List, [], ◌∷◌, ◌++◌, length, None}
use Rattle.bt_bed.specs.model.Feature.{Feature}
use Rattle.bt_bed.specs.model.BedLine.{interval_lines}
use Rattle.bt_runs.specs.calls.Engine.{EngineDef, IsOnLast, IsQuiet}
use Rattle.bt_runs.specs.model.Merged.{StrandRun, places_of, settled_strand_runs, strand_runs}
use Rattle.bt_runs.specs.calls.MergedRuns.{AreMergeable, kept_strand_runs}

-- the gap that it bridges, the chromosome that it is on, and the runs that it keeps
pub record Stranding : Type 0 where
  pub gap : ℕ
  pub chrom : List ℕ
  pub kept : List StrandRun

-- it has taken the records of the past since it began
pub record IsAfter (first : Stranding) (past : List Feature) (now : Stranding) : Type 0 where
  pub same_gap : now.gap ≡ first.gap
  -- it is on the chromosome of the last one
  pub chrom : (before : List Feature) (last : Feature) → past ≡ before ++ last ∷ [] → now.chrom ≡ last.chrom
  pub kept : now.kept ≡ kept_strand_runs first.gap past

-- the lines of runs
abbrev pub strand_lines : List StrandRun → List ℕ
strand_lines items = interval_lines (places_of items)

-- the lines of the settled runs
abbrev pub settled_lines : Stranding → List Feature → List ℕ
settled_lines first past = strand_lines (settled_strand_runs first.gap past)

-- how many runs are kept
abbrev pub held_count : Stranding → List Feature → ℕ
held_count first past = length (kept_strand_runs first.gap past)

-- what it takes, writes and keeps, until it has failed; `wants` says when memory may be needed
abbrev pub stranding_with : (Stranding → Feature → Type 0) → EngineDef Stranding
stranding_with wants = record {
  takes = λ first past. AreMergeable past;
  settled = settled_lines;
  -- the lines of all runs
  output = λ first past. strand_lines (strand_runs first.gap past);
  held = held_count;
  is_after = IsAfter;
  fault = λ now. None;
  -- a record on the chromosome of the one before it that settles no run, with which no more are kept
  quiet = λ first past r. IsQuiet (settled_lines first) (held_count first) past r × IsOnLast past r;
  wants = wants;
}
