use Rattle.bt_lines.proofs.Std.{ℕ, ◌<◌, ◌≤◌, get_or}
use Rattle.bt_bed.specs.model.Feature.{Feature}
use Rattle.bt_hits.specs.inside.Meeting.{records_near}
use Rattle.bt_hits.specs.model.Bins.{level_of}
use Rattle.bt_hits.proofs.writing.levels_in.Given as goal

-- the levels of those so far
abbrev pub invariant-loop-index : goal.invariant-loop-index
invariant-loop-index l = record {
  within : l.count ≤ 8;
  below : (k : ℕ) (d : Feature) → k < l.index → level_of (get_or (records_near l.near) k d) < l.count;
}
