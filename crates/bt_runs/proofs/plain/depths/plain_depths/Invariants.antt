use Rattle.bt_bed.specs.model.Levels.{AreLevelsOf}
use Rattle.bt_runs.specs.inside.PlainRuns.{levels_in, spans_in}
use Rattle.bt_runs.specs.model.Depth.{depth_of}
use Rattle.bt_runs.proofs.plain.depths.plain_depths.Given as goal

-- the intervals so far are those of the positions so far
abbrev pub invariant-loop-position : goal.invariant-loop-position
invariant-loop-position l = AreLevelsOf (depth_of l.zeros (spans_in l.spans)) l.position (levels_in l.depths.items)
