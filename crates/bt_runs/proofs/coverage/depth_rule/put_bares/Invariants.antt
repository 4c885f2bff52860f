use Rattle.bt_lines.proofs.Std.{flat_map, slice_range}
use Rattle.bt_bed.specs.calls.GenomeTable.{entries}
use Rattle.bt_lines.specs.calls.Output.{Grown}
use Rattle.bt_runs.specs.model.Depth.{depth_lines}
use Rattle.bt_runs.specs.inside.Coverage.{bare_of}
use Rattle.bt_runs.proofs.coverage.depth_rule.put_bares.Given as goal

-- the chromosomes so far were written
abbrev pub invariant-loop-rank : goal.invariant-loop-rank
invariant-loop-rank g l = Grown l.fn.out.output (depth_lines (flat_map (bare_of l.chroms.zeros) (slice_range (entries l.chroms.genome.now) l.first l.rank))) l.out.output
