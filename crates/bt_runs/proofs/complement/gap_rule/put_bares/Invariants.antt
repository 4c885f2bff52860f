use Rattle.bt_lines.proofs.Std.{false, flat_map, slice_range}
use Rattle.bt_bed.specs.calls.GenomeTable.{entries}
use Rattle.bt_runs.specs.inside.GapStep.{bare_gap}
use Rattle.bt_bed.specs.model.BedLine.{interval_lines}
use Rattle.bt_lines.specs.calls.Output.{Grown}
use Rattle.bt_runs.proofs.complement.gap_rule.put_bares.Given as goal

-- the chromosomes so far were written
abbrev pub invariant-loop-rank : goal.invariant-loop-rank
invariant-loop-rank g l = Grown l.fn.out.output (interval_lines (flat_map (bare_gap false) (slice_range (entries l.genome) l.first l.rank))) l.out.output
