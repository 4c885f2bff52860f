use Rattle.bt_lines.proofs.Std.{length, false}
use Rattle.bt_runs.proofs.lemmas.merge.StrandSettling.{Written}
use Rattle.bt_runs.proofs.merge.pending_runs.put_list.Given as goal

-- the runs that were taken off were written
abbrev pub invariant-loop-run : goal.invariant-loop-run
invariant-loop-run g l = Written false 0 l.chrom l.fn.out.output l.fn.runs l.out.output l.runs

abbrev pub decreases-loop-run : goal.decreases-loop-run
decreases-loop-run g l = length l.runs
