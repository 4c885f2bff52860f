use Rattle.bt_lines.proofs.Std.{length, true}
use Rattle.bt_runs.proofs.lemmas.merge.StrandSettling.{Written}
use Rattle.bt_runs.proofs.merge.pending_runs.put_passed.Given as goal

-- the runs that were taken off were written
abbrev pub invariant-loop-run : goal.invariant-loop-run
invariant-loop-run g l = Written true l.reach l.chrom l.fn.out.output l.fn.runs l.out.output l.runs

abbrev pub decreases-loop-run : goal.decreases-loop-run
decreases-loop-run g l = length l.runs
