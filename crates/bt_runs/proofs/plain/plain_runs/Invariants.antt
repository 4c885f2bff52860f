use Rattle.bt_runs.specs.inside.PlainRuns.{spans_in}
use Rattle.bt_runs.proofs.lemmas.definitions.PlainSpans.{AreRunsBelow}
use Rattle.bt_runs.proofs.plain.plain_runs.Given as goal

-- the runs so far are those of the positions so far
abbrev pub invariant-loop-position : goal.invariant-loop-position
invariant-loop-position l = AreRunsBelow l.gap (spans_in l.spans) l.position (spans_in l.runs.items)
