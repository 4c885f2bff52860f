use Rattle.bt_lines.proofs.Std.{◌≡◌}
use Rattle.bt_runs.proofs.lemmas.Engine.{Following}
use Rattle.bt_runs.proofs.engine.rule.follow.Given as goal

abbrev pub invariant-loop-fault : goal.invariant-loop-fault
invariant-loop-fault g l = record {
  following : Following g.E.Rule.definition g.C.Cursor l.fn.rule l.fn.records l.fn.out.output (g.E.Rule.with_on l.rule l.on) l.out.output
      (g.C.Record.Record.feature l.«record») l.ahead;
  same_name : g.C.Cursor.name l.ahead ≡ g.C.Cursor.name l.fn.records;
}

abbrev pub decreases-loop-fault : goal.decreases-loop-fault
decreases-loop-fault g l = g.C.Cursor.room l.ahead
