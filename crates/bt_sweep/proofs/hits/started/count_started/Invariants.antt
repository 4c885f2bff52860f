use Rattle.bt_lines.proofs.Std.{◌-◌, ◌≤◌, drop, length, take}
use Rattle.bt_sweep.specs.calls.Held.{AreRising, StartBefore, StartFrom}
use Rattle.bt_sweep.proofs.hits.started.count_started.Given as goal

-- those before `low` start before the place, and those from `high` on there or after it
abbrev pub invariant-loop-low : goal.invariant-loop-low
invariant-loop-low g l = record {
  order : l.low ≤ l.high;
  within : l.high ≤ length (g.H.Held.records l.held);
  before : AreRising (g.H.Held.records l.held) → StartBefore l.place (take l.low (g.H.Held.records l.held));
  rest : AreRising (g.H.Held.records l.held) → StartFrom l.place (drop l.high (g.H.Held.records l.held));
}

abbrev pub decreases-loop-low : goal.decreases-loop-low
decreases-loop-low g l = l.high - l.low
