use Rattle.bt_lines.proofs.Std.{◌≡◌, List}
use Rattle.bt_bed.specs.model.Feature.{Feature}
use Rattle.bt_sweep.specs.inside.Joining.{LieOn}
use Rattle.bt_sweep.proofs.sweep.state.skip.Given as goal

abbrev pub invariant-loop-next : goal.invariant-loop-next
invariant-loop-next g l = record {
  same : g.B.Cursor.name l.seconds ≡ g.B.Cursor.name l.fn.seconds;
  given : (seconds : List Feature) × g.B.Cursor.gives l.fn.seconds seconds l.seconds × LieOn (g.B.Cursor.name l.fn.seconds) seconds;
}

abbrev pub decreases-loop-next : goal.decreases-loop-next
decreases-loop-next g l = g.B.Cursor.room l.seconds
