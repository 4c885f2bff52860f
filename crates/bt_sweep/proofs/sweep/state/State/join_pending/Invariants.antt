use Rattle.bt_lines.proofs.Std.{◌≡◌, Some, None}
use Rattle.bt_bed.specs.calls.Orders.{IsTotal}
use Rattle.bt_sweep.specs.inside.Joining.{AreDecidedOn, JoinsSo, LeavesOn, FitsShape, line_in, lines_pending}
use Rattle.bt_sweep.proofs.sweep.state.State.join_pending.Given as goal

abbrev pub invariant-loop-next : goal.invariant-loop-next
invariant-loop-next g l = record {
  none : l.self.current ≡ None;
  phase : l.self.phase ≡ l.fn.self.phase;
  on : g.A.Cursor.name l.firsts.cursor ≡ g.A.Cursor.name l.fn.firsts.cursor;
  line : line_in (g.A.Cursor.consumed l.firsts.cursor) l.firsts.to ≡ g.A.Record.Record.raw l.current;
  quiet : FitsShape l.self.shape (lines_pending l.firsts);
  beside : g.B.Cursor.name l.ahead ≡ g.B.Cursor.name l.fn.seconds;
  same : l.ahead ≡ l.seconds;
  going : (j : JoinsSo g.A.Cursor g.B.Cursor IsTotal (AreDecidedOn (g.A.Record.Record.feature l.fn.first).chrom)
      l.fn.self (g.A.Record.Record.feature l.fn.first) l.fn.firsts.cursor l.fn.seconds (lines_pending l.fn.firsts) l.fn.out.output
      (Some (g.A.Record.Record.feature l.current)) l.self l.firsts.cursor l.seconds (lines_pending l.firsts) l.out.output)
      × (j.proceeds.next ≡ None) × LeavesOn j.proceeds.seconds (g.A.Record.Record.feature l.current);
}

abbrev pub decreases-loop-next : goal.decreases-loop-next
decreases-loop-next g l = g.B.Cursor.room l.ahead
