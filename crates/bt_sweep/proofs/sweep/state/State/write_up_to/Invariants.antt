use Rattle.bt_lines.proofs.Std.{◌≡◌, Some, None}
use Rattle.bt_sweep.specs.inside.Joining.{WritesSo, FitsShape, line_in, lines_pending}
use Rattle.bt_sweep.proofs.sweep.state.State.write_up_to.Given as goal

abbrev pub invariant-loop-self : goal.invariant-loop-self
invariant-loop-self g l = record {
  none : l.self.current ≡ None;
  phase : l.self.phase ≡ l.fn.self.phase;
  on : g.A.Cursor.name l.firsts.cursor ≡ g.A.Cursor.name l.fn.firsts.cursor;
  line : line_in (g.A.Cursor.consumed l.firsts.cursor) l.firsts.to ≡ g.A.Record.Record.raw l.given;
  quiet : FitsShape l.self.shape (lines_pending l.firsts);
  going : WritesSo g.A.Cursor l.fn.place l.fn.self (g.A.Record.Record.feature l.fn.first) l.fn.firsts.cursor
      (lines_pending l.fn.firsts) l.fn.out.output
      (Some (g.A.Record.Record.feature l.given)) l.self l.firsts.cursor
      (lines_pending l.firsts) l.out.output;
}

abbrev pub decreases-loop-self : goal.decreases-loop-self
decreases-loop-self g l = g.A.Cursor.room l.firsts.cursor
