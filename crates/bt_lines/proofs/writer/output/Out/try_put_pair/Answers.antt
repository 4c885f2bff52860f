use Rattle.bt_lines.proofs.Std.{arith, length-append}
use Rattle.bt_lines.proofs.lemmas.Writer.{puts_held}
use Rattle.bt_lines.proofs.writer.output.Out.try_put_pair.Goals as goal

pub returns-clause-held : goal.returns-clause-held
returns-clause-held g c = λ e.
    rw (← c.self.view_is) (puts_held _ c.self.inside.has_failed _ _ _ c.self.inside.held _ _ c.if-self.false c.append_both.ensures (omega (arith, length-append c.args.piece.now c.args.end.now, c.room.ensures, c.if-room-piece.false)))
