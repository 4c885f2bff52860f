use Rattle.bt_lines.proofs.Std.{arith, length-append}
use Rattle.bt_lines.proofs.lemmas.Writer.{puts_held, span_short}
use Rattle.bt_lines.specs.calls.Output.{span_text}
use Rattle.bt_lines.proofs.writer.output.Out.try_put_interval.Goals as goal

pub returns-clause-held : goal.returns-clause-held
returns-clause-held g c = λ e.
    rw (← c.self.view_is) (puts_held _ c.self.inside.has_failed _ _ _ c.self.inside.held _ _ c.if-self.false c.append_span.ensures (omega (arith, length-append c.args.name.now (span_text c.args.start c.args.stop c.args.end), span_short c.args.start c.args.stop c.args.end c.ranges.start.fits c.ranges.stop.fits, c.room.ensures, c.if-room-name.false)))
