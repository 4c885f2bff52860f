use Rattle.bt_lines.proofs.Std.{arith, take_rest}
use Rattle.bt_lines.proofs.lemmas.Writer.{always_err, front_part, more_taken}
use Rattle.bt_lines.proofs.writer.output.write_whole.Goals as goal

pub loop-rest-preserved : goal.loop-rest-preserved
loop-rest-preserved g c = grind (arith, (more_taken _ _ _ c.loop-rest.invariant.0 _ _ c.in_ok-count.count c.loop-rest.invariant.1 c.loop-rest.invariant.2 c.in_ok-count.ensures.takes), take_rest)

pub returns-in_err-count-clause-front : goal.returns-in_err-count-clause-front
returns-in_err-count-clause-front g c =
    always_err c.from_residual.result (front_part _ _ _ c.loop-rest.invariant.0 _ _ c.loop-rest.invariant.1 c.loop-rest.invariant.2 c.in_err-count.ensures.takes_none)
