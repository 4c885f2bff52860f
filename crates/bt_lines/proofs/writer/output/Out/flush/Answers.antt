use Rattle.bt_lines.proofs.Std.{arith}
use Rattle.bt_lines.proofs.lemmas.Writer.{front_held, front_sent, front_taken}
use Rattle.bt_lines.proofs.writer.output.Out.flush.Goals as goal

pub returns-then-self-clause-front : goal.returns-then-self-clause-front
returns-then-self-clause-front g c = rw (← c.self.view_is) (front_held _ _ _)

pub returns-then-is_err-clause-front : goal.returns-then-is_err-clause-front
returns-then-is_err-clause-front g c = rw (← c.self.view_is) (grind (arith, front_sent, front_taken))
