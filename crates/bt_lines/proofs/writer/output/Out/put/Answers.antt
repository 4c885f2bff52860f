use Rattle.bt_lines.proofs.Std.{length-append, arith}
use Rattle.bt_lines.proofs.lemmas.Writer.{front_held, holds_held}
use Rattle.bt_lines.proofs.writer.output.Out.put.Goals as goal

pub returns-then-self-clause-front : goal.returns-then-self-clause-front
returns-then-self-clause-front g c = rw (← c.self.view_is) (front_held _ _ _)

pub returns-then-piece-room-clause-block : goal.returns-then-piece-room-clause-block
returns-then-piece-room-clause-block g c = grind (arith, holds_held, length-append)
