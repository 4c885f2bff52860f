use Rattle.bt_lines.proofs.Std.{arith, length-take-le}
use Rattle.bt_lines.proofs.lemmas.Writer.{span_put}
use Rattle.bt_lines.proofs.writer.write_buffer.WriteBuffer.append_span.Goals as goal

pub returns : goal.returns
returns c = grind (arith, length-take-le, span_put)
