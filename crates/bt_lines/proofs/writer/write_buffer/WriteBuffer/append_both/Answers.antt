use Rattle.bt_lines.proofs.Std.{arith, length-take-le, append_assoc, length-append, take-put_mid}
use Rattle.bt_lines.proofs.writer.write_buffer.WriteBuffer.append_both.Goals as goal

pub returns : goal.returns
returns c = grind (arith, length-take-le, length-append, take-put_mid, append_assoc)
