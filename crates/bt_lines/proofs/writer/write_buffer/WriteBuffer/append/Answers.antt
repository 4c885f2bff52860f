use Rattle.bt_lines.proofs.Std.{refl, arith, take-put_mid}
use Rattle.bt_lines.proofs.writer.write_buffer.WriteBuffer.append.Goals as goal

pub returns : goal.returns
returns c = rw (c.copy_from_slice.ensures.after, ← c.self.view_is) (take-put_mid c.self.inside.len _ c.self.inside.bytes c.args.piece.now _ refl (omega (arith, c.self.invariant, c.self.told)))
