use Rattle.bt_lines.proofs.Std.{arith}
use Rattle.bt_lines.proofs.lemmas.reader.lines.TakingLemmas.{given_below}
use Rattle.bt_bed.proofs.read.blocks.Blocks.line.Goals as goal

pub overflow_add-result : goal.overflow_add-result
overflow_add-result g c = omega (arith, given_below c.args.self.now.sorted.reader, c.lines.ensures)
