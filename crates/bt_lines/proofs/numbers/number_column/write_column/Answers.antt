use Rattle.bt_lines.proofs.Std.{arith, drop-set}
use Rattle.bt_lines.proofs.lemmas.Writer.{twenty_digits}
use Rattle.bt_lines.proofs.numbers.number_column.write_column.Goals as goal

pub returns-clause-written : goal.returns-clause-written
returns-clause-written c = grind (arith, twenty_digits, drop-set)
