use Rattle.bt_lines.proofs.Std.{arith, drop-set, drop_all, length-set}
use Rattle.bt_bed.proofs.write.interval_line.write_bounds.Goals as goal

pub returns-clause-written : goal.returns-clause-written
returns-clause-written c = grind (arith, (length-set c.args.text.now 42 c.args.end), (drop-set c.args.text.now 42 c.args.end (omega arith)), (drop_all 43 c.args.text.now (omega arith)))
