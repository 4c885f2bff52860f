use Rattle.bt_lines.proofs.Std.{arith, drop-set, drop_all, length-set}
use Rattle.bt_runs.proofs.coverage.depth_line.write_depth.Goals as goal

pub returns-clause-written : goal.returns-clause-written
returns-clause-written c = grind (arith, (length-set c.args.text.now 63 10), (drop-set c.args.text.now 63 10 (omega arith)), (drop_all 64 c.args.text.now (omega arith)))
