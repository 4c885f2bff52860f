use Rattle.bt_lines.proofs.Std.{arith, drop-set, drop_all, length-set}
use Rattle.bt_seq.proofs.bamtobed.bed_line.write_cigar.Goals as goal

pub returns-then-not-with_cigar-clause-written : goal.returns-then-not-with_cigar-clause-written
returns-then-not-with_cigar-clause-written c = grind (arith, (drop_all 200 c.args.text.now (omega arith)))

pub returns-clause-written : goal.returns-clause-written
returns-clause-written c = grind (arith, (length-set (c.args.text.now) 199 10), (drop-set (c.args.text.now) 199 10 (omega arith)), (drop_all 200 (c.args.text.now) (omega arith)))
