use Rattle.bt_lines.proofs.Std.{arith, drop_more}
use Rattle.bt_bed.proofs.record.kept_strand.kept_strand.Goals as goal

pub returns : goal.returns
returns c = grind (arith, (drop_more (c.args.text.now) (c.args.from) 0 (omega (arith, c.requires, c.if-from-text.false))))

pub returns-then-columns-le-SHORT : goal.returns-then-columns-le-SHORT
returns-then-columns-le-SHORT c = grind (arith, (drop_more (c.args.text.now) (c.args.from) 0 (omega (arith, c.requires, c.if-from-text.false))))
