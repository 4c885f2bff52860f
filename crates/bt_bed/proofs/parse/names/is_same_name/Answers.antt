use Rattle.bt_lines.proofs.Std.{arith}
use Rattle.bt_bed.proofs.lemmas.parse.NameLemmas.{ends_tell}
use Rattle.bt_bed.proofs.parse.names.is_same_name.Goals as goal

pub returns-then-ends-others : goal.returns-then-ends-others
returns-then-ends-others c =
    let ends = c.in-Some-Some.ensures in
    let others = c.in-Some-Some.ensures' in
    ends_tell c.args.left.now c.args.right.now (omega (arith, c.if-left-right.false)) ends.0
    (omega (arith, c.if-left-gt-SHORT.false)) (λ i. omega (arith, c.type_inv.left i)) (λ i. omega (arith, c.type_inv.right i)) ends.1 ends.2 others.1
    others.2
    c.if-ends-others.true
