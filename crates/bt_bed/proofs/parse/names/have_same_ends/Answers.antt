use Rattle.bt_lines.proofs.Std.{arith}
use Rattle.bt_bed.proofs.lemmas.parse.NameLemmas.{long_ends_tell}
use Rattle.bt_bed.proofs.parse.names.have_same_ends.Goals as goal

pub returns-then-words-other : goal.returns-then-words-other
returns-then-words-other c =
    let words = c.in-Some-Some.ensures in
    let other = c.in-Some-Some.ensures' in
    long_ends_tell c.args.left.now c.args.right.now c.requires.same words.0
    c.requires.short (λ i. omega (arith, c.type_inv.left i)) (λ i. omega (arith, c.type_inv.right i)) words.1 words.2 other.1
    other.2
    c.if-words-other.true
