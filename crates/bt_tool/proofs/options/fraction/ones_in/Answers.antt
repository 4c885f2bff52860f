use Rattle.bt_lines.proofs.Std.{sym, ◌∙◌, arith, nat_tests}
use Rattle.bt_tool.proofs.lemmas.Fraction.{few_ones, many_ones, no_ones}
use Rattle.bt_tool.proofs.options.fraction.ones_in.Goals as goal

pub returns-in_default : goal.returns-in_default
returns-in_default c =
    no_ones c.args.whole.now (grind (arith, nat_tests, c.is_empty.ensures, c.if-is_empty.false)) (sym c.number.ensures ∙ c.in_default.is)

pub returns-then-ones-gt1 : goal.returns-then-ones-gt1
returns-then-ones-gt1 c = many_ones c.args.whole.now c.in-Some.ones (sym c.number.ensures ∙ c.in-Some.is) c.if-ones-gt1.true

pub returns : goal.returns
returns c = few_ones c.args.whole.now c.in-Some.ones (sym c.number.ensures ∙ c.in-Some.is) c.if-ones-gt1.false
