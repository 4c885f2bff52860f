use Rattle.bt_lines.proofs.Std.{◌≡◌, ◌<◌, ◌+◌, arith, length, sym, ◌∙◌, nat_tests}
use Rattle.bt_tool.proofs.lemmas.Fraction.{above_one, is_fraction, many_decimals, no_decimals, no_digit, no_whole}
use Rattle.bt_tool.proofs.options.fraction.fraction_in.Goals as goal
use Rattle.bt_tool.proofs.options.fraction.fraction_in.Goals.{else-is_empty-via-then-is_empty+else-is_empty-2, else-is_empty-via-else-is_empty}

pub returns-then-is_empty-2 : goal.returns-then-is_empty-2
returns-then-is_empty-2 c =
    let none_behind : length c.args.decimals.now ≡ 0 = grind (arith, nat_tests, c.is_empty-then-is_empty.ensures, c.if-is_empty-2.true) in
    no_digit c.args.whole.now c.args.decimals.now (grind (arith, nat_tests, c.is_empty.ensures, c.if-is_empty.true)) none_behind

pub returns-then-decimals-gt-DECIMALS : goal.returns-then-decimals-gt-DECIMALS
returns-then-decimals-gt-DECIMALS c = many_decimals c.args.whole.now c.args.decimals.now c.if-decimals-gt-DECIMALS.true

pub returns-in_default : goal.returns-in_default
returns-in_default c = no_whole c.args.whole.now c.args.decimals.now (sym c.in_default.is ∙ c.ones_in.ensures)

pub returns-in_default-billionths_behind : goal.returns-in_default-billionths_behind
returns-in_default-billionths_behind c =
    no_decimals c.args.whole.now c.args.decimals.now (sym c.in_default-billionths_behind.is ∙ c.billionths_behind.ensures.value)

pub returns-then-billionths-gt-ONE : goal.returns-then-billionths-gt-ONE
returns-then-billionths-gt-ONE c =
    above_one c.args.whole.now c.args.decimals.now c.in-Some.ones c.in-Some-billionths_behind.billionths
    (sym c.in-Some.is ∙ c.ones_in.ensures) (sym c.in-Some-billionths_behind.is ∙ c.billionths_behind.ensures.value)
    c.if-billionths-gt-ONE.true

pub returns : goal.returns
returns c =
    let whole = c.args.whole.now in
    let decimals = c.args.decimals.now in
    let some : 0 < length whole + length decimals = elim c.else-is_empty.branch [
      | else-is_empty-via-then-is_empty+else-is_empty-2 w ↦ grind (arith, nat_tests, w.is_empty-then-is_empty.ensures, w.if-is_empty-2.false)
      | else-is_empty-via-else-is_empty w ↦ grind (arith, nat_tests, c.is_empty.ensures, w.if-is_empty.false)
    ] in
    is_fraction whole decimals c.in-Some.ones c.in-Some-billionths_behind.billionths
    (sym c.in-Some.is ∙ c.ones_in.ensures) (sym c.in-Some-billionths_behind.is ∙ c.billionths_behind.ensures.value)
    some c.if-decimals-gt-DECIMALS.false c.if-billionths-gt-ONE.false
