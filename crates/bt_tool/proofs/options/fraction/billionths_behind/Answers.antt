use Rattle.bt_lines.proofs.Std.{◌≡◌, ◌<◌, ◌-◌, ap, arith, get_or, length, sym, ◌∙◌, true, is_ascii_digit, unwrap_or}
use Rattle.bt_lines.proofs.lemmas.numbers.NumberLemmas.{digit_small, digits_more, value_below, value_more}
use Rattle.bt_tool.specs.model.Fraction.{nine_decimals}
use Rattle.bt_tool.proofs.lemmas.Fraction.{length_of_nine, nine_at, nine_whole, other_decimal}
use Rattle.bt_tool.proofs.options.fraction.billionths_behind.Goals as goal

pub returns-then-not-is_ascii_digit-clause-value : goal.returns-then-not-is_ascii_digit-clause-value
returns-then-not-is_ascii_digit-clause-value c =
    let at = c.loop-at.at in
    let decimals = c.args.decimals.now in
    let read : c.unwrap_or-digit.result ≡ get_or decimals at 48 = c.unwrap_or-digit.ensures ∙ ap (λ o. unwrap_or o 48) c.copied.ensures ∙ c.get.ensures.lookup.4 (omega arith) 48 in
    let digit = nine_at decimals at c.unwrap_or-digit.result c.requires c.loop-at-test.true read in
    other_decimal decimals at c.requires c.loop-at-test.true
    (ap is_ascii_digit (sym digit) ∙ sym c.is_ascii_digit.ensures.value ∙ c.if-not-is_ascii_digit.true)

pub loop-at-preserved : goal.loop-at-preserved
loop-at-preserved c =
    let at = c.loop-at.at in
    let decimals = c.args.decimals.now in
    let text = nine_decimals decimals in
    let read : c.unwrap_or-digit.result ≡ get_or decimals at 48 = c.unwrap_or-digit.ensures ∙ ap (λ o. unwrap_or o 48) c.copied.ensures ∙ c.get.ensures.lookup.4 (omega arith) 48 in
    let is = nine_at decimals at c.unwrap_or-digit.result c.requires c.loop-at-test.true read in
    let digit : is_ascii_digit (get_or text at 0) ≡ true = ap is_ascii_digit (sym is) ∙ sym c.is_ascii_digit.ensures.value ∙ c.if-not-is_ascii_digit.false in
    let within : at < length text = omega (arith, length_of_nine decimals c.requires, c.loop-at-test.true) in
    let below = value_below at c.loop-at.billionths _ c.loop-at.invariant.2 (digit_small _ digit) in
    let added : c.from.result ≡ get_or text at 0 - 48 = c.from.ensures ∙ ap (λ d. d - 48) is in
    (rw added (value_more text at c.loop-at.billionths within c.loop-at.invariant.0 digit), digits_more text at within c.loop-at.invariant.1 digit, rw added below)

pub returns-clause-value : goal.returns-clause-value
returns-clause-value c =
    nine_whole c.args.decimals.now c.loop-at.at c.loop-at.billionths c.requires c.loop-at-test.false c.loop-at.invariant.0 c.loop-at.invariant.1
