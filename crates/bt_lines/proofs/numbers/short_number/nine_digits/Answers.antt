use Rattle.bt_lines.proofs.Std.{inl, inr, ◌∙◌, ◌≡◌, ◌+◌, ◌-◌, ◌*◌, ◌^◌, ◌<◌, arith, get_or, length, length-take, List, None, sym, take, true, ℕ, cases_Bool, take_all, list_all_more, is_ascii_digit, list_all, digits_value}
use Rattle.bt_lines.proofs.lemmas.numbers.NumberLemmas.{digit_bound, digit_small, digits_below, digits_denoting, digits_more, refused_second, value_below, value_more, value_of_digits, value_of_other, value_of_whole, value_short}
use Rattle.bt_lines.specs.model.Lines.{value_of}
use Rattle.bt_lines.proofs.numbers.short_number.nine_digits.Goals as goal

-- eight digits denote less than this
front_below : (text : List ℕ) → length text ≡ 9 → list_all is_ascii_digit (take 8 text) ≡ true → digits_value 10 (take 8 text) < 10 ^ 8
front_below text n digits = grind (arith, length-take, digits_below)

-- if the first eight denote no number, one of them is no digit
none_by_front : (text : List ℕ) → length text ≡ 9 → None ≡ value_of (take 8 text) → None ≡ value_of text
unfolding value_of
none_by_front text n none =
    let size : length (take 8 text) ≡ 8 = omega (arith, length-take 8 text) in
    elim (cases_Bool (list_all is_ascii_digit (take 8 text))) [
      | inl digits ↦ grind (arith, (value_of_digits (take 8 text) (omega arith) digits (value_short 8 _ (front_below text n digits) (omega arith))))
      | inr other ↦ grind (arith, (list_all_more is_ascii_digit text 8 0 (omega arith)), (take_all 9 text (omega arith)), refused_second)
    ]

pub returns-in_err-value : goal.returns-in_err-value
returns-in_err-value c = rw c.from_residual.ensures (none_by_front c.args.text.now c.requires c.in_err-value.ensures)

pub returns-then-not-is_ascii_digit : goal.returns-then-not-is_ascii_digit
returns-then-not-is_ascii_digit c = value_of_other c.args.text.now 8 (omega (arith, c.requires)) (sym c.is_ascii_digit.ensures.value ∙ c.if-not-is_ascii_digit.true)

pub overflow_mul-result : goal.overflow_mul-result
overflow_mul-result c =
    let is = digits_denoting (take 8 c.args.text.now) c.in_ok-value.value c.in_ok-value.ensures in
    grind (arith, front_below, value_short)

pub overflow_add-result : goal.overflow_add-result
overflow_add-result c =
    let is = digits_denoting (take 8 c.args.text.now) c.in_ok-value.value c.in_ok-value.ensures in
    grind (arith, front_below, value_short, digit_bound)

pub returns : goal.returns
returns c =
    let text = c.args.text.now in
    let value = c.in_ok-value.value in
    let is = digits_denoting (take 8 text) value c.in_ok-value.ensures in
    let digit = sym c.is_ascii_digit.ensures.value ∙ c.if-not-is_ascii_digit.false in
    let inside : 8 < length text = omega (arith, c.requires) in
    let most = value_short 9 _ (value_below 8 value _ (rw (is.1) (front_below text c.requires is.0)) (digit_small (get_or text 8 0) digit)) (omega arith) in
    rw (c.from.ensures) (value_of_whole text 9 (value * 10 + (get_or text 8 0 - 48)) (omega arith) (omega (arith, c.requires))
    (value_more text 8 value inside is.1 digit) (digits_more text 8 inside is.0 digit) most)
