use Rattle.bt_lines.proofs.Std.{◌≡◌, ◌+◌, ◌≤◌, ◌<◌, ◌∙◌, ap, arith, drop, get_or, length, length-drop, sym, true, get_or-drop, is_ascii_digit, take}
use Rattle.bt_bed.proofs.lemmas.parse.NameLemmas.{eight_begin, eight_small, one_more}
use Rattle.bt_bed.proofs.parse.columns.number_of_eight.Goals as goal
use Rattle.bt_lines.proofs.lemmas.numbers.NumberLemmas.{digit_bound, digits_denoting}

pub returns-then-not-is_ascii_digit-clause-begins : goal.returns-then-not-is_ascii_digit-clause-begins
returns-then-not-is_ascii_digit-clause-begins c =
    grind (arith, (length-drop c.args.at c.args.bytes.now), (digits_denoting (take 8 (drop c.args.at c.args.bytes.now)) c.args.value (sym c.requires.value)))

pub overflow_mul-result : goal.overflow_mul-result
overflow_mul-result c = grind (arith, (length-drop c.args.at c.args.bytes.now), (eight_small (drop c.args.at c.args.bytes.now) c.args.value (omega (arith, length-drop c.args.at c.args.bytes.now)) c.requires.value))

pub overflow_add-result : goal.overflow_add-result
overflow_add-result c =
    let room : 8 ≤ length (drop c.args.at c.args.bytes.now) = omega (arith, length-drop c.args.at c.args.bytes.now) in
    grind (arith, eight_small, digit_bound)

pub returns-clause-begins : goal.returns-clause-begins
returns-clause-begins c =
    let sight = c.args.bytes.now in
    let text = drop c.args.at sight in
    let room : 8 < length text = omega (arith, length-drop c.args.at sight) in
    let there : get_or text 8 0 ≡ get_or sight (c.args.at + 8) 0 = get_or-drop c.args.at sight 8 0 in
    let digit : is_ascii_digit (get_or text 8 0) ≡ true = ap is_ascii_digit there ∙ sym c.is_ascii_digit.ensures.value ∙ c.if-not-is_ascii_digit.false in
    grind (arith, (one_more text (record { value = c.args.value; end = 8 }) (eight_begin text c.args.value (omega arith) c.requires.value) (omega arith) room digit))
