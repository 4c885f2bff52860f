use Rattle.bt_lines.proofs.Std.{◌∙◌, sym, arith, length-drop, take_all}
use Rattle.bt_lines.proofs.lemmas.numbers.NumberLemmas.{value_more, digits_more}
use Rattle.bt_seq.proofs.lemmas.Sam.{first_is, large_number}
use Rattle.bt_seq.proofs.sam.cigar.first_operation.Goals as goal

pub returns-then-not-is_ascii_digit-clause-first : goal.returns-then-not-is_ascii_digit-clause-first
returns-then-not-is_ascii_digit-clause-first c = grind (arith, take_all, length-drop, first_is)

pub returns-then-length-gt-MAX_NUMBER-clause-first : goal.returns-then-length-gt-MAX_NUMBER-clause-first
returns-then-length-gt-MAX_NUMBER-clause-first c =
    let text = c.args.text.now in
    let digit = sym c.is_ascii_digit.ensures.value ∙ c.if-not-is_ascii_digit.false in
    let more = value_more text c.loop-end.end c.loop-end.length c.loop-end-test.true c.loop-end.invariant.value digit in
    large_number text c.loop-end.end _ c.loop-end-test.true (digits_more text c.loop-end.end c.loop-end-test.true c.loop-end.invariant.digits digit) (rw c.from.ensures more) c.if-length-gt-MAX_NUMBER.true
