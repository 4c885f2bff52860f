use Rattle.bt_lines.proofs.Std.{arith}
use Rattle.bt_lines.proofs.lemmas.numbers.NumberLemmas.{front_part, front_whole}
use Rattle.bt_lines.proofs.numbers.digits_in_front.Goals as goal

pub returns-then-others-eq0-clause-digits : goal.returns-then-others-eq0-clause-digits
returns-then-others-eq0-clause-digits c = (front_whole _ _ c.told-bytes c.other_bits-others.ensures c.if-others-eq0.true).digits

pub returns-clause-few : goal.returns-clause-few
returns-clause-few c = omega (arith, (front_part _ _ c.told-bytes c.other_bits-others.ensures c.if-others-eq0.false).few, c.told-bytes)

pub returns-clause-digits : goal.returns-clause-digits
returns-clause-digits c = (front_part _ _ c.told-bytes c.other_bits-others.ensures c.if-others-eq0.false).digits

pub returns-clause-all : goal.returns-clause-all
returns-clause-all c = λ less. (front_part _ _ c.told-bytes c.other_bits-others.ensures c.if-others-eq0.false).all (rw c.told-bytes less)
