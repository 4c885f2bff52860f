use Rattle.bt_lines.proofs.Std.{rules}
use Rattle.bt_lines.proofs.lemmas.numbers.NumberLemmas.{value_of_whole}
use Rattle.bt_lines.proofs.numbers.number.Goals as goal

pub returns : goal.returns
returns c =
    value_of_whole c.args.text.now c.loop-byte.byte-index c.loop-byte.value (search rules) c.loop-byte-test.false
    c.loop-byte.invariant.0 c.loop-byte.invariant.1 c.loop-byte.invariant.2
