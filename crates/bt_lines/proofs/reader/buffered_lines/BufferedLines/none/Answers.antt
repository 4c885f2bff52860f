use Rattle.bt_lines.proofs.Std.{arith, length-take, drop_all}
use Rattle.bt_lines.proofs.lemmas.reader.lines.BufferedLemmas.{none_left}
use Rattle.bt_lines.specs.calls.Reader.{lines_in, rest_in}
use Rattle.bt_lines.proofs.reader.buffered_lines.BufferedLines.none.Goals as goal

pub returns-clause-left : goal.returns-clause-left
unfolding lines_in rest_in
returns-clause-left c = grind (arith, none_left, drop_all, length-take)
