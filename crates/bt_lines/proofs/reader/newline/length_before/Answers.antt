use Rattle.bt_lines.proofs.Std.{arith}
use Rattle.bt_lines.proofs.lemmas.reader.block.FillLemmas.{before_feed, feed_first}
use Rattle.bt_lines.proofs.reader.newline.length_before.Goals as goal

pub returns-in-Some-find_near : goal.returns-in-Some-find_near
returns-in-Some-find_near c =
    before_feed c.args.byte c.args.text.now c.in-Some-find_near.at
    (feed_first c.args.byte c.args.text.now _ 32 c.in-Some-find_near.at c.in-Some.ensures.cases.same c.in-Some.ensures.cases.enough c.in-Some-find_near.ensures)

pub late_length-requires-2-clause-clear : goal.late_length-requires-2-clause-clear
late_length-requires-2-clause-clear c = grind arith
