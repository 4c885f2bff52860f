use Rattle.bt_lines.proofs.Std.{◌≤◌, arith, drop, length, length-drop}
use Rattle.bt_bed.proofs.lemmas.parse.NameLemmas.{few_begin}
use Rattle.bt_bed.proofs.parse.columns.number_at.Goals as goal

pub returns-in-None-clause-begins : goal.returns-in-None-clause-begins
returns-in-None-clause-begins c =
    let text = drop c.args.at c.args.bytes.now in
    let room : 8 ≤ length text = omega (arith, length-drop c.args.at c.args.bytes.now) in
    few_begin text c.word_at-in-None.result c.number_of_few.result c.word_at-in-None.ensures room c.number_of_few.ensures.begins
