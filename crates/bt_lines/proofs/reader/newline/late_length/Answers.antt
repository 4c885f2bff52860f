use Rattle.bt_lines.proofs.Std.{refl, rules}
use Rattle.bt_lines.proofs.lemmas.reader.block.FillLemmas.{before_behind}
use Rattle.bt_lines.proofs.reader.newline.late_length.Goals as goal

pub overflow_add-result : goal.overflow_add-result
overflow_add-result c =
    let before = before_behind c.args.byte c.args.text.now c.args.from c.requires.within c.requires.clear _ _ refl c.rest_length.ensures in
    search rules

pub returns : goal.returns
returns c = before_behind c.args.byte c.args.text.now c.args.from c.requires.within c.requires.clear _ _ refl c.rest_length.ensures
