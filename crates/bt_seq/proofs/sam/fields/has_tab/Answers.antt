use Rattle.bt_lines.proofs.Std.{◌∙◌}
use Rattle.bt_lines.proofs.lemmas.reader.lines.TextLemmas.{two_pieces}
use Rattle.bt_seq.proofs.sam.fields.has_tab.Goals as goal

pub returns : goal.returns
returns c = c.is_some.ensures ∙ two_pieces 9 c.args.text.now c.rfind_byte.result c.rfind_byte.ensures
