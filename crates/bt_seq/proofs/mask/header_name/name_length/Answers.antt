use Rattle.bt_seq.proofs.lemmas.mask.bases.MaskingLemmas.{name_is}
use Rattle.bt_seq.proofs.mask.header_name.name_length.Goals as goal

pub returns-clause-name : goal.returns-clause-name
returns-clause-name c = name_is c.args.text.now c.length_before-end.result c.length_before.result c.length_before-end.ensures c.length_before.ensures
