use Rattle.bt_laws.proofs.lemmas.single.Sequences.{none_before}
use Rattle.bt_laws.proofs.sequences.masks.taken_records_come_first.Goals as goal

pub returns : goal.returns
returns c = none_before
