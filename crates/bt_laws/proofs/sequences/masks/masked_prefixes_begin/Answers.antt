use Rattle.bt_laws.proofs.lemmas.single.Sequences.{faultless_masked, masked_front}
use Rattle.bt_laws.proofs.sequences.masks.masked_prefixes_begin.Goals as goal

pub returns-clause-prefix : goal.returns-clause-prefix
returns-clause-prefix c = masked_front

pub returns-clause-faultless : goal.returns-clause-faultless
returns-clause-faultless c = faultless_masked
