use Rattle.bt_bed.proofs.lemmas.read.batch.RecordsLemmas.{wrong_of_bed}
use Rattle.bt_laws.proofs.records.features.wrong_lines_are_of_bed.Goals as goal

pub returns : goal.returns
returns c = wrong_of_bed
