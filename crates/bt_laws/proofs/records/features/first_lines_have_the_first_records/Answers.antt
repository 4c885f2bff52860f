use Rattle.bt_laws.proofs.lemmas.single.Records.{first_have_first, good_on_lines}
use Rattle.bt_laws.proofs.records.features.first_lines_have_the_first_records.Goals as goal

pub returns-clause-lines : goal.returns-clause-lines
returns-clause-lines c = good_on_lines

pub returns-clause-first : goal.returns-clause-first
returns-clause-first c = first_have_first
