use Rattle.bt_laws.proofs.lemmas.single.Records.{rewritten_feature, said_feature, written_feature}
use Rattle.bt_laws.proofs.records.features.written_records_are_read_back.Goals as goal

pub returns-clause-read_back : goal.returns-clause-read_back
returns-clause-read_back c = written_feature

pub returns-clause-rewritten : goal.returns-clause-rewritten
returns-clause-rewritten c = rewritten_feature

pub returns-clause-said : goal.returns-clause-said
returns-clause-said c = said_feature
