use Rattle.bt_bed.proofs.lemmas.read.ColumnLemmas.{raw_is_feature}
use Rattle.bt_bed.proofs.record.RawRecordRecord.stop.Goals as goal

pub returns-clause-said : goal.returns-clause-said
returns-clause-said c =
    let said = raw_is_feature c.args.self.now in
    record { non_empty = said.non_empty; in_range = said.in_range; kept = said.kept }
