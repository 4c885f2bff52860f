use Rattle.bt_laws.proofs.lemmas.pipes.PipeLaws.{cut_strands, kept_places, kept_records, kept_strands}
use Rattle.bt_laws.proofs.pipes.kept_records_are_read_again.Goals as goal

pub returns-clause-records : goal.returns-clause-records
returns-clause-records c = kept_records

pub returns-clause-places : goal.returns-clause-places
returns-clause-places c = kept_places

pub returns-clause-strands : goal.returns-clause-strands
returns-clause-strands c = kept_strands

pub returns-clause-cuts : goal.returns-clause-cuts
returns-clause-cuts c = cut_strands
