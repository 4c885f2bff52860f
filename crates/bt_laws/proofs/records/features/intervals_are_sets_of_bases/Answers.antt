use Rattle.bt_laws.proofs.lemmas.single.Records.{one_list, common_bases}
use Rattle.bt_bed.proofs.lemmas.StretchScans.{scan_finds}
use Rattle.bt_laws.proofs.records.features.intervals_are_sets_of_bases.Goals as goal

pub returns-clause-one : goal.returns-clause-one
returns-clause-one c = one_list

pub returns-clause-found : goal.returns-clause-found
returns-clause-found c = scan_finds

pub returns-clause-shared : goal.returns-clause-shared
returns-clause-shared c = common_bases
