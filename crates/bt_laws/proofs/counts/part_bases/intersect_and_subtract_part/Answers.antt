use Rattle.bt_laws.proofs.lemmas.Counts.{parts_of_first}
use Rattle.bt_laws.proofs.counts.part_bases.intersect_and_subtract_part.Goals as goal

pub returns : goal.returns
returns c = parts_of_first
