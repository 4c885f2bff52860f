use Rattle.bt_laws.proofs.lemmas.same.LengthLaws.{complements_twice}
use Rattle.bt_laws.proofs.same.length_laws.gaps_of_the_gaps_are_the_runs.Goals as goal

pub returns : goal.returns
returns c = complements_twice
