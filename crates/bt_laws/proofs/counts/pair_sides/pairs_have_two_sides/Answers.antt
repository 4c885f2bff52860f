use Rattle.bt_laws.proofs.lemmas.Counts.{two_sides}
use Rattle.bt_laws.proofs.counts.pair_sides.pairs_have_two_sides.Goals as goal

pub returns : goal.returns
returns c = two_sides
