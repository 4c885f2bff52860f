use Rattle.bt_front.specs.model.Extents.{names_in}
use Rattle.bt_front.proofs.lemmas.survey.ChromosomeLemmas.{AscendUpTo}
use Rattle.bt_front.proofs.survey.chromosomes.Chromosomes.are_by_bytes.Given as goal

abbrev pub invariant-loop-at : goal.invariant-loop-at
invariant-loop-at l = AscendUpTo (names_in l.self) l.at
