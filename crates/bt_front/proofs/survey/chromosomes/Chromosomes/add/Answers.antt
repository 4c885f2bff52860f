use Rattle.bt_lines.proofs.Std.{arith}
use Rattle.bt_front.proofs.lemmas.survey.ChromosomeLemmas.{extents_push}
use Rattle.bt_front.specs.model.Extents.{extents_in}
use Rattle.bt_front.proofs.survey.chromosomes.Chromosomes.add.Goals as goal

pub returns-in-Ok : goal.returns-in-Ok
unfolding extents_in
returns-in-Ok c = grind (arith, (extents_push c.args.self.now.extents.entries c.in_ok-name.name c.args.extent c.args.name.now c.in_ok-name.ensures.items c.requires))
