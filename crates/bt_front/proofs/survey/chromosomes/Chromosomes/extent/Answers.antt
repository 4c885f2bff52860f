use Rattle.bt_lines.proofs.Std.{◌∙◌}
use Rattle.bt_front.proofs.lemmas.survey.ChromosomeLemmas.{extent_at}
use Rattle.bt_front.specs.model.Extents.{extents_in}
use Rattle.bt_front.proofs.survey.chromosomes.Chromosomes.extent.Goals as goal

pub returns : goal.returns
unfolding extents_in
returns c = extent_at c.args.self.now.extents.entries c.args.at ∙ c.index.ensures
