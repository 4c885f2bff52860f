use Rattle.bt_lines.proofs.Std.{◌∙◌}
use Rattle.bt_front.proofs.lemmas.survey.ChromosomeLemmas.{placed_by_rank}
use Rattle.bt_front.specs.model.Extents.{extents_in}
use Rattle.bt_front.proofs.survey.chromosomes.Chromosomes.place.Goals as goal

pub returns : goal.returns
unfolding extents_in
returns c = c.get_index_of.ensures.index ∙ placed_by_rank c.args.self.now.extents.entries c.args.name.now
