use Rattle.bt_lines.proofs.Std.{arith}
use Rattle.bt_front.proofs.lemmas.survey.ChromosomeLemmas.{chrom_at}
use Rattle.bt_front.specs.model.Extents.{extents_in}
use Rattle.bt_front.proofs.survey.chromosomes.Chromosomes.name.Goals as goal

pub returns : goal.returns
unfolding extents_in
returns c = grind (arith, chrom_at)
