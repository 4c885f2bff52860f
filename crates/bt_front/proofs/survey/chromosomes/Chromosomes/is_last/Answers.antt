use Rattle.std.proofs.lemmas.Grind.{common_steps}
use Rattle.bt_lines.proofs.Std.{◌∙◌, arith}
use Rattle.bt_front.specs.model.Extents.{names_in}
use Rattle.bt_front.proofs.lemmas.survey.ChromosomeLemmas.{last_at}
use Rattle.bt_front.proofs.survey.chromosomes.Chromosomes.is_last.Goals as goal

pub returns-then-count-gt0 : goal.returns-then-count-gt0
returns-then-count-gt0 c =
    c.is_same_name.ensures
    ∙ last_at (names_in c.args.self.now) _ c.name.result.now c.args.name.now (omega (arith, c.count-count.ensures)) c.name.ensures
