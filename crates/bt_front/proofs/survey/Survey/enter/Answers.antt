use Rattle.std.proofs.lemmas.Grind.{common_steps}
use Rattle.bt_lines.proofs.Std.{◌∙◌, arith, refl, sym, inr}
use Rattle.bt_front.specs.model.Extents.{names_in}
use Rattle.bt_front.proofs.lemmas.survey.ChromosomeLemmas.{ranked_among}
use Rattle.bt_front.proofs.survey.Survey.enter.Goals as goal

pub returns-then-is_some : goal.returns-then-is_some
returns-then-is_some c =
    let ranked = ranked_among (names_in c.args.self.now.chromosomes) c.args.name.now in
    (refl, grind (arith, common_steps, ranked), grind (arith, common_steps))

pub add-requires : goal.add-requires
add-requires c =
    let ranked = ranked_among (names_in c.args.self.now.chromosomes) c.args.name.now in
    grind (arith, common_steps, ranked)

pub returns-in-Ok : goal.returns-in-Ok
returns-in-Ok c =
    let ranked = ranked_among (names_in c.args.self.now.chromosomes) c.args.name.now in
    (refl, record { is = inr (grind (arith, common_steps, ranked), grind (arith, common_steps), c.in-Ok.ensures.added) })
