use Rattle.bt_lines.proofs.Std.{arith, sym, ◌-◌}
use Rattle.bt_front.proofs.lemmas.survey.ChromosomeLemmas.{widened_at}
use Rattle.bt_front.specs.model.Extents.{extents_in}
use Rattle.bt_front.proofs.survey.chromosomes.Chromosomes.widen_last.Goals as goal

pub returns-in-Some : goal.returns-in-Some
unfolding extents_in
returns-in-Some c = rw (c.max-extent.ensures) (widened_at c.args.self.now.extents.entries (c.len-count.result - 1) c.in-Some.extent.now c.args.stop (omega (arith, c.len-count.ensures.len)) (sym c.in-Some.ensures.value))
