use Rattle.std.proofs.lemmas.Grind.{common_steps}
use Rattle.bt_lines.proofs.Std.{arith, sym, ◌∙◌, ◌-◌}
use Rattle.bt_front.specs.model.Extents.{names_in}
use Rattle.bt_front.proofs.lemmas.survey.ChromosomeLemmas.{all_ascend, ascend_more, one_falls}
use Rattle.bt_front.proofs.survey.chromosomes.Chromosomes.are_by_bytes.Goals as goal

pub returns-then-not-is_before : goal.returns-then-not-is_before
returns-then-not-is_before c =
    sym (one_falls (names_in c.args.self.now) (c.loop-at.at - 1) c.loop-at.at c.name.result.now c.name-in-loop-at.result.now (omega (arith, c.loop-at.auto.at)) c.name.ensures c.name-in-loop-at.ensures (sym c.is_before.ensures ∙ c.if-not-is_before.true))

pub loop-at-preserved : goal.loop-at-preserved
loop-at-preserved c =
    ascend_more (names_in c.args.self.now) c.loop-at.at (c.loop-at.at - 1) c.name.result.now c.name-in-loop-at.result.now c.loop-at.invariant (omega (arith, c.loop-at.auto.at)) c.name.ensures c.name-in-loop-at.ensures (sym c.is_before.ensures ∙ c.if-not-is_before.false)

pub returns : goal.returns
returns c =
    let length_is = c.count-at-end.ensures in
    sym (all_ascend (names_in c.args.self.now) (record { each = λ k one other low here next. c.loop-at.invariant.each k one other (omega arith) here next }))
