use Rattle.bt_lines.proofs.Std.{arith, ◌∙◌, false, sym, true}
use Rattle.bt_front.specs.model.Extents.{names_in}
use Rattle.bt_front.specs.model.Verdict.{is_named}
use Rattle.bt_front.proofs.lemmas.order.FittingLemmas.{last_pass, next_pass}
use Rattle.bt_front.proofs.verdict.naming.are_named.Goals as goal

pub returns-then-not-is_of : goal.returns-then-not-is_of
returns-then-not-is_of c =
    sym (next_pass (is_named c.args.way) (names_in c.args.chromosomes.now) c.loop-at.at c.name.result.now c.name.ensures false
    (sym c.is_of.ensures ∙ c.if-not-is_of.true)) ∙ c.loop-at.invariant

pub loop-at-preserved : goal.loop-at-preserved
loop-at-preserved c =
    sym (next_pass (is_named c.args.way) (names_in c.args.chromosomes.now) c.loop-at.at c.name.result.now c.name.ensures true
    (sym c.is_of.ensures ∙ c.if-not-is_of.false)) ∙ c.loop-at.invariant

pub returns : goal.returns
returns c =
    sym (last_pass (is_named c.args.way) (names_in c.args.chromosomes.now) c.loop-at.at (omega arith)) ∙ c.loop-at.invariant
