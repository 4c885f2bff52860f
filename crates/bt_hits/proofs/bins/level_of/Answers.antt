use Rattle.bt_lines.proofs.Std.{◌≡◌, ℕ, arith, eq-eqb, sym, ◌∙◌}
use Rattle.bt_hits.proofs.lemmas.Bins.{level_is}
use Rattle.bt_hits.proofs.bins.level_of.Goals as goal

pub returns-then-first-last-clause-is : goal.returns-then-first-last-clause-is
returns-then-first-last-clause-is c =
    let kept = c.loop-level.invariant in
    level_is c.args.rec.now c.loop-level.level (omega arith) kept.differ (λ h. eq-eqb _ _ (sym kept.first_bin ∙ c.if-first-last.true ∙ kept.last_bin))

pub returns-clause-is : goal.returns-clause-is
returns-clause-is c = level_is c.args.rec.now 7 (omega arith) (λ k h. c.loop-level.invariant.differ k (omega (arith, h))) (λ h. absurd (omega (arith, h)))
