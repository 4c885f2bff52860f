use Rattle.bt_lines.proofs.Std.{arith, ◌≡◌, subst}
use Rattle.bt_bed.specs.model.Positions.{IsCovered}
use Rattle.bt_runs.specs.inside.PlainRuns.{spans_in}
use Rattle.bt_runs.proofs.lemmas.definitions.PlainSpans.{AreBelow, bare_at_false, below_with, below_without, covered_at_true, gaps_below}
use Rattle.bt_runs.proofs.plain.gaps.plain_gaps.Goals as goal
use Rattle.bt_runs.proofs.plain.gaps.plain_gaps.Goals.{then-not-is_covered+in_ok-add_position, else-not-is_covered}

pub loop-position-preserved : goal.loop-position-preserved
loop-position-preserved c =
    let spans = c.args.spans.now in
    let here = c.loop-position.position in
    elim c.if-not-is_covered.branch [
      | then-not-is_covered+in_ok-add_position w ↦
          rw (w.gaps-is, w.in_ok-add_position.ensures) (below_with (λ p. IsCovered (spans_in spans) p → ⊥) here (spans_in c.loop-position.gaps.items) c.loop-position.invariant (bare_at_false spans here c.is_covered.result c.is_covered.ensures (grind arith)))
      | else-not-is_covered w ↦
          rw w.gaps-is (below_without (λ p. IsCovered (spans_in spans) p → ⊥) here (spans_in c.loop-position.gaps.items) c.loop-position.invariant (λ bare. bare (covered_at_true spans here c.is_covered.result c.is_covered.ensures (grind arith))))
    ]

pub returns : goal.returns
returns c =
    let end : c.loop-position.position ≡ c.args.size = omega (arith, c.loop-position.auto.position-end, c.loop-position-test.false) in
    gaps_below c.args.size (spans_in c.args.spans.now) (spans_in c.loop-position.gaps.items) (subst (λ n. AreBelow (λ p. IsCovered (spans_in c.args.spans.now) p → ⊥) n (spans_in c.loop-position.gaps.items)) end c.loop-position.invariant)
