use Rattle.bt_bed.specs.model.Positions.{IsCovered}
use Rattle.bt_runs.specs.inside.PlainRuns.{spans_in}
use Rattle.bt_runs.proofs.lemmas.definitions.PlainSpans.{AreBelow}
use Rattle.bt_runs.proofs.plain.gaps.plain_gaps.Given as goal

-- the gaps so far are those of the positions so far
abbrev pub invariant-loop-position : goal.invariant-loop-position
invariant-loop-position l = AreBelow (λ p. IsCovered (spans_in l.spans) p → ⊥) l.position (spans_in l.gaps.items)
