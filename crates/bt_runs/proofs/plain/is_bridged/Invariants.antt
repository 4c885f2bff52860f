use Rattle.bt_lines.proofs.Std.{ℕ, ◌<◌}
use Rattle.bt_bed.specs.model.Positions.{IsCovered}
use Rattle.bt_runs.specs.inside.PlainRuns.{spans_in, HasRight}
use Rattle.bt_runs.proofs.plain.is_bridged.Given as goal

-- no covered position so far has one near it on the other side
abbrev pub invariant-loop-left : goal.invariant-loop-left
invariant-loop-left l = (k : ℕ) → k < l.left → IsCovered (spans_in l.spans) k → HasRight l.gap (spans_in l.spans) k l.position → ⊥
