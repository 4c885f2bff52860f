use Rattle.bt_lines.proofs.Std.{ℕ, ◌+◌, ◌-◌, ◌<◌, ◌≤◌}
use Rattle.bt_bed.specs.model.Positions.{IsCovered}
use Rattle.bt_runs.specs.inside.PlainRuns.{spans_in}
use Rattle.bt_runs.proofs.plain.has_right.Given as goal

-- no covered position so far is near
abbrev pub invariant-loop-right : goal.invariant-loop-right
invariant-loop-right l = (k : ℕ) → l.position ≤ k → k < l.right → IsCovered (spans_in l.spans) k → k - l.left ≤ l.gap + 1 → ⊥
