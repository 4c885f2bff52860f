use Rattle.bt_lines.proofs.Std.{ℕ, ◌<◌, ◌≤◌, get_or}
use Rattle.bt_runs.proofs.plain.greatest_stop.Given as goal

-- no span so far ends past the greatest stop
abbrev pub invariant-loop-stop : goal.invariant-loop-stop
invariant-loop-stop l = (k : ℕ) (d : ℕ × ℕ) → k < l.stop-index → (get_or l.spans k d).1 ≤ l.end
