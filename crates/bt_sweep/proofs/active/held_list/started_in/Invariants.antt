use Rattle.bt_lines.proofs.Std.{◌-◌, ◌≤◌, length, IsNonDecreasingBy}
use Rattle.bt_sweep.proofs.lemmas.Active.{ComeBefore, ComeFrom}
use Rattle.bt_sweep.proofs.active.held_list.started_in.Given as goal

-- those before `low` start before the place, and those from `high` on there or after it
abbrev pub invariant-loop-low : goal.invariant-loop-low
invariant-loop-low l = record {
  order : l.low ≤ l.high;
  within : l.high ≤ length l.records.items;
  before : IsNonDecreasingBy (λ r. r.start) l.records.items → ComeBefore l.place l.records.items l.low;
  rest : IsNonDecreasingBy (λ r. r.start) l.records.items → ComeFrom l.place l.records.items l.high;
}

abbrev pub decreases-loop-low : goal.decreases-loop-low
decreases-loop-low l = l.high - l.low
