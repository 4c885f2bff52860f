use Rattle.bt_lines.proofs.Std.{◌≡◌, ◌-◌, ◌≤◌, drop, false, length}
use Rattle.bt_front.specs.model.Odd.{has_special}
use Rattle.bt_front.proofs.survey.byte_watch.has_special.Given as goal

abbrev pub invariant-loop-at : goal.invariant-loop-at
invariant-loop-at l = record {
  within : l.at ≤ length l.block;
  left : has_special (drop l.at l.block) ≡ false → has_special l.block ≡ false;
}

abbrev pub decreases-loop-at : goal.decreases-loop-at
decreases-loop-at l = length l.block - l.at
