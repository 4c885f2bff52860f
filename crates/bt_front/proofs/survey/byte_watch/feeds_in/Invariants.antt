use Rattle.bt_lines.proofs.Std.{◌≡◌, ◌-◌, ◌≤◌, length, take}
use Rattle.bt_front.specs.calls.Bytes.{feeds_in}
use Rattle.bt_front.proofs.survey.byte_watch.feeds_in.Given as goal

abbrev pub invariant-loop-at : goal.invariant-loop-at
invariant-loop-at l = record {
  within : l.at ≤ length l.bytes;
  counted : l.count ≡ feeds_in (take l.at l.bytes);
}

abbrev pub decreases-loop-at : goal.decreases-loop-at
decreases-loop-at l = length l.bytes - l.at
