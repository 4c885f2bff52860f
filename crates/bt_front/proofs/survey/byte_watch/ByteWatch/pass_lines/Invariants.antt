use Rattle.bt_lines.proofs.Std.{◌-◌, ◌≤◌, drop, length, take}
use Rattle.bt_front.specs.inside.Watching.{AreQuiet, IsPassed}
use Rattle.bt_front.proofs.survey.byte_watch.ByteWatch.pass_lines.Given as goal

abbrev pub invariant-loop-at : goal.invariant-loop-at
invariant-loop-at l = record {
  within : l.at ≤ length l.block;
  passed : IsPassed l.initial.self (take l.at l.block) l.self;
  quiet : l.self.line ≤ 1015 → AreQuiet l.self (drop l.at l.block);
}

abbrev pub decreases-loop-at : goal.decreases-loop-at
decreases-loop-at l = length l.block - l.at
