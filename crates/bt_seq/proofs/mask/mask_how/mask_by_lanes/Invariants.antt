use Rattle.bt_lines.proofs.Std.{◌≡◌, ◌≤◌, ◌-◌, ◌++◌, take, drop, length, map}
use Rattle.bt_seq.specs.model.Masked.{masked_byte}
use Rattle.bt_seq.proofs.mask.mask_how.mask_by_lanes.Given as goal

abbrev pub invariant-loop-bases : goal.invariant-loop-bases
invariant-loop-bases l = (l.bases ≡ map (masked_byte l.how) (take l.at l.fn.bases) ++ drop l.at l.fn.bases) × (l.at ≤ length l.fn.bases)

abbrev pub decreases-loop-bases : goal.decreases-loop-bases
decreases-loop-bases l = length l.fn.bases - l.at
