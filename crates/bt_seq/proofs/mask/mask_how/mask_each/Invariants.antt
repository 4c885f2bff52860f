use Rattle.bt_lines.proofs.Std.{◌≡◌, ◌++◌, take, drop, map}
use Rattle.bt_seq.specs.model.Masked.{masked_byte}
use Rattle.bt_seq.proofs.mask.mask_how.mask_each.Given as goal

abbrev pub invariant-loop-base : goal.invariant-loop-base
invariant-loop-base l = l.bases ≡ map (masked_byte l.how) (take l.base-index l.fn.bases) ++ drop l.base-index l.fn.bases
