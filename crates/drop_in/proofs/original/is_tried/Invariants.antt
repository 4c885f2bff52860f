use Rattle.bt_lines.proofs.Std.{◌≡◌, false, length, take}
use Rattle.bt_lines.specs.model.Lines.{pieces}
use Rattle.bt_bed.specs.model.Order.{is_among}
use Rattle.drop_in.proofs.original.is_tried.Given as goal

-- None of those so far is the file.
abbrev pub invariant-loop-one : goal.invariant-loop-one
invariant-loop-one l = is_among (take (length l.yielded) (pieces 58 l.tried)) l.name ≡ false
