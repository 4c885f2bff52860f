use Rattle.bt_lines.proofs.Std.{◌≡◌, take}
use Rattle.bt_sweep.specs.model.Lines.{intersect}
use Rattle.bt_sweep.proofs.plain.plain_intersect.Given as goal

abbrev pub invariant-loop-a : goal.invariant-loop-a
invariant-loop-a l = l.text.items ≡ intersect l.shape l.rule (take l.a-index l.first) l.second
