use Rattle.bt_lines.proofs.Std.{arith}
use Rattle.bt_bed.specs.calls.Bed.{feature_lent}
use Rattle.bt_sweep.proofs.lemmas.Plain.{any_hit_has, left_by}
use Rattle.bt_sweep.proofs.plain.plain_pieces.is_left.Goals as goal

pub returns-then-a-position : goal.returns-then-a-position
returns-then-a-position c = grind (arith, left_by, (any_hit_has c.args.rule (feature_lent c.args.a.now) c.args.position c.args.second.now))
