use Rattle.bt_lines.proofs.Std.{◌≡◌, ◌++◌, flat_map, take}
use Rattle.bt_bed.specs.calls.Bed.{feature_lent}
use Rattle.bt_sweep.specs.model.Hits.{hits_among}
use Rattle.bt_sweep.specs.model.Lines.{hit_line}
use Rattle.bt_sweep.proofs.plain.write_hits.Given as goal

abbrev pub invariant-loop-b : goal.invariant-loop-b
invariant-loop-b l = l.text.items ≡ l.initial.text.items ++ flat_map (hit_line l.shape (feature_lent l.a)) (hits_among l.rule (feature_lent l.a) (take l.b-index l.second))
