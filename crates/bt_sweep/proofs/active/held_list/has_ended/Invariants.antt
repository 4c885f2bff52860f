use Rattle.bt_lines.proofs.Std.{◌≡◌, false, nat_le, take, list_any}
use Rattle.bt_bed.specs.model.Feature.{Feature}
use Rattle.bt_sweep.proofs.active.held_list.has_ended.Given as goal

abbrev pub invariant-loop-index : goal.invariant-loop-index
invariant-loop-index l = list_any (λ (r : Feature). nat_le r.stop l.place) (take l.index (take l.count l.records.items)) ≡ false
