use Rattle.bt_lines.proofs.Std.{◌≡◌, ◌++◌, drop, filter, length, nat_lt, take}
use Rattle.bt_bed.specs.model.Feature.{Feature}
use Rattle.bt_sweep.proofs.active.held_list.drop_ended_of.Given as goal

-- those that were visited and haven't ended come after the others
abbrev pub invariant-loop : goal.invariant-loop
invariant-loop l = record {
  passed : l.records.items
      ≡ drop l.counter l.fn.records.items ++ filter (λ (r : Feature). nat_lt l.place r.stop) (take l.counter l.fn.records.items);
  kept : l.kept ≡ length (filter (λ (r : Feature). nat_lt l.place r.stop) (take l.counter l.fn.records.items));
}
