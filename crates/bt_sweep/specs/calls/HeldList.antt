-- The records in a list of held ones.
use Rattle.std.specs.Prelude.{List}
use Rattle.bt_bed.specs.model.Feature.{Feature}
use Rattle.bt_sweep.specs.declared.active.held_list.HeldList.{HeldList}

abbrev pub records_in : HeldList → List Feature
records_in held = held.records.items
