-- The records in an index of held ones.
use Rattle.std.specs.Prelude.{List}
use Rattle.bt_bed.specs.model.Feature.{Feature}
use Rattle.bt_sweep.specs.calls.HeldList.{records_in}
use Rattle.bt_sweep.specs.declared.active.held_index.HeldIndex.{HeldIndex}

abbrev pub indexed_records : HeldIndex → List Feature
indexed_records held = records_in held.list
