use Rattle.bt_lines.proofs.Std.{List}
use Rattle.bt_bed.specs.calls.Batch.{Passes}
use Rattle.bt_bed.specs.model.Feature.{Feature}
use Rattle.bt_bed.proofs.read.records.tests.take_batch.Given as goal

-- the batch gave some records so far
abbrev pub invariant-loop : goal.invariant-loop
invariant-loop g l = (records : List Feature) × Passes l.initial.batch records l.batch
