use Rattle.bt_lines.proofs.Std.{List}
use Rattle.bt_bed.specs.calls.Batch.{Passes, batch_room}
use Rattle.bt_bed.specs.model.Feature.{Feature}
use Rattle.bt_tool.proofs.loops.sweeping.consume_buffered.Given as goal

-- the records so far were consumed
abbrev pub invariant-loop-next : goal.invariant-loop-next
invariant-loop-next g l = (records : List Feature) × Passes l.initial.seconds records l.seconds

abbrev pub decreases-loop-next : goal.decreases-loop-next
decreases-loop-next g l = batch_room l.seconds
