use Rattle.bt_bed.specs.calls.Batch.{batch_room}
use Rattle.bt_front.proofs.lemmas.survey.SeenLemmas.{AreWithin}
use Rattle.bt_front.proofs.survey.far_line.Given as goal

-- the records so far end before
abbrev pub invariant-loop-record : goal.invariant-loop-record
invariant-loop-record l = AreWithin l.fn.records l.ahead

abbrev pub decreases-loop-record : goal.decreases-loop-record
decreases-loop-record l = batch_room l.ahead
