use Rattle.bt_lines.proofs.Std.{◌≡◌, take}
use Rattle.bt_seq.specs.model.Masked.{masked_from}
use Rattle.bt_seq.proofs.mask.held_record.mask_records.Given as goal

abbrev pub invariant-loop-record : goal.invariant-loop-record
invariant-loop-record l = l.bases ≡ masked_from l.how (take l.record-index l.records) l.position l.fn.bases
