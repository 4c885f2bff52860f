use Rattle.bt_lines.proofs.Std.{common_steps, arith}
use Rattle.bt_lines.proofs.Std.{take_more}
use Rattle.bt_seq.proofs.lemmas.Sam.{one_behind}
use Rattle.bt_seq.proofs.mask.held_record.mask_records.Goals as goal

pub loop-record-preserved : goal.loop-record-preserved
loop-record-preserved c = grind (arith, common_steps, take_more, one_behind)
