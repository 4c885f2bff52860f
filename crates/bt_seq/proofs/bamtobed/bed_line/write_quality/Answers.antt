use Rattle.bt_lines.proofs.Std.{common_steps, append_assoc, arith, drop-set, length-set}
use Rattle.bt_seq.proofs.bamtobed.bed_line.write_quality.Goals as goal

pub returns-clause-written : goal.returns-clause-written
returns-clause-written c = grind (arith, common_steps, length-set, drop-set, append_assoc)
