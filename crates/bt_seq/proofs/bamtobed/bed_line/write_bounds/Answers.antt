use Rattle.bt_lines.proofs.Std.{append_assoc, arith, drop-set, length-set}
use Rattle.bt_seq.proofs.bamtobed.bed_line.write_bounds.Goals as goal

pub returns-clause-written : goal.returns-clause-written
returns-clause-written c = grind (arith, length-set, drop-set, append_assoc)
