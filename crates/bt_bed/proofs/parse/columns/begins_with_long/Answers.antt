use Rattle.bt_lines.proofs.Std.{arith, get_or-append_seam, bytes_eq-Decides}
use Rattle.bt_bed.proofs.lemmas.read.ColumnLemmas.{front_is_name}
use Rattle.bt_bed.proofs.parse.columns.begins_with_long.Goals as goal

pub returns-then-bytes-end-eq9-clause-other : goal.returns-then-bytes-end-eq9-clause-other
returns-then-bytes-end-eq9-clause-other c = grind (arith, bytes_eq-Decides, front_is_name)

pub returns-else-bytes-end-eq9-clause-other : goal.returns-else-bytes-end-eq9-clause-other
returns-else-bytes-end-eq9-clause-other c = grind (arith, get_or-append_seam)
