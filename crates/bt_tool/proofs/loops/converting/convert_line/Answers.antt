use Rattle.bt_lines.proofs.Std.{sym}
use Rattle.bt_seq.proofs.lemmas.Sam.{kinds_of_lines, wrong_kinds}
use Rattle.bt_tool.proofs.loops.converting.convert_line.Goals as goal

pub at_line-requires : goal.at_line-requires
at_line-requires g c =
    kinds_of_lines c.in-Err.kind (wrong_kinds c.args.line.text.now c.in-Err.kind (sym c.in-Err.ensures))
