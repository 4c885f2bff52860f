use Rattle.bt_lines.proofs.Std.{Err, err_from_is_err_and}
use Rattle.bt_lines.proofs.lemmas.Writer.{fails_before, puts_from}
use Rattle.bt_lines.proofs.writer.putting.put_column.Goals as goal

pub returns-in_err-put : goal.returns-in_err-put
returns-in_err-put g c =
    let p = err_from_is_err_and c.from_residual.result c.from_residual.ensures.1 in
    let e = c.in_err-put.ensures in
    rw (p.1, p.2) (fails_before _ _ _ _ _ (puts_from {A = Unit {0}} _ _ c.args.column.now (Err c.in_err-put.field-0.0) e.put e.block e.front e.grows e.served e.fault e.cause e.again))
