use Rattle.bt_lines.proofs.Std.{err_from_is_err_and}
use Rattle.bt_bed.specs.calls.Bed.{feature_lent}
use Rattle.bt_bed.specs.model.BedLine.{cut_to}
use Rattle.bt_bed.proofs.lemmas.Writing.{cut_in_front, puts_record}
use Rattle.bt_bed.proofs.write.putting.put_cut.Goals as goal

pub returns-in_err-put_columns : goal.returns-in_err-put_columns
returns-in_err-put_columns g c =
    let p = err_from_is_err_and c.from_residual.result c.from_residual.ensures.1 in
    rw (p.1, p.2) (cut_in_front (cut_to c.args.start c.args.stop (feature_lent c.args.bed.now)) _ _ _ _ c.in_err-put_columns.ensures)

pub returns : goal.returns
returns g c = puts_record (cut_to c.args.start c.args.stop (feature_lent c.args.bed.now)) _ _ _ _ c.put_line.result c.in_ok-put_columns.ensures c.put_line.ensures
