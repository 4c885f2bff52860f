use Rattle.bt_lines.proofs.Std.{err_from_is_err_and}
use Rattle.bt_bed.specs.calls.Bed.{feature_lent}
use Rattle.bt_seq.proofs.lemmas.mask.steps.AdvanceLemmas.{failed_record, gave_left, gave_taken}
use Rattle.bt_seq.proofs.mask.Mask.give_record.Goals as goal

pub returns-in_err-give_bed-clause-gives : goal.returns-in_err-give_bed-clause-gives
returns-in_err-give_bed-clause-gives g c lines =
    let p = err_from_is_err_and c.from_residual.result c.from_residual.ensures.1 in
    rw (p.1, p.2) (failed_record g.C.Cursor g.met.C.Cursor.gives_none (feature_lent c.bed.result) (rw c.bed.ensures c.in-Some.ensures.some) c.line.ensures c.requires
    c.in_err-give_bed.field-0.0 c.in_err-give_bed.ensures.waits c.in_err-give_bed.ensures.none_waits)

pub returns-in-Yes-clause-gives : goal.returns-in-Yes-clause-gives
returns-in-Yes-clause-gives g c lines =
    gave_taken g.C.Cursor g.met.C.Cursor.gives_none (feature_lent c.bed.result) (rw c.bed.ensures c.in-Some.ensures.some) c.line.ensures c.requires
    (rw c.in-Yes.is at c.in_ok-give_bed.ensures.waits) (rw c.in-Yes.is at c.in_ok-give_bed.ensures.none_waits)

pub returns-in-No-clause-gives : goal.returns-in-No-clause-gives
returns-in-No-clause-gives g c lines =
    gave_left g.C.Cursor g.met.C.Cursor.gives_none (feature_lent c.bed.result) (rw c.bed.ensures c.in-Some.ensures.some) c.line.ensures c.requires
    g.met.C.Cursor.gives_same (rw c.in-No.is at c.in_ok-give_bed.ensures.waits) (rw c.in-No.is at c.in_ok-give_bed.ensures.none_waits)
