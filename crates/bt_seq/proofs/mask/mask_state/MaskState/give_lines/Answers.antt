use Rattle.bt_lines.proofs.Std.{arith, err_from_is_err_and}
use Rattle.bt_lines.specs.calls.Line.{line_seen}
use Rattle.bt_seq.proofs.lemmas.mask.steps.AdvanceLemmas.{failed_copy, failed_line, gave_copied, gave_line}
use Rattle.bt_seq.proofs.mask.mask_state.MaskState.give_lines.Goals as goal

pub returns-in_err-copy_through-clause-gives : goal.returns-in_err-copy_through-clause-gives
returns-in_err-copy_through-clause-gives g c records =
    let p = err_from_is_err_and c.from_residual.result c.from_residual.ensures.1 in
    rw (p.1, p.2) (failed_copy g.C.Cursor g.met.C.Cursor.gives_none records
    c.args.self.now c.args.lines.now c.args.out.now.output c.requires c.in_err-copy_through.field-0.0 c.in_err-copy_through.ensures)

pub returns-in_err-take_line-clause-gives : goal.returns-in_err-take_line-clause-gives
returns-in_err-take_line-clause-gives g c records =
    let p = err_from_is_err_and c.from_residual-in_err-take_line.result c.from_residual-in_err-take_line.ensures.1 in
    rw (p.1, p.2) (failed_line g.C.Cursor g.met.C.Cursor.gives_none records
    c.args.self.now c.args.lines.now c.args.out.now.output c.requires c.in_ok-copy_through.ensures
    (line_seen c.in-Some.line) c.in-Some.ensures.some c.in_err-take_line.field-0.0 c.in_err-take_line.ensures)

pub returns-in_default-clause-gives : goal.returns-in_default-clause-gives
returns-in_default-clause-gives g c records = grind (arith, gave_copied)

pub returns-clause-gives : goal.returns-clause-gives
returns-clause-gives g c records =
    gave_line g.C.Cursor g.met.C.Cursor.gives_none records
    c.args.self.now c.args.lines.now c.args.out.now.output c.requires c.in_ok-copy_through.ensures
    (line_seen c.in-Some.line) c.in-Some.ensures.some (tt {0}) c.in_ok-take_line.ensures
