use Rattle.bt_lines.proofs.Std.{arith, ◌≡◌, Bool, Ok, Result, true, false, err_from_is_err_and}
use Rattle.bt_lines.specs.declared.fault.Fault.{Fault}
use Rattle.bt_seq.proofs.lemmas.mask.steps.AdvanceLemmas.{both_fail, both_more}
use Rattle.bt_seq.proofs.mask.Mask.advance.Goals as goal

-- one more was given, and none was
not_both : (given : Bool) → given ≡ true → ◌≡◌ {A = Result Bool Fault} (Ok given) (Ok false) → ⊥
not_both given is none = cc

pub loop-preserved : goal.loop-preserved
loop-preserved g c = grind (arith, both_more, not_both)

pub returns-in_err-gives_next-clause-gives : goal.returns-in_err-gives_next-clause-gives
returns-in_err-gives_next-clause-gives g c =
    let p = err_from_is_err_and c.from_residual.result c.from_residual.ensures.1 in
    rw (p.1, p.2) (both_fail g.C.Cursor g.met.C.Cursor.gives_more c.loop.invariant.gives c.in_err-gives_next.field-0.0 c.in_err-gives_next.ensures.gives)

pub returns-clause-gives : goal.returns-clause-gives
returns-clause-gives g c = grind (arith, both_more)
