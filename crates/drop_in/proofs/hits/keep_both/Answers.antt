use Rattle.bt_lines.proofs.Std.{refl, subst, ℕ}
use Rattle.bt_lines.specs.declared.fault.Input.TheVariants.{First, Second}
use Rattle.drop_in.specs.calls.Hits.{IsUnkept}
use Rattle.drop_in.specs.calls.Hits.AreUnkept.{of_first, of_second, too_long}
use Rattle.drop_in.proofs.hits.keep_both.Goals as goal

pub returns-in_default-room_beside-clause-why : goal.returns-in_default-room_beside-clause-why
returns-in_default-room_beside-clause-why g c =
    too_long c.in-Some.second c.in-Some.is c.in_default-room_beside.ensures.full refl

pub returns-in-Err-clause-why : goal.returns-in-Err-clause-why
returns-in-Err-clause-why g c =
    of_first c.in-Some.second c.in-Some.is
    (subst (λ (left : ℕ). IsUnkept g.I.Source c.args.first First left c.in-Err.why) c.in-Some-room_beside.ensures.left c.in-Err.ensures.why)

pub returns-in-Err-keep-clause-why : goal.returns-in-Err-keep-clause-why
returns-in-Err-keep-clause-why g c =
    of_second c.in-Ok.first c.in-Some.second c.in-Ok.ensures.keeps c.in-Some.is
    (subst (λ (left : ℕ). IsUnkept g.I.Source c.in-Some.second Second left c.in-Err-keep.why) c.in-Some-room_beside.ensures.left c.in-Err-keep.ensures.why)
