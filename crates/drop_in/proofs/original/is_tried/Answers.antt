use Rattle.bt_lines.proofs.Std.{arith, ◌≡◌, ◌∙◌, false, length, take, take_all, subst, sym}
use Rattle.std.proofs.lemmas.Iterator.Consumers.{YieldsList-end, YieldsList-turn}
use Rattle.std.proofs.lemmas.Iterator.Splits.{YieldsList-from_str_split}
use Rattle.std.proofs.lemmas.List.{length_push}
use Rattle.bt_lines.specs.model.Lines.{pieces}
use Rattle.bt_bed.specs.model.Order.{is_among}
use Rattle.drop_in.proofs.lemmas.OriginalLemmas.{among_at, none_more}
use Rattle.drop_in.proofs.original.is_tried.Goals as goal

pub returns-then-eq : goal.returns-then-eq
returns-then-eq c =
    let at = YieldsList-turn (YieldsList-from_str_split 58 c.args.tried.now (omega arith) (cc) (cc) (cc)) c.loop-one.yielded _ c.loop-one.yielded_by _ _ c.in-Some.one c.in-Some.is c.next.ensures.steps in
    sym (among_at (pieces 58 c.args.tried.now) (length c.loop-one.yielded) c.in-Some.one.now c.args.name.now at.0 at.1 (sym c.eq.ensures ∙ c.if-eq.true))

pub loop-one-preserved : goal.loop-one-preserved
loop-one-preserved c =
    let at = YieldsList-turn (YieldsList-from_str_split 58 c.args.tried.now (omega arith) (cc) (cc) (cc)) c.loop-one.yielded _ c.loop-one.yielded_by _ _ c.in-Some.one c.in-Some.is c.next.ensures.steps in
    subst (λ n. is_among (take n (pieces 58 c.args.tried.now)) c.args.name.now ≡ false) (sym (length_push c.loop-one.yielded c.in-Some.one))
    (none_more (pieces 58 c.args.tried.now) c.args.name.now (length c.loop-one.yielded) c.in-Some.one.now at.0 at.1 c.loop-one.invariant (sym c.eq.ensures ∙ c.if-eq.false))

pub returns : goal.returns
returns c =
    let ends = YieldsList-end (YieldsList-from_str_split 58 c.args.tried.now (omega arith) (cc) (cc) (cc)) c.loop-one.yielded _ c.loop-one.yielded_by _ _ c.in-None.is c.next.ensures.steps in
    sym (subst (λ names. is_among names c.args.name.now ≡ false)
    (take_all (length c.loop-one.yielded) (pieces 58 c.args.tried.now) (omega (arith, ends.1))) c.loop-one.invariant)
