use Rattle.bt_lines.proofs.Std.{◌≡◌, ◌++◌, ◌∷◌, [], List, append_assoc, sym, ◌∙◌, ap, subst, All-tail, IsTrue}
use Rattle.bt_bed.specs.model.Feature.{Feature}
use Rattle.bt_hits.specs.inside.Meeting.{KnownAll}
use Rattle.bt_hits.proofs.meeting.take_up_to.Goals as goal

pub loop-rest-preserved : goal.loop-rest-preserved
loop-rest-preserved g c =
    let kept = c.loop-rest.invariant in
    let next = c.pop_front.new.self.items in
    let is : c.loop-rest.rest.items ≡ c.in-Some.b ∷ next = c.in-Some.ensures.items in
    record {
      moved = kept.moved ++ c.in-Some.b ∷ [];
      were = kept.were ∙ ap (λ (l : List Feature). kept.moved ++ l) is ∙ sym (append_assoc kept.moved (c.in-Some.b ∷ []) next);
      are = c.in_ok-push.ensures.items ∙ ap (λ (l : List Feature). l ++ c.in-Some.b ∷ []) kept.are ∙ append_assoc c.args.active.now.items kept.moved (c.in-Some.b ∷ []);
      known = All-tail (λ (r : Feature). IsTrue ((g.O.ChromOrder.order c.args.order.now).knows r.chrom)) c.in-Some.b next (subst (KnownAll (g.O.ChromOrder.order c.args.order.now)) is kept.known);
    }
