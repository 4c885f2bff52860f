use Rattle.bt_lines.proofs.Std.{arith, filter_same, not, rules}
use Rattle.bt_bed.specs.model.Feature.{Feature}
use Rattle.bt_hits.specs.inside.Meeting.{is_passed}
use Rattle.bt_hits.proofs.meeting.drop_passed.Goals as goal

pub returns : goal.returns
returns g c = filter_same _ (λ (b : Feature). not (is_passed (g.O.ChromOrder.order c.args.order.now) c.args.a.now b)) _ (λ x b f' k. search rules) _ _ c.retain.ensures.filtered
