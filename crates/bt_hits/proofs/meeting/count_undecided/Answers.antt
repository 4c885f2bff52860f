use Rattle.bt_lines.proofs.Std.{arith}
use Rattle.bt_hits.proofs.lemmas.Listing.{decides_at}
use Rattle.bt_hits.proofs.meeting.count_undecided.Goals as goal

pub returns-then-not-is_undecided-clause-reached : goal.returns-then-not-is_undecided-clause-reached
returns-then-not-is_undecided-clause-reached g c =
    decides_at (g.O.ChromOrder.order c.args.order.now) c.args.a.now c.args.rest.now.items c.loop-index.index _ _ c.record_at.ensures (omega arith) c.if-not-is_undecided.true c.is_undecided.ensures
