use Rattle.bt_sweep.specs.calls.SweepView.{order_of as sweep_order, state_of}
use Rattle.bt_sweep.proofs.lemmas.sweep.KeepLemmas.{known_batch}
use Rattle.bt_tool.proofs.lemmas.running.sweep.SweptLemmas.{passed_both}
use Rattle.bt_tool.proofs.lemmas.running.pair.PairNear.{batch_taken, consumes_given}
use Rattle.bt_tool.proofs.loops.sweeping.advance_buffered.Goals as goal

pub advance-swept-requires-clause-known_a : goal.advance-swept-requires-clause-known_a
advance-swept-requires-clause-known_a g c = known_batch c.args.first.now c.buffered-firsts.result c.buffered-firsts.ensures.lends (sweep_order c.args.sweep.now) c.requires.order

pub advance-swept-requires-clause-known_b : goal.advance-swept-requires-clause-known_b
advance-swept-requires-clause-known_b g c = known_batch c.args.second.now c.buffered-seconds.result c.buffered-seconds.ensures.lends (sweep_order c.args.sweep.now) c.requires.second

pub consume-requires : goal.consume-requires
consume-requires g c =
    let p = (passed_both (sweep_order c.args.sweep.now) (state_of c.args.sweep.now) c.buffered-firsts.result c.buffered-seconds.result c.args.out.now.output c.advance-swept.result (state_of c.advance-swept.new.self) c.advance-swept.new.a c.advance-swept.new.b c.advance-swept.new.out.output c.advance-swept.ensures.advances).0 in
    batch_taken c.args.first.now c.buffered-firsts.ensures.lends p.1 c.consumed-first_consumed.ensures

pub consume-requires-2 : goal.consume-requires-2
consume-requires-2 g c =
    let p = (passed_both (sweep_order c.args.sweep.now) (state_of c.args.sweep.now) c.buffered-firsts.result c.buffered-seconds.result c.args.out.now.output c.advance-swept.result (state_of c.advance-swept.new.self) c.advance-swept.new.a c.advance-swept.new.b c.advance-swept.new.out.output c.advance-swept.ensures.advances).1 in
    batch_taken c.args.second.now c.buffered-seconds.ensures.lends p.1 c.consumed-second_consumed.ensures

pub returns-clause-advances : goal.returns-clause-advances
returns-clause-advances g c =
    let p = passed_both (sweep_order c.args.sweep.now) (state_of c.args.sweep.now) c.buffered-firsts.result c.buffered-seconds.result c.args.out.now.output c.advance-swept.result (state_of c.advance-swept.new.self) c.advance-swept.new.a c.advance-swept.new.b c.advance-swept.new.out.output c.advance-swept.ensures.advances in (
      c.buffered-firsts.result,
      c.buffered-seconds.result,
      c.advance-swept.new.a,
      c.advance-swept.new.b,
      consumes_given c.args.first.now c.buffered-firsts.result c.buffered-firsts.ensures.lends c.advance-swept.new.a p.0.0 p.0.1 c.consumed-first_consumed.result c.consumed-first_consumed.ensures g.A.Source c.buffered-firsts.ensures.comes c.consume.new.self c.consume.ensures,
      consumes_given c.args.second.now c.buffered-seconds.result c.buffered-seconds.ensures.lends c.advance-swept.new.b p.1.0 p.1.1 c.consumed-second_consumed.result c.consumed-second_consumed.ensures g.B.Source c.buffered-seconds.ensures.comes c.consume-2.new.self c.consume-2.ensures,
      c.advance-swept.ensures.advances,
    )
