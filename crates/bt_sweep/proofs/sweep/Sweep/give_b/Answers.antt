use Rattle.bt_lines.proofs.Std.{◌∙◌, err_from_is_err_and}
use Rattle.bt_bed.specs.calls.Bed.{feature_lent}
use Rattle.bt_sweep.specs.calls.SweepView.{order_of}
use Rattle.bt_sweep.proofs.lemmas.sweep.KeepLemmas.{known_none, known_single}
use Rattle.bt_sweep.proofs.lemmas.sweep.SingleLemmas.{decides_a, fails_b, takes_b}
use Rattle.bt_sweep.proofs.sweep.Sweep.give_b.Goals as goal

pub advance-requires-clause-known_a : goal.advance-requires-clause-known_a
advance-requires-clause-known_a g c = known_none (order_of c.args.self.now) c.none.result c.none.ensures.left

pub advance-requires-clause-known_b : goal.advance-requires-clause-known_b
advance-requires-clause-known_b g c = known_single (order_of c.args.self.now) c.new-given.result (feature_lent c.args.b.now) c.new-given.ensures.left c.requires.known

pub returns-in_err-advance-clause-gives : goal.returns-in_err-advance-clause-gives
returns-in_err-advance-clause-gives g c = λ stage a st waits ordered.
    let e = err_from_is_err_and c.from_residual.result c.from_residual.ensures.1 in
    rw (e.1, e.2) (
      c.in_err-advance.ensures.stops,
      fails_b st c.none.result c.new-given.result (g.met.O.ChromOrder.total c.args.self.now.order.now) waits (c.args.self.now.known a (st.current_is ∙ waits)) ordered
          c.none.ensures.left c.new-given.ensures.left c.args.line c.new-given.ensures.line c.in_err-advance.ensures.advances,
    )

pub returns-then-is_empty-clause-gives : goal.returns-then-is_empty-clause-gives
returns-then-is_empty-clause-gives g c = λ stage a st waits ordered.
    takes_b st c.none.result c.new-given.result (g.met.O.ChromOrder.total c.args.self.now.order.now) waits (c.args.self.now.known a (st.current_is ∙ waits)) ordered
    c.none.ensures.left c.new-given.ensures.left c.args.line c.in_ok-advance.ensures.advances.0 (c.is_empty.ensures.none c.if-is_empty.true)

pub returns-else-is_empty-clause-gives : goal.returns-else-is_empty-clause-gives
returns-else-is_empty-clause-gives g c = λ stage a st waits ordered.
    decides_a st c.none.result c.new-given.result (g.met.O.ChromOrder.total c.args.self.now.order.now) waits (c.args.self.now.known a (st.current_is ∙ waits)) ordered
    c.none.ensures.left c.new-given.ensures.left c.args.line c.in_ok-advance.ensures.advances.0 c.in_ok-advance.ensures.advances.1 (c.is_empty.ensures.some c.if-is_empty.false).1
