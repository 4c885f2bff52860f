use Rattle.bt_lines.proofs.Std.{◌≡◌, Some, Ok, ap, subst, sym, ◌∙◌}
use Rattle.bt_bed.specs.calls.Bed.{feature_lent, single_left}
use Rattle.bt_bed.specs.model.Feature.{Feature}
use Rattle.bt_sweep.specs.calls.Sweeping.{EndsB, Sweeping}
use Rattle.bt_sweep.specs.calls.SweepView.{order_of, state_of}
use Rattle.bt_sweep.specs.declared.sweep.state.Phase.TheVariants.{SecondEnded}
use Rattle.bt_sweep.proofs.lemmas.sweep.SingleLemmas.{ends_b, same_some}
use Rattle.bt_sweep.proofs.sweep.Sweep.end_b.Goals as goal

pub returns-clause-gives : goal.returns-clause-gives
returns-clause-gives g c = λ stage a st waits ordered.
    let order = order_of c.args.self.now in
    let old = state_of c.args.self.now in
    let first = feature_lent c.as_bed-bed.result in
    let some : old.current ≡ Some first = sym c.in-Some.ensures.is ∙ ap (λ (f : Feature). Some f) (sym c.as_bed-bed.ensures) in
    let j = c.in_ok-decide.ensures.joins in
    subst (λ (f : Feature). EndsB {A = Unit {0}} order stage f old c.args.out.now.output (Ok tt) (state_of c.decide.new.self) c.decide.new.out.output) (same_some first a (sym some ∙ st.current_is ∙ waits))
    (ends_b st (sym st.current_is ∙ some) ordered (c.end_b.ensures ∙ ap (λ (s : Sweeping). record s { phase = SecondEnded }) c.take_current.ensures.taken) c.new-none.result.cursor c.none-2.result
    (ap single_left c.new-none.ensures.cursor ∙ c.none.ensures.left) c.none-2.ensures.left c.args.out.now.output j.0 j.1 c.decide.ensures.none c.in_ok-decide.ensures.phase)
