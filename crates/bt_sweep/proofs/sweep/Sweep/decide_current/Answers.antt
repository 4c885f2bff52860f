use Rattle.bt_lines.proofs.Std.{◌≡◌, List, ◌∷◌, Option, Some, None, inl, ap, refl, sym, ◌∙◌, is_some, false≢true, err_from_is_err_and}
use Rattle.bt_bed.specs.calls.Bed.{feature_lent, single_left}
use Rattle.bt_bed.specs.model.Feature.{Feature}
use Rattle.bt_sweep.specs.calls.Sweeping.{Sweeping}
use Rattle.bt_sweep.specs.calls.SweepView.{state_of}
use Rattle.bt_sweep.proofs.lemmas.sweep.StandLemmas.{advances_from, advances_none, fails_from, only_first, single_none, starts_current, stops_none, want_b}
use Rattle.bt_sweep.proofs.sweep.Sweep.decide_current.Goals as goal

pub returns-in_default-clause-decides : goal.returns-in_default-clause-decides
returns-in_default-clause-decides g c =
    let old = state_of c.args.self.now in
    let none : None ≡ old.current = sym (sym c.take_current.ensures.is ∙ c.in_default.is) in
    let same : c.take_current.new.self ≡ old = c.take_current.ensures.taken ∙ ap (λ (o : Option Feature). record old { current = o }) none in
    (rw same (advances_none refl (g.met.B.Cursor.gives_none _)), inl (stops_none g.B.Cursor c.args.b.now c.take_current.new.self (ap (λ (s : Sweeping). s.current) c.take_current.ensures.taken)))

pub returns-in_err-decide-clause-decides : goal.returns-in_err-decide-clause-decides
returns-in_err-decide-clause-decides g c =
    let e = err_from_is_err_and c.from_residual.result c.from_residual.ensures.1 in
    let b = c.in_err-decide.ensures.joins in
    rw (e.1, e.2)
    (fails_from (starts_current (sym c.in-Some.ensures.is ∙ ap (λ (f : Feature). Some f) (sym c.as_bed-bed.ensures)) c.take_current.ensures.taken) b
    (single_none c.new-none.result.cursor c.decide.new.a.cursor b.proceeds.firsts (ap single_left c.new-none.ensures.cursor ∙ c.none.ensures.left) b.proceeds.gives_firsts))

pub returns-in_default-2-clause-decides : goal.returns-in_default-2-clause-decides
returns-in_default-2-clause-decides g c =
    let j = rw c.in_default-2.is at c.in_ok-decide.ensures.joins in
    let final = state_of c.decide.new.self in (
      advances_from (starts_current (sym c.in-Some.ensures.is ∙ ap (λ (f : Feature). Some f) (sym c.as_bed-bed.ensures)) c.take_current.ensures.taken) None final j.0
          (single_none c.new-none.result.cursor c.decide.new.a.cursor j.0.proceeds.firsts (ap single_left c.new-none.ensures.cursor ∙ c.none.ensures.left) j.0.proceeds.gives_firsts)
          (c.in_ok-decide.ensures.phase ∙ ap (λ (s : Sweeping). s.phase) c.take_current.ensures.taken) (ap (λ (o : Option Feature). record final { current = o }) c.decide.ensures.none) (λ bad. absurd (false≢true bad)) tt,
      inl (stops_none g.B.Cursor c.decide.new.b final c.decide.ensures.none),
    )

pub returns-clause-decides : goal.returns-clause-decides
returns-clause-decides g c =
    let first = feature_lent c.as_bed-bed.result in
    let some : (state_of c.args.self.now).current ≡ Some first = sym c.in-Some.ensures.is ∙ ap (λ (f : Feature). Some f) (sym c.as_bed-bed.ensures) in
    let j = rw c.in-Some-2.is at c.in_ok-decide.ensures.joins in
    let final = c.put_back.new.self in
    let alone = single_none c.new-none.result.cursor c.decide.new.a.cursor j.0.proceeds.firsts (ap single_left c.new-none.ensures.cursor ∙ c.none.ensures.left) j.0.proceeds.gives_firsts in
    let last = feature_lent c.in-Some-2.field-0 in
    let same = only_first first last j.0.proceeds.newly (ap (λ (l : List Feature). first ∷ l) (sym alone) ∙ j.0.proceeds.are) in
    let back : final ≡ record (state_of c.decide.new.self) { current = Some last } = c.put_back.ensures ∙ ap (λ (f : Feature). record (state_of c.decide.new.self) { current = Some f }) (sym c.as_bed-bed.ensures ∙ same) in (
      advances_from (starts_current some c.take_current.ensures.taken) (Some last) final j.0 alone (c.in_ok-decide.ensures.phase ∙ ap (λ (s : Sweeping). s.phase) c.take_current.ensures.taken) back
          (λ waits stage st. st.unended (ap is_some (sym st.current_is ∙ some))) j.2,
      inl (rw (want_b final last (ap (λ (s : Sweeping). s.current) back)) j.1.0),
    )
