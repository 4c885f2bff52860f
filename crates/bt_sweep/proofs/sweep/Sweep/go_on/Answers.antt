use Rattle.bt_lines.proofs.Std.{◌≡◌, [], ◌∷◌, Option, None, ap, inl, subst, sym, ◌∙◌, false≢true, err_from_is_err_and}
use Rattle.bt_bed.specs.model.Feature.{Feature}
use Rattle.bt_sweep.specs.calls.Sweeping.{Sweeping}
use Rattle.bt_sweep.specs.calls.SweepView.{state_of}
use Rattle.bt_sweep.proofs.lemmas.sweep.StandLemmas.{advances_from, advances_none, fails_from, kept_or_not, none_waits, not_over, starts_entered, want_a}
use Rattle.bt_sweep.proofs.sweep.Sweep.go_on.Goals as goal

pub enter-requires : goal.enter-requires
enter-requires g c = none_waits (state_of c.args.self.now) c.requires.want

pub returns-in_default-clause-advances : goal.returns-in_default-clause-advances
returns-in_default-clause-advances g c =
    let ended = subst (λ (x : g.row.A.Denot). g.A.Cursor.has_ended x) c.new-firsts.ensures.cursor c.in_default.ensures.none in
    (advances_none (g.met.A.Cursor.gives_none _) (g.met.B.Cursor.gives_none _), inl (rw c.requires.want ended))

pub returns-in_err-waiting-clause-advances : goal.returns-in_err-waiting-clause-advances
returns-in_err-waiting-clause-advances g c =
    let first = g.A.Record.Record.feature c.in-Some.first in
    let given = subst (λ (x : g.row.A.Denot). g.A.Cursor.gives x (first ∷ []) c.next.new.self.cursor) c.new-firsts.ensures.cursor c.in-Some.ensures.some in
    let e = err_from_is_err_and c.from_residual.result c.from_residual.ensures.1 in
    let b = c.in_err-waiting.ensures.joins in
    rw (e.1, e.2)
    (fails_from (starts_entered (g.met.O.ChromOrder.total c.args.self.now.order.now) (none_waits (state_of c.args.self.now) c.requires.want) c.enter.ensures.entered) b
    (g.met.A.Cursor.gives_more _ _ _ (first ∷ []) b.proceeds.firsts given b.proceeds.gives_firsts))

pub returns-in_default-2-clause-advances : goal.returns-in_default-2-clause-advances
returns-in_default-2-clause-advances g c =
    let old = state_of c.args.self.now in
    let first = g.A.Record.Record.feature c.in-Some.first in
    let given = subst (λ (x : g.row.A.Denot). g.A.Cursor.gives x (first ∷ []) c.next.new.self.cursor) c.new-firsts.ensures.cursor c.in-Some.ensures.some in
    let j = rw c.in_default-2.is at c.in_ok-waiting.ensures.joins in
    let final = state_of c.decide-decided.new.self in
    let same : final.phase ≡ old.phase = c.in_ok-waiting.ensures.phase ∙ ap (λ (s : Sweeping). s.phase) c.enter.ensures.entered in (
      advances_from (starts_entered (g.met.O.ChromOrder.total c.args.self.now.order.now) (none_waits old c.requires.want) c.enter.ensures.entered) None final j.0
          (g.met.A.Cursor.gives_more _ _ _ (first ∷ []) j.0.proceeds.firsts given j.0.proceeds.gives_firsts) same
          (ap (λ (o : Option Feature). record final { current = o }) c.decide-decided.ensures.none) (λ bad. absurd (false≢true bad)) tt,
      inl (rw (want_a final c.decide-decided.ensures.none (λ e. not_over old c.requires.want (sym same ∙ e))) j.1),
    )

pub returns-clause-advances : goal.returns-clause-advances
returns-clause-advances g c =
    let old = state_of c.args.self.now in
    let first = g.A.Record.Record.feature c.in-Some.first in
    let given = subst (λ (x : g.row.A.Denot). g.A.Cursor.gives x (first ∷ []) c.next.new.self.cursor) c.new-firsts.ensures.cursor c.in-Some.ensures.some in
    let j = rw c.in-Some-2.is at c.in_ok-waiting.ensures.joins in
    kept_or_not (starts_entered (g.met.O.ChromOrder.total c.args.self.now.order.now) (none_waits old c.requires.want) c.enter.ensures.entered) g.A.Cursor j.0 (none_waits old c.requires.want) j.1.0 j.1.1
    (g.met.A.Cursor.gives_more _ _ _ (first ∷ []) j.0.proceeds.firsts given j.0.proceeds.gives_firsts) (c.in_ok-waiting.ensures.phase ∙ ap (λ (s : Sweeping). s.phase) c.enter.ensures.entered)
    (not_over old c.requires.want) j.2 c.keep.result c.keep.new.self c.keep.ensures
