use Rattle.bt_lines.proofs.Std.{ℕ, List, ap, filter, subst, sym, ◌∙◌, All, nat_lt}
use Rattle.bt_bed.specs.model.Feature.{Feature}
use Rattle.bt_sweep.specs.calls.Held.{CanHit}
use Rattle.bt_sweep.specs.inside.Joining.{are_on}
use Rattle.bt_sweep.proofs.lemmas.sweep.KeepLemmas.{hits_kept}
use Rattle.bt_sweep.proofs.sweep.state.State.enter.Goals as goal

pub returns-then-are_on-clause-hits : goal.returns-then-are_on-clause-hits
returns-then-are_on-clause-hits g c =
    let a = g.R.Record.feature c.args.a.now in
    let held = g.H.Held.records c.self.inside.held in
    subst (All (CanHit a)) (sym (c.drop_ended.ensures ∙ ap (λ (n : ℕ). filter (λ (r : Feature). nat_lt n r.stop) held) c.start.ensures))
    (hits_kept a.chrom a.start held c.self.invariant.on_one
    (ap (λ (name : List ℕ). are_on held name) (sym c.chrom.ensures) ∙ sym c.are_on.ensures ∙ c.if-are_on.true))
