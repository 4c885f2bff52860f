use Rattle.bt_lines.proofs.Std.{◌≡◌, ◌∙◌, ◌-◌, Result, ap, refl, subst}
use Rattle.bt_runs.specs.inside.merge.StrandStep.{TakesAmong, placed_runs}
use Rattle.bt_runs.specs.calls.Stranding.{Stranding}
use Rattle.bt_runs.specs.declared.engine.failure.Failure.{Failure}
use Rattle.bt_runs.proofs.lemmas.merge.PerStrandLemmas.{fails_among, fits, pending_from, takes_among}
use Rattle.bt_runs.proofs.merge.per_strand_merge.PerStrandMergeRule.step.Goals as goal
use Rattle.bt_runs.proofs.merge.per_strand_merge.PerStrandMergeRule.step.Goals.{in-Ok, in-Err}

pub returns-clause-fits : goal.returns-clause-fits
returns-clause-fits g c = fits c.args.self.now (g.R.Record.feature c.args.«record».now)

pub returns-clause-does : goal.returns-clause-does
returns-clause-does g c =
    let chrom = c.self.inside.chrom.items in
    let runs = c.self.inside.runs in
    let r = g.R.Record.feature c.args.«record».now in
    let old : Stranding = record { gap = c.self.inside.gap; chrom = chrom; kept = placed_runs chrom runs } in
    let new : Stranding = record { gap = c.self.inside.gap; chrom = chrom; kept = placed_runs chrom c.take.new.self } in
    let lies : chrom ≡ r.chrom = ap (λ (m : Stranding). m.chrom) c.self.view_is ∙ c.requires in
    let Took : Result (Unit {0}) Failure → Type 0 = λ answer. TakesAmong (r.start - c.self.inside.gap) runs (pending_from r) chrom c.args.out.now.output answer c.take.new.self c.take.new.out.output in
    let took : Took c.take.result = rw (c.as_slice.ensures.value, c.saturating_sub-reach.ensures, c.start.ensures, c.strand.ensures, c.stop.ensures.is) at c.take.ensures in
    rw (← c.self.view_is) (elim c.match-take.branch [
      | in-Ok w ↦ rw (w.result-is) (takes_among old r c.args.out.now.output runs refl lies (subst Took w.in-Ok.is took) refl refl refl)
      | in-Err w ↦ rw (w.result-is) (fails_among old r c.args.out.now.output runs refl lies w.in-Err.failure w.fault.result c.take.new.self new w.fault.ensures (subst Took w.in-Err.is took))
    ])
