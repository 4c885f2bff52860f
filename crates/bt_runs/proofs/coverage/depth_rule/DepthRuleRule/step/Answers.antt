use Rattle.bt_lines.proofs.Std.{Err, subst, sym}
use Rattle.bt_bed.specs.calls.GenomeTable.{entries}
use Rattle.bt_bed.specs.declared.parse.bounds.Bounds.{Bounds}
use Rattle.bt_runs.specs.inside.Coverage.{seen}
use Rattle.bt_runs.specs.calls.Covering.{Covering, IsOnChrom, depth_rule, with_chrom}
use Rattle.bt_runs.specs.inside.Walk.{Does}
use Rattle.bt_runs.proofs.lemmas.coverage.DepthSteps.{IsNext, step_err, fits}
use Rattle.bt_runs.proofs.coverage.depth_rule.DepthRuleRule.step.Goals as goal

pub returns-then-not-on-clause-fits : goal.returns-then-not-on-clause-fits
returns-then-not-on-clause-fits g c = fits (with_chrom c.args.self.now c.args.on.now) (g.R.Record.feature c.args.record.now)

pub returns-in-Err-clause-does : goal.returns-in-Err-clause-does
returns-in-Err-clause-does g c =
    let m = c.self.inside in
    let r = g.R.Record.feature c.args.record.now in
    let on = c.args.on.now in
    let bounds : Bounds = record { start = c.start.result; stop = c.stop.result } in
    let view : Covering = record { entries = entries m.chroms.genome.now; zeros = m.chroms.zeros; strand = m.strand; current = seen m.current m.held; is_known = m.is_known; name = m.name.now; length = m.length } in
    let next : IsNext m.strand r bounds c.is_counted.result = record { starts = sym c.start.ensures; stops = sym c.stop.ensures.is; counts = sym c.is_counted.ensures } in
    let lies : IsOnChrom (with_chrom view on) r.chrom = subst (λ (v : Covering). IsOnChrom (with_chrom v on) r.chrom) (sym c.self.view_is) c.requires in
    subst (λ (v : Covering). Does depth_rule (with_chrom v on) r c.args.out.now.output (Err c.fault.result) view c.count_next-counted.new.out.output) c.self.view_is
    (step_err view on c.if-not-on.false next c.args.out.now.output c.count_next-counted.new.out.output
    m.current m.held c.self.invariant lies c.fault.result view c.count_next-counted.new.held c.fault.ensures c.in-Err.ensures.counts c.in-Err.ensures.memory)

pub returns-in-Err-clause-fits : goal.returns-in-Err-clause-fits
returns-in-Err-clause-fits g c = fits (with_chrom c.args.self.now c.args.on.now) (g.R.Record.feature c.args.record.now)

pub returns-clause-fits : goal.returns-clause-fits
returns-clause-fits g c = fits (with_chrom c.args.self.now c.args.on.now) (g.R.Record.feature c.args.record.now)
