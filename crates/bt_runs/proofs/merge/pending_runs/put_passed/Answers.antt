use Rattle.bt_lines.proofs.Std.{arith, ap, [], ◌≡◌, sym, ◌∙◌, inr, true, refl, err_from_is_err_and}
use Rattle.bt_runs.specs.inside.merge.StrandStep.{passed_runs}
use Rattle.bt_runs.proofs.lemmas.merge.PerStrandLemmas.{none_first}
use Rattle.bt_runs.proofs.lemmas.merge.StrandSettling.{all_written, line_cut, next_written, none_over}
use Rattle.bt_runs.proofs.merge.pending_runs.put_passed.Goals as goal

pub returns-clause-adds : goal.returns-clause-adds
returns-clause-adds g c =
    let none : c.loop-run.runs ≡ [] = grind (arith, none_first) in
    all_written true c.args.reach c.args.chrom.now c.loop-run.invariant (ap (passed_runs true c.args.reach) none)

pub returns-then-reach-run-clause-adds : goal.returns-then-reach-run-clause-adds
returns-then-reach-run-clause-adds g c =
    all_written true c.args.reach c.args.chrom.now c.loop-run.invariant (none_over true c.args.reach c.loop-run.runs c.in-Some.run' (sym c.first.ensures ∙ c.in-Some.is) refl c.if-reach-run.true).0

pub returns-then-reach-run-clause-left : goal.returns-then-reach-run-clause-left
returns-then-reach-run-clause-left g c =
    sym (c.loop-run.invariant.behind ∙ (none_over true c.args.reach c.loop-run.runs c.in-Some.run' (sym c.first.ensures ∙ c.in-Some.is) refl c.if-reach-run.true).1)

pub returns-in_err-put_interval-clause-adds : goal.returns-in_err-put_interval-clause-adds
returns-in_err-put_interval-clause-adds g c =
    let p = err_from_is_err_and c.from_residual.result c.from_residual.ensures.1 in
    rw (p.1, p.2) (line_cut true c.args.reach c.args.chrom.now c.loop-run.invariant (sym c.first.ensures ∙ c.in-Some.is) (inr c.if-reach-run.false) c.put_interval.new.out.output c.in_err-put_interval.field-0.0 c.in_err-put_interval.ensures)

pub loop-run-preserved : goal.loop-run-preserved
loop-run-preserved g c = rw (c.drop_first.ensures) (next_written true c.args.reach c.args.chrom.now c.loop-run.invariant (sym c.first.ensures ∙ c.in-Some.is) (inr c.if-reach-run.false) c.put_interval.new.out.output c.in_ok-put_interval.ensures)
