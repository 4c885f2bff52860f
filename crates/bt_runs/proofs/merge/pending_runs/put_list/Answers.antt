use Rattle.bt_lines.proofs.Std.{arith, false, inl, refl, sym, ◌∙◌, ap, err_from_is_err_and}
use Rattle.bt_runs.proofs.lemmas.merge.PerStrandLemmas.{none_first}
use Rattle.bt_runs.proofs.lemmas.merge.StrandSettling.{all_written, line_cut, next_written, passed_every}
use Rattle.bt_runs.specs.inside.merge.StrandStep.{passed_runs}
use Rattle.bt_runs.proofs.merge.pending_runs.put_list.Goals as goal

pub returns-clause-none : goal.returns-clause-none
returns-clause-none g c = grind (arith, none_first)

pub returns-clause-adds : goal.returns-clause-adds
returns-clause-adds g c =
    let all = all_written false 0 c.args.chrom.now c.loop-run.invariant (ap (passed_runs false 0) (returns-clause-none g c)) in
    rw (passed_every 0 c.args.runs.now) at all

pub returns-in_err-put_interval-clause-adds : goal.returns-in_err-put_interval-clause-adds
returns-in_err-put_interval-clause-adds g c =
    let p = err_from_is_err_and c.from_residual.result c.from_residual.ensures.1 in
    let cut = line_cut false 0 c.args.chrom.now c.loop-run.invariant (sym c.first.ensures ∙ c.in-Some.is) (inl refl) c.put_interval.new.out.output c.in_err-put_interval.field-0.0 c.in_err-put_interval.ensures in
    rw (p.1, p.2) (rw (passed_every 0 c.args.runs.now) at cut)

pub loop-run-preserved : goal.loop-run-preserved
loop-run-preserved g c = rw (c.drop_first.ensures) (next_written false 0 c.args.chrom.now c.loop-run.invariant (sym c.first.ensures ∙ c.in-Some.is) (inl refl) c.put_interval.new.out.output c.in_ok-put_interval.ensures)
