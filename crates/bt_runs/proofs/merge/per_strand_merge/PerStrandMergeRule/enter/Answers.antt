use Rattle.std.proofs.lemmas.Result.{err_from_is_err_and}
use Rattle.bt_lines.proofs.Std.{rules}
use Rattle.bt_runs.proofs.lemmas.Engine.{stays_on}
use Rattle.bt_runs.proofs.lemmas.merge.PerStrandLemmas.{enter_fails, enter_runs_out, entered, fits}
use Rattle.bt_runs.proofs.merge.per_strand_merge.PerStrandMergeRule.enter.Goals as goal

pub returns-then-is_same_name-clause-enters : goal.returns-then-is_same_name-clause-enters
returns-then-is_same_name-clause-enters g c = stays_on (fits c.args.self.now) c.args.chrom.now c.args.out.now.output

pub returns-in_err-put_all-clause-enters : goal.returns-in_err-put_all-clause-enters
returns-in_err-put_all-clause-enters g c =
    let told = err_from_is_err_and c.from_residual.result c.from_residual.ensures.1 in
    rw (told.1, told.2) (enter_fails c.args.self.now c.args.out.now.output c.self.inside.runs (search rules) c.args.chrom.now (search rules) c.in_err-put_all.field-0.0 _ _ (search rules))

pub returns-in-Err-clause-enters : goal.returns-in-Err-clause-enters
returns-in-Err-clause-enters g c =
    enter_runs_out c.args.self.now c.args.out.now.output c.self.inside.runs (search rules) c.args.chrom.now (search rules) c.no_memory.result _ _ (search rules) (search rules)

pub returns-clause-enters : goal.returns-clause-enters
returns-clause-enters g c =
    entered c.args.self.now c.args.out.now.output c.self.inside.runs (search rules) c.args.chrom.now (search rules) _ _ (search rules) (search rules) (search rules)
