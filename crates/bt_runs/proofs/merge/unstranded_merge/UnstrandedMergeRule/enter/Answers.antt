use Rattle.std.proofs.lemmas.Result.{err_from_is_err_and}
use Rattle.bt_lines.proofs.Std.{rules, ◌≡◌, false, bytes_eq}
use Rattle.bt_bed.proofs.lemmas.parse.NameLemmas.{other_name}
use Rattle.bt_runs.proofs.lemmas.Engine.{stays_on}
use Rattle.bt_runs.proofs.lemmas.merge.UnstrandedLemmas.{enters_failing, enters_other, enters_unnamed, fits}
use Rattle.bt_runs.proofs.merge.unstranded_merge.UnstrandedMergeRule.enter.Goals as goal

pub returns-then-is_same_name-clause-enters : goal.returns-then-is_same_name-clause-enters
returns-then-is_same_name-clause-enters g c = stays_on (fits c.args.self.now) c.args.chrom.now c.args.out.now.output

pub returns-in_err-put_run-clause-enters : goal.returns-in_err-put_run-clause-enters
returns-in_err-put_run-clause-enters g c =
    let told = err_from_is_err_and c.from_residual.result c.from_residual.ensures.1 in
    rw (told.1, told.2) (enters_failing c.args.self.now c.self.inside.run (search rules) c.args.out.now.output (search rules) c.in_err-put_run.field-0.0 _ _ (search rules))

pub returns-then-is_err-clause-enters : goal.returns-then-is_err-clause-enters
returns-then-is_err-clause-enters g c =
    let apart : bytes_eq c.args.self.now.chrom c.args.chrom.now ≡ false = search rules in
    enters_unnamed c.args.self.now c.self.inside.run (search rules) c.args.out.now.output apart (other_name _ _ apart) c.no_memory.result _ _ (search rules) (search rules)

pub returns-clause-enters : goal.returns-clause-enters
returns-clause-enters g c =
    enters_other c.args.self.now c.self.inside.run (search rules) c.args.out.now.output (search rules) _ _ (search rules) (search rules) (search rules) (search rules) (search rules)
