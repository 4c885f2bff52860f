use Rattle.bt_runs.specs.inside.merge.UnstrandedStep.{kept_at}
use Rattle.bt_runs.proofs.lemmas.merge.UnstrandedLemmas.{fits}
use Rattle.bt_runs.proofs.merge.unstranded_merge.UnstrandedMergeRule.step.Goals as goal

pub returns-clause-fits : goal.returns-clause-fits
returns-clause-fits g c = fits (record c.args.self.now { kept = kept_at c.args.self.now.chrom c.args.on.now }) (g.R.Record.feature c.args.record.now)
