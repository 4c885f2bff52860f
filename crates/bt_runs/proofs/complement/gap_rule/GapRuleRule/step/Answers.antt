use Rattle.bt_runs.proofs.lemmas.complement.GapRuleLemmas.{cursor_reached, fits}
use Rattle.bt_runs.proofs.complement.gap_rule.GapRuleRule.step.Goals as goal

pub returns-clause-fits : goal.returns-clause-fits
returns-clause-fits g c = fits _ (cursor_reached c.args.on.now) (g.R.Record.feature c.args.record.now)
