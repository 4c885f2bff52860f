use Rattle.bt_tool.proofs.lemmas.running.whole.RunningLemmas.{shows_report, usage_reported}
use Rattle.bt_tool.proofs.headline.runs_show_the_report.Goals as goal

pub returns-clause-usage : goal.returns-clause-usage
returns-clause-usage g c = usage_reported

pub returns-clause-run : goal.returns-clause-run
returns-clause-run g c =
    shows_report g.G.Source g.A.Source g.B.Source g.K.Sink
