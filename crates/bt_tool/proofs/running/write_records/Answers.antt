use Rattle.bt_tool.proofs.lemmas.running.feed.WritingLemmas.{behaves_alone}
use Rattle.bt_tool.proofs.running.write_records.Goals as goal

pub returns-in-None-clause-runs : goal.returns-in-None-clause-runs
returns-in-None-clause-runs g c = rw c.in-None.is (behaves_alone g.A.Source g.B.Source c.write_alone-fault.ensures)
