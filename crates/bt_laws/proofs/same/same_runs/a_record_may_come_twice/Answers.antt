use Rattle.bt_laws.proofs.lemmas.same.SameRuns.{complement_repeated, merge_repeated}
use Rattle.bt_laws.proofs.same.same_runs.a_record_may_come_twice.Goals as goal

pub returns-clause-merge : goal.returns-clause-merge
returns-clause-merge c = merge_repeated

pub returns-clause-complement : goal.returns-clause-complement
returns-clause-complement c = complement_repeated
