use Rattle.bt_laws.proofs.lemmas.same.SameRuns.{complement_exchanged, genomecov_exchanged, merge_exchanged}
use Rattle.bt_laws.proofs.same.same_runs.equal_starts_may_be_exchanged.Goals as goal

pub returns-clause-merge : goal.returns-clause-merge
returns-clause-merge c = merge_exchanged

pub returns-clause-complement : goal.returns-clause-complement
returns-clause-complement c = complement_exchanged

pub returns-clause-genomecov : goal.returns-clause-genomecov
returns-clause-genomecov c = genomecov_exchanged
