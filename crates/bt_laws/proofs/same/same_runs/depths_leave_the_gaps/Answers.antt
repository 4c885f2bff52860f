use Rattle.bt_laws.proofs.lemmas.same.LengthLaws.{deep_depths, zero_depths}
use Rattle.bt_laws.proofs.same.same_runs.depths_leave_the_gaps.Goals as goal

pub returns-clause-zero : goal.returns-clause-zero
returns-clause-zero c = zero_depths

pub returns-clause-others : goal.returns-clause-others
returns-clause-others c = deep_depths
