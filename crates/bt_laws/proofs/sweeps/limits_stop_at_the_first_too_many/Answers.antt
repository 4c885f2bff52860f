use Rattle.bt_laws.proofs.lemmas.single.Sweeps.{limit_kept, limit_stopped}
use Rattle.bt_laws.proofs.sweeps.limits_stop_at_the_first_too_many.Goals as goal

pub returns-clause-stops : goal.returns-clause-stops
returns-clause-stops c = limit_stopped

pub returns-clause-kept : goal.returns-clause-kept
returns-clause-kept c = limit_kept
