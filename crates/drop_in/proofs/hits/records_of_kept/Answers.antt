use Rattle.drop_in.specs.calls.Hits.IsWhyOfKept.{has_changed, ran_out}
use Rattle.drop_in.proofs.hits.records_of_kept.Goals as goal

pub returns-in-Err-NoMemory-clause-why : goal.returns-in-Err-NoMemory-clause-why
returns-in-Err-NoMemory-clause-why g c = ran_out

pub returns-in-Err-Fault-clause-why : goal.returns-in-Err-Fault-clause-why
returns-in-Err-Fault-clause-why g c = has_changed
