use Rattle.drop_in.specs.calls.Hits.IsWhyOfKept.{has_changed}
use Rattle.drop_in.proofs.hits.list_by.Goals as goal

pub returns-in_default-clause-why : goal.returns-in_default-clause-why
returns-in_default-clause-why g c = has_changed
