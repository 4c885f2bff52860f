use Rattle.bt_runs.proofs.lemmas.complement.Walks.{are_gaps, only_gaps}
use Rattle.bt_laws.proofs.runs.gaps_are_determined.Goals as goal

pub returns : goal.returns
returns c = record { are = are_gaps; only = only_gaps }
