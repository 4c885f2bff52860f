use Rattle.bt_runs.proofs.lemmas.merge.Bridging.{are_runs, only_runs}
use Rattle.bt_laws.proofs.runs.runs_are_determined.Goals as goal

pub returns : goal.returns
returns c = record { are = are_runs; only = only_runs }
