use Rattle.bt_laws.proofs.lemmas.single.Sequences.{maximal_runs}
use Rattle.bt_laws.proofs.sequences.masks.blocks_are_runs.Goals as goal

pub returns : goal.returns
returns c = maximal_runs
