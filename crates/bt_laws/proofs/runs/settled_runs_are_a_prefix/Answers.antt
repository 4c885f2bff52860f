use Rattle.bt_runs.proofs.lemmas.merge.SettledRuns.{runs_stay, runs_begin}
use Rattle.bt_laws.proofs.lemmas.single.LevelLemmas.{one_is_kept}
use Rattle.bt_laws.proofs.runs.settled_runs_are_a_prefix.Goals as goal

pub returns : goal.returns
returns c = record { stay = runs_stay; begin = runs_begin; kept = one_is_kept }
