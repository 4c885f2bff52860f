use Rattle.bt_laws.proofs.lemmas.single.LevelLemmas.{plain_runs_levels, levels_of_stretches}
use Rattle.bt_laws.proofs.runs.runs_are_intervals_of_one_value.Goals as goal
use Rattle.bt_lines.proofs.Std.{arith}
use Rattle.bt_runs.proofs.lemmas.merge.Bridging.{are_runs, covered_below_end, is_bridged-Decides}

pub returns : goal.returns
returns c = record { bridged = grind (arith, are_runs, levels_of_stretches, covered_below_end, is_bridged-Decides); covered = plain_runs_levels }
