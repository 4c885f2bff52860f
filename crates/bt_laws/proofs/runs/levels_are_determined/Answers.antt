use Rattle.bt_lines.proofs.Std.{refl}
use Rattle.bt_laws.proofs.lemmas.single.LevelLemmas.{are_levels, only_levels, levels_of_stretches}
use Rattle.bt_laws.proofs.runs.levels_are_determined.Goals as goal

pub returns : goal.returns
returns c = record { are = are_levels; only = only_levels; scan = λ value size. refl; stretches = levels_of_stretches }
