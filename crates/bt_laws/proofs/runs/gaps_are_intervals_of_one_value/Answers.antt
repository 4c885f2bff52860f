use Rattle.bt_laws.proofs.lemmas.single.LevelLemmas.{covered_depth, gaps_depth_0, levels_of_stretches}
use Rattle.bt_laws.proofs.runs.gaps_are_intervals_of_one_value.Goals as goal
use Rattle.bt_lines.proofs.Std.{arith}
use Rattle.bt_runs.proofs.lemmas.complement.Walks.{are_gaps, is_bare-Decides}

pub returns : goal.returns
returns c = record { bare = grind (arith, are_gaps, levels_of_stretches, is_bare-Decides); depth = covered_depth; coverage = gaps_depth_0 }
