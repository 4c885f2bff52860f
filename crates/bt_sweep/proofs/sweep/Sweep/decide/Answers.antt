use Rattle.bt_lines.proofs.Std.{arith}
use Rattle.bt_sweep.proofs.lemmas.sweep.RelateLemmas.{decides_after, decides_before, decides_beside}
use Rattle.bt_sweep.proofs.sweep.Sweep.decide.Goals as goal

pub returns-in-Before-clause-joins : goal.returns-in-Before-clause-joins
returns-in-Before-clause-joins g c = grind (arith, decides_before)

pub returns-in-Beside-clause-joins : goal.returns-in-Beside-clause-joins
returns-in-Beside-clause-joins g c = grind (arith, decides_beside)

pub returns-in-After-clause-joins : goal.returns-in-After-clause-joins
returns-in-After-clause-joins g c = grind (arith, decides_after)
