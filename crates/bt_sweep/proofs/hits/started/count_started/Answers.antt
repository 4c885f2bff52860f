use Rattle.bt_lines.proofs.Std.{common_steps, arith}
use Rattle.bt_sweep.proofs.lemmas.Output.{start_ahead}
use Rattle.bt_sweep.proofs.hits.started.count_started.Goals as goal

pub returns-then-not-starts_from-clause-before : goal.returns-then-not-starts_from-clause-before
returns-then-not-starts_from-clause-before g c = grind (arith, common_steps, start_ahead)
