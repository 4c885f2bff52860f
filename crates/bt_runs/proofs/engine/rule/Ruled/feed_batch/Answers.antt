use Rattle.bt_lines.proofs.Std.{arith}
use Rattle.bt_runs.proofs.lemmas.Engine.{batch_fed}
use Rattle.bt_runs.proofs.engine.rule.Ruled.feed_batch.Goals as goal

pub returns-in-Err : goal.returns-in-Err
returns-in-Err g c = grind (arith, batch_fed)

pub returns-in_default-fed : goal.returns-in_default-fed
returns-in_default-fed g c = grind (arith, batch_fed)
