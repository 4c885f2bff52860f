use Rattle.bt_lines.proofs.Std.{arith, err_from_is_err_and}
use Rattle.bt_sweep.proofs.lemmas.sweep.KeepLemmas.{cuts_rest, writes_rest}
use Rattle.bt_sweep.proofs.sweep.state.State.write_all.Goals as goal

pub returns-in_err-put_pending-clause-writes : goal.returns-in_err-put_pending-clause-writes
returns-in_err-put_pending-clause-writes g c = grind (arith, err_from_is_err_and, cuts_rest)

pub returns-clause-writes : goal.returns-clause-writes
returns-clause-writes g c = grind (arith, writes_rest)
