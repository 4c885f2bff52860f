use Rattle.bt_lines.proofs.Std.{arith, err_from_is_err_and}
use Rattle.bt_sweep.proofs.lemmas.sweep.JoinLemmas.{joins_cut, joins_rest}
use Rattle.bt_sweep.proofs.sweep.state.State.join.Goals as goal

pub returns-in_err-put_pending-clause-joins : goal.returns-in_err-put_pending-clause-joins
returns-in_err-put_pending-clause-joins g c = grind (arith, err_from_is_err_and, joins_cut)

pub returns-clause-joins : goal.returns-clause-joins
returns-clause-joins g c = grind (arith, joins_rest)
