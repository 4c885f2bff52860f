use Rattle.bt_front.proofs.lemmas.order.TakenLemmas.{finished, found_used}
use Rattle.bt_front.proofs.laws.what_is_taken_is_finished.Goals as goal

pub returns-clause-finished : goal.returns-clause-finished
returns-clause-finished c = finished

pub returns-clause-used : goal.returns-clause-used
returns-clause-used c = found_used
