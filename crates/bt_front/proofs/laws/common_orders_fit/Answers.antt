use Rattle.bt_front.proofs.lemmas.order.OrderLaws.{found_fits}
use Rattle.bt_front.proofs.lemmas.order.OrderTextLemmas.{order_read}
use Rattle.bt_front.proofs.laws.common_orders_fit.Goals as goal

pub returns-clause-fits : goal.returns-clause-fits
returns-clause-fits c = found_fits

pub returns-clause-read : goal.returns-clause-read
returns-clause-read c = order_read
