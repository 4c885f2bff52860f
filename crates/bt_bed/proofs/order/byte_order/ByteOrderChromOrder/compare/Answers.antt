use Rattle.bt_lines.proofs.Std.{sym, ◌∙◌}
use Rattle.bt_bed.proofs.lemmas.order.OrderLemmas.{same_name_same}
use Rattle.bt_bed.proofs.order.byte_order.ByteOrderChromOrder.compare.Goals as goal

pub returns-then-is_same_name : goal.returns-then-is_same_name
returns-then-is_same_name c = sym (same_name_same c.args.left.now c.args.right.now (sym c.is_same_name.ensures ∙ c.if-is_same_name.true))
