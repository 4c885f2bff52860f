use Rattle.bt_lines.proofs.Std.{◌≡◌, ◌-◌, ◌++◌, drop, take}
use Rattle.bt_front.specs.model.Extents.{names_in}
use Rattle.bt_front.specs.model.Fitting.{order_text}
use Rattle.bt_front.proofs.order.common_order.put_names.Given as goal

abbrev pub invariant-loop-at : goal.invariant-loop-at
invariant-loop-at l =
    l.text.items ≡ l.fn.text.items ++ order_text (take (l.at - l.from) (drop l.from (names_in l.chromosomes)))
