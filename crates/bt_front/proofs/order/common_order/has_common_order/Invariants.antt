use Rattle.bt_lines.proofs.Std.{◌≡◌, drop, is_some}
use Rattle.std.specs.Option.{option_copied}
use Rattle.bt_front.specs.model.Extents.{names_in}
use Rattle.bt_front.specs.calls.Orders.{names_among}
use Rattle.bt_front.specs.model.Fitting.{common_from}
use Rattle.bt_front.proofs.order.common_order.has_common_order.Given as goal

abbrev pub invariant-loop-at : goal.invariant-loop-at
invariant-loop-at l =
    is_some (common_from (names_among (option_copied l.second)) l.next (drop l.at (names_in l.first)))
    ≡ is_some (common_from (names_among (option_copied l.second)) 0 (names_in l.first))
