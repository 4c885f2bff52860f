use Rattle.bt_lines.proofs.Std.{◌≡◌, ◌≤◌, ◌++◌, drop, length, option_map}
use Rattle.std.specs.Option.{option_copied}
use Rattle.bt_front.specs.model.Extents.{names_in}
use Rattle.bt_front.specs.calls.Orders.{names_among}
use Rattle.bt_front.specs.model.Fitting.{common_from, common_names, order_text}
use Rattle.bt_front.proofs.order.common_order.common_order.Given as goal

abbrev pub invariant-loop-at : goal.invariant-loop-at
invariant-loop-at l = record {
  within : l.next ≤ length (names_among (option_copied l.second));
  text : option_map (λ names. l.text.items ++ order_text names)
      (common_from (names_among (option_copied l.second)) l.next (drop l.at (names_in l.first)))
      ≡ option_map order_text (common_names (names_in l.first) (names_among (option_copied l.second)));
}
