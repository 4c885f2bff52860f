-- What a sweep holds, and the order that it sweeps in.
use Rattle.bt_bed.specs.model.Order.{Order}
use Rattle.bt_bed.specs.declared.order.ChromOrder.{Ghosts}
use Rattle.bt_sweep.specs.calls.Sweeping.{Sweeping}
use Rattle.bt_sweep.specs.declared.active.held.Held.{Ghosts as HeldGhosts}
use Rattle.bt_sweep.specs.declared.sweep.Sweep.{Sweep}

module _ {H O : Type 0} {h : HeldGhosts H} {g : Ghosts O} where
  -- the order of the chromosomes
  abbrev pub order_of : Sweep H O h g → Order
  order_of sweep = g.order sweep.order.now

  -- what it holds
  abbrev pub state_of : Sweep H O h g → Sweeping
  state_of sweep = sweep.state
