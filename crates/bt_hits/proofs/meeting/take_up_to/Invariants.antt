use Rattle.bt_lines.proofs.Std.{◌≡◌, List, ◌++◌, length}
use Rattle.bt_bed.specs.model.Feature.{Feature}
use Rattle.bt_hits.specs.inside.Meeting.{KnownAll}
use Rattle.bt_hits.proofs.meeting.take_up_to.Given as goal

-- some were moved
abbrev pub invariant-loop-rest : goal.invariant-loop-rest
invariant-loop-rest g l = record {
  moved : List Feature;
  were : l.fn.rest.items ≡ moved ++ l.rest.items;
  are : l.active.items ≡ l.fn.active.items ++ moved;
  known : KnownAll (g.O.ChromOrder.order l.order) l.rest.items;
}

abbrev pub decreases-loop-rest : goal.decreases-loop-rest
decreases-loop-rest g l = length l.rest.items
