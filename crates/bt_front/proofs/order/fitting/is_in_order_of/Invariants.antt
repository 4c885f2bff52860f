use Rattle.bt_lines.proofs.Std.{◌≡◌, drop}
use Rattle.bt_bed.specs.calls.GenomeTable.{names_of}
use Rattle.bt_front.specs.model.Extents.{names_in}
use Rattle.bt_front.proofs.lemmas.order.FittingLemmas.{ascends}
use Rattle.bt_front.proofs.order.fitting.is_in_order_of.Given as goal

abbrev pub invariant-loop-at : goal.invariant-loop-at
invariant-loop-at l =
    ascends (names_of l.genome) l.least (drop l.at (names_in l.chromosomes)) ≡ ascends (names_of l.genome) 0 (names_in l.chromosomes)
