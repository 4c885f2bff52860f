use Rattle.bt_lines.proofs.Std.{◌≡◌, drop}
use Rattle.bt_bed.specs.calls.GenomeTable.{names_of}
use Rattle.bt_front.specs.model.Extents.{names_in}
use Rattle.bt_front.specs.model.Fitting.{are_first}
use Rattle.bt_front.proofs.order.fitting.are_first_of.Given as goal

abbrev pub invariant-loop-at : goal.invariant-loop-at
invariant-loop-at l =
    are_first (drop l.at (names_of l.genome)) (drop l.at (names_in l.chromosomes)) ≡ are_first (names_of l.genome) (names_in l.chromosomes)
