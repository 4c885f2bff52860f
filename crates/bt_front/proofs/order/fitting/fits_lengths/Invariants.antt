use Rattle.bt_lines.proofs.Std.{◌≡◌, drop}
use Rattle.bt_bed.specs.calls.GenomeTable.{entries}
use Rattle.bt_front.specs.model.Extents.{extents_in}
use Rattle.bt_front.specs.model.Fitting.{ends_fit}
use Rattle.bt_front.proofs.order.fitting.fits_lengths.Given as goal

abbrev pub invariant-loop-at : goal.invariant-loop-at
invariant-loop-at l =
    ends_fit (entries l.genome) (drop l.at (extents_in l.chromosomes)) ≡ ends_fit (entries l.genome) (extents_in l.chromosomes)
