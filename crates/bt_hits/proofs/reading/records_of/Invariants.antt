use Rattle.bt_lines.proofs.Std.{◌≡◌, None, length}
use Rattle.bt_lines.specs.model.Lines.{pieces}
use Rattle.bt_bed.specs.model.Sorted.{sorting_of}
use Rattle.bt_hits.specs.inside.Reading.{records_in}
use Rattle.bt_hits.proofs.lemmas.Reading.{records_after}
use Rattle.bt_hits.proofs.reading.records_of.Given as goal

-- the records of the text are those so far, and those of the rest
abbrev pub invariant-loop-records : goal.invariant-loop-records
invariant-loop-records g l =
    records_in (sorting_of (g.O.ChromOrder.order l.order)) None (pieces 10 l.text)
    ≡ records_after (sorting_of (g.O.ChromOrder.order l.order)) l.records.items (pieces 10 l.rest)

abbrev pub decreases-loop-records : goal.decreases-loop-records
decreases-loop-records g l = length l.rest
