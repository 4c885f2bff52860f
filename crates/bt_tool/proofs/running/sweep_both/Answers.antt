use Rattle.bt_bed.specs.calls.Orders.{bytes_total}
use Rattle.bt_bed.specs.calls.GenomeTable.{names_of}
use Rattle.bt_bed.specs.inside.RankTotal.{ranks_total}
use Rattle.bt_tool.proofs.running.sweep_both.Goals as goal

pub sweep-requires-clause-total : goal.sweep-requires-clause-total
sweep-requires-clause-total g c = ranks_total (names_of c.in-Some.genome)

pub sweep-requires-in-None-clause-total : goal.sweep-requires-in-None-clause-total
sweep-requires-in-None-clause-total g c = bytes_total

pub returns-in-Some : goal.returns-in-Some
returns-in-Some g c = rw c.in-Some.is c.sweep.ensures

pub returns-in-None : goal.returns-in-None
returns-in-None g c = rw c.in-None.is c.sweep-in-None.ensures
