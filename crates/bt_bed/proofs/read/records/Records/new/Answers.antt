use Rattle.bt_lines.proofs.Std.{arith}
use Rattle.bt_bed.proofs.lemmas.read.batch.RecordsLemmas.{good_at_start, placed_at_start}
use Rattle.bt_bed.specs.calls.Records.{view_of}
use Rattle.bt_bed.proofs.read.records.Records.new.Goals as goal

pub invariant_of-result : goal.invariant_of-result
invariant_of-result g c = record { placed = placed_at_start g.S.Source _ c.new.result c.new.ensures.none c.new.ensures.last }

pub returns-clause-good : goal.returns-clause-good
unfolding view_of
returns-clause-good g c = grind (arith, good_at_start)
