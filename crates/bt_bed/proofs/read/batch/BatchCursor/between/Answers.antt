use Rattle.bt_lines.proofs.Std.{arith, length-take-le}
use Rattle.bt_bed.specs.calls.Batch.{consumed_in}
use Rattle.bt_bed.proofs.lemmas.read.batch.RecordsLemmas.{bytes_between}
use Rattle.bt_bed.proofs.read.batch.BatchCursor.between.Goals as goal

pub between-requires-clause-within : goal.between-requires-clause-within
unfolding consumed_in
between-requires-clause-within c = grind (arith, length-take-le)

pub returns : goal.returns
unfolding consumed_in
returns c = grind (arith, bytes_between, length-take-le)
