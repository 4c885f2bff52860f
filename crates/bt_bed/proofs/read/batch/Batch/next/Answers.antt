use Rattle.bt_lines.proofs.Std.{length-append, arith}
use Rattle.bt_lines.specs.calls.Reader.{rest_in}
use Rattle.bt_bed.specs.calls.Batch.{chrom_in, consumed_in, cursor_in, left, left_after, start_in}
use Rattle.bt_bed.specs.calls.Bed.{raw_in, record_in, text_in}
use Rattle.bt_bed.proofs.lemmas.read.batch.RecordsLemmas.{one_more}
use Rattle.bt_bed.proofs.read.batch.Batch.next.Goals as goal

pub consume-requires : goal.consume-requires
unfolding cursor_in raw_in
consume-requires c = grind (arith, length-append)

pub returns-clause-some : goal.returns-clause-some
unfolding left left_after chrom_in cursor_in start_in record_in
returns-clause-some c = grind arith

pub returns-clause-line : goal.returns-clause-line
unfolding cursor_in consumed_in raw_in text_in rest_in
returns-clause-line c = grind (arith, length-append, one_more)
