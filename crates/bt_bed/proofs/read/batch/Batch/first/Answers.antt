use Rattle.bt_lines.proofs.Std.{common_steps, arith}
use Rattle.bt_lines.specs.calls.Reader.{rest_in}
use Rattle.bt_bed.proofs.lemmas.read.batch.RecordsLemmas.{none_below, none_either, none_elsewhere, none_holds, some_bytes, stands_first}
use Rattle.bt_bed.specs.calls.Batch.{chrom_in, cursor_in, start_in}
use Rattle.bt_bed.specs.calls.Bed.{record_in}
use Rattle.bt_bed.proofs.read.batch.Batch.first.Goals as goal

pub returns-in_err-record-clause-none : goal.returns-in_err-record-clause-none
unfolding cursor_in chrom_in
returns-in_err-record-clause-none c = grind (arith, none_holds, none_either, none_elsewhere)

pub returns-then-record-self-clause-none : goal.returns-then-record-self-clause-none
unfolding cursor_in chrom_in start_in record_in
returns-then-record-self-clause-none c = grind (arith, common_steps, some_bytes, none_below)

pub returns-clause-some : goal.returns-clause-some
unfolding cursor_in chrom_in start_in record_in
returns-clause-some c =
    let line = c.first_line-line.result.now in
    let is = c.first_line-line.ensures in
    let raw = c.in_ok-record.record in
    let here = is.some (some_bytes raw line (rest_in c.args.self.now.lines) c.in_ok-record.ensures.some.line_is is.prefix) in
    stands_first c.args.self.now line is.prefix here.0 here.1 raw c.in_ok-record.ensures.some c.if-record-self.false
