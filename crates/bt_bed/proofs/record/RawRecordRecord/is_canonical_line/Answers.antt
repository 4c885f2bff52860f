use Rattle.bt_lines.proofs.Std.{arith}
use Rattle.bt_lines.proofs.lemmas.reader.lines.TextLemmas.{strip_last-other}
use Rattle.bt_bed.specs.calls.Bed.{raw_in, text_in}
use Rattle.bt_bed.proofs.lemmas.read.ColumnLemmas.{text_written}
use Rattle.bt_bed.proofs.record.RawRecordRecord.is_canonical_line.Goals as goal

pub returns-then-not-ends_with_return : goal.returns-then-not-ends_with_return
unfolding raw_in text_in
returns-then-not-ends_with_return c is = grind (arith, strip_last-other, text_written)
