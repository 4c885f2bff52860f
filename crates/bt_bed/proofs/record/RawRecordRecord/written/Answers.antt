use Rattle.bt_lines.proofs.Std.{◌∙◌}
use Rattle.bt_bed.proofs.lemmas.read.ColumnLemmas.{text_written}
use Rattle.bt_bed.proofs.record.RawRecordRecord.written.Goals as goal

pub returns-then-is_canonical : goal.returns-then-is_canonical
returns-then-is_canonical c = c.text.ensures ∙ text_written c.args.self.now (c.is_canonical.ensures c.if-is_canonical.true)
