use Rattle.bt_lines.proofs.Std.{arith}
use Rattle.bt_bed.proofs.lemmas.read.ColumnLemmas.{text_is_feature}
use Rattle.bt_bed.proofs.record.raw_record.RawRecord.to_bed.Goals as goal

pub invariant_of-result : goal.invariant_of-result
invariant_of-result c = grind (arith, (text_is_feature c.args.self.now c.text-text.result.now c.text-text.ensures))
