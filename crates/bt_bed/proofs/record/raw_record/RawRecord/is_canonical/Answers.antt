use Rattle.bt_lines.proofs.Std.{arith}
use Rattle.bt_bed.specs.calls.Bed.{text_in}
use Rattle.bt_bed.proofs.lemmas.read.ColumnLemmas.{byte_there, column_begins, other_byte, text_less, written_so}
use Rattle.bt_bed.proofs.record.raw_record.RawRecord.is_canonical.Goals as goal

pub bounds-self-stop : goal.bounds-self-stop
bounds-self-stop c = omega (arith, column_begins c.args.self.now, text_less c.args.self.now.line.now)

pub returns-then-self-start-ne48 : goal.returns-then-self-start-ne48
unfolding text_in
returns-then-self-start-ne48 c = grind (arith, column_begins, written_so, byte_there, other_byte)
