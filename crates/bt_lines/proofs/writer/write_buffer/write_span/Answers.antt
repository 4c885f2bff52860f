use Rattle.bt_lines.proofs.Std.{arith, length-set}
use Rattle.bt_lines.proofs.lemmas.Writer.{span_moved, span_written}
use Rattle.bt_lines.proofs.writer.write_buffer.write_span.Goals as goal

pub returns-clause-written : goal.returns-clause-written
returns-clause-written c =
    let stop = c.write_column-before_stop in
    let start = c.write_column-first in
    let text = c.args.text.now in
    let same = length-set text 42 c.args.end in
    span_moved start.new.text start.result _ (omega arith) (span_written text stop.new.text c.args.start c.args.stop c.args.end stop.result (omega arith) (omega arith) (omega arith)
    stop.ensures.written start.ensures.written)
