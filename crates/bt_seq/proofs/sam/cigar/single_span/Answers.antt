use Rattle.bt_lines.proofs.Std.{◌-◌, arith, length}
use Rattle.bt_seq.proofs.lemmas.Sam.{single_span_is}
use Rattle.bt_seq.proofs.sam.cigar.single_span.Goals as goal

pub returns : goal.returns
returns c =
    let text = c.args.text.now in
    single_span_is text (length text - 1) c.short_number.result (omega (arith, c.if-size-gt-SHORT.false)) (omega (arith, c.if-size-eq0.false)) c.if-text-size-ne77.false c.short_number.ensures
