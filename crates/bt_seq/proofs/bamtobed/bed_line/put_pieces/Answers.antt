use Rattle.bt_lines.proofs.Std.{err_from_is_err_and}
use Rattle.bt_seq.specs.calls.Sam.{alignment_lent}
use Rattle.bt_seq.proofs.lemmas.BamToBed.{cut_place, puts_line}
use Rattle.bt_seq.proofs.bamtobed.bed_line.put_pieces.Goals as goal

pub returns-in_err-put_place : goal.returns-in_err-put_place
returns-in_err-put_place g c =
    let p = err_from_is_err_and c.from_residual.result c.from_residual.ensures.1 in
    rw (p.1, p.2) (cut_place c.args.with_cigar (alignment_lent c.args.sam.now) (record { start = c.args.start; stop = c.args.stop }) _ _ _ c.in_err-put_place.ensures)

pub returns : goal.returns
returns g c =
    puts_line c.args.with_cigar (alignment_lent c.args.sam.now) (record { start = c.args.start; stop = c.args.stop }) _ _ _ c.put_read.result
    c.in_ok-put_place.ensures c.put_read.ensures
