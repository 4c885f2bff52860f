use Rattle.bt_lines.proofs.Std.{◌≡◌, ◌∷◌, ◌++◌, append_assoc, arith, err_from_is_err_and, map, map-append, true}
use Rattle.bt_seq.specs.model.BedLines.{alignment_blocks}
use Rattle.bt_seq.specs.calls.Sam.{alignment_lent, blocks_left, span_given}
use Rattle.bt_seq.proofs.lemmas.BamToBed.{cut_line, grown_block}
use Rattle.bt_seq.proofs.bamtobed.bam_to_bed.put_blocks.Goals as goal

pub loop-start-preserved : goal.loop-start-preserved
loop-start-preserved g c =
    let a = alignment_lent c.args.sam.now in
    record {
      grown = grown_block c.args.with_cigar a c.loop-start.yielded (c.in-Some.start, c.in-Some.stop) _ _ _ c.loop-start.invariant.grown c.in_ok-put_line.ensures;
      left = grind (arith, map-append, append_assoc);
    }

pub returns-in_err-put_line : goal.returns-in_err-put_line
returns-in_err-put_line g c =
    let p = err_from_is_err_and c.from_residual.result c.from_residual.ensures.1 in
    let a = alignment_lent c.args.sam.now in
    let s = span_given (c.in-Some.start, c.in-Some.stop) in
    let left : map span_given c.loop-start.yielded ++ s ∷ blocks_left c.next.new.self ≡ alignment_blocks true a = grind arith in
    rw (p.1, p.2) (cut_line c.args.with_cigar a _ s _ _ _ _ _ _ left c.loop-start.invariant.grown c.in_err-put_line.ensures)
