use Rattle.bt_lines.proofs.Std.{◌≡◌, ◌++◌, map, true}
use Rattle.bt_lines.specs.calls.Output.{Grown}
use Rattle.bt_seq.specs.model.BedLines.{alignment_blocks}
use Rattle.bt_seq.specs.calls.Sam.{alignment_lent, blocks_left, span_given}
use Rattle.bt_seq.proofs.lemmas.BamToBed.{lines_of}
use Rattle.bt_seq.proofs.bamtobed.bam_to_bed.put_blocks.Given as goal

-- the lines of the blocks so far were put
abbrev pub invariant-loop-start : goal.invariant-loop-start
invariant-loop-start g l = record {
  grown : Grown l.fn.out.output (lines_of l.with_cigar (alignment_lent l.sam) (map span_given l.yielded)) l.out.output;
  left : map span_given l.yielded ++ blocks_left l.start-iterator ≡ alignment_blocks true (alignment_lent l.sam);
}
