use Rattle.bt_lines.proofs.Std.{◌≡◌, length, ◌≤◌}
use Rattle.bt_seq.specs.model.Cigar.{operations_in}
use Rattle.bt_seq.specs.calls.Alignments.{span_with}
use Rattle.bt_seq.proofs.sam.cigar.operations_span.Given as goal

-- the total and the span of the rest are that of the whole
abbrev pub invariant-loop-rest : goal.invariant-loop-rest
invariant-loop-rest l = record {
  same : span_with l.total (operations_in l.rest) ≡ span_with 0 (operations_in l.text);
  small : l.total ≤ 1000000000000;
}

abbrev pub decreases-loop-rest : goal.decreases-loop-rest
decreases-loop-rest l = length l.rest
