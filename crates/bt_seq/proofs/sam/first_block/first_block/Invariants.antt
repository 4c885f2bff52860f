use Rattle.bt_lines.proofs.Std.{◌≡◌, ◌≤◌, length}
use Rattle.bt_seq.specs.model.Cigar.{operations_in}
use Rattle.bt_seq.specs.inside.Sam.{FitBehind}
use Rattle.bt_seq.proofs.lemmas.Sam.{open_in}
use Rattle.bt_seq.proofs.sam.first_block.first_block.Given as goal

-- the blocks of the text are those of the block so far and the rest
abbrev pub invariant-loop-operation : goal.invariant-loop-operation
invariant-loop-operation l = record {
  same : open_in l.start l.stop (operations_in l.rest) ≡ open_in l.start l.start (operations_in l.text);
  fit : FitBehind l.stop (operations_in l.rest);
  within : length l.rest ≤ length l.text;
}

abbrev pub decreases-loop-operation : goal.decreases-loop-operation
decreases-loop-operation l = length l.rest
