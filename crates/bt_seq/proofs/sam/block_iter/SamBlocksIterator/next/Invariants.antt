use Rattle.bt_lines.proofs.Std.{◌≡◌, None, length}
use Rattle.bt_seq.specs.model.BedLines.{blocks_in}
use Rattle.bt_seq.specs.model.Cigar.{operations_in}
use Rattle.bt_seq.proofs.sam.block_iter.SamBlocksIterator.next.Given as goal

-- what is left are the blocks of the rest
abbrev pub invariant-loop-start : goal.invariant-loop-start
invariant-loop-start l = record {
  cut : l.self.whole ≡ None;
  same : blocks_in l.self.at (operations_in l.self.rest.now) ≡ blocks_in l.fn.self.at (operations_in l.fn.self.rest.now);
}

abbrev pub decreases-loop-start : goal.decreases-loop-start
decreases-loop-start l = length l.self.rest.now
