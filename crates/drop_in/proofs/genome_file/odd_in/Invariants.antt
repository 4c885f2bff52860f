use Rattle.bt_lines.proofs.Std.{◌≡◌, length}
use Rattle.drop_in.specs.calls.GenomeFiles.{odd_in}
use Rattle.drop_in.proofs.genome_file.odd_in.Given as goal

-- no line before the rest is odd
abbrev pub invariant-loop-why : goal.invariant-loop-why
invariant-loop-why l = odd_in l.text ≡ odd_in l.rest

abbrev pub decreases-loop-why : goal.decreases-loop-why
decreases-loop-why l = length l.rest
