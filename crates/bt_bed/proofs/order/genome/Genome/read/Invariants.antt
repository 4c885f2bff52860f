use Rattle.bt_lines.proofs.Std.{◌≡◌}
use Rattle.bt_lines.specs.calls.Reader.{input_of, room}
use Rattle.bt_bed.proofs.lemmas.order.TableLemmas.{Going}
use Rattle.bt_bed.proofs.order.genome.Genome.read.Given as goal

-- the table has the entries of the lines given
abbrev pub invariant-loop-genome : goal.invariant-loop-genome
invariant-loop-genome g l =
    Going g.S.Source l.initial.reader l.reader l.genome
    × (l.input ≡ input_of l.initial.reader)

abbrev pub decreases-loop-genome : goal.decreases-loop-genome
decreases-loop-genome g l = room l.reader
