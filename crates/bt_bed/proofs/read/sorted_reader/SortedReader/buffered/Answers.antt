use Rattle.bt_lines.proofs.Std.{arith, false≢true}
use Rattle.bt_bed.proofs.lemmas.read.batch.SortedReaderLemmas.{name_is_record}
use Rattle.bt_bed.specs.calls.Bed.{run_of}
use Rattle.bt_bed.specs.calls.SortedReader.{buffered_in}
use Rattle.bt_bed.proofs.read.sorted_reader.SortedReader.buffered.Goals as goal

pub returns-then-not-self : goal.returns-then-not-self
unfolding buffered_in run_of
returns-then-not-self g c = grind (arith, false≢true)

pub new-requires-2-clause-name : goal.new-requires-2-clause-name
new-requires-2-clause-name g c = λ some. rw c.name-name.ensures (name_is_record c.args.self.now c.if-not-self.false)
