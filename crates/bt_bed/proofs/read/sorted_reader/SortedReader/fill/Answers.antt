use Rattle.bt_bed.proofs.lemmas.read.batch.SortedReaderLemmas.{sorted_again}
use Rattle.bt_bed.proofs.read.sorted_reader.SortedReader.fill.Goals as goal

pub returns-then-self-clause-fills : goal.returns-then-self-clause-fills
returns-then-self-clause-fills g c = sorted_again c.args.self.now c.if-self.true g.S.Source _ c.requires
