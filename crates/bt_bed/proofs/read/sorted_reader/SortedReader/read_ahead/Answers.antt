use Rattle.bt_bed.proofs.lemmas.read.batch.SortedReaderLemmas.{sorted_fails}
use Rattle.bt_bed.proofs.read.sorted_reader.SortedReader.read_ahead.Goals as goal

pub returns-in-Some-clause-fills : goal.returns-in-Some-clause-fills
returns-in-Some-clause-fills g c = sorted_fails g.S.Source (g.Q.Sorted.sorting c.args.self.now.lookahead.rule) c.args.self.now c.in-Some.fault c.requires.none c.in-Some.is
