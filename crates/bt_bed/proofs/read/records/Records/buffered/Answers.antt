use Rattle.bt_bed.proofs.lemmas.read.batch.SortedReaderLemmas.{sorted_comes}
use Rattle.bt_bed.specs.calls.Records.{view_of}
use Rattle.bt_bed.specs.model.Sorted.{sorting_of}
use Rattle.bt_bed.proofs.read.records.Records.buffered.Goals as goal

pub returns-clause-comes : goal.returns-clause-comes
unfolding view_of
returns-clause-comes g c = sorted_comes (sorting_of (g.O.ChromOrder.order c.args.self.now.sorted.lookahead.rule.order.now)) c.args.self.now.sorted c.args.self.now.placed
