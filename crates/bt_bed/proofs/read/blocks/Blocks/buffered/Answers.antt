use Rattle.bt_bed.proofs.lemmas.read.batch.SortedReaderLemmas.{sorted_comes}
use Rattle.bt_bed.specs.calls.Blocks.{view_of}
use Rattle.bt_bed.specs.model.Sorted.{block_sorting}
use Rattle.bt_bed.proofs.read.blocks.Blocks.buffered.Goals as goal

pub returns-clause-comes : goal.returns-clause-comes
unfolding view_of
returns-clause-comes g c = sorted_comes block_sorting c.args.self.now.sorted c.args.self.now.placed
