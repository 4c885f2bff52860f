use Rattle.bt_lines.proofs.Std.{arith}
use Rattle.bt_bed.specs.calls.Blocks.{view_of}
use Rattle.bt_bed.specs.calls.SortedReader.{view_with}
use Rattle.bt_bed.proofs.lemmas.read.batch.BlocksLemmas.{takes_blocks}
use Rattle.bt_bed.proofs.lemmas.read.batch.RecordsLemmas.{passed_last, some_first}
use Rattle.bt_bed.proofs.read.blocks.Blocks.advance.Goals as goal

pub advance-requires-clause-some : goal.advance-requires-clause-some
unfolding view_of view_with
advance-requires-clause-some g c = some_first _ _ c.requires

pub returns-clause-takes : goal.returns-clause-takes
returns-clause-takes g c = takes_blocks g.S.Source c.args.self.now _ 1 c.advance.ensures.takes

pub returns-clause-last : goal.returns-clause-last
unfolding view_of view_with
returns-clause-last g c = grind (arith, some_first, passed_last)
