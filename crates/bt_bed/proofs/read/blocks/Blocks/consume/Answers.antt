use Rattle.bt_bed.proofs.lemmas.read.batch.BlocksLemmas.{takes_blocks}
use Rattle.bt_bed.proofs.read.blocks.Blocks.consume.Goals as goal

pub returns : goal.returns
returns g c = takes_blocks g.S.Source c.args.self.now _ _ c.consume.ensures.takes
