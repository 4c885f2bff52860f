use Rattle.bt_bed.proofs.lemmas.read.batch.BlocksLemmas.{fills_blocks}
use Rattle.bt_bed.proofs.read.blocks.Blocks.fill.Goals as goal

pub returns : goal.returns
returns g c = fills_blocks g.S.Source c.args.self.now _ _ c.fill.ensures.fills
