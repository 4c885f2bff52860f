use Rattle.bt_tool.proofs.lemmas.running.mask.MaskRounds.{finished}
use Rattle.bt_tool.proofs.loops.masking.MaskRunTwoInputEngine.finish.Goals as goal

pub returns : goal.returns
returns g c = λ grown start out s. finished s c.requires
