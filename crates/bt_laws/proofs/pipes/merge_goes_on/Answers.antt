use Rattle.bt_laws.proofs.lemmas.pipes.PipeLaws.{merge_input}
use Rattle.bt_laws.proofs.pipes.merge_goes_on.Goals as goal

pub returns : goal.returns
returns c = merge_input
