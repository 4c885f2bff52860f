use Rattle.bt_laws.proofs.lemmas.pipes.PipeLaws.{complement_input}
use Rattle.bt_laws.proofs.pipes.complement_goes_on.Goals as goal

pub returns : goal.returns
returns c = complement_input
