use Rattle.bt_laws.proofs.lemmas.pipes.PipeLaws.{genomecov_input}
use Rattle.bt_laws.proofs.pipes.genomecov_goes_on.Goals as goal

pub returns : goal.returns
returns c = genomecov_input
