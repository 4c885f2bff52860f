use Rattle.bt_laws.proofs.lemmas.parts.PartTexts.{sam_divides}
use Rattle.bt_laws.proofs.parts.one_input.parts_of_bamtobed_add_up.Goals as goal

pub returns : goal.returns
returns c = sam_divides
