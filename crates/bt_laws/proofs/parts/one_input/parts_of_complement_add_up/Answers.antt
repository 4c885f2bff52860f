use Rattle.bt_laws.proofs.lemmas.parts.PartOwnGenomes.{complement_parts}
use Rattle.bt_laws.proofs.parts.one_input.parts_of_complement_add_up.Goals as goal

pub returns : goal.returns
returns c = complement_parts
