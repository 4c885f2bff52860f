use Rattle.bt_laws.proofs.lemmas.parts.PartOwnGenomes.{genomecov_parts}
use Rattle.bt_laws.proofs.parts.one_input.parts_of_genomecov_add_up.Goals as goal

pub returns : goal.returns
returns c = genomecov_parts
