use Rattle.bt_laws.proofs.lemmas.parts.PartOwnGenomes.{subtract_genome_parts}
use Rattle.bt_laws.proofs.lemmas.parts.PartTexts.{subtract_parts}
use Rattle.bt_laws.proofs.parts.two_inputs.parts_of_subtract_add_up.Goals as goal

pub returns-clause-order : goal.returns-clause-order
returns-clause-order c = subtract_parts

pub returns-clause-genome : goal.returns-clause-genome
returns-clause-genome c = subtract_genome_parts
