use Rattle.bt_laws.proofs.lemmas.parts.PartOwnGenomes.{intersect_genome_parts}
use Rattle.bt_laws.proofs.lemmas.parts.PartTexts.{intersect_parts}
use Rattle.bt_laws.proofs.parts.two_inputs.parts_of_intersect_add_up.Goals as goal

pub returns-clause-order : goal.returns-clause-order
returns-clause-order c = intersect_parts

pub returns-clause-genome : goal.returns-clause-genome
returns-clause-genome c = intersect_genome_parts
