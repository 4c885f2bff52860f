use Rattle.bt_laws.proofs.lemmas.parts.PartOwnGenomes.{merge_genome_parts}
use Rattle.bt_laws.proofs.lemmas.parts.PartTexts.{merge_parts}
use Rattle.bt_laws.proofs.parts.one_input.parts_of_merge_add_up.Goals as goal

pub returns-clause-order : goal.returns-clause-order
returns-clause-order c = merge_parts

pub returns-clause-genome : goal.returns-clause-genome
returns-clause-genome c = merge_genome_parts
