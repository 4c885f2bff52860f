use Rattle.bt_laws.proofs.lemmas.single.Sequences.{first_owners, lacking_names}
use Rattle.bt_laws.proofs.sequences.masks.owners_are_the_first_of_their_name.Goals as goal

pub returns-clause-first : goal.returns-clause-first
returns-clause-first c = first_owners

pub returns-clause-none : goal.returns-clause-none
returns-clause-none c = lacking_names
