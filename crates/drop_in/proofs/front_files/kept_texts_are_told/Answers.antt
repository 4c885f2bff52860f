use Rattle.drop_in.proofs.lemmas.KeptLemmas.{kept_told}
use Rattle.drop_in.proofs.front_files.kept_texts_are_told.Goals as goal

pub returns : goal.returns
returns g c = kept_told g.I.Source
