use Rattle.bt_laws.proofs.lemmas.same.SameSweeps.{counts_all}
use Rattle.bt_laws.proofs.same.same_lines.numbers_of_hits_say_all.Goals as goal

pub returns : goal.returns
returns c = counts_all
