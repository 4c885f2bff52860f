use Rattle.bt_lines.proofs.Std.{recursion_from_All}
use Rattle.bt_laws.specs.Records.{StaysDecided}
use Rattle.bt_laws.proofs.lemmas.single.Records.{written_begins}
use Rattle.bt_laws.proofs.records.features.early_lines_begin_the_whole.Goals as goal

pub returns : goal.returns
returns g c = λ early late members more fault stays. written_begins early late members more fault (recursion_from_All (StaysDecided early late) members stays)
