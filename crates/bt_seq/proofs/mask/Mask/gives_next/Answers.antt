use Rattle.bt_lines.proofs.Std.{arith}
use Rattle.bt_seq.proofs.lemmas.mask.steps.AdvanceLemmas.{gave_none}
use Rattle.bt_seq.proofs.mask.Mask.gives_next.Goals as goal

pub returns-in-Nothing-clause-gives : goal.returns-in-Nothing-clause-gives
returns-in-Nothing-clause-gives g c = grind (arith, gave_none)
