use Rattle.std.proofs.Common.{rules}
use Rattle.bt_lines.proofs.Std.{refl}
use Rattle.drop_in.specs.calls.Answer.LeavesCall.{once_opened, by_ways, unopened}
use Rattle.drop_in.proofs.answering.look.Goals as goal

pub returns-in-Some-clause-leaves : goal.returns-in-Some-clause-leaves
returns-in-Some-clause-leaves g c = by_ways refl refl (search rules)

pub returns-in-Err-clause-leaves : goal.returns-in-Err-clause-leaves
returns-in-Err-clause-leaves g c = unopened refl c.in-Err.ensures.cannot

pub returns-in-Err-look_at_opened-clause-leaves : goal.returns-in-Err-look_at_opened-clause-leaves
returns-in-Err-look_at_opened-clause-leaves g c =
    once_opened c.in-Ok.opened c.open_all.new.files (search rules) c.in-Ok.ensures.opens c.in-Err-look_at_opened.ensures.leaves
