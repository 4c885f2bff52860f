use Rattle.drop_in.specs.calls.Answer.LeavesFiles.{of_second}
use Rattle.drop_in.proofs.answering.look_at_files.Goals as goal

pub returns-in-Err-look_at_other-clause-leaves : goal.returns-in-Err-look_at_other-clause-leaves
returns-in-Err-look_at_other-clause-leaves g c =
    of_second c.in-Ok.first c.in-Ok.ensures.sees c.in-Err-look_at_other.ensures.leaves
