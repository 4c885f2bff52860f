use Rattle.std.proofs.Common.{rules}
use Rattle.drop_in.specs.calls.Answer.LeavesStreams.{of_second}
use Rattle.drop_in.proofs.answering.look_at_stream_of.Goals as goal

pub returns-in-Err-look_at_last-clause-leaves : goal.returns-in-Err-look_at_last-clause-leaves
returns-in-Err-look_at_last-clause-leaves g c =
    of_second c.in-Ok.first c.look_if_stream.new.files (search rules) c.in-Err-look_at_last.ensures.leaves
