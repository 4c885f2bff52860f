use Rattle.std.proofs.Common.{rules}
use Rattle.drop_in.specs.calls.Whys.IsWhyOfWays.{of_genome, of_two}
use Rattle.drop_in.proofs.answering.ways_why.Goals as goal

pub returns-then-ways-clause-why : goal.returns-then-ways-clause-why
returns-then-ways-clause-why c = of_genome (search rules)

pub returns-then-is_stream-2-clause-why : goal.returns-then-is_stream-2-clause-why
returns-then-is_stream-2-clause-why c = of_two (search rules)
