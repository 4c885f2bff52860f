use Rattle.std.proofs.Common.{rules}
use Rattle.drop_in.specs.calls.Whys.IsWhyOfOrder.{no_memory, none_fits}
use Rattle.drop_in.proofs.answering.found_order.Goals as goal

pub returns-in-Ok-None-clause-why : goal.returns-in-Ok-None-clause-why
returns-in-Ok-None-clause-why c = none_fits (search rules)

pub returns-in-Err-clause-why : goal.returns-in-Err-clause-why
returns-in-Err-clause-why c = no_memory
