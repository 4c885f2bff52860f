use Rattle.std.proofs.Common.{rules}
use Rattle.bt_lines.proofs.Std.{refl}
use Rattle.drop_in.specs.calls.Whys.IsWhyOfVerdict.{by_reason}
use Rattle.drop_in.proofs.answering.order_text.Goals as goal

pub returns-in-Err-clause-leaves : goal.returns-in-Err-clause-leaves
returns-in-Err-clause-leaves g c = by_reason c.in-Err.reason (search rules) refl
