use Rattle.bt_lines.proofs.Std.{sym, subst, IsTrue}
use Rattle.bt_tool.specs.calls.Limits.{is_limit}
use Rattle.bt_tool.proofs.lemmas.Options.{number-is_limit}
use Rattle.bt_tool.proofs.planning.limit_of.Goals as goal

pub returns-in-Some-clause-limit : goal.returns-in-Some-clause-limit
returns-in-Some-clause-limit c = subst (λ o. IsTrue (is_limit o)) (sym c.number.ensures) (number-is_limit c.as_bytes.result.now)
