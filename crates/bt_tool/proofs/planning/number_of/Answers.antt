use Rattle.bt_lines.proofs.Std.{sym, ap, ◌∙◌, ◌≤◌, subst, unwrap_or}
use Rattle.bt_lines.specs.model.Lines.{max_number}
use Rattle.bt_tool.proofs.lemmas.Options.{number-limit-or}
use Rattle.bt_tool.proofs.planning.number_of.Goals as goal

pub returns-in-Some-clause-limit : goal.returns-in-Some-clause-limit
returns-in-Some-clause-limit c =
    subst (λ n. n ≤ max_number) (sym (c.unwrap_or.ensures ∙ ap (λ o. unwrap_or o 0) c.number.ensures)) (number-limit-or c.as_bytes.result.now)
