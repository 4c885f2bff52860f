use Rattle.bt_lines.proofs.Std.{sym, ap, ◌∙◌, ◌≤◌, subst, unwrap_or}
use Rattle.bt_tool.specs.model.Fraction.{one_in_billionths}
use Rattle.bt_tool.proofs.lemmas.Fraction.{fraction-limit-or}
use Rattle.bt_tool.proofs.planning.billionths_of.Goals as goal

pub returns-in-Some-clause-limit : goal.returns-in-Some-clause-limit
returns-in-Some-clause-limit c =
    subst (λ n. n ≤ one_in_billionths) (sym (c.unwrap_or.ensures ∙ ap (λ o. unwrap_or o 0) c.fraction.ensures)) (fraction-limit-or c.in-Some.value.now)
