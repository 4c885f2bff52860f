use Rattle.bt_lines.proofs.Std.{ℕ, List, ◌++◌, ap, sym, ◌∙◌, append-nil}
use Rattle.bt_sweep.proofs.lemmas.Plain.{missing_some, once_none}
use Rattle.bt_sweep.proofs.plain.write_lines.Goals as goal

pub returns-in-Once : goal.returns-in-Once
returns-in-Once c = sym (append-nil c.args.text.now.items) ∙ ap (λ (l : List ℕ). c.args.text.now.items ++ l) (sym (once_none c.args.a.now c.args.second.now c.args.shape c.args.rule c.count_hits-count.result c.count_hits-count.ensures c.in-Once.is c.if-count-eq0.true))

pub returns-in-Missing-2 : goal.returns-in-Missing-2
returns-in-Missing-2 c = sym (append-nil c.args.text.now.items) ∙ ap (λ (l : List ℕ). c.args.text.now.items ++ l) (sym (missing_some c.args.a.now c.args.second.now c.args.shape c.args.rule c.count_hits-count.result c.count_hits-count.ensures c.in-Missing.is c.if-count-eq0-2.false))
