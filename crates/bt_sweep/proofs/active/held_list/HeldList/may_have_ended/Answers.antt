use Rattle.bt_lines.proofs.Std.{sym, ◌∙◌}
use Rattle.bt_sweep.proofs.lemmas.Active.{none_dropped}
use Rattle.bt_sweep.proofs.active.held_list.HeldList.may_have_ended.Goals as goal

pub returns-else-not-self : goal.returns-else-not-self
returns-else-not-self c = λ none.
    let held = c.args.self.now in
    let count = c.started_in in
    none_dropped c.args.place held.records.items count.result count.ensures.within held.bases (count.ensures.point (held.rises c.if-not-self.false))
    (sym c.has_ended.ensures ∙ none)
