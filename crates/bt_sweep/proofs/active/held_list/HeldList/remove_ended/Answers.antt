use Rattle.bt_lines.proofs.Std.{arith, nat_lt, rules, ◌∙◌, filter_same}
use Rattle.bt_bed.specs.model.Feature.{Feature}
use Rattle.bt_sweep.proofs.lemmas.Active.{bases_on, dropped, rises_on}
use Rattle.bt_sweep.proofs.active.held_list.HeldList.remove_ended.Goals as goal

pub returns-then-not-self : goal.returns-then-not-self
returns-then-not-self c = grind (arith, (filter_same _ (λ (r : Feature). nat_lt c.args.place r.stop) _ (λ x b f' k. search rules) _ _ c.retain.ensures.filtered))

pub invariant_of-self-2 : goal.invariant_of-self-2
invariant_of-self-2 c =
    let stays = λ (r : Feature). nat_lt c.args.place r.stop in
    let held = c.args.self.now in
    let count = c.started_in-count in
    let point = count.ensures.point (held.rises c.if-not-self.false) in
    let is = c.drop_ended_of.ensures ∙ dropped c.args.place held.records.items count.result count.ensures.within held.bases point in
    record {
      rises = λ e. rises_on stays held.records.items c.drop_ended_of.new.records.items is (held.rises e);
      bases = bases_on stays held.records.items c.drop_ended_of.new.records.items is held.bases;
    }

pub returns : goal.returns
returns c =
    let held = c.args.self.now in
    let count = c.started_in-count in
    grind (arith, (dropped c.args.place held.records.items count.result count.ensures.within held.bases (count.ensures.point (held.rises c.if-not-self.false))))
