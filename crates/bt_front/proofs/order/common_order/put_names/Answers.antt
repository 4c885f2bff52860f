use Rattle.bt_lines.proofs.Std.{◌∙◌, ◌++◌, ◌-◌, ap, append_assoc, drop, sym, take}
use Rattle.bt_front.specs.model.Extents.{names_in}
use Rattle.bt_front.specs.model.Fitting.{entry_text, order_text}
use Rattle.bt_front.proofs.lemmas.order.CommonLemmas.{one_more}
use Rattle.bt_front.proofs.order.common_order.put_names.Goals as goal

pub loop-at-preserved : goal.loop-at-preserved
loop-at-preserved c =
    let names = names_in c.in-Some.chromosomes.now in
    let before = order_text (take (c.loop-at.at - c.args.from) (drop c.args.from names)) in
    c.in_ok-put_entry.ensures ∙ ap (λ text. text ++ entry_text c.name.result.now) c.loop-at.invariant
    ∙ append_assoc c.args.text.now.items before (entry_text c.name.result.now)
    ∙ ap (λ more. c.args.text.now.items ++ more)
    (sym (one_more names c.args.from c.loop-at.at c.name.result.now c.name.ensures c.loop-at.auto.at))
