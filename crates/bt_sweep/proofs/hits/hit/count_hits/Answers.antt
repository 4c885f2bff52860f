use Rattle.bt_lines.proofs.Std.{◌∙◌, true, false, arith, ap, sym, option_to_list, take, list_any}
use Rattle.bt_bed.specs.calls.Bed.{feature_lent}
use Rattle.bt_sweep.specs.model.Hits.{is_hit}
use Rattle.bt_sweep.proofs.lemmas.Output.{count_next, get_took}
use Rattle.bt_sweep.proofs.hits.hit.count_hits.Goals as goal
use Rattle.bt_sweep.proofs.hits.hit.count_hits.Goals.{then-is_hit_by, else-is_hit_by}

pub loop-index-preserved : goal.loop-index-preserved
loop-index-preserved g c =
    let p = is_hit c.args.rule (feature_lent c.args.a.now) in
    let held = g.H.Held.records c.args.held.now in
    let i = c.loop-index.index in
    let n = c.loop-index.hits in
    let at = ap (λ o. list_any p (option_to_list o)) (c.nth.ensures ∙ sym (get_took held c.args.count i c.loop-index-test.true)) in
    elim c.if-is_hit_by.branch [
      | then-is_hit_by w ↦ grind (arith, (count_next p (take c.args.count held) i n true c.loop-index.invariant.counted (sym (w.if-is_hit_by.ensures ∙ at))))
      | else-is_hit_by w ↦ grind (arith, (count_next p (take c.args.count held) i n false c.loop-index.invariant.counted (sym (w.if-is_hit_by.ensures ∙ at))))
    ]
