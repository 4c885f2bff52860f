use Rattle.bt_lines.proofs.Std.{List, Ok, Err, Option, arith, subst, flat_map, option_to_list, sym, take, ◌∙◌, err_from_is_err_and}
use Rattle.bt_lines.specs.calls.Output.{Adds}
use Rattle.bt_bed.specs.calls.Bed.{feature_lent}
use Rattle.bt_bed.specs.model.Feature.{Feature}
use Rattle.bt_sweep.specs.model.Hits.{is_hit, hits_among}
use Rattle.bt_sweep.specs.inside.Shapes.{shape_with}
use Rattle.bt_sweep.specs.model.Lines.{hit_line}
use Rattle.bt_sweep.proofs.lemmas.definitions.HitLemmas.{took_hits}
use Rattle.bt_sweep.proofs.lemmas.Output.{get_took, lines_cut, lines_next, take_whole, took_few}
use Rattle.bt_sweep.proofs.output.writing.put_hits.Goals as goal

pub returns-in_err-put_if_hit : goal.returns-in_err-put_if_hit
returns-in_err-put_if_hit g c = λ rises.
    let p = err_from_is_err_and c.from_residual.result c.from_residual.ensures.1 in
    let a = feature_lent c.args.a.now.bed in
    let held = g.H.Held.records c.args.held.now in
    let n = c.count_started-count.result in
    let at = c.nth.ensures ∙ sym (get_took held n c.loop-index.index c.loop-index-test.true) in
    let adds = subst (λ (o : Option Feature). Adds {A = Unit {0}} c.loop-index.out.output (flat_map (hit_line (shape_with c.args.shape) a) (hits_among c.args.rule a (option_to_list o))) (Err c.in_err-put_if_hit.field-0.0) c.put_if_hit.new.out.output) at c.in_err-put_if_hit.ensures in
    rw (p.1, p.2) (subst (λ (bs : List Feature). Adds {A = Unit {0}} c.args.out.now.output (flat_map (hit_line (shape_with c.args.shape) a) bs) (Err c.in_err-put_if_hit.field-0.0) c.put_if_hit.new.out.output) (took_hits c.args.rule a held n (c.count_started-count.ensures.rest rises))
    (lines_cut (hit_line (shape_with c.args.shape) a) (is_hit c.args.rule a) (take n held) c.loop-index.index (Unit {0}) c.args.out.now.output c.loop-index.out.output c.put_if_hit.new.out.output c.in_err-put_if_hit.field-0.0 c.loop-index.invariant adds))

pub loop-index-preserved : goal.loop-index-preserved
loop-index-preserved g c =
    let a = feature_lent c.args.a.now.bed in
    let held = g.H.Held.records c.args.held.now in
    let n = c.count_started-count.result in
    let at = c.nth.ensures ∙ sym (get_took held n c.loop-index.index c.loop-index-test.true) in
    let adds = subst (λ (o : Option Feature). Adds {A = Unit {0}} c.loop-index.out.output (flat_map (hit_line (shape_with c.args.shape) a) (hits_among c.args.rule a (option_to_list o))) (Ok tt) c.put_if_hit.new.out.output) at c.in_ok-put_if_hit.ensures in
    lines_next (hit_line (shape_with c.args.shape) a) (is_hit c.args.rule a) (take n held) c.loop-index.index _ _ _ c.loop-index.invariant adds

pub returns : goal.returns
returns g c = grind (arith, take_whole, took_few, took_hits)
