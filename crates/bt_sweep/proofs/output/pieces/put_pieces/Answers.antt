use Rattle.bt_lines.proofs.Std.{ℕ, Err, Ok, Option, arith, ap, subst, ◌∙◌, option_to_list, sym, take, err_from_is_err_and}
use Rattle.bt_lines.specs.calls.Output.{Adds}
use Rattle.bt_bed.specs.calls.Bed.{feature_lent}
use Rattle.bt_bed.specs.model.Feature.{Feature}
use Rattle.bt_sweep.specs.model.Hits.{hits_among}
use Rattle.bt_sweep.specs.inside.Pieces.{free_after, lines_before}
use Rattle.bt_sweep.proofs.lemmas.Output.{get_took, took_few, rising_took, free_next, pieces_cut, pieces_end, pieces_next}
use Rattle.bt_sweep.proofs.output.pieces.put_pieces.Goals as goal

pub returns-in_err-free : goal.returns-in_err-free
returns-in_err-free g c = λ rises.
    let p = err_from_is_err_and c.from_residual.result c.from_residual.ensures.1 in
    let a = feature_lent c.args.a.now in
    let held = g.H.Held.records c.args.held.now in
    let took = take c.args.count held in
    let at = c.nth.ensures ∙ sym (get_took held c.args.count c.loop-index.index c.loop-index-test.true) in
    let so_far = c.loop-index.invariant in
    let adds = subst (λ (o : Option Feature). Adds {A = ℕ} c.loop-index.out.output (lines_before a c.loop-index.free (hits_among c.args.rule a (option_to_list o))) (Err c.in_err-free.field-0.0) c.put_before.new.out.output) at c.in_err-free.ensures.adds in
    rw (p.1, p.2) (pieces_cut c.args.rule a took c.loop-index.index so_far.reached ℕ c.in_err-free.field-0.0 (rising_took held c.args.count rises) so_far.put adds)

pub loop-index-preserved : goal.loop-index-preserved
loop-index-preserved g c =
    let a = feature_lent c.args.a.now in
    let held = g.H.Held.records c.args.held.now in
    let took = take c.args.count held in
    let at = c.nth.ensures ∙ sym (get_took held c.args.count c.loop-index.index c.loop-index-test.true) in
    let so_far = c.loop-index.invariant in
    let adds = subst (λ (o : Option Feature). Adds {A = ℕ} c.loop-index.out.output (lines_before a c.loop-index.free (hits_among c.args.rule a (option_to_list o))) (Ok c.in_ok-free.free) c.put_before.new.out.output) at c.in_ok-free.ensures.adds in
    let next = c.in_ok-free.ensures.next ∙ ap (λ (o : Option Feature). free_after c.loop-index.free (hits_among c.args.rule a (option_to_list o))) at in
    record {
      reached = free_next c.args.rule a took c.loop-index.index so_far.reached c.in_ok-free.free next;
      put = pieces_next c.args.rule a took c.loop-index.index so_far.reached c.args.out.now.output c.loop-index.out.output c.put_before.new.out.output so_far.put adds;
    }

pub returns : goal.returns
returns g c = λ rises.
    let held = g.H.Held.records c.args.held.now in
    pieces_end c.args.rule (feature_lent c.args.a.now) (take c.args.count held) c.put_gap.result c.put_gap.new.out.output
    (omega (arith, took_few held c.args.count, c.loop-index-test.false)) c.loop-index.invariant.reached (rising_took held c.args.count rises) c.loop-index.invariant.put c.put_gap.ensures
