use Rattle.bt_lines.proofs.Std.{Ok, Err, Option, filter, flat_map, option_to_list, subst, err_from_is_err_and}
use Rattle.bt_lines.specs.calls.Output.{Adds}
use Rattle.bt_bed.specs.model.Feature.{Feature}
use Rattle.bt_sweep.specs.model.Lines.{hit_line}
use Rattle.bt_sweep.proofs.lemmas.Output.{lines_cut, lines_next}
use Rattle.bt_hits.specs.inside.Meeting.{records_near}
use Rattle.bt_hits.specs.inside.Writing.{is_hit_on}
use Rattle.bt_hits.proofs.writing.put_level.Goals as goal

pub returns-in_err-put_if_on : goal.returns-in_err-put_if_on
returns-in_err-put_if_on g c =
    let p = err_from_is_err_and c.from_residual.result c.from_residual.ensures.1 in
    let f = hit_line c.args.listing.shape c.args.a.now in
    let on = is_hit_on c.args.listing.rule c.args.level c.args.a.now in
    let fault = c.in_err-put_if_on.field-0.0 in
    let adds = subst (λ (o : Option Feature). Adds {A = Unit {0}} c.loop-index.out.output (flat_map f (filter on (option_to_list o))) (Err fault) c.put_if_on.new.out.output) c.nth.ensures c.in_err-put_if_on.ensures in
    rw (p.1, p.2) (lines_cut f on (records_near c.args.near.now) c.loop-index.index (Unit {0}) c.args.out.now.output c.loop-index.out.output c.put_if_on.new.out.output fault c.loop-index.invariant adds)

pub loop-index-preserved : goal.loop-index-preserved
loop-index-preserved g c =
    let f = hit_line c.args.listing.shape c.args.a.now in
    let on = is_hit_on c.args.listing.rule c.args.level c.args.a.now in
    let adds = subst (λ (o : Option Feature). Adds {A = Unit {0}} c.loop-index.out.output (flat_map f (filter on (option_to_list o))) (Ok tt) c.put_if_on.new.out.output) c.nth.ensures c.in_ok-put_if_on.ensures in
    lines_next f on (records_near c.args.near.now) c.loop-index.index _ _ _ c.loop-index.invariant adds
