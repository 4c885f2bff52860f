use Rattle.bt_lines.proofs.Std.{◌≡◌, ◌+◌, Some, arith, min, err_from_is_err_and}
use Rattle.bt_lines.proofs.lemmas.Writer.{adds_lines, cut_lines}
use Rattle.bt_bed.specs.calls.GenomeTable.{entries}
use Rattle.bt_runs.specs.inside.Coverage.{place_seen, bare_of, depths_left}
use Rattle.bt_runs.specs.inside.Walk.{entry_at}
use Rattle.bt_runs.specs.model.Depth.{depth_line}
use Rattle.bt_runs.proofs.lemmas.order.ByChromosome.{before_from, length_read, name_read}
use Rattle.bt_runs.proofs.coverage.depth_rule.put_before.Goals as goal

pub returns-in_err-put_rest : goal.returns-in_err-put_rest
returns-in_err-put_rest g c =
    let p = err_from_is_err_and c.from_residual.result c.from_residual.ensures.1 in
    let table = entries c.args.chroms.now.genome.now in
    let place = place_seen c.in-Some.reached c.args.held.now in
    let named = name_read table place.rank c.name.result.now c.name.ensures in
    let size = length_read table place.rank c.length.result c.length.ensures.is in
    rw (p.1, p.2, c.in-Some.is) (cut_lines depth_line _ _ (depths_left c.args.chroms.now.zeros (entry_at table place.rank) place.known) _ _ (rw (named, size) c.in_err-put_rest.ensures.adds))

pub returns : goal.returns
returns g c =
    let table = entries c.args.chroms.now.genome.now in
    let zeros = c.args.chroms.now.zeros in
    let place = place_seen c.in-Some.reached c.args.held.now in
    let named = name_read table place.rank c.name.result.now c.name.ensures in
    let size = length_read table place.rank c.length.result c.length.ensures.is in
    let first : c.min.result ≡ min (place.rank + 1) c.args.stop = let is = c.min.ensures in let next = c.saturating_add.ensures in let fits = c.ranges.stop.fits in omega arith in
    grind (arith, (before_from (bare_of zeros) table (depths_left zeros) (Some place) c.min.result c.args.stop first), adds_lines)
