use Rattle.bt_lines.proofs.Std.{◌≡◌, ◌+◌, ℕ, Some, arith, min, err_from_is_err_and}
use Rattle.bt_lines.proofs.lemmas.Writer.{adds_lines, cut_lines}
use Rattle.bt_bed.specs.calls.GenomeTable.{entries}
use Rattle.bt_bed.specs.model.BedLine.{interval_line}
use Rattle.bt_runs.specs.inside.Walk.{Place, entry_at}
use Rattle.bt_runs.specs.inside.GapStep.{bare_gap, last_gap}
use Rattle.bt_runs.proofs.lemmas.order.ByChromosome.{before_from, length_read}
use Rattle.bt_runs.proofs.complement.gap_rule.put_before.Goals as goal

pub length-requires : goal.length-requires
length-requires g c = (c.args.cursor.now.named c.in-Some.rank c.in-Some.is).placed.within

pub returns-in_err-put_gap : goal.returns-in_err-put_gap
returns-in_err-put_gap g c =
    let p = err_from_is_err_and c.from_residual.result c.from_residual.ensures.1 in
    let table = entries c.args.cursor.now.genome.now in
    let rank = c.in-Some.rank in
    let named = c.args.cursor.now.named rank c.in-Some.is in
    let size = length_read table rank c.length.result c.length.ensures.is in
    rw (p.1, p.2, c.in-Some.is) (cut_lines interval_line _ _ (last_gap (entry_at table rank) c.args.cursor.now.end) _ _ (rw (named.is, size) c.in_err-put_gap.ensures))

pub returns : goal.returns
returns g c =
    let table = entries c.args.cursor.now.genome.now in
    let rank = c.in-Some.rank in
    let place : Place ℕ = record { rank = rank; known = c.args.cursor.now.end } in
    let size = length_read table rank c.length.result c.length.ensures.is in
    let first : c.min.result ≡ min (rank + 1) c.args.stop = let is = c.min.ensures in let next = c.saturating_add.ensures in let fits = c.ranges.stop.fits in omega arith in
    grind (arith, (before_from (bare_gap c.args.limit) table last_gap (Some place) c.min.result c.args.stop first), adds_lines)
