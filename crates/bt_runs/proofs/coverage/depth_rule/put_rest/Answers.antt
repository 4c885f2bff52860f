use Rattle.bt_lines.proofs.Std.{err_from_is_err_and}
use Rattle.bt_runs.specs.inside.Coverage.{known_seen, begun_to, ended_to}
use Rattle.bt_bed.specs.calls.LevelScan.{level_ended_at}
use Rattle.bt_runs.proofs.lemmas.coverage.DepthSteps.{left_cut}
use Rattle.bt_runs.proofs.coverage.depth_rule.put_rest.Goals as goal

pub returns-in_err-begun-clause-adds : goal.returns-in_err-begun-clause-adds
returns-in_err-begun-clause-adds g c =
    let p = err_from_is_err_and c.from_residual.result c.from_residual.ensures.1 in
    let known = known_seen c.args.begun c.args.held.now in
    rw (p.1, p.2) (left_cut c.args.chrom.now.name.now c.args.out.now.output c.go_on.new.out.output (ended_to c.args.chrom.now.zeros known c.args.chrom.now.length) (level_ended_at (begun_to c.args.chrom.now.zeros known c.args.chrom.now.length) c.args.chrom.now.length) c.in_err-begun.field-0.0 c.in_err-begun.ensures.adds)
