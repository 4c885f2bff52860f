use Rattle.bt_runs.specs.model.Depth.{DepthInterval}
use Rattle.bt_runs.proofs.lemmas.coverage.DepthSteps.{adds_line}
use Rattle.bt_runs.proofs.coverage.depths.put_ended.Goals as goal

pub returns-in-Some : goal.returns-in-Some
returns-in-Some g c =
    let r : DepthInterval = record { chrom = c.args.chrom.now; start = c.in-Some.interval.start; stop = c.args.stop; depth = c.in-Some.interval.depth } in
    rw (c.in-Some.is) (adds_line r c.args.out.now.output c.put_depth.new.out.output c.put_depth.result c.put_depth.ensures)
