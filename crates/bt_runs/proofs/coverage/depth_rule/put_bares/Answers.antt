use Rattle.bt_lines.proofs.Std.{Err, Ok, arith, err_from_is_err_and}
use Rattle.bt_lines.specs.calls.Output.{Adds, Grown}
use Rattle.bt_lines.proofs.lemmas.Writer.{grown_none}
use Rattle.bt_bed.specs.calls.GenomeTable.{entries}
use Rattle.bt_runs.specs.model.Depth.{DepthInterval, depth_line, depth_lines}
use Rattle.bt_runs.specs.inside.Coverage.{bare_of}
use Rattle.bt_runs.specs.inside.Walk.{entry_at}
use Rattle.bt_runs.proofs.lemmas.coverage.DepthSteps.{adds_line, bare_empty, bare_some, bare_unasked}
use Rattle.bt_runs.proofs.lemmas.order.ByChromosome.{bare_cut, length_read, name_read, one_bare}
use Rattle.bt_runs.proofs.coverage.depth_rule.put_bares.Goals as goal
use Rattle.bt_runs.proofs.coverage.depth_rule.put_bares.Goals.{then-chroms+then-length-gt0+in_ok-put_depth, else-chroms, else-chroms-via-then-chroms+else-length-gt0, else-chroms-via-else-chroms}

pub returns-in_err-put_depth : goal.returns-in_err-put_depth
returns-in_err-put_depth g c =
    let p = err_from_is_err_and c.from_residual.result c.from_residual.ensures.1 in
    let table = entries c.args.chroms.now.genome.now in
    let zeros = c.args.chroms.now.zeros in
    let rank = c.loop-rank.rank in
    let size = length_read table rank c.length-length.result c.length-length.ensures.is in
    let named = name_read table rank c.name.result.now c.name.ensures in
    let r : DepthInterval = record { chrom = c.name.result.now; start = 0; stop = c.length-length.result; depth = 0 } in
    let cut : Adds {A = Unit {0}} c.loop-rank.out.output (depth_lines (bare_of zeros (entry_at table rank))) (Err c.in_err-put_depth.field-0.0) c.put_depth.new.out.output =
    rw (bare_some zeros table rank c.length-length.result c.name.result.now size named c.if-chroms.true c.if-length-gt0.true) (adds_line {A = Unit {0}} r c.loop-rank.out.output c.put_depth.new.out.output (Err c.in_err-put_depth.field-0.0) c.in_err-put_depth.ensures) in
    rw (p.1, p.2) (bare_cut (bare_of zeros) table depth_line (omega arith) (omega arith) _ c.loop-rank.invariant c.args.stop c.in_err-put_depth.field-0.0 (omega arith) cut)

pub loop-rank-preserved : goal.loop-rank-preserved
loop-rank-preserved g c =
    let table = entries c.args.chroms.now.genome.now in
    let zeros = c.args.chroms.now.zeros in
    let rank = c.loop-rank.rank in
    let size = length_read table rank c.length-length.result c.length-length.ensures.is in
    let put : Grown c.loop-rank.out.output (depth_lines (bare_of zeros (entry_at table rank))) c.if-chroms.out.output = elim c.if-chroms.branch [
      | then-chroms+then-length-gt0+in_ok-put_depth w ↦
          let named = name_read table rank w.name.result.now w.name.ensures in
          let r : DepthInterval = record { chrom = w.name.result.now; start = 0; stop = c.length-length.result; depth = 0 } in
          rw (w.out-is, bare_some zeros table rank c.length-length.result w.name.result.now size named w.if-chroms.true w.if-length-gt0.true) (adds_line {A = Unit {0}} r c.loop-rank.out.output w.put_depth.new.out.output (Ok tt) w.in_ok-put_depth.ensures)
      | else-chroms w ↦ rw (w.out-is) (elim w.else-chroms.branch [
        | else-chroms-via-then-chroms+else-length-gt0 w' ↦ let low = w'.if-length-gt0.false in rw (bare_empty zeros (entry_at table rank) c.length-length.result size (omega arith)) (grown_none c.loop-rank.out.output)
        | else-chroms-via-else-chroms w' ↦ rw (bare_unasked zeros (entry_at table rank) w'.if-chroms.false) (grown_none c.loop-rank.out.output)
      ])
    ] in
    one_bare (bare_of zeros) table depth_line (omega arith) (omega arith) _ c.loop-rank.invariant put
