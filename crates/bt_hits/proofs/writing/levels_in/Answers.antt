use Rattle.bt_lines.proofs.Std.{arith}
use Rattle.bt_hits.specs.inside.Meeting.{records_near}
use Rattle.bt_hits.proofs.lemmas.Writing.{levels_more}
use Rattle.bt_hits.proofs.writing.levels_in.Goals as goal

pub loop-index-preserved : goal.loop-index-preserved
loop-index-preserved c =
    let more = c.levels_with-count.ensures in
    let kept = c.loop-index.invariant in
    record {
      within = more.within kept.within;
      below = levels_more (records_near c.args.near.now) c.loop-index.index c.loop-index.count c.levels_with-count.result _ c.nth.ensures (omega arith) more.least more.above kept.below;
    }
