use Rattle.bt_tool.proofs.lemmas.running.feed.FeedLemmas.{given_by}
use Rattle.bt_tool.proofs.lemmas.running.pair.PairNear.{batch_taken, consumes_given}
use Rattle.bt_tool.proofs.loops.driving.feed_buffered.Goals as goal

pub consume-requires : goal.consume-requires
consume-requires g c =
    let given = given_by g.E.Engine.definition _ _ _ c.feed_batch-fed.result _ _ _ c.feed_batch-fed.ensures in
    batch_taken c.args.records.now c.buffered-batch.ensures.lends given.1 c.consumed-consumed.ensures

pub returns : goal.returns
returns g c =
    let given = given_by g.E.Engine.definition _ _ _ c.feed_batch-fed.result _ _ _ c.feed_batch-fed.ensures in (
      c.buffered-batch.result,
      c.feed_batch-fed.new.records,
      consumes_given c.args.records.now c.buffered-batch.result c.buffered-batch.ensures.lends c.feed_batch-fed.new.records given.0 given.1 c.consumed-consumed.result c.consumed-consumed.ensures g.S.Source c.buffered-batch.ensures.comes c.consume.new.self c.consume.ensures,
      c.feed_batch-fed.ensures,
    )
