use Rattle.bt_bed.specs.calls.Records.{room}
use Rattle.bt_tool.proofs.lemmas.running.feed.FeedLemmas.{Going}
use Rattle.bt_tool.proofs.loops.driving.feed_all.Given as goal

-- the records so far were taken
abbrev pub invariant-loop-records : goal.invariant-loop-records
invariant-loop-records g l =
    Going g.E.Engine.definition l.initial.engine
    g.S.Source l.initial.records l.initial.out.output l.records l.engine l.out.output

abbrev pub decreases-loop-records : goal.decreases-loop-records
decreases-loop-records g l = room l.records
