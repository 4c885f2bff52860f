use Rattle.bt_bed.specs.calls.Records.{room, view_of}
use Rattle.bt_tool.proofs.lemmas.running.pair.PairTurns.{IsReadOn}
use Rattle.bt_tool.proofs.loops.sweeping.check_rest.Given as goal

-- the records so far were consumed
abbrev pub invariant-loop-second : goal.invariant-loop-second
invariant-loop-second g l =
    IsReadOn g.B.Source (view_of l.initial.second) (view_of l.second)

abbrev pub decreases-loop-second : goal.decreases-loop-second
decreases-loop-second g l = room l.second
