use Rattle.bt_bed.specs.calls.Blocks.{view_of}
use Rattle.bt_bed.specs.calls.Reading.{room}
use Rattle.bt_front.proofs.lemmas.survey.SeeingLemmas.{Seeing}
use Rattle.bt_front.proofs.survey.Survey.see_all.Given as goal

-- the records so far were seen
abbrev pub invariant-loop-fault : goal.invariant-loop-fault
invariant-loop-fault g l = Seeing g.S.Source l.fn.blocks l.blocks l.self

abbrev pub decreases-loop-fault : goal.decreases-loop-fault
decreases-loop-fault g l = room (view_of l.blocks)
