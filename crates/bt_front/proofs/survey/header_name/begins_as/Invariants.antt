use Rattle.bt_lines.proofs.Std.{◌≡◌, ◌-◌, ◌≤◌, length}
use Rattle.bt_front.specs.model.Odd.{begins_as}
use Rattle.bt_front.proofs.lemmas.survey.NameLemmas.{begins_at}
use Rattle.bt_front.proofs.survey.header_name.begins_as.Given as goal

abbrev pub invariant-loop-at : goal.invariant-loop-at
invariant-loop-at l = begins_at l.word l.name l.at ≡ begins_as l.word l.name

abbrev pub decreases-loop-at : goal.decreases-loop-at
decreases-loop-at l = length l.word - l.at
