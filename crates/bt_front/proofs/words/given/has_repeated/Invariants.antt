use Rattle.bt_lines.proofs.Std.{length, ◌-◌, ◌≡◌, drop}
use Rattle.bt_tool.specs.calls.Plan.{words_seen}
use Rattle.bt_front.specs.model.Words.{has_repeated}
use Rattle.bt_front.specs.inside.Options.{options_in}
use Rattle.bt_front.proofs.words.given.has_repeated.Given as goal

abbrev pub invariant-loop-at : goal.invariant-loop-at
invariant-loop-at l =
    has_repeated (options_in (drop 1 (words_seen l.words)))
    ≡ has_repeated (options_in (drop l.at (words_seen l.words)))

abbrev pub decreases-loop-at : goal.decreases-loop-at
decreases-loop-at l = length l.words - l.at
