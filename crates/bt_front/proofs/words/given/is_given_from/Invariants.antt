use Rattle.bt_lines.proofs.Std.{length, ◌-◌, ◌≡◌, drop}
use Rattle.bt_bed.specs.model.Order.{is_among}
use Rattle.bt_tool.specs.calls.Plan.{words_seen}
use Rattle.bt_front.specs.inside.Options.{options_in}
use Rattle.bt_front.proofs.words.given.is_given_from.Given as goal

abbrev pub invariant-loop-at : goal.invariant-loop-at
invariant-loop-at l =
    is_among (options_in (drop l.from (words_seen l.words))) l.option
    ≡ is_among (options_in (drop l.at (words_seen l.words))) l.option

abbrev pub decreases-loop-at : goal.decreases-loop-at
decreases-loop-at l = length l.words - l.at
