use Rattle.bt_lines.proofs.Std.{length, ◌-◌}
use Rattle.bt_tool.proofs.lemmas.Options.{HasReadWords}
use Rattle.bt_tool.specs.calls.Plan.{words_seen}
use Rattle.bt_tool.specs.calls.Lent.{table_lent}
use Rattle.bt_tool.proofs.options.given.Given.read.Given as goal

abbrev pub invariant-loop-at : goal.invariant-loop-at
invariant-loop-at l = HasReadWords (table_lent l.table) (words_seen l.words) l.at

abbrev pub decreases-loop-at : goal.decreases-loop-at
decreases-loop-at l = length l.words - l.at
