use Rattle.bt_lines.proofs.Std.{length, ◌-◌, option_map}
use Rattle.bt_tool.proofs.lemmas.Options.{Reads}
use Rattle.bt_tool.specs.calls.Lent.{item_lent, table_lent}
use Rattle.bt_tool.specs.calls.Plan.{words_seen}
use Rattle.bt_tool.proofs.options.given.Given.last.Given as goal

abbrev pub invariant-loop-at : goal.invariant-loop-at
invariant-loop-at l = Reads (table_lent l.self.table.now) (words_seen l.self.words.now) l.option l.at (option_map item_lent l.last)

abbrev pub decreases-loop-at : goal.decreases-loop-at
decreases-loop-at l = length l.self.words.now - l.at
