-- The items of a command line.
use Rattle.std.specs.Prelude.{List, drop}
use Rattle.bt_tool.specs.declared.options.given.Given.{Given}
use Rattle.bt_tool.specs.model.Usage.{Item, items_of}
use Rattle.bt_tool.specs.calls.Plan.{words_seen}
use Rattle.bt_tool.specs.calls.Lent.{table_lent}

-- the items into which the words after the first divide
abbrev pub items_of_words : Given → List Item
items_of_words given = items_of (table_lent given.table.now) (drop 1 (words_seen given.words.now))
