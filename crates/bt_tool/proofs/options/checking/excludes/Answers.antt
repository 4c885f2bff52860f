use Rattle.bt_lines.proofs.Std.{sym, ◌∙◌}
use Rattle.bt_tool.specs.calls.Given.{items_of_words}
use Rattle.bt_tool.specs.calls.Lent.{names_lent, table_lent}
use Rattle.bt_tool.specs.model.Options.{has_exclusive, overwrites}
use Rattle.bt_tool.proofs.lemmas.Planning.{exclusive-lent, or-first, or-second}
use Rattle.bt_tool.proofs.options.checking.excludes.Goals as goal

pub returns-then-gives_both : goal.returns-then-gives_both
returns-then-gives_both c =
    let table = c.args.given.table.now in
    let items = items_of_words c.args.given in
    or-first (has_exclusive (table_lent table) items) (overwrites (names_lent c.args.names))
    (exclusive-lent table items ∙ sym c.gives_both.ensures ∙ c.if-gives_both.true)

pub returns : goal.returns
returns c =
    let table = c.args.given.table.now in
    let items = items_of_words c.args.given in
    c.overwrites.ensures
    ∙ or-second (has_exclusive (table_lent table) items) (overwrites (names_lent c.args.names))
    (exclusive-lent table items ∙ sym c.gives_both.ensures ∙ c.if-gives_both.false)
