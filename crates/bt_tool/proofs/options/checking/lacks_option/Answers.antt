use Rattle.bt_lines.proofs.Std.{sym, ◌∙◌, ap, not}
use Rattle.bt_tool.specs.calls.Given.{items_of_words}
use Rattle.bt_tool.proofs.lemmas.Planning.{lacks-by_one, lacks-none, lacks-one, lacks-required}
use Rattle.bt_tool.proofs.options.checking.lacks_option.Goals as goal

pub returns-then-lacks_required : goal.returns-then-lacks_required
returns-then-lacks_required c =
    sym (lacks-required c.args.given.table.now (items_of_words c.args.given)
    (sym c.lacks_required.ensures ∙ c.if-lacks_required.true))

pub returns-then-is_empty : goal.returns-then-is_empty
returns-then-is_empty c =
    let table = c.args.given.table.now in
    let items = items_of_words c.args.given in
    sym (lacks-by_one table items (sym c.lacks_required.ensures ∙ c.if-lacks_required.false)
    ∙ lacks-none table.one_of.now items (sym c.is_empty.ensures ∙ c.if-is_empty.true))

pub returns : goal.returns
returns c =
    let table = c.args.given.table.now in
    let items = items_of_words c.args.given in
    ap not c.gives_one.ensures
    ∙ sym (lacks-by_one table items (sym c.lacks_required.ensures ∙ c.if-lacks_required.false)
    ∙ lacks-one table.one_of.now items (sym c.is_empty.ensures ∙ c.if-is_empty.false))
