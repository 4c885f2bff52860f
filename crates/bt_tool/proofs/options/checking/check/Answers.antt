use Rattle.bt_lines.proofs.Std.{Some, sym, ◌∙◌, ap, ◌||◌}
use Rattle.bt_tool.specs.calls.Given.{items_of_words}
use Rattle.bt_tool.specs.calls.Lent.{table_lent}
use Rattle.bt_tool.specs.model.Options.{has_exclusive, overwrites, reads_twice}
use Rattle.bt_tool.proofs.lemmas.Planning.{together-exclusive, together-none, together-twice}
use Rattle.bt_tool.proofs.options.checking.check.Goals as goal

pub returns-then-excludes : goal.returns-then-excludes
returns-then-excludes c =
    let table = table_lent c.args.given.table.now in
    let items = items_of_words c.args.given in
    together-exclusive table items (sym c.lacks_option.ensures ∙ c.if-lacks_option.false)
    (ap (λ n. has_exclusive table items || overwrites n) (sym c.names_of-names.ensures)
    ∙ sym c.excludes.ensures ∙ c.if-excludes.true) ∙ ap Some (sym c.new-then-excludes.ensures)

pub returns-then-reads_twice : goal.returns-then-reads_twice
returns-then-reads_twice c =
    let table = table_lent c.args.given.table.now in
    let items = items_of_words c.args.given in
    together-twice table items (sym c.lacks_option.ensures ∙ c.if-lacks_option.false)
    (ap (λ n. has_exclusive table items || overwrites n) (sym c.names_of-names.ensures)
    ∙ sym c.excludes.ensures ∙ c.if-excludes.false)
    (ap reads_twice (sym c.names_of-names.ensures) ∙ sym c.reads_twice.ensures ∙ c.if-reads_twice.true)
    ∙ ap Some (sym c.new-then-reads_twice.ensures)

pub returns : goal.returns
returns c =
    let table = table_lent c.args.given.table.now in
    let items = items_of_words c.args.given in
    together-none table items (sym c.lacks_option.ensures ∙ c.if-lacks_option.false)
    (ap (λ n. has_exclusive table items || overwrites n) (sym c.names_of-names.ensures)
    ∙ sym c.excludes.ensures ∙ c.if-excludes.false)
    (ap reads_twice (sym c.names_of-names.ensures) ∙ sym c.reads_twice.ensures ∙ c.if-reads_twice.false)
