use Rattle.bt_lines.proofs.Std.{◌≡◌, ◌+◌, Some, None, subst, ap, sym, ◌∙◌, cond, bytes_eq, option_map, option_or}
use Rattle.bt_tool.specs.calls.Lent.{item_lent, table_lent}
use Rattle.bt_tool.specs.calls.Plan.{words_seen}
use Rattle.bt_tool.proofs.lemmas.Options.{Reads, reads-item, reads-end, words-end}
use Rattle.bt_tool.proofs.options.given.Given.last.Goals as goal
use Rattle.bt_tool.proofs.options.given.Given.last.Goals.{then-eq, else-eq}

pub loop-at-preserved : goal.loop-at-preserved
loop-at-preserved c =
    let table = table_lent c.args.self.table.now in
    let words = words_seen c.args.self.words.now in
    let option = c.args.option.now in
    let item = item_lent c.in-Ok.item in
    let kept = option_map item_lent c.loop-at.last in
    let next = option_map item_lent c.if-eq.last in
    let sets : next ≡ option_or (cond (bytes_eq item.option option) (Some item) None) kept =
    elim c.if-eq.branch [
      | then-eq w ↦ ap (option_map item_lent) w.last-is ∙ ap (λ b. option_or (cond b (Some item) None) kept) (sym w.if-eq.true ∙ c.eq.ensures)
      | else-eq w ↦ ap (option_map item_lent) w.last-is ∙ ap (λ b. option_or (cond b (Some item) None) kept) (sym w.if-eq.false ∙ c.eq.ensures)
    ] in
    let moved = reads-item table words option c.loop-at.at kept next item sets c.in-Ok.ensures.item c.in-Ok.ensures.here c.loop-at.invariant in
    subst (λ n. Reads table words option (c.loop-at.at + n) next) (sym c.len-at.ensures) moved

pub returns-after-loop-at : goal.returns-after-loop-at
returns-after-loop-at c =
    reads-end (table_lent c.args.self.table.now) (words_seen c.args.self.words.now) c.args.option.now c.loop-at.at _ (words-end c.args.self.words.now c.loop-at.at c.loop-at-test.false) c.loop-at.invariant
