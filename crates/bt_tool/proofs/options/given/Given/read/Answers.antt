use Rattle.bt_tool.specs.calls.Lent.{item_lent, table_lent}
use Rattle.bt_tool.specs.calls.Plan.{words_seen}
use Rattle.bt_lines.proofs.Std.{◌+◌, subst, sym}
use Rattle.bt_tool.proofs.lemmas.Options.{HasReadWords, reads-on-item, reads-on-end, words-end}
use Rattle.bt_tool.proofs.options.given.Given.read.Goals as goal

pub loop-at-preserved : goal.loop-at-preserved
loop-at-preserved c =
    let table = table_lent c.args.table.now in
    let words = words_seen c.args.words.now in
    let item = item_lent c.in_ok-item_at.field-0 in
    let next = reads-on-item table words c.loop-at.at item c.in_ok-item_at.ensures.item c.in_ok-item_at.ensures.here c.loop-at.invariant in
    subst (λ n. HasReadWords table words (c.loop-at.at + n)) (sym c.len.ensures) next

pub invariant_of-result : goal.invariant_of-result
invariant_of-result c =
    record { no_fault = reads-on-end (table_lent c.args.table.now) (words_seen c.args.words.now) c.loop-at.at (words-end c.args.words.now c.loop-at.at c.loop-at-test.false) c.loop-at.invariant }
