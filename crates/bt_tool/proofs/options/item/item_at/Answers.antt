use Rattle.bt_lines.proofs.Std.{◌≡◌, Some, None, false, sym, ◌∙◌, string_bytes}
use Rattle.bt_tool.specs.model.Table.{fits, takes}
use Rattle.bt_tool.specs.calls.Lent.{table_lent}
use Rattle.bt_tool.proofs.lemmas.Options.{words-from, words-pair, unknown-at, missing-at, bad-at}
use Rattle.bt_tool.proofs.options.item.item_at.Goals as goal

pub returns-in_default-clause-fault : goal.returns-in_default-clause-fault
returns-in_default-clause-fault c =
    let word = c.index-words-at.result in
    let none : takes (table_lent c.args.table.now) (string_bytes word) ≡ None =
    rw c.as_str-option.ensures.value at (sym c.takes.ensures ∙ c.in_default.is) in
    let fault = unknown-at (table_lent c.args.table.now) c.args.words.now c.args.at word
    c.index-words-at.is c.requires none in
    cc

pub returns-then-stands_alone-clause-here : goal.returns-then-stands_alone-clause-here
returns-then-stands_alone-clause-here c =
    cc ((words-from c.args.words.now c.args.at c.index-words-at.result c.requires c.index-words-at.is), c.as_str-option.ensures.value)

pub returns-in_default-get-clause-fault : goal.returns-in_default-get-clause-fault
returns-in_default-get-clause-fault c =
    let word = c.index-words-at.result in
    let has : takes (table_lent c.args.table.now) (string_bytes word) ≡ Some c.in-Some.takes =
    rw c.as_str-option.ensures.value at (sym c.takes.ensures ∙ c.in-Some.is) in
    let fault = missing-at (table_lent c.args.table.now) c.args.words.now c.args.at word
    c.index-words-at.is c.in-Some.takes has (sym c.stands_alone.ensures ∙ c.if-stands_alone.false) c.requires c.in_default-get.ensures.lookup.3 in
    cc

pub returns-then-not-fits-clause-fault : goal.returns-then-not-fits-clause-fault
returns-then-not-fits-clause-fault c =
    let word = c.index-words-at.result in
    let value = c.in-Some-get.value.now in
    let found = c.in-Some-get.ensures.lookup in
    let has : takes (table_lent c.args.table.now) (string_bytes word) ≡ Some c.in-Some.takes =
    rw c.as_str-option.ensures.value at (sym c.takes.ensures ∙ c.in-Some.is) in
    let bad : fits c.in-Some.takes (Some (string_bytes value)) ≡ false = rw c.as_str.ensures.value at (sym c.fits.ensures ∙ c.if-not-fits.true) in
    let fault = bad-at (table_lent c.args.table.now) c.args.words.now c.args.at word
    c.index-words-at.is c.in-Some.takes has (sym c.stands_alone.ensures ∙ c.if-stands_alone.false) value found.3.0 found.1 bad in
    cc

pub returns-clause-here : goal.returns-clause-here
returns-clause-here c =
    let found = c.in-Some-get.ensures.lookup in
    let here = words-pair c.args.words.now c.args.at c.index-words-at.result
    c.in-Some-get.value.now found.3.0 c.index-words-at.is found.1 in
    cc (here, c.as_str-option.ensures.value, c.as_str-2.ensures.value)
