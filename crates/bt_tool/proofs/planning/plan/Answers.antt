use Rattle.bt_lines.proofs.Std.{Ok, Err, ◌∙◌, ap, sym, is_ok, err_from_is_err_and}
use Rattle.bt_tool.specs.calls.Plan.{words_seen}
use Rattle.bt_tool.specs.model.Table.{table_of}
use Rattle.bt_tool.proofs.lemmas.Options.{options-no_command, fault-items, fault-tellable, fault-word, plan-items, same_table, together_at, reports_plan, reports_refusal}
use Rattle.bt_tool.specs.calls.Given.{items_of_words}
use Rattle.bt_tool.proofs.planning.plan.Goals as goal

pub returns-in_err-tool-clause-refused : goal.returns-in_err-tool-clause-refused
returns-in_err-tool-clause-refused c =
    let exit = c.from_residual in
    let told = err_from_is_err_and exit.result exit.ensures.1 in
    let unnamed = c.in_err-tool.ensures in
    let words = words_seen c.args.words.now in
    rw (told.1, told.2) (options-no_command words unnamed.0 ∙ ap Err (sym unnamed.1))

pub returns-in_err-tool-clause-told : goal.returns-in_err-tool-clause-told
returns-in_err-tool-clause-told c = reports_refusal (words_seen c.args.words.now) _ (returns-in_err-tool-clause-refused c)

pub returns-in_err-given-clause-refused : goal.returns-in_err-given-clause-refused
returns-in_err-given-clause-refused c =
    let exit = c.from_residual-in_err-given in
    let told = err_from_is_err_and exit.result exit.ensures.1 in
    rw (told.1, told.2) (fault-word c.args.words.now c.in_ok-tool.tool c.in_ok-tool.ensures c.table-table.result c.table-table.ensures c.in_err-given.field-0.0 c.in_err-given.ensures)

pub returns-in_err-given-clause-told : goal.returns-in_err-given-clause-told
returns-in_err-given-clause-told c = reports_refusal (words_seen c.args.words.now) _ (returns-in_err-given-clause-refused c)

pub returns-in_err-given-clause-tellable : goal.returns-in_err-given-clause-tellable
returns-in_err-given-clause-tellable c =
    let exit = c.from_residual-in_err-given in
    let told = err_from_is_err_and exit.result exit.ensures.1 in
    let usage = c.in_err-given.field-0.0 in
    rw (told.1, told.2) (fault-tellable c.args.words.now usage (fault-word c.args.words.now c.in_ok-tool.tool c.in_ok-tool.ensures c.table-table.result c.table-table.ensures usage c.in_err-given.ensures))

pub returns-in_err-check-clause-refused : goal.returns-in_err-check-clause-refused
returns-in_err-check-clause-refused c =
    let exit = c.from_residual-in_err-check in
    let told = err_from_is_err_and exit.result exit.ensures.1 in
    rw (told.1, told.2) (fault-items c.args.words.now c.in_ok-tool.tool c.in_ok-tool.ensures c.table-table.result c.table-table.ensures c.in_ok-given.given c.in_ok-given.ensures.0 c.in_ok-given.ensures.1 c.in_err-check.field-0.0 c.in_err-check.ensures)

pub returns-in_err-check-clause-told : goal.returns-in_err-check-clause-told
returns-in_err-check-clause-told c = reports_refusal (words_seen c.args.words.now) _ (returns-in_err-check-clause-refused c)

pub returns-in_err-check-clause-tellable : goal.returns-in_err-check-clause-tellable
returns-in_err-check-clause-tellable c =
    let exit = c.from_residual-in_err-check in
    let told = err_from_is_err_and exit.result exit.ensures.1 in
    let usage = c.in_err-check.field-0.0 in
    rw (told.1, told.2) (fault-tellable c.args.words.now usage (fault-items c.args.words.now c.in_ok-tool.tool c.in_ok-tool.ensures c.table-table.result c.table-table.ensures c.in_ok-given.given c.in_ok-given.ensures.0 c.in_ok-given.ensures.1 usage c.in_err-check.ensures))

pub made-requires : goal.made-requires
made-requires c =
    let same = same_table c.in_ok-given.given.table.now c.table-table.result (table_of c.in_ok-tool.tool) c.in_ok-given.ensures.0 c.table-table.ensures in
    record {
      table = same;
      whole = together_at (items_of_words c.in_ok-given.given) c.in_ok-given.given.table.now (table_of c.in_ok-tool.tool) _ same c.in_ok-check.ensures;
    }

pub returns-in_err-made-clause-refused : goal.returns-in_err-made-clause-refused
returns-in_err-made-clause-refused c =
    let exit = c.from_residual-in_err-made in
    let told = err_from_is_err_and exit.result exit.ensures.1 in
    rw (told.1, told.2) (ap is_ok (plan-items c.args.words.now c.in_ok-tool.tool c.in_ok-tool.ensures c.table-table.result c.table-table.ensures c.in_ok-given.given c.in_ok-given.ensures.0 c.in_ok-given.ensures.1 c.in_ok-check.ensures))

pub returns-in_err-made-clause-told : goal.returns-in_err-made-clause-told
returns-in_err-made-clause-told c = reports_refusal (words_seen c.args.words.now) _ (returns-in_err-made-clause-refused c)

pub returns-clause-asked : goal.returns-clause-asked
returns-clause-asked c = plan-items c.args.words.now c.in_ok-tool.tool c.in_ok-tool.ensures c.table-table.result c.table-table.ensures c.in_ok-given.given c.in_ok-given.ensures.0 c.in_ok-given.ensures.1 c.in_ok-check.ensures ∙ ap Ok (sym c.in_ok-made.ensures)

pub returns-clause-reported : goal.returns-clause-reported
returns-clause-reported c = reports_plan (words_seen c.args.words.now) c.in_ok-made.field-0 (returns-clause-asked c)
