use Rattle.std.proofs.lemmas.Result.{err_from_is_err_and}
use Rattle.bt_lines.proofs.Std.{◌≡◌, Option, subst, sym}
use Rattle.bt_tool.specs.calls.Plan.{plan_seen}
use Rattle.bt_tool.specs.model.Options.{PlanSeen}
use Rattle.bt_tool.specs.model.Table.{Word}
use Rattle.bt_files.specs.calls.Ending.{AfterFirst, AfterSecond, OpensIf}
use Rattle.bt_files.specs.declared.files.Files.{Ghosts as Files}
use Rattle.bt_files.specs.calls.Ending.CannotBegin.{no_first, no_genome, no_output, no_second}
use Rattle.bt_files.proofs.carrying_out.open_files.Goals as goal

pub returns-in_err-genome-clause-unopened : goal.returns-in_err-genome-clause-unopened
returns-in_err-genome-clause-unopened g c =
    let told = err_from_is_err_and c.from_residual.result c.from_residual.ensures.1 in
    let unopened = c.in_err-genome.ensures.reports in
    rw (told.1, told.2) (no_genome unopened.0 unopened.1 unopened.2)

pub returns-in_err-first-clause-unopened : goal.returns-in_err-first-clause-unopened
returns-in_err-first-clause-unopened g c =
    let told = err_from_is_err_and c.from_residual-in_err-first.result c.from_residual-in_err-first.ensures.1 in
    rw (told.1, told.2) (no_first c.in_ok-genome.genome c.open_if_named.new.files c.as_str.result.now c.in_ok-genome.ensures.opens (sym c.as_str.ensures.value) c.in_err-first.ensures.reports)

-- the genome file was opened, if there is one, and then the input of this name, which is the first
first_opened : {F I O : Type 0} (files : Files F I O) (before between after : F) (plan : PlanSeen) (genome : Option I) (first : I) (name : Word) → OpensIf files before plan.names.genome genome between → name ≡ plan.names.first → files.opens between name first after → AfterFirst files before plan genome first after
first_opened files before between after plan genome first name opened is then =
    record { between = between; genome_first = opened; then_first = subst (λ name. files.opens between name first after) is then }

pub returns-in_err-second-clause-unopened : goal.returns-in_err-second-clause-unopened
returns-in_err-second-clause-unopened g c =
    let told = err_from_is_err_and c.from_residual-in_err-second.result c.from_residual-in_err-second.ensures.1 in
    let first = first_opened g.F.Files c.args.files.now c.open_if_named.new.files c.open.new.files (plan_seen c.args.plan.now) c.in_ok-genome.genome c.in_ok-first.first c.as_str.result.now c.in_ok-genome.ensures.opens c.as_str.ensures.value c.in_ok-first.ensures.opens in
    let unopened = c.in_err-second.ensures.reports in
    rw (told.1, told.2) (no_second c.in_ok-genome.genome c.in_ok-first.first c.open.new.files unopened.0 first unopened.1 unopened.2)

pub returns-in_err-output-clause-unopened : goal.returns-in_err-output-clause-unopened
returns-in_err-output-clause-unopened g c =
    let told = err_from_is_err_and c.from_residual-in_err-output.result c.from_residual-in_err-output.ensures.1 in
    let first = first_opened g.F.Files c.args.files.now c.open_if_named.new.files c.open.new.files (plan_seen c.args.plan.now) c.in_ok-genome.genome c.in_ok-first.first c.as_str.result.now c.in_ok-genome.ensures.opens c.as_str.ensures.value c.in_ok-first.ensures.opens in
    let second : AfterSecond g.F.Files c.args.files.now (plan_seen c.args.plan.now) c.in_ok-genome.genome c.in_ok-first.first c.in_ok-second.second c.open_if_named-2.new.files =
    record { between = c.open.new.files; first_so = first; then_second = c.in_ok-second.ensures.opens } in
    let unopened = c.in_err-output.ensures.reports in
    rw (told.1, told.2) (no_output c.in_ok-genome.genome c.in_ok-first.first c.in_ok-second.second c.open_if_named-2.new.files unopened.0 second unopened.1 unopened.2)
