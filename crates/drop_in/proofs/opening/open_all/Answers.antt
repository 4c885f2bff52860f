use Rattle.bt_lines.proofs.Std.{subst}
use Rattle.bt_lines.specs.declared.fault.Input.TheVariants.{First}
use Rattle.bt_tool.specs.model.Table.{Word}
use Rattle.drop_in.specs.calls.Opening.{CannotOpenInput, OpensInput}
use Rattle.drop_in.specs.calls.Opening.CannotOpen.{no_first, no_second}
use Rattle.drop_in.proofs.opening.open_all.Goals as goal

pub returns-in-Err-open_input-clause-cannot : goal.returns-in-Err-open_input-clause-cannot
returns-in-Err-open_input-clause-cannot g c =
    no_first c.in-Ok.genome c.open_if.new.files c.in-Ok.ensures.opens
    (subst (λ (name : Word). CannotOpenInput g.F.Files c.args.ways.first c.open_if.new.files name First c.in-Err-open_input.why c.open_input.new.files)
    c.as_str.ensures.value c.in-Err-open_input.ensures.cannot)

pub returns-in-Err-open_second-clause-cannot : goal.returns-in-Err-open_second-clause-cannot
returns-in-Err-open_second-clause-cannot g c =
    no_second c.in-Ok.genome c.open_if.new.files c.in-Ok-open_input.first c.open_input.new.files c.in-Ok.ensures.opens
    (subst (λ (name : Word). OpensInput g.F.Files c.args.ways.first c.open_if.new.files name c.in-Ok-open_input.first c.open_input.new.files)
    c.as_str.ensures.value c.in-Ok-open_input.ensures.opens)
    c.in-Err-open_second.ensures.cannot
