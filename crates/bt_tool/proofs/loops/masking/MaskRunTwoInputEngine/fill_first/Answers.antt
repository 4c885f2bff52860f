use Rattle.bt_tool.proofs.lemmas.running.mask.MaskRounds.{lines_filled, lines_over, lines_stopped}
use Rattle.bt_tool.proofs.loops.masking.MaskRunTwoInputEngine.fill_first.Goals as goal

pub returns-in_err-fill : goal.returns-in_err-fill
returns-in_err-fill g c = λ grown start out s.
    lines_stopped s c.requires c.fill.new.self c.in_err-fill.field-0.0 c.from_residual.result c.from_residual.ensures.1 c.in_err-fill.ensures.fills

pub returns-then-branch : goal.returns-then-branch
returns-then-branch g c = λ grown start out s.
    lines_filled s c.requires c.fill.new.self (rw c.if-branch.true at c.in_ok-fill.ensures.fills)

pub returns : goal.returns
returns g c = λ grown start out s.
    lines_over s c.requires c.fill.new.self (rw c.if-branch.false at c.in_ok-fill.ensures.fills)
    c.end_lines.new.self c.end_lines.ensures.stands
