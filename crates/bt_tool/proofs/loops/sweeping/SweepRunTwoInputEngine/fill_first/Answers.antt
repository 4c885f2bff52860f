use Rattle.bt_lines.proofs.Std.{refl}
use Rattle.bt_tool.proofs.lemmas.running.sweep.SweepRounds.{first_ended, first_filled, first_stopped}
use Rattle.bt_tool.proofs.loops.sweeping.SweepRunTwoInputEngine.fill_first.Goals as goal

pub returns-in_err-fill : goal.returns-in_err-fill
returns-in_err-fill g c = λ grown start out s.
    first_stopped s c.requires c.fill.new.self c.in_err-fill.field-0.0 c.from_residual.result c.from_residual.ensures.1 c.in_err-fill.ensures

pub returns-then-branch : goal.returns-then-branch
returns-then-branch g c = λ grown start out s.
    first_filled s c.requires c.fill.new.self (rw c.if-branch.true at c.in_ok-fill.ensures)

pub returns : goal.returns
returns g c = λ grown start out s.
    first_ended s c.requires c.fill.new.self (record c.args.self.now { first = c.fill.new.self; sweep = c.end_a.new.self }) refl refl c.end_a.ensures.order
    (rw c.if-branch.false at c.in_ok-fill.ensures) c.end_a.ensures.stands
