use Rattle.bt_lines.proofs.Std.{refl}
use Rattle.bt_tool.proofs.lemmas.running.sweep.SweepRounds.{second_filled, second_over, second_stopped}
use Rattle.bt_tool.proofs.loops.sweeping.SweepRunTwoInputEngine.fill_second.Goals as goal

pub returns-in_err-fill : goal.returns-in_err-fill
returns-in_err-fill g c = λ start out s.
    second_stopped s c.requires c.fill.new.self c.in_err-fill.field-0.0 c.from_residual.result c.from_residual.ensures.1 c.in_err-fill.ensures

pub returns-then-branch : goal.returns-then-branch
returns-then-branch g c = λ start out s.
    second_filled s c.requires c.fill.new.self (rw c.if-branch.true at c.in_ok-fill.ensures)

pub returns : goal.returns
returns g c = λ start out s.
    second_over s c.requires c.fill.new.self (rw c.if-branch.false at c.in_ok-fill.ensures)
    (record c.args.self.now { second = c.fill.new.self; sweep = c.end_b.new.self }) refl refl c.end_b.new.out.output c.end_b.result c.end_b.ensures.order c.end_b.ensures.gives
