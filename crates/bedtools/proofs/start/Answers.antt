use Rattle.std.proofs.Common.{inl}
use Rattle.bt_lines.proofs.Std.{◌≡◌, arith}
use Rattle.bt_tool.specs.calls.Plan.{plan_seen}
use Rattle.bedtools.proofs.start.Goals as goal

pub returns-in-Ok-clause-run : goal.returns-in-Ok-clause-run
returns-in-Ok-clause-run g c plan asked =
    let same : plan ≡ plan_seen c.in-Ok.plan = grind (arith, c.in-Ok.ensures.asked, asked) in
    inl (rw same c.carry_out.ensures)
