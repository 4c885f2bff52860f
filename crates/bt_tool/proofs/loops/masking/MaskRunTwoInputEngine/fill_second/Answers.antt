use Rattle.bt_tool.proofs.lemmas.running.mask.MaskRounds.{is_wanted, records_filled, records_over, records_stopped}
use Rattle.bt_tool.proofs.loops.masking.MaskRunTwoInputEngine.fill_second.Goals as goal

pub end_bed-requires : goal.end_bed-requires
end_bed-requires g c = is_wanted _ _ c.requires

pub returns-in_err-fill : goal.returns-in_err-fill
returns-in_err-fill g c = λ start out s.
    records_stopped s c.requires c.fill.new.self c.in_err-fill.field-0.0 c.from_residual.result c.from_residual.ensures.1 c.in_err-fill.ensures

pub returns-then-branch : goal.returns-then-branch
returns-then-branch g c = λ start out s.
    records_filled s c.requires c.fill.new.self (rw c.if-branch.true at c.in_ok-fill.ensures)

pub returns : goal.returns
returns g c = λ start out s.
    records_over s c.requires c.fill.new.self (rw c.if-branch.false at c.in_ok-fill.ensures)
    c.end_bed.new.self c.end_bed.new.out.output c.end_bed.result c.end_bed.ensures.waits c.end_bed.ensures.none_waits
