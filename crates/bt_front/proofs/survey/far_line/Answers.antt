use Rattle.std.proofs.lemmas.Grind.{common_steps}
use Rattle.bt_lines.proofs.Std.{arith}
use Rattle.bt_bed.specs.calls.Bed.{record_in}
use Rattle.bt_front.proofs.lemmas.survey.SeenLemmas.{far_found, none_far, within_more}
use Rattle.bt_front.proofs.survey.far_line.Goals as goal

pub returns-then-stop-gt-LARGEST_END : goal.returns-then-stop-gt-LARGEST_END
returns-then-stop-gt-LARGEST_END c =
    let over = c.if-stop-gt-LARGEST_END.true in
    far_found c.args.records c.loop-record.ahead c.next.new.self (record_in c.in-Some.record) c.line.result c.loop-record.invariant c.in-Some.ensures.some
    (omega (arith, c.stop.ensures.is)) c.line.ensures

pub loop-record-preserved : goal.loop-record-preserved
loop-record-preserved c =
    let within = c.if-stop-gt-LARGEST_END.false in
    within_more c.args.records c.loop-record.ahead c.next.new.self (record_in c.in-Some.record) c.loop-record.invariant c.in-Some.ensures.some
    (omega (arith, c.stop.ensures.is))

pub returns : goal.returns
returns c = absurd (none_far c.args.records c.loop-record.ahead c.loop-record.invariant c.in_default.ensures.none c.requires)
