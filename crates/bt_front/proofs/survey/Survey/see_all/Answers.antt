use Rattle.bt_lines.proofs.Std.{◌≡◌, ◌∙◌, ◌++◌, List, ap, append-nil, arith, length, refl}
use Rattle.bt_bed.specs.calls.Blocks.{view_of}
use Rattle.bt_front.proofs.lemmas.survey.SeeingLemmas.{seeing_filled, seeing_more, seeing_start, seen_to_end, seen_to_fault, seen_to_trouble, taken_less}
use Rattle.bt_front.proofs.survey.Survey.see_all.Goals as goal

pub loop-fault-init : goal.loop-fault-init
loop-fault-init g c = seeing_start g.S.Source c.args.blocks.now c.args.self.now c.requires.fresh c.requires.going c.requires.kept

pub returns-in-Ok-false : goal.returns-in-Ok-false
returns-in-Ok-false g c =
    seen_to_end g.S.Source c.args.blocks.now c.loop-fault.blocks c.fill.new.self c.loop-fault.self c.loop-fault.invariant (rw c.in-Ok-false.field-0-test at c.in-Ok-false.ensures)

pub returns-in-Err : goal.returns-in-Err
returns-in-Err g c =
    seen_to_fault g.S.Source c.args.blocks.now c.loop-fault.blocks c.fill.new.self c.loop-fault.self c.loop-fault.invariant c.in-Err.fault c.in-Err.ensures

pub returns-in-Err-see_buffered : goal.returns-in-Err-see_buffered
returns-in-Err-see_buffered g c =
    let filled = seeing_filled g.S.Source c.args.blocks.now c.loop-fault.blocks c.fill.new.self c.loop-fault.self c.loop-fault.invariant (rw c.in-Ok-true.field-0-test at c.in-Ok-true.ensures) in
    seen_to_trouble g.S.Source c.args.blocks.now c.fill.new.self c.see_buffered.new.blocks c.loop-fault.self filled c.see_buffered.new.self c.in-Err-see_buffered.trouble c.in-Err-see_buffered.ensures

pub loop-fault-preserved : goal.loop-fault-preserved
loop-fault-preserved g c =
    let filled = seeing_filled g.S.Source c.args.blocks.now c.loop-fault.blocks c.fill.new.self c.loop-fault.self c.loop-fault.invariant (rw c.in-Ok-true.field-0-test at c.in-Ok-true.ensures) in
    seeing_more g.S.Source c.args.blocks.now c.fill.new.self c.see_buffered.new.blocks c.loop-fault.self filled c.see_buffered.new.self c.in_default.ensures

pub loop-fault-smaller : goal.loop-fault-smaller
loop-fault-smaller g c =
    let fills = rw c.in-Ok-true.field-0-test at c.in-Ok-true.ensures in
    taken_less g.S.Source c.loop-fault.blocks c.fill.new.self c.see_buffered.new.blocks fills c.loop-fault.self c.see_buffered.new.self c.in_default.ensures
