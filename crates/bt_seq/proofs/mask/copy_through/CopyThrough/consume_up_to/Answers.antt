use Rattle.bt_lines.proofs.Std.{arith}
use Rattle.bt_seq.proofs.lemmas.mask.steps.CopyLemmas.{copied_behind}
use Rattle.bt_seq.proofs.mask.copy_through.CopyThrough.consume_up_to.Goals as goal

pub loop-preserved : goal.loop-preserved
loop-preserved c =
    let next = c.consume_next.ensures.consumed c.loop-test.true in
    grind (arith, (copied_behind c.args.to c.args.self c.loop.through c.consume_next.new.self (c.loop.invariant.come).0 next.0 (c.loop.invariant.come).1 next.1))
