use Rattle.bt_lines.proofs.Std.{arith, ◌≡◌, ◌∙◌, ◌<◌, Some, None, ap, get_or, length, sym, take, cond, suc}
use Rattle.bt_front.proofs.lemmas.survey.RunLemmas.{after_next, feed_more, feed_same, found_at, plain_next}
use Rattle.bt_front.proofs.survey.byte_watch.ByteWatch.pass_bytes.Goals as goal
use Rattle.bt_front.proofs.survey.byte_watch.ByteWatch.pass_bytes.Goals.{then-byte-eq10, else-byte-eq10}

pub returns-in-Some-clause-odd : goal.returns-in-Some-clause-odd
returns-in-Some-clause-odd c =
    let within : c.loop-byte.byte-index < length c.args.block.now = omega arith in
    found_at c.args.self.now c.loop-byte.self c.args.block.now c.loop-byte.byte-index _ within c.loop-byte.invariant.passed c.loop-byte.invariant.plain (sym c.in-Some.ensures) c.loop-byte.invariant.feeds

pub loop-byte-preserved : goal.loop-byte-preserved
loop-byte-preserved c =
    let within : c.loop-byte.byte-index < length c.args.block.now = omega arith in
    record {
      count = elim c.if-byte-eq10.branch [ then-byte-eq10 w ↦ omega arith | else-byte-eq10 w ↦ omega arith ];
      feeds = elim c.if-byte-eq10.branch [
        | then-byte-eq10 w ↦ feed_more c.args.block.now c.loop-byte.byte-index c.loop-byte.feeds c.if-byte-eq10.feeds within c.loop-byte.invariant.feeds w.feeds-is w.if-byte-eq10.true
        | else-byte-eq10 w ↦ feed_same c.args.block.now c.loop-byte.byte-index c.loop-byte.feeds c.if-byte-eq10.feeds within c.loop-byte.invariant.feeds w.feeds-is w.if-byte-eq10.false
      ];
      plain = plain_next c.args.self.now c.loop-byte.self c.args.block.now c.loop-byte.byte-index within c.loop-byte.invariant.passed c.loop-byte.invariant.plain (sym c.in_default.ensures);
      passed = c.step.ensures ∙ after_next c.args.self.now c.loop-byte.self c.args.block.now c.loop-byte.byte-index within c.loop-byte.invariant.passed;
    }
