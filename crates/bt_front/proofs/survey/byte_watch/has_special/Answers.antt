use Rattle.bt_lines.proofs.Std.{arith, length-drop, sym, ◌∙◌}
use Rattle.bt_front.proofs.lemmas.survey.WindowLemmas.{special_block}
use Rattle.bt_front.proofs.survey.byte_watch.has_special.Goals as goal

pub loop-at-preserved : goal.loop-at-preserved
loop-at-preserved c = record {
  within = omega arith;
  left = λ rest. c.loop-at.invariant.left (special_block c.args.block.now c.loop-at.at 64 (omega (arith, length-drop c.loop-at.at c.args.block.now)) (sym c.mark_bits.ensures ∙ c.if-mark_bits-ne0.false)
      (rw (← c.feed_bits.ensures, ← c.feed_bits-else-mark_bits-ne0.ensures) c.if-feed_bits-ne0.false) rest);
}
