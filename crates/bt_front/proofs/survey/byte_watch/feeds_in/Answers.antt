use Rattle.std.specs.Prelude.{count_ones}
use Rattle.bt_lines.proofs.Std.{◌≡◌, ◌+◌, ◌≤◌, ap, arith, length, length-take, take}
use Rattle.bt_front.specs.calls.Bytes.{feeds_in}
use Rattle.bt_front.proofs.lemmas.survey.WindowLemmas.{feeds_block, feeds_rest, feeds_within}
use Rattle.bt_front.proofs.survey.byte_watch.feeds_in.Goals as goal

pub overflow_add-count : goal.overflow_add-count
overflow_add-count c =
    let block = feeds_block c.args.bytes.now c.loop-at.at 64 in
    let within = feeds_within (take (c.loop-at.at + 64) c.args.bytes.now) in
    let size = length-take (c.loop-at.at + 64) c.args.bytes.now in
    let ones = ap count_ones c.feed_bits-feeds.ensures in
    grind arith

pub loop-at-preserved : goal.loop-at-preserved
loop-at-preserved c =
    let block = feeds_block c.args.bytes.now c.loop-at.at 64 in
    let ones = ap count_ones c.feed_bits-feeds.ensures in record {
      within = omega arith;
      counted = grind arith;
    }

pub returns : goal.returns
returns c =
    let rest = feeds_rest c.args.bytes.now c.loop-at.at in
    omega (arith, c.few_feeds.ensures)
