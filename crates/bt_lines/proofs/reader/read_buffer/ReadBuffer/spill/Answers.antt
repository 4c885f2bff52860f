use Rattle.bt_lines.proofs.Std.{◌≡◌, ◌<◌, ◌∙◌, ◌++◌, ap, arith, length, rules, slice_range, take}
use Rattle.bt_lines.proofs.lemmas.reader.block.BufferLemmas.{length-range, piece}
use Rattle.bt_lines.specs.inside.ReadBuffer.{unread}
use Rattle.bt_lines.proofs.reader.read_buffer.ReadBuffer.spill.Goals as goal

pub returns-clause-moves : goal.returns-clause-moves
unfolding unread
returns-clause-moves c =
    let old = c.args.self.now in
    let line = c.line_length.ensures in
    let size : length old.bytes ≡ 8192 = search rules in
    let all = slice_range old.bytes old.whole old.end in
    let below : c.line_length.result < length all = omega (arith, line.within, length-range old.bytes old.whole old.end (omega (arith, size, old.within)), c.if-feed-self.false) in
    let is = piece old.bytes old.whole old.end c.line_length.result line below in
    (take c.line_length.result all, line.clear, is.cut, c.in_ok-append_part-2.ensures.added ∙ ap (λ l. old.spilled.items ++ l) is.moved)
