use Rattle.bt_lines.proofs.Std.{refl}
use Rattle.bt_lines.proofs.lemmas.reader.block.BufferLemmas.{is_full, unread_fits, none_yet, not_full, source_failed, text_ended, text_too_long, then_long}
use Rattle.bt_lines.proofs.reader.spill.read_lines.Goals as goal

pub loop-buffer-init : goal.loop-buffer-init
loop-buffer-init g c = (none_yet _ _ _ _ c.requires.counted, c.requires.none, refl)

pub read_long-requires-clause-full : goal.read_long-requires-clause-full
read_long-requires-clause-full g c = is_full _ c.if-is_full.ensures

pub returns-then-is_full-clause-buffers : goal.returns-then-is_full-clause-buffers
returns-then-is_full-clause-buffers g c =
    let finds = c.loop-buffer-test.ensures.finds in
    then_long _ c.loop-buffer.invariant.0 finds.1 finds.2 _ _ _ _ _ c.read_long.ensures.buffers

pub ask_more-requires-clause-room : goal.ask_more-requires-clause-room
ask_more-requires-clause-room g c = not_full _ c.if-is_full.ensures (unread_fits c.find_lines.new.self)

pub returns-in-NoBytes-clause-buffers : goal.returns-in-NoBytes-clause-buffers
returns-in-NoBytes-clause-buffers g c =
    let finds = c.loop-buffer-test.ensures.finds in
    text_ended _ c.loop-buffer.invariant.0 finds.1 finds.2 _ _ _ _ _ c.in-NoBytes.ensures.asks c.end_text.ensures.lines c.end_text.ensures.unread

pub returns-in-BadRead-clause-buffers : goal.returns-in-BadRead-clause-buffers
returns-in-BadRead-clause-buffers g c =
    let finds = c.loop-buffer-test.ensures.finds in
    source_failed _ c.loop-buffer.invariant.0 finds.1 finds.2 _ _ _ _ c.in-BadRead.ensures.asks c.in-BadRead.ensures.none

pub returns-in-PastBound-clause-buffers : goal.returns-in-PastBound-clause-buffers
returns-in-PastBound-clause-buffers g c =
    let finds = c.loop-buffer-test.ensures.finds in
    text_too_long _ c.loop-buffer.invariant.0 finds.1 finds.2 _ _ _ _ c.in-PastBound.ensures.asks c.in-PastBound.ensures.none
