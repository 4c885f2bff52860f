use Rattle.bt_lines.proofs.Std.{◌≡◌, ◌≤◌, ◌<◌, ◌+◌, arith, length, rules, set, slice_range, subst, sym, drop-append-le, length-take-le, take_more_set}
use Rattle.bt_lines.proofs.lemmas.reader.block.BufferLemmas.{are_in_block, end_added, fed_push, length-range, none_searched, closed_some, range_drop}
use Rattle.bt_lines.specs.inside.ReadBuffer.{complete, unread}
use Rattle.bt_lines.specs.inside.Shape.{AreComplete}
use Rattle.bt_lines.proofs.reader.read_buffer.ReadBuffer.end_text.Goals as goal

pub invariant_of-self-clause-within : goal.invariant_of-self-clause-within
unfolding unread
invariant_of-self-clause-within c = search rules

pub invariant_of-self-clause-clear : goal.invariant_of-self-clause-clear
invariant_of-self-clause-clear c = none_searched (set c.args.self.now.bytes c.args.self.now.end 10) (c.args.self.now.end + 1)

pub invariant_of-self-clause-are_complete : goal.invariant_of-self-clause-are_complete
unfolding unread
invariant_of-self-clause-are_complete c =
    let old = c.args.self.now in
    let size : length old.bytes ≡ 8192 = search rules in
    let ordered : old.whole ≤ old.end = omega (arith, old.whole_searched, old.searched_within) in
    let fits : old.end ≤ length old.bytes = omega (arith, size, old.within) in
    let below : old.end < length old.bytes = omega (arith, size, length-range old.bytes old.whole old.end fits, c.requires.front, c.requires.room) in
    subst (AreComplete _) (sym (end_added old.bytes old.whole old.end ordered below)) (are_in_block _ (fed_push (slice_range old.bytes old.whole old.end)))

pub returns-clause-lines : goal.returns-clause-lines
unfolding complete unread
returns-clause-lines c = grind (arith, length-range, range_drop, take_more_set, drop-append-le, length-take-le, closed_some)
