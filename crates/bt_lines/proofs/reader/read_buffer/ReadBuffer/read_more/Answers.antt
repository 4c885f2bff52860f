use Rattle.bt_lines.proofs.Std.{◌+◌, ◌∙◌, ◌++◌, ℕ, List, ap, arith, slice_range}
use Rattle.bt_lines.proofs.lemmas.reader.block.BufferLemmas.{behind_read, front_same, range_same}
use Rattle.bt_lines.specs.inside.ReadBuffer.{unread}
use Rattle.bt_lines.proofs.reader.read_buffer.ReadBuffer.read_more.Goals as goal

pub invariant_of-self : goal.invariant_of-self
invariant_of-self g c =
    let mid = c.move_front.new.self in
    record {
      ordered = mid.ordered;
      whole_searched = mid.whole_searched;
      searched_within = mid.searched_within;
      within = mid.within;
      clear = front_same mid.bytes _ mid.whole mid.searched mid.end c.in_err-count.ensures.before mid.whole_searched mid.searched_within mid.clear;
      are_complete = grind (arith, range_same);
    }

pub invariant_of-self-2-clause-clear : goal.invariant_of-self-2-clause-clear
invariant_of-self-2-clause-clear g c =
    let mid = c.move_front.new.self in
    front_same mid.bytes _ mid.whole mid.searched mid.end c.in_ok-count.ensures.before mid.whole_searched mid.searched_within mid.clear

pub returns-clause-bytes : goal.returns-clause-bytes
unfolding unread
returns-clause-bytes g c =
    let mid = c.move_front.new.self in
    let ensures = c.in_ok-count.ensures in
    let both = behind_read mid.bytes _ mid.whole mid.end c.in_ok-count.count (omega (arith, mid.whole_searched, mid.searched_within)) ensures.before (omega (arith, ensures.size, ensures.count, c.min-most.ensures, mid.within)) in
    let count : ℕ = c.in_ok-count.count in
    let bytes : List ℕ = c.read_behind.new.bytes in
    (omega (arith, ensures.count, c.min-most.ensures), (slice_range bytes mid.end (mid.end + count), both.0, both.1 ∙ ap (λ l. l ++ slice_range bytes mid.end (mid.end + count)) c.move_front.ensures.unread, ensures.handed))
