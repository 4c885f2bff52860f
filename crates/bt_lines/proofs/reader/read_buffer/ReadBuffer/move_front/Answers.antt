use Rattle.bt_lines.proofs.Std.{◌≡◌, arith, length, rules, subst, sym}
use Rattle.bt_lines.proofs.lemmas.reader.block.BufferLemmas.{front_to, length-range}
use Rattle.bt_lines.specs.inside.ReadBuffer.{unread}
use Rattle.bt_lines.specs.inside.Shape.{IsSearched}
use Rattle.bt_lines.proofs.reader.read_buffer.ReadBuffer.move_front.Goals as goal

pub invariant_of-self-clause-clear : goal.invariant_of-self-clause-clear
invariant_of-self-clause-clear c =
    let old = c.args.self.now in
    let size : length old.bytes ≡ 8192 = search rules in
    subst IsSearched (sym (front_to old.bytes _ old.whole old.searched old.end old.whole_searched old.searched_within (omega (arith, size, old.within)) c.copy_within.ensures.after)) old.clear

pub returns-clause-unread : goal.returns-clause-unread
unfolding unread
returns-clause-unread c = grind (arith, front_to)

pub returns-clause-end : goal.returns-clause-end
unfolding unread
returns-clause-end c = grind (arith, length-range)

pub returns-then-self-eq0-clause-end : goal.returns-then-self-eq0-clause-end
unfolding unread
returns-then-self-eq0-clause-end c = search rules
