use Rattle.bt_lines.proofs.Std.{◌≡◌, arith, length, rules}
use Rattle.bt_lines.proofs.lemmas.reader.block.BufferLemmas.{found, not_found}
use Rattle.bt_lines.specs.inside.ReadBuffer.{complete, unread}
use Rattle.bt_lines.proofs.reader.read_buffer.ReadBuffer.find_lines.Goals as goal

pub invariant_of-self : goal.invariant_of-self
invariant_of-self c =
    let old = c.args.self.now in
    record {
      ordered = old.ordered;
      whole_searched = omega (arith, old.whole_searched, old.searched_within);
      searched_within = omega arith;
      within = old.within;
      clear = record { clear = not_found old.bytes old.whole old.searched old.end old.whole_searched old.searched_within old.clear c.in_default.ensures };
      are_complete = old.are_complete;
    }

pub invariant_of-self-2 : goal.invariant_of-self-2
invariant_of-self-2 c =
    let old = c.args.self.now in
    let size : length old.bytes ≡ 8192 = search rules in
    let is = found old.bytes old.whole old.searched old.end c.in-Some.last old.whole_searched old.searched_within (omega (arith, size, old.within)) c.in-Some.ensures in
    record {
      ordered = omega (arith, old.whole_searched);
      whole_searched = omega (arith, is.inside);
      searched_within = omega arith;
      within = old.within;
      clear = is.clear;
      are_complete = is.are;
    }

pub returns-clause-finds : goal.returns-clause-finds
unfolding complete unread
returns-clause-finds c =
    let old = c.args.self.now in
    let size : length old.bytes ≡ 8192 = search rules in
    let is = found old.bytes old.whole old.searched old.end c.in-Some.last old.whole_searched old.searched_within (omega (arith, size, old.within)) c.in-Some.ensures in
    (is.split, is.some)
