use Rattle.bt_lines.proofs.Std.{arith, subst, sym, drop-drop, length-drop, length-take}
use Rattle.bt_lines.proofs.lemmas.reader.block.BufferLemmas.{are_dropped, consumed, gone_more}
use Rattle.bt_lines.specs.inside.ReadBuffer.{complete, gone}
use Rattle.bt_lines.specs.inside.Shape.{AreComplete}
use Rattle.bt_lines.proofs.reader.read_buffer.ReadBuffer.consume.Goals as goal

pub invariant_of-self-clause-ordered : goal.invariant_of-self-clause-ordered
unfolding complete
invariant_of-self-clause-ordered c = grind (arith, length-drop, length-take)

pub invariant_of-self-clause-are_complete : goal.invariant_of-self-clause-are_complete
unfolding complete
invariant_of-self-clause-are_complete c =
    let old = c.args.self.now in
    subst (AreComplete old.is_spilled) (sym (grind (arith, drop-drop, consumed, length-take)))
    (are_dropped old.is_spilled _ c.args.count old.are_complete)

pub returns-clause-lines : goal.returns-clause-lines
unfolding complete
returns-clause-lines c = grind (arith, drop-drop, consumed, length-take)

pub returns-clause-gone : goal.returns-clause-gone
unfolding complete gone
returns-clause-gone c = gone_more c.args.self.now.is_spilled _ _ c.args.self.now.start c.args.self.now.whole c.args.count c.requires
