use Rattle.bt_lines.proofs.Std.{◌≡◌, ◌-◌, ◌^◌, ◌≤◌, [], false, vec_capacity}
use Rattle.bt_lines.specs.inside.ReadBuffer.{complete, unread}
use Rattle.bt_lines.proofs.lemmas.reader.block.BufferLemmas.{SoFar}
use Rattle.bt_lines.proofs.reader.spill.read_long.Given as goal

abbrev pub invariant-reads : goal.invariant-reads
invariant-reads g l =
    SoFar g.S.Source l.initial.source (unread l.initial.buffer) l.initial.taken l.source (unread l.buffer) l.buffer.spilled.items l.taken
    × (complete l.buffer ≡ []) × (l.buffer.is_spilled ≡ false)
    × (vec_capacity l.initial.buffer.spilled ≤ vec_capacity l.buffer.spilled)

abbrev pub decreases-reads : goal.decreases-reads
decreases-reads g l = 2 ^ 63 - l.taken
