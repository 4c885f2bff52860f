use Rattle.bt_lines.proofs.Std.{◌≡◌, ◌-◌, ◌^◌, [], vec_capacity}
use Rattle.bt_lines.specs.inside.ReadBuffer.{complete, unread}
use Rattle.bt_lines.proofs.lemmas.reader.block.BufferLemmas.{ReadSoFar}
use Rattle.bt_lines.proofs.reader.spill.read_lines.Given as goal

abbrev pub invariant-loop-buffer : goal.invariant-loop-buffer
invariant-loop-buffer g l =
    ReadSoFar g.S.Source l.initial.source (unread l.initial.buffer) l.initial.taken l.source (unread l.buffer) l.taken
    × (complete l.buffer ≡ [])
    × (vec_capacity l.buffer.spilled ≡ vec_capacity l.initial.buffer.spilled)

abbrev pub decreases-loop-buffer : goal.decreases-loop-buffer
decreases-loop-buffer g l = 2 ^ 63 - l.taken
