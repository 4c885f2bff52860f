use Rattle.std.proofs.Common.{◌≡◌, ◌≤◌, ◌-◌, drop, length, min, take, ℕ, List}
use Rattle.bt_lines.specs.calls.Device.{ReadsOn}
use Rattle.drop_in.specs.calls.Marks.{HasMark, overlap}
use Rattle.drop_in.proofs.marks.Mark.search.Given as goal

-- No mark is in what was read, of which the last bytes are kept.
abbrev pub invariant-loop : goal.invariant-loop
invariant-loop g l =
    (bytes : List ℕ) × ReadsOn g.S.Source.is_read l.fn.source bytes l.source × (¬ HasMark l.self bytes)
    × (l.kept ≡ min (length bytes) overlap) × (take l.kept l.block ≡ drop (length bytes - l.kept) bytes)
    × (l.counter ≤ length bytes)
