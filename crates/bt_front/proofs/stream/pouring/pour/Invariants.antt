use Rattle.std.proofs.Common.{◌≡◌, ℕ, List, ◌++◌}
use Rattle.bt_lines.specs.calls.Device.{ReadsOn}
use Rattle.bt_front.proofs.stream.pouring.pour.Given as goal

-- The taker has what was kept, and what the stream gave so far.
abbrev pub invariant-loop : goal.invariant-loop
invariant-loop g l =
    (bytes : List ℕ) × ReadsOn g.S.Source.is_read l.fn.stream bytes l.stream
    × (l.taker.output.put ≡ l.fn.taker.output.put ++ (l.kept ++ bytes))
    × (l.taker.output.took ≡ l.taker.output.put)
