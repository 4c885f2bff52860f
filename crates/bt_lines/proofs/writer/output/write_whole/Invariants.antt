use Rattle.bt_lines.proofs.Std.{◌≡◌, ℕ, List, ◌++◌, length}
use Rattle.bt_lines.proofs.writer.output.write_whole.Given as goal

-- the sink has taken the piece except the rest
abbrev pub invariant-loop-rest : goal.invariant-loop-rest
invariant-loop-rest g l =
    (taken : List ℕ) × (l.piece ≡ taken ++ l.rest)
    × (g.K.Sink.took l.sink ≡ g.K.Sink.took l.initial.sink ++ taken)
    × (g.K.Sink.has_failed l.sink ≡ g.K.Sink.has_failed l.initial.sink)

abbrev pub decreases-loop-rest : goal.decreases-loop-rest
decreases-loop-rest g l = length l.rest
