use Rattle.bt_lines.proofs.Std.{◌≡◌, drop, length, list_any, ltb}
use Rattle.bt_bed.specs.calls.GenomeTable.{names_of}
use Rattle.bt_front.proofs.order.fitting.has_longer_name.Given as goal

abbrev pub invariant-loop-rank : goal.invariant-loop-rank
invariant-loop-rank l =
    list_any (λ name. ltb l.most (length name)) (drop l.rank (names_of l.genome)) ≡ list_any (λ name. ltb l.most (length name)) (names_of l.genome)
