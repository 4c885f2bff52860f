use Rattle.bt_lines.proofs.Std.{◌≡◌, drop, list_any, ltb}
use Rattle.bt_bed.specs.calls.GenomeTable.{entries}
use Rattle.bt_front.proofs.order.fitting.has_longer.Given as goal

abbrev pub invariant-loop-rank : goal.invariant-loop-rank
invariant-loop-rank l =
    list_any (λ entry. ltb l.length entry.length) (drop l.rank (entries l.genome)) ≡ list_any (λ entry. ltb l.length entry.length) (entries l.genome)
