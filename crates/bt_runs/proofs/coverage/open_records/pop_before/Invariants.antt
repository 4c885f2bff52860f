use Rattle.bt_lines.proofs.Std.{heap_items, heap_len}
use Rattle.bt_runs.specs.inside.Coverage.{CountsFrom, IsLeastFirst, ends_of}
use Rattle.bt_runs.proofs.coverage.open_records.pop_before.Given as goal

-- only ends before the position were taken out so far
abbrev pub invariant-loop-ends : goal.invariant-loop-ends
invariant-loop-ends l = record {
  order : IsLeastFirst (heap_items l.ends);
  counts : CountsFrom l.position (ends_of (heap_items l.fn.ends)) (ends_of (heap_items l.ends));
}

abbrev pub decreases-loop-ends : goal.decreases-loop-ends
decreases-loop-ends l = heap_len l.ends
