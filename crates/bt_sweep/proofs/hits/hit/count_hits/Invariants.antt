use Rattle.bt_lines.proofs.Std.{◌≡◌, ◌≤◌, length, take}
use Rattle.bt_bed.specs.calls.Bed.{feature_lent}
use Rattle.bt_sweep.specs.model.Hits.{hits_among}
use Rattle.bt_sweep.proofs.hits.hit.count_hits.Given as goal

abbrev pub invariant-loop-index : goal.invariant-loop-index
invariant-loop-index g l = record {
  counted : l.hits ≡ length (hits_among l.rule (feature_lent l.a) (take l.index (take l.count (g.H.Held.records l.held))));
  few : l.hits ≤ l.index;
}
