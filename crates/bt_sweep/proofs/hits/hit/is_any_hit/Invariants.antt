use Rattle.bt_lines.proofs.Std.{◌≡◌, false, take, list_any}
use Rattle.bt_bed.specs.calls.Bed.{feature_lent}
use Rattle.bt_sweep.specs.model.Hits.{is_hit}
use Rattle.bt_sweep.proofs.hits.hit.is_any_hit.Given as goal

-- none so far hits the record
abbrev pub invariant-loop-index : goal.invariant-loop-index
invariant-loop-index g l = list_any (is_hit l.rule (feature_lent l.a)) (take l.index (g.H.Held.records l.held)) ≡ false
