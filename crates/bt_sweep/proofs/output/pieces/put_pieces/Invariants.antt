use Rattle.bt_lines.proofs.Std.{◌≡◌, take}
use Rattle.bt_lines.specs.calls.Output.{Grown}
use Rattle.bt_bed.specs.calls.Bed.{feature_lent}
use Rattle.bt_sweep.specs.model.Hits.{hits_among}
use Rattle.bt_sweep.specs.inside.Pieces.{free_after, lines_before}
use Rattle.bt_sweep.proofs.output.pieces.put_pieces.Given as goal

-- the pieces before those so far were put
abbrev pub invariant-loop-index : goal.invariant-loop-index
invariant-loop-index g l = record {
  reached : l.free ≡ free_after l.a.start (hits_among l.rule (feature_lent l.a) (take l.index (take l.count (g.H.Held.records l.held))));
  put : Grown l.fn.out.output (lines_before (feature_lent l.a) l.a.start (hits_among l.rule (feature_lent l.a) (take l.index (take l.count (g.H.Held.records l.held))))) l.out.output;
}
