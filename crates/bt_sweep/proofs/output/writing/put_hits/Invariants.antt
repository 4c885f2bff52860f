use Rattle.bt_lines.proofs.Std.{flat_map, take}
use Rattle.bt_lines.specs.calls.Output.{Grown}
use Rattle.bt_bed.specs.calls.Bed.{feature_lent}
use Rattle.bt_sweep.specs.model.Hits.{hits_among}
use Rattle.bt_sweep.specs.inside.Shapes.{shape_with}
use Rattle.bt_sweep.specs.model.Lines.{hit_line}
use Rattle.bt_sweep.proofs.output.writing.put_hits.Given as goal

-- the lines of those so far were put
abbrev pub invariant-loop-index : goal.invariant-loop-index
invariant-loop-index g l = Grown l.fn.out.output (flat_map (hit_line (shape_with l.shape) (feature_lent l.a.bed)) (hits_among l.rule (feature_lent l.a.bed) (take l.index (take l.count (g.H.Held.records l.held))))) l.out.output
