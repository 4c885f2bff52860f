use Rattle.bt_lines.proofs.Std.{◌≡◌, ◌++◌, flat_map, length}
use Rattle.bt_bed.specs.calls.Bed.{feature_lent}
use Rattle.bt_sweep.specs.model.Lines.{piece_line}
use Rattle.bt_sweep.specs.inside.Pieces.{pieces_in}
use Rattle.bt_sweep.proofs.plain.write_pieces.Given as goal

-- what is written, with those pieces that aren't yet
abbrev pub invariant-loop-start : goal.invariant-loop-start
invariant-loop-start l =
    l.text.items ++ flat_map (piece_line (feature_lent l.a)) (pieces_in l.found.items)
    ≡ l.initial.text.items ++ flat_map (piece_line (feature_lent l.a)) (pieces_in l.initial.found.items)

abbrev pub decreases-loop-start : goal.decreases-loop-start
decreases-loop-start l = length l.found.items
