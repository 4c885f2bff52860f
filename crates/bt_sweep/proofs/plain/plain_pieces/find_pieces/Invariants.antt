use Rattle.bt_lines.proofs.Std.{◌≡◌, ◌-◌}
use Rattle.bt_bed.specs.calls.Bed.{feature_lent}
use Rattle.bt_bed.specs.calls.Stretches.{stretches_from}
use Rattle.bt_sweep.specs.model.Hits.{hits_among}
use Rattle.bt_sweep.specs.model.Lines.{is_left}
use Rattle.bt_sweep.specs.inside.Pieces.{pieces_in}
use Rattle.bt_sweep.proofs.plain.plain_pieces.find_pieces.Given as goal

-- the pieces of the positions so far, from the last one on
abbrev pub invariant-loop-passed : goal.invariant-loop-passed
invariant-loop-passed l =
    pieces_in l.found.items ≡ stretches_from (is_left (feature_lent l.a) (hits_among l.rule (feature_lent l.a) l.second)) (l.a.stop - l.passed) l.passed
