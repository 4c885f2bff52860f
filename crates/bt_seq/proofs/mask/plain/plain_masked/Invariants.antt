use Rattle.bt_lines.proofs.Std.{◌+◌, ◌++◌, ◌≡◌, drop}
use Rattle.bt_seq.specs.model.Masked.{masked_from}
use Rattle.bt_seq.proofs.mask.plain.plain_masked.Given as goal

-- what is masked so far, and then the rest masked, are all
abbrev pub invariant-loop-base : goal.invariant-loop-base
invariant-loop-base l =
    (l.position ≡ l.before + l.base-index)
    × (l.masked.items ++ masked_from l.how l.records l.position (drop l.base-index l.bases) ≡ masked_from l.how l.records l.before l.bases)
