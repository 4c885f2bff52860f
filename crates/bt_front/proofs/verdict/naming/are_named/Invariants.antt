use Rattle.bt_lines.proofs.Std.{◌≡◌, drop, list_all}
use Rattle.bt_front.specs.model.Extents.{names_in}
use Rattle.bt_front.specs.model.Verdict.{is_named}
use Rattle.bt_front.proofs.verdict.naming.are_named.Given as goal

abbrev pub invariant-loop-at : goal.invariant-loop-at
invariant-loop-at l =
    list_all (is_named l.way) (drop l.at (names_in l.chromosomes)) ≡ list_all (is_named l.way) (names_in l.chromosomes)
