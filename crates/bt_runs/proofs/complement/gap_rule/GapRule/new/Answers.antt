use Rattle.bt_lines.proofs.Std.{refl}
use Rattle.bt_runs.specs.calls.Complementing.{kept_place}
use Rattle.bt_runs.proofs.complement.gap_rule.GapRule.new.Goals as goal

pub returns-clause-stands : goal.returns-clause-stands
unfolding kept_place
returns-clause-stands c = record { same_entries = refl; same_limit = refl; kept = refl }
