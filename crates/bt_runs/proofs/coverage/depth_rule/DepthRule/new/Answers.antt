use Rattle.bt_lines.proofs.Std.{refl}
use Rattle.bt_runs.specs.calls.Covering.{kept_records, known_place, unfinished}
use Rattle.bt_runs.proofs.coverage.depth_rule.DepthRule.new.Goals as goal

pub returns-clause-stands : goal.returns-clause-stands
unfolding kept_records known_place unfinished
returns-clause-stands c = record { same_entries = refl; same_zeros = refl; same_strand = refl; place = refl; begun = refl; kept = refl; reached = tt }
