use Rattle.bt_lines.proofs.Std.{Option, ap, option_map, option_to_list}
use Rattle.bt_bed.specs.calls.Bed.{feature_lent, single_left}
use Rattle.bt_bed.specs.declared.record.bed.BedRef.{BedRef}
use Rattle.bt_bed.proofs.read.cursor.Single.is_empty.Goals as goal

pub returns-in-Some-clause-some : goal.returns-in-Some-clause-some
unfolding single_left
returns-in-Some-clause-some c = λ e. (feature_lent c.in-Some.field-0, ap (λ (o : Option BedRef). option_to_list (option_map feature_lent o)) c.in-Some.is)
