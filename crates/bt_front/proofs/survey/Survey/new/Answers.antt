use Rattle.bt_lines.proofs.Std.{refl}
use Rattle.bt_front.specs.model.Survey.{extents_of}
use Rattle.bt_front.proofs.survey.Survey.new.Goals as goal

pub returns : goal.returns
unfolding extents_of
returns c = record { plain = refl; together = refl; chromosomes = c.new.ensures; seen = c.new-2.ensures }
