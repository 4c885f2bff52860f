use Rattle.bt_lines.proofs.Std.{refl}
use Rattle.std.specs.Fmt.{digits}
use Rattle.bt_bed.specs.calls.Stretches.{stretches_from, with_position}
use Rattle.bt_sweep.specs.model.Hits.{has_fraction, is_hit, is_enough, strands_agree}
use Rattle.bt_sweep.specs.model.Lines.{lines_for, pieces}
use Rattle.bt_laws.proofs.sweeps.small_inputs_meet.Goals as goal

pub returns : goal.returns
unfolding lines_for is_hit strands_agree is_enough has_fraction pieces stretches_from with_position digits
returns c = record {
  undecided = λ fault. refl;
  first = λ fault other. refl;
  parts = refl;
  half = refl;
  whole = refl;
}
