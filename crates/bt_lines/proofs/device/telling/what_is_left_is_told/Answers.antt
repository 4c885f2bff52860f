use Rattle.bt_lines.proofs.lemmas.Device.{left_told}
use Rattle.bt_lines.proofs.device.telling.what_is_left_is_told.Goals as goal

pub returns : goal.returns
returns g c = left_told g.S.Source.is_read
