use Rattle.bt_lines.proofs.lemmas.Device.{tells_text}
use Rattle.bt_lines.specs.calls.Device.{IsReaderRead, reader_of}
use Rattle.bt_lines.proofs.device.telling.readers_tell_their_text.Goals as goal

pub returns : goal.returns
returns g c = tells_text (IsReaderRead g.R.Read.remaining) (λ s. g.R.Read.remaining (reader_of s)) (λ before bytes after is. is.1)
