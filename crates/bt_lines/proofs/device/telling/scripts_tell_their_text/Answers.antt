use Rattle.bt_lines.proofs.Std.{refl}
use Rattle.bt_lines.proofs.lemmas.Device.{tells_text}
use Rattle.bt_lines.specs.calls.Device.{IsScriptRead, script_left}
use Rattle.bt_lines.proofs.device.telling.scripts_tell_their_text.Goals as goal

pub returns : goal.returns
returns c source = tells_text IsScriptRead script_left (λ before bytes after is. is.2) source _ refl
