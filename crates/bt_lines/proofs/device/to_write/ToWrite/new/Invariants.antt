use Rattle.bt_lines.specs.calls.Device.{known_or_none}
use Rattle.bt_lines.proofs.device.to_write.ToWrite.new.Given as goal

abbrev pub ghost-start : goal.ghost-start
ghost-start g a = known_or_none (g.W.Write.contents a.writer)
