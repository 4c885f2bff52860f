use Rattle.bt_lines.proofs.device.to_write.ToWrite.start.Given as goal

abbrev pub ghost-after : goal.ghost-after
ghost-after g a = g.before
