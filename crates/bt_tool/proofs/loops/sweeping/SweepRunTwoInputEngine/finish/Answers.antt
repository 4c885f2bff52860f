use Rattle.bt_tool.proofs.lemmas.running.sweep.SweepRounds.{finished}
use Rattle.bt_tool.proofs.loops.sweeping.SweepRunTwoInputEngine.finish.Goals as goal

pub returns : goal.returns
returns g c = λ grown start out s.
    finished s c.check_rest.result c.requires c.check_rest.new.second c.check_rest.ensures.reads c.check_rest.ensures.none_kept c.check_rest.ensures.kept
