use Rattle.bt_bed.specs.calls.Bed.{feature_lent}
use Rattle.bt_sweep.specs.calls.SweepView.{order_of}
use Rattle.bt_sweep.proofs.lemmas.sweep.KeepLemmas.{known_single}
use Rattle.bt_sweep.proofs.sweep.Sweep.give_a.Goals as goal

pub advance-requires-clause-known_a : goal.advance-requires-clause-known_a
advance-requires-clause-known_a g c = known_single (order_of c.args.self.now) c.new.result (feature_lent c.args.a.now) c.new.ensures.left c.requires.known
