use Rattle.bt_lines.proofs.Std.{sym, ◌∙◌}
use Rattle.bt_sweep.specs.calls.SweepView.{order_of}
use Rattle.bt_sweep.proofs.lemmas.sweep.KeepLemmas.{known_batch}
use Rattle.bt_sweep.proofs.sweep.tests.batches.give_buffered.Goals as goal

pub give_both-requires-clause-known_a : goal.give_both-requires-clause-known_a
give_both-requires-clause-known_a g c = known_batch c.fill.new.self c.buffered-a.result c.buffered-a.ensures.lends (order_of c.args.sweep.now) (c.requires.first ∙ sym c.fill.ensures.order)

pub give_both-requires-clause-known_b : goal.give_both-requires-clause-known_b
give_both-requires-clause-known_b g c = known_batch c.fill-2.new.self c.buffered-b.result c.buffered-b.ensures.lends (order_of c.args.sweep.now) (c.requires.second ∙ sym c.fill-2.ensures.order)
