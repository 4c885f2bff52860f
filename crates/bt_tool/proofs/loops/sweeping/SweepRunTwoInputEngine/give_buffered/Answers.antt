use Rattle.bt_lines.proofs.Std.{sym, ◌∙◌}
use Rattle.bt_tool.proofs.lemmas.running.sweep.SweepRounds.{gave_both}
use Rattle.bt_tool.proofs.loops.sweeping.SweepRunTwoInputEngine.give_buffered.Goals as goal

pub advance_buffered-requires-clause-order : goal.advance_buffered-requires-clause-order
advance_buffered-requires-clause-order g c = let s = c.requires.2 in s.order_is ∙ sym s.sweeps.first_order

pub advance_buffered-requires-clause-second : goal.advance_buffered-requires-clause-second
advance_buffered-requires-clause-second g c = let s = c.requires.2 in s.order_is ∙ sym (s.sweeps.second_order ∙ s.begun.same_order)

pub returns : goal.returns
returns g c = λ start out s.
    gave_both s
    (record { first = c.advance_buffered.new.first; second = c.advance_buffered.new.second; sweep = c.advance_buffered.new.sweep }) c.advance_buffered.new.out.output c.advance_buffered.result c.advance_buffered.ensures.order c.advance_buffered.ensures.advances
