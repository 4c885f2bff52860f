use Rattle.bt_lines.proofs.Std.{◌∙◌}
use Rattle.bt_sweep.proofs.lemmas.sweep.KeepLemmas.{known_later}
use Rattle.bt_sweep.proofs.sweep.tests.batches.give_both.Goals as goal

pub advance-requires-2-clause-known_a : goal.advance-requires-2-clause-known_a
advance-requires-2-clause-known_a g c =
    let so = c.in_ok-advance.ensures.advances.0.proceeds in
    known_later g.A.Cursor so.firsts g.met.A.Cursor.gives_more (c.end_second_if_wanted.ensures ∙ c.advance.ensures.order) c.requires.known_a so.gives_firsts

pub advance-requires-2-clause-known_b : goal.advance-requires-2-clause-known_b
advance-requires-2-clause-known_b g c =
    let so = c.in_ok-advance.ensures.advances.0.proceeds in
    known_later g.B.Cursor so.seconds g.met.B.Cursor.gives_more (c.end_second_if_wanted.ensures ∙ c.advance.ensures.order) c.requires.known_b so.gives_seconds
