use Rattle.bt_lines.proofs.Std.{inl, sym, ◌∙◌}
use Rattle.bt_sweep.proofs.lemmas.sweep.StandLemmas.{advances_none}
use Rattle.bt_sweep.proofs.sweep.Sweep.advance.Goals as goal

pub returns-in-Nothing-clause-advances : goal.returns-in-Nothing-clause-advances
returns-in-Nothing-clause-advances g c = (advances_none (g.met.A.Cursor.gives_none _) (g.met.B.Cursor.gives_none _), inl (rw (sym c.want.ensures ∙ c.in-Nothing.is) tt))
