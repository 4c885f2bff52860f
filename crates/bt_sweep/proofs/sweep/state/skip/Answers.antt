use Rattle.bt_lines.proofs.Std.{arith, [], refl, ◌∙◌}
use Rattle.bt_sweep.proofs.lemmas.sweep.JoinLemmas.{lie_more}
use Rattle.bt_sweep.proofs.sweep.state.skip.Goals as goal

pub loop-next-init : goal.loop-next-init
loop-next-init g c = record { same = refl; given = ([], g.met.B.Cursor.gives_none _, tt) }

pub loop-next-preserved : goal.loop-next-preserved
loop-next-preserved g c =
    let so = c.loop-next.invariant.given in
    grind (arith, (lie_more _ so.0 (g.B.Record.Record.feature c.in-Some._next) so.2 (c.in-Some.ensures.on ∙ c.loop-next.invariant.same)))
