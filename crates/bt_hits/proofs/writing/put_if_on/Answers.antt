use Rattle.bt_lines.proofs.Std.{sym, ◌∙◌}
use Rattle.bt_hits.proofs.lemmas.Writing.{on_shares}
use Rattle.bt_hits.proofs.writing.put_if_on.Goals as goal

pub put_hit-requires-clause-shares : goal.put_hit-requires-clause-shares
put_hit-requires-clause-shares g c =
    on_shares c.args.listing.rule c.args.level c.args.a.now c.in-Some.b.now _ _ c.as_bed.ensures c.as_bed-2.ensures (sym c.is_hit_on.ensures ∙ c.if-not-is_hit_on.false)
