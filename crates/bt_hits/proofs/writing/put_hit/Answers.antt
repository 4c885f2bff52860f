use Rattle.bt_lines.proofs.Std.{◌≡◌, ℕ, [], ◌∷◌, subst, decimal}
use Rattle.bt_lines.specs.calls.Output.{Puts}
use Rattle.bt_bed.specs.calls.Bed.{feature_lent}
use Rattle.bt_bed.specs.model.BedLine.{bed_text}
use Rattle.bt_sweep.specs.model.Hits.{shared_bases}
use Rattle.bt_sweep.specs.model.Lines.{line_with}
use Rattle.bt_sweep.proofs.lemmas.Output.{hit_shares, line_adds}
use Rattle.bt_hits.proofs.writing.put_hit.Goals as goal

pub returns-in-Overlap : goal.returns-in-Overlap
returns-in-Overlap g c =
    let a = feature_lent c.args.a.now in
    let b = feature_lent c.args.b.now in
    let size : c.saturating_sub.result ≡ shared_bases a b = cc (c.saturating_sub.ensures, c.min-stop.ensures, c.max-start.ensures, hit_shares a b c.requires.shares) in
    rw c.in-Overlap.is (line_adds (bed_text a ∷ bed_text b ∷ decimal (shared_bases a b) ∷ []) _ _ c.put_overlap.result
    (subst (λ (n : ℕ). Puts c.args.out.now.output (line_with (bed_text a ∷ bed_text b ∷ decimal n ∷ [])) c.put_overlap.result c.put_overlap.new.out.output) size c.put_overlap.ensures))
