use Rattle.bt_lines.proofs.Std.{◌≡◌, ◌∙◌, ap, arith, nat_le, nat_tests, true}
use Rattle.bt_bed.specs.calls.Bed.{feature_lent}
use Rattle.bt_seq.specs.calls.MaskState.{Masking}
use Rattle.bt_seq.proofs.lemmas.mask.bases.MaskingLemmas.{wrote_line}
use Rattle.bt_seq.proofs.mask.mask_state.MaskState.take_bed.Goals as goal

pub returns-clause-takes : goal.returns-clause-takes
returns-clause-takes g c = λ line is.
    let ends : nat_le c.bases.result c.in-Some.to ≡ true = grind (arith, nat_tests) in
    wrote_line (feature_lent c.args.bed.now) line c.in-Some.ensures.to c.self.view_is c.owner-owner.ensures.owner c.owner-owner.ensures.next
    (rw c.bases.ensures.bases at (c.in-Some.ensures.decides c.bases.result c.bases.ensures.counted ∙ ends))
    (c.in_ok-write.ensures.writes line (ap (λ (m : Masking). m.waiting) c.self.view_is ∙ is))
