use Rattle.bt_lines.proofs.Std.{ltb, cond, refl, splat_is_map, zip2_of_maps, zip2_splat}
use Rattle.bt_seq.specs.model.Masked.{masked_byte}
use Rattle.bt_seq.specs.declared.mask.mask_how.MaskHow.TheVariants.{Soft}
use Rattle.bt_seq.proofs.lemmas.mask.bases.MaskingLemmas.{chosen_lanes}
use Rattle.bt_seq.proofs.mask.mask_how.lower_lanes.Goals as goal

pub returns : goal.returns
returns c =
    let v = c.args.lanes in
    let long = c.fits-lanes.0 in
    chosen_lanes _ _ (masked_byte Soft) v c.fits-lanes.1
    (zip2_of_maps (λ a b. cond (ltb a b) 255 0) _ _ v (zip2_splat _ v 32 65 long) (splat_is_map v 32 26 long))
    (zip2_splat _ v 32 32 long)
    refl
