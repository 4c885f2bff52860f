use Rattle.bt_lines.proofs.Std.{◌∙◌, ap, map, sym, splat_is_map}
use Rattle.bt_seq.specs.model.Masked.{masked_byte}
use Rattle.bt_seq.proofs.mask.mask_how.mask_lanes.Goals.{in-Soft, in-Hard}
use Rattle.bt_seq.proofs.mask.mask_how.mask_lanes.Goals as goal

pub returns : goal.returns
returns c =
    elim c.match-how.branch [
      | in-Soft w ↦ w.result-is ∙ w.lower_lanes.ensures ∙ ap (λ how. map (masked_byte how) c.args.lanes) (sym w.in-Soft.is)
      | in-Hard w ↦ w.result-is ∙ splat_is_map c.args.lanes 32 _ c.fits-lanes.0 ∙ ap (λ how. map (masked_byte how) c.args.lanes) (sym w.in-Hard.is)
    ]
