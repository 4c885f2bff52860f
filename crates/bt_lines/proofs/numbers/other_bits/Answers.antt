use Rattle.bt_lines.proofs.Std.{◌%◌, ◌^◌, ◌∙◌, ap, arith, ltb, replicate, sym, w8, length-map, mask_l-mod, tops_compared, zip2_splat, mask_l}
use Rattle.bt_lines.proofs.lemmas.numbers.NumberLemmas.{or_masks, splat_before}
use Rattle.bt_lines.proofs.numbers.other_bits.Goals as goal
use lib.Lanes.{zip2}

pub returns : goal.returns
returns c =
    let bytes = c.args.bytes in
    let size = c.fits-bytes.0 in
    let below = ap (λ ms. mask_l ms % 2 ^ 64) (tops_compared w8 ltb bytes (replicate 8 48) ∙ zip2_splat ltb bytes 8 48 size)
    ∙ mask_l-mod _ 64 (omega (arith, length-map bytes (λ b. ltb b 48), size)) in
    let above = ap (λ ms. mask_l ms % 2 ^ 64) (tops_compared w8 ltb (replicate 8 57) bytes ∙ ap (λ n. zip2 ltb (replicate n 57) bytes) (sym size) ∙ splat_before ltb 57 bytes)
    ∙ mask_l-mod _ 64 (omega (arith, length-map bytes (λ b. ltb 57 b), size)) in
    rw (below, above) (or_masks (λ b. ltb b 48) (λ b. ltb 57 b) bytes)
