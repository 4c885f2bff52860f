use Rattle.bt_lines.proofs.Std.{arith, eqb, w8, ◌==◌, ◌||◌, ◌∙◌}
use Rattle.std.proofs.lemmas.Simd.{bitmask_splat}
use Rattle.bt_lines.proofs.lemmas.numbers.NumberLemmas.{or_masks}
use Rattle.bt_front.proofs.survey.byte_watch.mark_bits.Goals as goal

pub returns : goal.returns
returns c =
    let bytes = c.args.bytes in
    let size = c.fits-bytes.0 in
    rw (
      bitmask_splat w8 eqb bytes 64 0 size (omega arith),
      bitmask_splat w8 eqb bytes 64 13 size (omega arith),
      bitmask_splat w8 eqb bytes 64 35 size (omega arith),
      or_masks (λ x. x == 0) (λ x. x == 13) bytes,
    ) (or_masks (λ x. (x == 0) || (x == 13)) (λ x. x == 35) bytes)
