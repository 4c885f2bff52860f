use Rattle.bt_lines.proofs.Std.{arith, eqb, w8}
use Rattle.std.proofs.lemmas.Simd.{bitmask_splat}
use Rattle.bt_front.proofs.survey.byte_watch.feed_bits.Goals as goal

pub returns : goal.returns
returns c = bitmask_splat w8 eqb c.args.bytes 64 10 c.fits-bytes.0 (omega arith)
