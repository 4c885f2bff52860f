use Rattle.bt_lines.proofs.Std.{arith}
use Rattle.bt_seq.specs.model.Masked.{masked_byte}
use Rattle.bt_seq.proofs.lemmas.mask.bases.MaskingLemmas.{one_mapped}
use Rattle.bt_seq.proofs.mask.mask_how.mask_each.Goals as goal

pub loop-base-preserved : goal.loop-base-preserved
loop-base-preserved c = grind (arith, (one_mapped (masked_byte c.args.how) c.args.bases.now (c.loop-base.base-index) c.loop-base-test.true))
