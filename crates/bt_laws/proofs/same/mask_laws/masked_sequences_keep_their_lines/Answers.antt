use Rattle.bt_laws.proofs.lemmas.same.MaskTwice.{goes_on, layout_kept}
use Rattle.bt_laws.proofs.same.mask_laws.masked_sequences_keep_their_lines.Goals as goal

pub returns-clause-layout : goal.returns-clause-layout
returns-clause-layout c = layout_kept

pub returns-clause-next : goal.returns-clause-next
returns-clause-next c = goes_on
