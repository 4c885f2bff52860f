use Rattle.bt_lines.proofs.Std.{arith, ap, ◌∙◌, take}
use Rattle.drop_in.proofs.lemmas.MarkLemmas.{moved_last}
use Rattle.drop_in.proofs.marks.keep_last.Goals as goal

pub returns-clause-last : goal.returns-clause-last
returns-clause-last c =
    ap (take c.min-kept.result) c.copy_within.ensures.after
    ∙ moved_last c.args.block.now c.args.end c.min-kept.result c.requires (omega (arith, c.min-kept.ensures))
