use Rattle.bt_lines.proofs.Std.{◌∙◌, sym}
use Rattle.bt_bed.specs.calls.GenomeTable.{entries}
use Rattle.bt_front.proofs.lemmas.order.FittingLemmas.{next_longer, one_longer}
use Rattle.bt_front.proofs.order.fitting.has_longer.Goals as goal

pub returns-then-length : goal.returns-then-length
returns-then-length c =
    sym (one_longer (entries c.args.genome.now) c.loop-rank.rank c.args.length c.length.result c.length.ensures.is c.if-length.true)
    ∙ c.loop-rank.invariant

pub loop-rank-preserved : goal.loop-rank-preserved
loop-rank-preserved c =
    sym (next_longer (entries c.args.genome.now) c.loop-rank.rank c.args.length c.length.result c.length.ensures.is c.if-length.false)
    ∙ c.loop-rank.invariant
