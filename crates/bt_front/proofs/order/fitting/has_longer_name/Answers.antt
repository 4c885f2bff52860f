use Rattle.bt_lines.proofs.Std.{◌∙◌, sym}
use Rattle.bt_bed.specs.calls.GenomeTable.{names_of}
use Rattle.bt_front.proofs.lemmas.order.FittingLemmas.{next_longer_name, one_longer_name}
use Rattle.bt_front.proofs.order.fitting.has_longer_name.Goals as goal

pub returns-then-most-name : goal.returns-then-most-name
returns-then-most-name c =
    sym (one_longer_name (names_of c.args.genome.now) c.loop-rank.rank c.args.most c.name.result.now c.name.ensures c.if-most-name.true)
    ∙ c.loop-rank.invariant

pub loop-rank-preserved : goal.loop-rank-preserved
loop-rank-preserved c =
    sym (next_longer_name (names_of c.args.genome.now) c.loop-rank.rank c.args.most c.name.result.now c.name.ensures c.if-most-name.false)
    ∙ c.loop-rank.invariant
