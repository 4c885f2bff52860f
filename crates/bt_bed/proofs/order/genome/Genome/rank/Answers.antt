use Rattle.bt_lines.proofs.Std.{◌∙◌}
use Rattle.bt_bed.proofs.lemmas.order.TableLemmas.{placed_by_rank}
use Rattle.bt_bed.specs.calls.GenomeTable.{entries}
use Rattle.bt_bed.proofs.order.genome.Genome.rank.Goals as goal

pub returns : goal.returns
unfolding entries
returns c = c.get_index_of.ensures.index ∙ placed_by_rank c.args.self.now.lengths.entries c.args.name.now
