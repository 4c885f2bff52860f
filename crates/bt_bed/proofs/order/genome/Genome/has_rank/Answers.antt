use Rattle.bt_lines.proofs.Std.{ℕ, List, Some, ap, sym, ◌∙◌}
use Rattle.bt_bed.proofs.lemmas.order.TableLemmas.{ranked_at}
use Rattle.bt_bed.proofs.lemmas.parse.NameLemmas.{same_name}
use Rattle.bt_bed.specs.calls.GenomeTable.{entries}
use Rattle.bt_bed.proofs.order.genome.Genome.has_rank.Goals as goal

pub returns-then-rank-len : goal.returns-then-rank-len
unfolding entries
returns-then-rank-len c = λ same.
    let named = same_name c.name.result.now c.args.name.now (sym c.is_same_name.ensures ∙ same) in
    ranked_at c.args.self.now.lengths.entries c.args.name.now c.args.rank c.len.ensures.unique
    (c.name.ensures ∙ ap (λ (name : List ℕ). Some name) named)
