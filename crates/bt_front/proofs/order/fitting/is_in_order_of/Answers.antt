use Rattle.bt_lines.proofs.Std.{arith, ◌∙◌, length-map, sym}
use Rattle.bt_bed.specs.calls.GenomeTable.{entries, names_of}
use Rattle.bt_bed.specs.model.Genome.{Entry}
use Rattle.bt_front.specs.model.Extents.{names_in}
use Rattle.bt_front.proofs.lemmas.order.FittingLemmas.{all_ascend, ascends_zero, lower_ends, next_ascends, rank_within, unknown_ends}
use Rattle.bt_front.proofs.order.fitting.is_in_order_of.Goals as goal

pub returns-in_default : goal.returns-in_default
returns-in_default c =
    let names = names_of c.args.genome.now in
    let chroms = names_in c.args.chromosomes.now in
    sym (unknown_ends names chroms c.loop-at.at c.name.result.now c.name.ensures c.loop-at.least (sym c.rank.ensures ∙ c.in_default.is))
    ∙ c.loop-at.invariant ∙ ascends_zero names chroms

pub returns-then-rank-least : goal.returns-then-rank-least
returns-then-rank-least c =
    let names = names_of c.args.genome.now in
    let chroms = names_in c.args.chromosomes.now in
    sym (lower_ends names chroms c.loop-at.at c.name.result.now c.name.ensures c.loop-at.least c.in-Some.rank (sym c.rank.ensures ∙ c.in-Some.is)
    c.if-rank-least.true) ∙ c.loop-at.invariant ∙ ascends_zero names chroms

pub prove-unreachable-requires : goal.prove-unreachable-requires
prove-unreachable-requires c =
    omega (
      arith,
      rank_within (names_of c.args.genome.now) c.name.result.now c.in-Some.rank (sym c.rank.ensures ∙ c.in-Some.is),
      length-map (entries c.args.genome.now) (λ (entry : Entry). entry.name),
    )

pub loop-at-preserved : goal.loop-at-preserved
loop-at-preserved c =
    let names = names_of c.args.genome.now in
    let chroms = names_in c.args.chromosomes.now in
    sym (next_ascends names chroms c.loop-at.at c.name.result.now c.name.ensures c.loop-at.least c.in-Some.rank (sym c.rank.ensures ∙ c.in-Some.is)
    c.if-rank-least.false) ∙ c.loop-at.invariant

pub returns : goal.returns
returns c =
    let names = names_of c.args.genome.now in
    let chroms = names_in c.args.chromosomes.now in
    sym (all_ascend names chroms c.loop-at.at c.loop-at.least (omega arith)) ∙ c.loop-at.invariant ∙ ascends_zero names chroms
