use Rattle.bt_lines.proofs.Std.{arith, ◌∙◌, length-map, sym}
use Rattle.bt_bed.specs.calls.GenomeTable.{entries, names_of}
use Rattle.bt_bed.specs.model.Genome.{Entry}
use Rattle.bt_front.specs.model.Extents.{extents_in}
use Rattle.bt_front.proofs.lemmas.order.FittingLemmas.{next_fits, no_entry_ends, past_ends, rank_within}
use Rattle.bt_front.proofs.order.fitting.fits_lengths.Goals as goal

pub returns-in_default : goal.returns-in_default
returns-in_default c =
    sym (no_entry_ends (entries c.args.genome.now) (extents_in c.args.chromosomes.now) c.loop-at.at c.name.result.now c.name.ensures
    (sym c.rank.ensures ∙ c.in_default.is)) ∙ c.loop-at.invariant

pub length-requires : goal.length-requires
length-requires c =
    omega (
      arith,
      rank_within (names_of c.args.genome.now) c.name.result.now c.in-Some.rank (sym c.rank.ensures ∙ c.in-Some.is),
      length-map (entries c.args.genome.now) (λ (entry : Entry). entry.name),
    )

pub returns-then-length-extent : goal.returns-then-length-extent
returns-then-length-extent c =
    sym (past_ends (entries c.args.genome.now) (extents_in c.args.chromosomes.now) c.loop-at.at c.name.result.now c.extent.result c.name.ensures
    c.extent.ensures c.in-Some.rank c.length.result (sym c.rank.ensures ∙ c.in-Some.is) c.length.ensures.is c.if-length-extent.true)
    ∙ c.loop-at.invariant

pub loop-at-preserved : goal.loop-at-preserved
loop-at-preserved c =
    sym (next_fits (entries c.args.genome.now) (extents_in c.args.chromosomes.now) c.loop-at.at c.name.result.now c.extent.result c.name.ensures
    c.extent.ensures c.in-Some.rank c.length.result (sym c.rank.ensures ∙ c.in-Some.is) c.length.ensures.is c.if-length-extent.false)
    ∙ c.loop-at.invariant
