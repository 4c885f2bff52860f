use Rattle.bt_lines.proofs.Std.{arith, ◌∙◌, ap, false, length-map, sym, true}
use Rattle.bt_bed.specs.calls.GenomeTable.{entries, names_of}
use Rattle.bt_bed.specs.model.Genome.{Entry}
use Rattle.bt_front.specs.model.Extents.{names_in}
use Rattle.bt_front.proofs.lemmas.order.FittingLemmas.{next_first, none_left}
use Rattle.bt_front.proofs.order.fitting.are_first_of.Goals as goal

pub returns-then-count-at : goal.returns-then-count-at
returns-then-count-at c =
    sym (none_left (names_of c.args.genome.now) (names_in c.args.chromosomes.now) c.loop-at.at c.name-name.result.now c.name-name.ensures
    (omega (arith, length-map (entries c.args.genome.now) (λ (entry : Entry). entry.name)))) ∙ c.loop-at.invariant

pub returns-then-not-is_same_name : goal.returns-then-not-is_same_name
returns-then-not-is_same_name c =
    sym (next_first (names_of c.args.genome.now) (names_in c.args.chromosomes.now) c.loop-at.at c.name-name.result.now c.name-name.ensures
    c.name.result.now c.name.ensures false (sym c.is_same_name.ensures ∙ c.if-not-is_same_name.true)) ∙ c.loop-at.invariant

pub loop-at-preserved : goal.loop-at-preserved
loop-at-preserved c =
    sym (next_first (names_of c.args.genome.now) (names_in c.args.chromosomes.now) c.loop-at.at c.name-name.result.now c.name-name.ensures
    c.name.result.now c.name.ensures true (sym c.is_same_name.ensures ∙ c.if-not-is_same_name.false)) ∙ c.loop-at.invariant
