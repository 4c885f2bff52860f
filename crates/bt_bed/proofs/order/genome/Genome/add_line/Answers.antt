use Rattle.bt_lines.proofs.Std.{arith, ◌∙◌, ℕ, ◌<◌, ap, sym, All, Vec, is_some}
use Rattle.std.specs.declared.alloc.Global.{Global}
use Rattle.bt_lines.specs.declared.fault.Kind.TheVariants.{RepeatedChrom}
use Rattle.bt_bed.proofs.lemmas.order.TableLemmas.{is_new, either_way, lost_item, lost_wrong, entries_non_empty, entries_push, refused_at_place, says_new}
use Rattle.bt_bed.specs.model.Genome.{entry_of, new_entry}
use Rattle.bt_bed.specs.calls.GenomeTable.{entries, entry_lent, names_of}
use Rattle.bt_bed.proofs.order.genome.Genome.add_line.Goals as goal
use Rattle.bt_bed.proofs.lemmas.order.OrderLemmas.{among_ranked}

pub at_line-requires : goal.at_line-requires
at_line-requires c = grind (arith, (refused_at_place (names_of c.args.self.now) c.args.text.now c.in-Err.kind (ap (new_entry (names_of c.args.self.now)) (sym c.in-Err.ensures))))

pub returns-then-is_some-clause-refused : goal.returns-then-is_some-clause-refused
returns-then-is_some-clause-refused c =
    lost_wrong c.args.place _ _ RepeatedChrom (grind (arith, among_ranked)) c.at_line-then-is_some.ensures

pub returns-in_default-clause-refused : goal.returns-in_default-clause-refused
returns-in_default-clause-refused c =
    grind (arith, lost_item, among_ranked)

pub invariant_of-self : goal.invariant_of-self
unfolding entries
invariant_of-self c =
    let entry = entry_lent c.in-Ok-Some.entry in
    let new = is_new (names_of c.args.self.now) (entry_of c.args.text.now) entry (grind (arith, among_ranked)) in
    record {
      non_empty = either_way (All (λ (chromosome : Vec ℕ Global × ℕ). 0 < chromosome.1)) c.insert.result c.insert.new.self.entries _ _ c.insert.ensures.entries c.insert.ensures.err
          (entries_non_empty c.args.self.now.lengths.entries c.in-Ok.name entry.length entry.name c.in-Ok.ensures.items new c.args.self.now.non_empty c.in-Ok-Some.entry.non_empty) c.args.self.now.non_empty;
    }

pub returns-in-Ok-insert-clause-added : goal.returns-in-Ok-insert-clause-added
unfolding entries
returns-in-Ok-insert-clause-added c =
    let unranked = sym (c.is_some.ensures ∙ ap is_some c.rank.ensures) ∙ c.if-is_some.false in
    let names = names_of c.args.self.now in
    let text = entry_of c.args.text.now in
    let entry = entry_lent c.in-Ok-Some.entry in
    let says = says_new names text entry (sym (rw c.in-Ok-Some.field-0-is at c.in-Ok-Some.ensures)) unranked in
    grind (arith, (entries_push c.args.self.now.lengths.entries c.in-Ok.name entry.length entry.name c.in-Ok.ensures.items (is_new names text entry says)))

pub returns-in-Err-insert-clause-refused : goal.returns-in-Err-insert-clause-refused
returns-in-Err-insert-clause-refused c =
    let said = sym (rw c.in-Ok-Some.field-0-is at c.in-Ok-Some.ensures) in
    let unranked = sym (c.is_some.ensures ∙ ap is_some c.rank.ensures) ∙ c.if-is_some.false in
    grind (arith, lost_item, (says_new (names_of c.args.self.now) (entry_of c.args.text.now) (entry_lent c.in-Ok-Some.entry) said unranked))
