use Rattle.bt_lines.proofs.Std.{arith, sym, ◌∙◌}
use Rattle.bt_runs.proofs.lemmas.merge.StrandSettling.{joined_counts, last_place_within, place_counted}
use Rattle.bt_runs.proofs.merge.run_list.RunList.join.Goals as goal

pub lengthen-requires : goal.lengthen-requires
lengthen-requires c = grind (arith, last_place_within, place_counted)

pub invariant_of-self : goal.invariant_of-self
invariant_of-self c = c.self.invariant ∙ sym (joined_counts c.args.reach c.args.stop c.self.inside.runs.items c.lengthen.new.runs.items c.in-Some.place c.lengthen.result c.lengthen.ensures)
