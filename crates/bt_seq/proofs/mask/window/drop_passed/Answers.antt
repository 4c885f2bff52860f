use Rattle.bt_lines.proofs.Std.{arith, rules, nat_lt, filter_same}
use Rattle.bt_bed.specs.model.Feature.{Feature}
use Rattle.bt_seq.proofs.mask.window.drop_passed.Goals as goal

pub returns : goal.returns
returns c = grind (arith, (filter_same _ (λ (r : Feature). nat_lt c.args.place r.stop) _ (λ x b f' k. search rules) _ _ c.retain.ensures.filtered))
