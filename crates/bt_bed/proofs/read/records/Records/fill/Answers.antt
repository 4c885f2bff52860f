use Rattle.bt_bed.specs.calls.Records.{order_in}
use Rattle.bt_bed.proofs.lemmas.read.batch.RecordsLemmas.{fills_records, placed_by}
use Rattle.bt_bed.proofs.read.records.Records.fill.Goals as goal

pub invariant_of-self : goal.invariant_of-self
invariant_of-self g c = record { placed = placed_by g.O.ChromOrder c.args.self.now.sorted c.fill.new.self c.fill.ensures.rule c.fill.ensures.placed }

pub returns : goal.returns
unfolding order_in
returns g c = fills_records g.S.Source c.args.self.now _ c.fill.ensures.rule _ (g.met.O.ChromOrder.total c.args.self.now.sorted.lookahead.rule.order.now) c.fill.ensures.fills
