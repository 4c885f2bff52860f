use Rattle.bt_bed.proofs.lemmas.read.batch.RecordsLemmas.{placed_by, takes_records}
use Rattle.bt_bed.proofs.read.records.Records.consume.Goals as goal

pub invariant_of-self : goal.invariant_of-self
invariant_of-self g c = record { placed = placed_by g.O.ChromOrder c.args.self.now.sorted c.consume.new.self c.consume.ensures.rule c.consume.ensures.placed }

pub returns : goal.returns
returns g c = takes_records g.S.Source c.args.self.now _ c.consume.ensures.rule _ c.consume.ensures.takes
