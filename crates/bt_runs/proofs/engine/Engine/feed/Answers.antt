use Rattle.bt_lines.proofs.Std.{arith}
use Rattle.bt_bed.specs.calls.Bed.{feature_lent}
use Rattle.bt_runs.proofs.lemmas.Engine.{feeds_again, feeds_fault, feeds_first, feeds_prefix, feeds_settled, single_fed, single_wants}
use Rattle.bt_runs.proofs.engine.Engine.feed.Goals as goal

pub returns-clause-feeds : goal.returns-clause-feeds
returns-clause-feeds g c =
    single_fed g.Self.Engine.definition c.args.self.now (feature_lent c.args.bed.now) c.args.out.now.output
    c.new-one.result c.feed_batch.new.records c.feed_batch.result c.feed_batch.new.self c.feed_batch.new.out.output c.new-one.ensures.left c.feed_batch.ensures

pub returns-clause-going : goal.returns-clause-going
returns-clause-going g c = (returns-clause-feeds g c).going

pub returns-clause-written : goal.returns-clause-written
returns-clause-written g c = feeds_settled c.feed_batch.result (returns-clause-feeds g c)

pub returns-clause-fault : goal.returns-clause-fault
returns-clause-fault g c = feeds_fault c.feed_batch.result (returns-clause-feeds g c)

pub returns-clause-prefix : goal.returns-clause-prefix
returns-clause-prefix g c = feeds_prefix c.feed_batch.result (returns-clause-feeds g c)

pub returns-clause-ran_out : goal.returns-clause-ran_out
returns-clause-ran_out g c = feeds_first c.feed_batch.result (returns-clause-feeds g c)

pub returns-clause-memory : goal.returns-clause-memory
returns-clause-memory g c = grind (arith, single_wants)

pub returns-clause-again : goal.returns-clause-again
returns-clause-again g c = λ before is. (feeds_again c.feed_batch.result (returns-clause-feeds g c) before is).0

pub returns-clause-stays : goal.returns-clause-stays
returns-clause-stays g c = λ before is. (feeds_again c.feed_batch.result (returns-clause-feeds g c) before is).1

pub returns-clause-quiet : goal.returns-clause-quiet
returns-clause-quiet g c = (returns-clause-feeds g c).quiet

pub returns-clause-grows : goal.returns-clause-grows
returns-clause-grows g c = (returns-clause-feeds g c).grows

pub returns-clause-after_failure : goal.returns-clause-after_failure
returns-clause-after_failure g c = (returns-clause-feeds g c).after_failure
