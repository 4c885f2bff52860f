use Rattle.bt_lines.proofs.Std.{arith, heap_items}
use Rattle.bt_runs.specs.inside.Coverage.{ends_of}
use Rattle.bt_runs.proofs.lemmas.coverage.OpenLemmas.{popped_counts, popped_order, some_before}
use Rattle.bt_runs.proofs.coverage.open_records.pop_before.Goals as goal

pub loop-ends-preserved : goal.loop-ends-preserved
loop-ends-preserved c =
    let i = c.loop-ends.invariant in
    let old = heap_items c.loop-ends.ends in
    let new = heap_items c.pop.new.self in
    let first = ends_of (heap_items c.args.ends.now) in
    let below = c.loop-ends-test.ensures in
    let many = some_before c.args.position old below in
    let e = c.pop.ensures in
    let some = e.variant.1 (omega arith) in
    record {
      order = popped_order c.args.position first old new below i.order i.counts c.pop.result some e.heap_order;
      counts = popped_counts c.args.position first old new below i.order i.counts c.pop.result some e.top e.permutation;
    }
