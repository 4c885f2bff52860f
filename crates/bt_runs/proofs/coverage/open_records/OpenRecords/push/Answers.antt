use Rattle.bt_lines.proofs.Std.{arith, heap_items}
use Rattle.bt_runs.proofs.lemmas.coverage.OpenLemmas.{keeps_more}
use Rattle.bt_runs.proofs.coverage.open_records.OpenRecords.push.Goals as goal

pub invariant_of-self-2 : goal.invariant_of-self-2
invariant_of-self-2 c =
    let m = c.self.inside in
    let e = c.in_ok-push.ensures in
    rw (c.with-self-inside.ensures) (keeps_more m.at m.counted.spans _ (heap_items m.ends) (heap_items c.push.new.self) c.self.invariant (omega arith) (e.heap_order c.self.invariant.order) e.permutation)
