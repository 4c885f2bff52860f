use Rattle.bt_lines.proofs.Std.{◌≤◌, arith, refl, heap_items}
use Rattle.bt_runs.proofs.lemmas.coverage.OpenLemmas.{keeps_later}
use Rattle.bt_runs.proofs.coverage.open_records.OpenRecords.go_on.Goals as goal

pub invariant_of-self : goal.invariant_of-self
invariant_of-self c =
    let m = c.self.inside in
    let at = c.max-self-inside.result in
    let up : m.at ≤ at = let is = c.max-self-inside.ensures in omega arith in
    let e = c.pop_before.ensures in
    keeps_later m.at at m.counted.spans (heap_items m.ends) (heap_items c.pop_before.new.ends) c.self.invariant up e.order e.counts e.left

pub invariant_of-self-else-begins_before : goal.invariant_of-self-else-begins_before
invariant_of-self-else-begins_before c =
    let m = c.self.inside in
    let at = c.max-self-inside.result in
    let up : m.at ≤ at = let is = c.max-self-inside.ensures in omega arith in
    keeps_later m.at at m.counted.spans (heap_items m.ends) (heap_items m.ends) c.self.invariant up c.self.invariant.order (λ test. refl) c.if-begins_before.ensures
