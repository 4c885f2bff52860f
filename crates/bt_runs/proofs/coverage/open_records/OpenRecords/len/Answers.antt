use Rattle.bt_lines.proofs.Std.{arith, heap_items, length-map}
use Rattle.bt_runs.specs.inside.Coverage.{ends_of, still_open}
use Rattle.bt_runs.proofs.lemmas.coverage.OpenLemmas.{as_many}
use Rattle.bt_runs.proofs.coverage.open_records.OpenRecords.len.Goals as goal

pub returns : goal.returns
returns c =
    let m = c.self.inside in
    let many = as_many (ends_of (heap_items m.ends)) (still_open m.at m.counted.spans) c.self.invariant.counts in
    rw (← c.self.view_is) (grind (arith, many, length-map))
