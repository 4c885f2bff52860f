use Rattle.bt_lines.proofs.Std.{◌<◌, arith, refl, heap_items, heap_len, length-map}
use Rattle.bt_runs.specs.inside.Coverage.{ends_of, still_open}
use Rattle.bt_runs.proofs.lemmas.coverage.OpenLemmas.{all_open, ends_left, left_ends, top_in, top_least}
use Rattle.bt_runs.proofs.coverage.open_records.OpenRecords.first_end.Goals as goal

pub returns-in-Some-clause-ends : goal.returns-in-Some-clause-ends
returns-in-Some-clause-ends c =
    let m = c.self.inside in
    let top = c.in-Some.field-0.now in
    let least = top_least (heap_items m.ends) top (c.in-Some.ensures.greatest c.self.invariant.order) in
    rw (← c.self.view_is) (ends_left (ends_of (heap_items m.ends)) (still_open m.at m.counted.spans) c.self.invariant.counts c.min.result (grind (arith, least)))

pub returns-in-Some-clause-behind : goal.returns-in-Some-clause-behind
returns-in-Some-clause-behind c =
    let m = c.self.inside in
    let some : 0 < heap_len m.ends = c.in-Some.ensures.variant.0 refl in
    let low = left_ends (ends_of (heap_items m.ends)) (still_open m.at m.counted.spans) c.self.invariant.counts m.at (all_open m.at m.counted.spans) in
    let behind = top_in m.at (heap_items m.ends) c.in-Some.field-0.now (omega arith) c.in-Some.ensures.lookup low in
    grind (arith, behind)

pub returns-in-None-clause-ends : goal.returns-in-None-clause-ends
returns-in-None-clause-ends c =
    let m = c.self.inside in
    rw (← c.self.view_is) (ends_left (ends_of (heap_items m.ends)) (still_open m.at m.counted.spans) c.self.invariant.counts c.args.stop (grind (arith, length-map)))
