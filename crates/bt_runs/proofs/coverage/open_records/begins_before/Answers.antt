use Rattle.bt_lines.proofs.Std.{◌<◌, arith, refl, heap_items, heap_len}
use Rattle.bt_runs.proofs.lemmas.coverage.OpenLemmas.{top_before}
use Rattle.bt_runs.proofs.coverage.open_records.begins_before.Goals as goal

pub returns-in-Some : goal.returns-in-Some
returns-in-Some c =
    let some : 0 < heap_len c.args.ends.now = c.in-Some.ensures.variant.0 refl in
    top_before c.args.position (heap_items c.args.ends.now) c.in-Some.field-0.now (omega arith) c.in-Some.ensures.lookup (c.in-Some.ensures.greatest c.requires)
