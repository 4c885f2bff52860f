use Rattle.bt_lines.proofs.Std.{ap, option_map}
use Rattle.bt_lines.specs.calls.Names.{fault_value}
use Rattle.bt_lines.specs.calls.Output.{OutputOver}
use Rattle.bt_hits.specs.model.Bins.{intersect_by_bins}
use Rattle.bt_hits.proofs.lemmas.Ending.{hits_written, sink_written}
use Rattle.bt_hits.proofs.listing.list_hits.Goals as goal

pub returns : goal.returns
returns g c =
    let old = c.new-out.result.output in
    let new = c.finished-fault.new.out.output in
    let lines = intersect_by_bins c.args.listing.shape c.args.listing.rule c.args.records.first.items c.args.records.second.items in
    let answer = option_map fault_value c.finished-fault.result in
    sink_written g.K.Sink c.args.sink c.into_sink.result old new lines (ap (λ (o : OutputOver g.row.K.Denot). o.output.put) c.new-out.ensures) (ap (λ (o : OutputOver g.row.K.Denot). o.output.sink_has_failed) c.new-out.ensures)
    c.into_sink.ensures.took c.into_sink.ensures.failed c.into_sink.ensures.last c.into_sink.ensures.flushed answer
    (hits_written old lines c.put_hits_by_bins-put.new.out.output new c.put_hits_by_bins-put.result answer c.put_hits_by_bins-put.ensures c.finished-fault.ensures)
