use Rattle.bt_lines.proofs.Std.{ap, option_map, refl}
use Rattle.bt_lines.specs.calls.Names.{fault_value}
use Rattle.bt_tool.proofs.lemmas.running.whole.OwnFailureLemmas.{WritesOutput}
use Rattle.bt_tool.proofs.lemmas.running.whole.RunningLemmas.{WritesOver, runs_by}
use Rattle.bt_tool.proofs.running.run.Goals.{in-Ok+in-Some-1, in-Ok+in-None-1, in-Err}
use Rattle.bt_tool.proofs.running.run.Goals as goal

pub returns-clause-report : goal.returns-clause-report
returns-clause-report g c =
    let begun = c.new-out in
    let written = c.match-chromosomes in
    let writes_over : WritesOver g.K.Sink c.args.out c.into_sink.result begun.result.output c.flushed-fault.new.out.output = record {
      put = ap (λ o. o.output.put) begun.ensures;
      took = ap (λ o. o.output.took) begun.ensures;
      served = ap (λ o. o.output.sink_has_failed) begun.ensures;
      took_after = c.into_sink.ensures.took;
      failed_after = c.into_sink.ensures.failed;
      last_after = c.into_sink.ensures.last;
    } in
    let writes : WritesOutput g.A.Source g.B.Source c.args.plan.now.command c.args.first c.args.second begun.result.output (option_map fault_value written.fault.0) written.fault.1 written.fault.2 written.out.output c.read_genome-chromosomes.result.0 =
    elim written.branch [
      | in-Ok+in-Some-1 w ↦ rw (w.in-Ok.is, w.fault-is, w.out-is) w.write_records.ensures.runs
      | in-Ok+in-None-1 w ↦ rw (w.in-Ok.is, w.fault-is, w.out-is) w.write_records.ensures.runs
      | in-Err w ↦ rw (w.in-Err.is, w.fault-is, w.out-is) (refl, refl, refl, refl)
    ] in
    runs_by g.G.Source g.A.Source g.B.Source
    c.args.plan.now.command c.args.genome c.read_genome-chromosomes.result.1 c.args.first written.fault.1 c.args.second written.fault.2
    writes_over c.flushed-fault.ensures.ends c.read_genome-chromosomes.result.0 c.read_genome-chromosomes.ensures.read writes
