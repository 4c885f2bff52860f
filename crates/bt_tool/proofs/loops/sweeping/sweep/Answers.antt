use Rattle.bt_lines.proofs.Std.{refl, sym, ◌∙◌, ap}
use Rattle.bt_lines.specs.calls.Reader.{source_of}
use Rattle.bt_lines.specs.declared.fault.Input.TheVariants.{Second}
use Rattle.bt_bed.specs.calls.Records.{view_of}
use Rattle.bt_bed.proofs.lemmas.Definitions.{placed_good}
use Rattle.bt_sweep.specs.calls.SweepView.{state_of}
use Rattle.bt_tool.specs.model.Reaches.{intersect_reaches}
use Rattle.bt_tool.specs.model.TwoInputs.{intersect_settles}
use Rattle.bt_tool.specs.inside.SweepLoop.{config_of}
use Rattle.bt_tool.proofs.lemmas.running.pair.PairMet.{err_told, writes_both}
use Rattle.bt_tool.proofs.lemmas.running.pair.PairNear.{near_both}
use Rattle.bt_tool.proofs.lemmas.running.members.CursorLemmas.{begins_over, fresh_over}
use Rattle.bt_tool.proofs.lemmas.running.sweep.SweepRounds.{sweeps_start}
use Rattle.bt_tool.proofs.lemmas.running.sweep.SweepFacts.{sweep_needs, sweep_limits}
use Rattle.bt_tool.proofs.lemmas.running.feed.DrivingLemmas.{sorted_start}
use Rattle.bt_tool.proofs.loops.sweeping.sweep.Goals as goal

pub run_two-swept-requires : goal.run_two-swept-requires
run_two-swept-requires g c =
    let reader = c.new.ensures in
    let records = c.new-first.ensures in
    let reader_2 = c.new-2.ensures in
    let records_2 = c.new-second.ensures in
    let sweep = c.new-sweep.ensures in
    record {
      begun = record {
        total = records.total;
        same_order = records_2.order ∙ sym records.order;
        is_bed = sorted_start c.new-first.result;
        is_bed_second = sorted_start c.new-second.result;
        none_last = records.none_last;
        none_last_second = records_2.none_last;
      };
      sweeps = sweeps_start g.A.Source g.B.Source (config_of (state_of c.new-sweep.result)) c.new-first.result c.new-second.result c.args.out.now.output
          (fresh_over _ (view_of c.new-first.result) records.below reader.none_taken.0 reader.none_fed reader.none_given (records.fault ∙ reader.going.0) reader.going.0 records.none_buffered reader.sound)
          (fresh_over _ (view_of c.new-second.result) records_2.below reader_2.none_taken.0 reader_2.none_fed reader_2.none_given (records_2.fault ∙ reader_2.going.0) reader_2.going.0 records_2.none_buffered reader_2.sound)
          c.requires.block (state_of c.new-sweep.result)
          (rw (← records.order) at sweep.stands) refl;
      order_is = sweep.order ∙ sym records.order;
    }

pub returns : goal.returns
returns g c =
    let reader = c.new.ensures in
    let records = c.new-first.ensures in
    let reader_2 = c.new-2.ensures in
    let records_2 = c.new-second.ensures in
    let order = g.O.ChromOrder.order c.args.order.now in
    let sweep = c.new-sweep.ensures in
    let ends = rw (records.order, sweep.shape, sweep.rule, sweep.limit) at c.run_two-swept.ensures.finishes in
    let begins = begins_over g.A.Source (view_of c.new-first.result) records.below reader.none_taken.0 reader.none_fed reader.source reader.input reader.going.0 reader.going.2 reader.lines records.good in
    let begins_second = begins_over g.B.Source (view_of c.new-second.result) records_2.below reader_2.none_taken.0 reader_2.none_fed reader_2.source reader_2.input reader_2.going.0 reader_2.going.2 reader_2.lines records_2.good in
    let ended = sym (c.into_source-first.ensures ∙ ap source_of c.into_reader.ensures) in
    let ended_second = sym (c.into_source-second.ensures ∙ ap source_of c.into_reader-2.ensures) in
    rw (c.err.ensures.value, err_told c.run_two-swept.result) (writes_both (λ two. placed_good Second order two c.requires.total) (sweep_limits order c.args.config) begins begins_second ended ended_second c.run_two-swept.ensures.kept_first c.run_two-swept.ensures.kept_second ends
    (intersect_settles order c.args.config.shape c.args.config.rule) (intersect_reaches order)
    (near_both (λ two. placed_good Second order two c.requires.total) (sweep_needs order c.args.config) begins begins_second ended ended_second ends) c.run_two-swept.ensures.none_kept)
