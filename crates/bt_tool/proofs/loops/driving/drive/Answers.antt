use Rattle.bt_lines.proofs.Std.{◌∙◌, ap, sym, subst, Ok, Err, Option, Result, List, option_map}
use Rattle.std.specs.Result.{result_err}
use Rattle.bt_lines.specs.declared.device.Source.{Ghosts as Source}
use Rattle.bt_lines.specs.declared.fault.Fault.{Fault}
use Rattle.bt_lines.specs.declared.fault.Kind.{Kind}
use Rattle.bt_lines.specs.calls.Names.{fault_value}
use Rattle.bt_lines.specs.calls.Output.{Output}
use Rattle.bt_bed.specs.calls.Reading.{MemberReader}
use Rattle.bt_runs.specs.calls.Engine.{EngineDef, Finishes}
use Rattle.bt_lines.specs.calls.Reader.{source_of}
use Rattle.bt_bed.specs.model.Feature.{Feature, intervals_of}
use Rattle.bt_bed.specs.model.Good.{Format, bed_format}
use Rattle.bt_bed.specs.model.Sorted.{Locus, sorting_of}
use Rattle.bt_bed.specs.calls.Orders.{ArePlaced}
use Rattle.bt_bed.specs.calls.Records.{view_of}
use Rattle.bt_tool.specs.inside.Feed.{FeedsAll, member_items}
use Rattle.bt_tool.specs.model.Written.{Written}
use Rattle.bt_tool.proofs.lemmas.running.feed.FeedLemmas.{goes_failed, goes_works}
use Rattle.bt_tool.proofs.lemmas.running.feed.DrivingLemmas.{IsDriven, WritesOne, drives_all, drives_cut, drives_fault, records_sorted, sorted_start}
use Rattle.bt_tool.proofs.lemmas.running.members.CursorLemmas.{begins_over, fresh_over}
use Rattle.bt_runs.proofs.lemmas.Engine.{finishes_prefix}
use Rattle.bt_tool.proofs.loops.driving.drive.Goals as goal

-- an engine that was fed all records finishes
finishes_all : {S E T : Type 0} (device : Source S) (engine : EngineDef E) {begun last : E} {format : Format Feature (Option Locus)} {old new : MemberReader S Feature (Option Locus)} {first final : S}
    (driven : IsDriven (record { whole = engine.output begun; settled = engine.settled begun }) (engine.takes begun) format old first new final) (kinds : Kind → Type 0) (Sorted : List Feature → Type 0) {out grown later : Output}
    (fed : FeedsAll (engine.settled begun) kinds Sorted device (λ past. engine.is_after begun past last) old out new grown) → engine.takes begun (member_items fed.past)
    → (answer : Result T Fault) → Finishes engine last grown answer later → WritesOne device driven kinds Sorted out (option_map fault_value (result_err answer)) later
finishes_all device engine {begun} driven kinds Sorted {out} {grown} {later} fed takes (Ok done) finishes =
    let puts = finishes.answers.puts begun (member_items fed.past) fed.stands takes in
    drives_all device driven kinds Sorted out fed (goes_works grown later finishes.grows finishes.answers.works) puts.bytes puts.goes_on puts.appends finishes.answers.works.sink_served
finishes_all device engine {begun} driven kinds Sorted {out} {grown} {later} fed takes (Err fault) finishes =
    let said = finishes_prefix (Err fault) finishes (finishes.going begun (member_items fed.past) fed.stands) in
    let cuts = said.cuts begun (member_items fed.past) fed.stands takes in
    drives_cut device driven kinds Sorted out fed (goes_failed grown later finishes.grows said.failed) said.is cuts.bytes cuts.goes_on cuts.front said.sink_failed

pub feed_all-fed-requires-clause-fresh : goal.feed_all-fed-requires-clause-fresh
feed_all-fed-requires-clause-fresh g c =
    let reader = c.new-reader.ensures in
    let records = c.new-records.ensures in
    fresh_over _ (view_of c.new-records.result) records.below reader.none_taken.0 reader.none_fed reader.none_given (records.fault ∙ reader.going.0) reader.going.0 records.none_buffered reader.sound

pub feed_all-fed-requires-clause-sorted : goal.feed_all-fed-requires-clause-sorted
feed_all-fed-requires-clause-sorted g c = sorted_start c.new-records.result

pub returns-in-Err : goal.returns-in-Err
returns-in-Err g c =
    let reader = c.new-reader.ensures in
    let records = c.new-records.ensures in
    let order = g.O.ChromOrder.order c.args.order.now in
    let written : Written Feature = record { whole = g.E.Engine.definition.output c.args.engine; settled = g.E.Engine.definition.settled c.args.engine } in
    let starts = begins_over g.A.Source (view_of c.new-records.result) records.below reader.none_taken.0 reader.none_fed reader.source reader.input reader.going.0 reader.going.2 reader.lines records.good in
    let sorted = records_sorted (g.E.Engine.definition.takes c.args.engine) order (g.met.O.ChromOrder.total c.args.order.now) c.requires.takes in
    let ended = sym (c.into_source-first.ensures ∙ ap source_of c.into_reader.ensures) in
    let driven : IsDriven written (g.E.Engine.definition.takes c.args.engine) (bed_format (sorting_of order)) (view_of c.new-records.result) c.args.first (view_of c.feed_all-fed.new.records) c.into_source-first.result =
    record { stays = c.requires.stays; begins = c.requires.begins; taken = sorted; starts = starts; ended = ended; kept = c.feed_all-fed.ensures.kept } in
    rw records.order at (drives_fault g.A.Source driven _ _ _ c.in-Err.ensures.none_kept c.in-Err.ensures.feeds)

pub returns : goal.returns
returns g c =
    let reader = c.new-reader.ensures in
    let records = c.new-records.ensures in
    let order = g.O.ChromOrder.order c.args.order.now in
    let written : Written Feature = record { whole = g.E.Engine.definition.output c.args.engine; settled = g.E.Engine.definition.settled c.args.engine } in
    let starts = begins_over g.A.Source (view_of c.new-records.result) records.below reader.none_taken.0 reader.none_fed reader.source reader.input reader.going.0 reader.going.2 reader.lines records.good in
    let sorted = records_sorted (g.E.Engine.definition.takes c.args.engine) order (g.met.O.ChromOrder.total c.args.order.now) c.requires.takes in
    let ended = sym (c.into_source-first.ensures ∙ ap source_of c.into_reader.ensures) in
    let driven : IsDriven written (g.E.Engine.definition.takes c.args.engine) (bed_format (sorting_of order)) (view_of c.new-records.result) c.args.first (view_of c.feed_all-fed.new.records) c.into_source-first.result =
    record { stays = c.requires.stays; begins = c.requires.begins; taken = sorted; starts = starts; ended = ended; kept = c.feed_all-fed.ensures.kept } in
    let fed = c.in_default.ensures.feeds in
    let takes = c.requires.takes (member_items fed.past) (subst (λ o. ArePlaced o (intervals_of (member_items fed.past))) records.order fed.took.sorted.0) fed.took.sorted.1 in
    rw c.err.ensures.value (rw records.order at (finishes_all g.A.Source g.E.Engine.definition driven _ _ fed takes c.finish.result c.finish.ensures.finishes))
