use Rattle.bt_lines.proofs.Std.{option_map}
use Rattle.bt_lines.specs.calls.Names.{fault_value}
use Rattle.bt_bed.specs.model.Order.{byte_order, rank_order}
use Rattle.bt_bed.specs.calls.Orders.{bytes_total}
use Rattle.bt_bed.specs.model.Feature.{intervals_of}
use Rattle.bt_bed.specs.calls.GenomeTable.{names_of}
use Rattle.bt_bed.specs.inside.RankTotal.{ranks_total}
use Rattle.bt_bed.proofs.lemmas.order.OrderLemmas.{placed_contiguous}
use Rattle.bt_tool.proofs.lemmas.running.feed.DrivingLemmas.{merge_begins, merge_begins_whole, merge_stays, merge_runs}
use Rattle.bt_tool.proofs.running.merge.Goals as goal

pub drive-requires-clause-nothing : goal.drive-requires-clause-nothing
drive-requires-clause-nothing g c = merge_begins c.new-engine.result

pub drive-requires-clause-takes : goal.drive-requires-clause-takes
drive-requires-clause-takes g c = λ past placed full.
    let names = names_of c.in-Some.genome in
    record { contiguous = placed_contiguous (rank_order names) (intervals_of past) (ranks_total names) placed; full = full }

pub drive-requires-clause-stays : goal.drive-requires-clause-stays
drive-requires-clause-stays g c = merge_stays c.new-engine.result

pub drive-requires-clause-begins : goal.drive-requires-clause-begins
drive-requires-clause-begins g c = merge_begins_whole c.new-engine.result

pub drive-requires-in-None-clause-nothing : goal.drive-requires-in-None-clause-nothing
drive-requires-in-None-clause-nothing g c = merge_begins c.new-engine.result

pub drive-requires-in-None-clause-takes : goal.drive-requires-in-None-clause-takes
drive-requires-in-None-clause-takes g c = λ past placed full.
    record { contiguous = placed_contiguous byte_order (intervals_of past) bytes_total placed; full = full }

pub drive-requires-in-None-clause-stays : goal.drive-requires-in-None-clause-stays
drive-requires-in-None-clause-stays g c = merge_stays c.new-engine.result

pub drive-requires-in-None-clause-begins : goal.drive-requires-in-None-clause-begins
drive-requires-in-None-clause-begins g c = merge_begins_whole c.new-engine.result

pub returns-in-Some : goal.returns-in-Some
returns-in-Some g c =
    let names = names_of c.in-Some.genome in
    rw c.in-Some.is (merge_runs (ranks_total names) g.A.Source c.args.gap c.args.strand c.new-engine.result c.new-engine.ensures.begun
    c.args.first c.args.out.now.output (option_map fault_value c.drive.result.0) c.drive.result.1 c.drive.new.out.output c.drive.ensures)

pub returns-in-None : goal.returns-in-None
returns-in-None g c =
    rw c.in-None.is (merge_runs bytes_total g.A.Source c.args.gap c.args.strand c.new-engine.result c.new-engine.ensures.begun
    c.args.first c.args.out.now.output (option_map fault_value c.drive-in-None.result.0) c.drive-in-None.result.1 c.drive-in-None.new.out.output c.drive-in-None.ensures)
