use Rattle.bt_lines.proofs.Std.{◌≡◌, ◌∙◌, ◌++◌, Err, ap, append-nil, arith, length}
use Rattle.bt_lines.specs.calls.Names.{fault_value}
use Rattle.bt_lines.specs.calls.Reader.{fault_kept as line_fault}
use Rattle.bt_bed.specs.calls.Records.{below, order_in, view_of}
use Rattle.bt_bed.specs.model.BedLine.{IsBedKind}
use Rattle.bt_bed.proofs.lemmas.order.TableLemmas.{passed_on}
use Rattle.bt_tool.specs.inside.Feed.{AreInOrder, FeedsMembers}
use Rattle.bt_tool.specs.calls.Run.{AnswersNoRead, TellsNoRead}
use Rattle.bt_tool.proofs.lemmas.running.feed.FeedLemmas.{failed_at, feeds_all, given_by, going_fill, going_start, going_taken, stops_feeding, stops_reading}
use Rattle.bt_tool.proofs.lemmas.running.pair.PairTurns.{some_buffered}
use Rattle.bt_tool.proofs.lemmas.running.whole.OwnFailureLemmas.{none_below, none_tells, told_kept, told_none}
use Rattle.bt_tool.proofs.lemmas.running.members.PassedLemmas.{is_filled, is_over, is_stopped}
use Rattle.bt_tool.proofs.loops.driving.feed_all.Goals as goal

pub loop-records-init : goal.loop-records-init
loop-records-init g c = going_start c.requires.fresh c.requires.stands c.requires.nothing c.requires.block

pub returns-in_err-fill-clause-feeds : goal.returns-in_err-fill-clause-feeds
returns-in_err-fill-clause-feeds g c =
    passed_on (λ r. FeedsMembers (g.E.Engine.definition.settled c.args.engine.now) (IsBedKind (order_in c.args.records.now)) (AreInOrder (order_in c.args.records.now)) g.S.Source
    (λ past. g.E.Engine.definition.is_after c.args.engine.now past c.loop-records.engine) (view_of c.args.records.now) c.args.out.now.output r (view_of c.fill.new.self) c.loop-records.out.output)
    c.from_residual.result c.in_err-fill.field-0.0 c.from_residual.ensures.1 (stops_reading c.requires.sorted c.requires.total c.requires.none_last c.requires.takes
    c.loop-records.invariant c.fill.new.self (fault_value c.in_err-fill.field-0.0)
    (is_stopped g.S.Source c.loop-records.records c.fill.new.self c.in_err-fill.field-0.0 c.in_err-fill.ensures))

pub returns-in_err-fill-clause-none_kept : goal.returns-in_err-fill-clause-none_kept
returns-in_err-fill-clause-none_kept g c =
    passed_on (λ r. AnswersNoRead r → TellsNoRead (line_fault (below c.fill.new.self))) c.from_residual.result c.in_err-fill.field-0.0 c.from_residual.ensures.1
    (told_none c.loop-records.invariant.fed.passes.going c.in_err-fill.ensures.answers)

pub returns-in_err-fill-clause-kept : goal.returns-in_err-fill-clause-kept
returns-in_err-fill-clause-kept g c = told_kept c.loop-records.invariant.fed.passes.going c.in_err-fill.ensures.answers

pub loop-records-preserved : goal.loop-records-preserved
loop-records-preserved g c =
    let fills = rw c.if-branch.true at c.in_ok-fill.ensures in
    let filled = going_fill c.requires.sorted c.requires.total c.requires.none_last c.requires.takes
    c.loop-records.invariant c.fill.new.self (is_filled g.S.Source c.loop-records.records c.fill.new.self fills) fills.order in
    let takes = c.in_ok-feed_buffered.ensures in
    going_taken c.requires.sorted c.requires.total c.requires.none_last c.requires.takes
    filled c.feed_buffered.new.records c.feed_buffered.new.engine c.feed_buffered.new.out.output takes.3.0.records (takes.2.takes takes.3.0.records takes.3.0.given) takes.2.order takes.3.0.taken

pub loop-records-smaller : goal.loop-records-smaller
loop-records-smaller g c =
    let filled = is_filled g.S.Source c.loop-records.records c.fill.new.self (rw c.if-branch.true at c.in_ok-fill.ensures) in
    let fed = c.in_ok-feed_buffered.ensures in
    let has = fed.2.takes fed.3.0.records fed.3.0.given in
    let all : (view_of c.fill.new.self).buffered ≡ fed.3.0.records = has.takes.buffered ∙ ap (λ l. fed.3.0.records ++ l) (fed.2.left_is ∙ fed.3.1.none) ∙ append-nil fed.3.0.records in
    omega (arith, filled.gives.shrinks, has.takes.shrinks, ap length all, some_buffered _ (view_of c.fill.new.self).buffered _ filled.gives.ahead)

pub returns-in_err-feed_buffered-clause-kept : goal.returns-in_err-feed_buffered-clause-kept
returns-in_err-feed_buffered-clause-kept g c =
    let filled = is_filled g.S.Source c.loop-records.records c.fill.new.self (rw c.if-branch.true at c.in_ok-fill.ensures) in
    let gives = c.in_err-feed_buffered.ensures in
    let given = given_by {A = Unit {0}} g.E.Engine.definition _ _ _ (Err c.in_err-feed_buffered.field-0.0) _ _ _ gives.3 in
    none_below (view_of c.feed_buffered.new.records) (below c.feed_buffered.new.records) ((gives.2.takes given.0 given.1).takes.goes ∙ filled.gives.goes ∙ c.loop-records.invariant.fed.passes.going)

pub returns-in_err-feed_buffered-clause-feeds : goal.returns-in_err-feed_buffered-clause-feeds
returns-in_err-feed_buffered-clause-feeds g c =
    let fills = rw c.if-branch.true at c.in_ok-fill.ensures in
    let filled = going_fill c.requires.sorted c.requires.total c.requires.none_last c.requires.takes
    c.loop-records.invariant c.fill.new.self (is_filled g.S.Source c.loop-records.records c.fill.new.self fills) fills.order in
    let gives = c.in_err-feed_buffered.ensures in
    passed_on (λ r. FeedsMembers (g.E.Engine.definition.settled c.args.engine.now) (IsBedKind (order_in c.args.records.now)) (AreInOrder (order_in c.args.records.now)) g.S.Source
    (λ past. g.E.Engine.definition.is_after c.args.engine.now past c.feed_buffered.new.engine) (view_of c.args.records.now) c.args.out.now.output r (view_of c.feed_buffered.new.records) c.feed_buffered.new.out.output)
    c.from_residual-in_err-feed_buffered.result c.in_err-feed_buffered.field-0.0 c.from_residual-in_err-feed_buffered.ensures.1
    (stops_feeding c.requires.sorted c.requires.total c.requires.none_last c.requires.takes
    filled gives.2 (failed_at gives.3 c.args.engine.now _ filled.stands))

pub returns-in_err-feed_buffered-clause-none_kept : goal.returns-in_err-feed_buffered-clause-none_kept
returns-in_err-feed_buffered-clause-none_kept g c = λ never.
    let filled = is_filled g.S.Source c.loop-records.records c.fill.new.self (rw c.if-branch.true at c.in_ok-fill.ensures) in
    let gives = c.in_err-feed_buffered.ensures in
    let given = given_by {A = Unit {0}} g.E.Engine.definition _ _ _ (Err c.in_err-feed_buffered.field-0.0) _ _ _ gives.3 in
    let has = gives.2.takes given.0 given.1 in
    none_tells _ (has.takes.below_stays ∙ filled.gives.below_goes)

pub returns-clause-feeds : goal.returns-clause-feeds
returns-clause-feeds g c =
    feeds_all c.requires.sorted c.requires.total c.requires.none_last c.requires.takes
    c.loop-records.invariant c.fill.new.self (is_over g.S.Source c.loop-records.records c.fill.new.self (rw c.if-branch.false at c.in_ok-fill.ensures))

pub returns-clause-none_kept : goal.returns-clause-none_kept
returns-clause-none_kept g c = λ never. none_tells _ (rw c.if-branch.false at c.in_ok-fill.ensures).answers.below_goes

pub returns-clause-kept : goal.returns-clause-kept
returns-clause-kept g c = none_below (view_of c.fill.new.self) (below c.fill.new.self) (rw c.if-branch.false at c.in_ok-fill.ensures).answers.goes
