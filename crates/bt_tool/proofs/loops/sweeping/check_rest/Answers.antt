use Rattle.bt_lines.specs.calls.Reader.{fault_kept as line_fault}
use Rattle.bt_lines.specs.calls.Names.{fault_value}
use Rattle.bt_bed.specs.model.BedLine.{IsBedKind}
use Rattle.bt_bed.specs.calls.Records.{below, order_in, view_of}
use Rattle.bt_bed.proofs.lemmas.order.TableLemmas.{passed_on}
use Rattle.bt_tool.specs.inside.SweepLoop.{ReadsRest}
use Rattle.bt_tool.specs.calls.Run.{AnswersNoRead, TellsNoRead}
use Rattle.bt_tool.proofs.lemmas.running.members.PassedLemmas.{is_filled, is_over, is_stopped}
use Rattle.bt_tool.proofs.lemmas.running.pair.PairTurns.{reads_start, reads_more, reads_end, reads_stop}
use Rattle.bt_tool.proofs.lemmas.running.whole.OwnFailureLemmas.{none_below, none_tells, told_kept, told_none}
use Rattle.bt_tool.proofs.loops.sweeping.check_rest.Goals as goal

pub loop-second-init : goal.loop-second-init
loop-second-init g c = reads_start g.B.Source (view_of c.args.second.now)

pub returns-in_err-fill-clause-reads : goal.returns-in_err-fill-clause-reads
returns-in_err-fill-clause-reads g c =
    passed_on (λ r. ReadsRest g.B.Source (IsBedKind (order_in c.args.second.now)) (view_of c.args.second.now) r (view_of c.fill.new.self)) c.from_residual.result c.in_err-fill.field-0.0
    c.from_residual.ensures.1
    (reads_stop g.B.Source (view_of c.args.second.now) (view_of c.loop-second.second) c.loop-second.invariant (IsBedKind (order_in c.args.second.now)) (view_of c.fill.new.self) (fault_value c.in_err-fill.field-0.0)
    (is_stopped g.B.Source c.loop-second.second c.fill.new.self c.in_err-fill.field-0.0 c.in_err-fill.ensures))

pub returns-in_err-fill-clause-none_kept : goal.returns-in_err-fill-clause-none_kept
returns-in_err-fill-clause-none_kept g c = λ none.
    passed_on (λ r. AnswersNoRead r → TellsNoRead (line_fault (below c.fill.new.self))) c.from_residual.result c.in_err-fill.field-0.0 c.from_residual.ensures.1
    (told_none (c.loop-second.invariant.going none) c.in_err-fill.ensures.answers)

pub returns-in_err-fill-clause-kept : goal.returns-in_err-fill-clause-kept
returns-in_err-fill-clause-kept g c = λ none. told_kept (c.loop-second.invariant.going none) c.in_err-fill.ensures.answers

pub loop-second-preserved : goal.loop-second-preserved
loop-second-preserved g c =
    reads_more g.B.Source (view_of c.args.second.now) (view_of c.loop-second.second) c.loop-second.invariant (view_of c.fill.new.self) (view_of c.consume_buffered.new.second)
    (is_filled g.B.Source c.loop-second.second c.fill.new.self (rw c.if-branch.true at c.in_ok-fill.ensures)) c.consume_buffered.ensures.takes

pub returns-clause-reads : goal.returns-clause-reads
returns-clause-reads g c = λ old past p wrong.
    reads_end g.B.Source (view_of c.args.second.now) (view_of c.loop-second.second) c.loop-second.invariant (view_of c.fill.new.self)
    (is_over g.B.Source c.loop-second.second c.fill.new.self (rw c.if-branch.false at c.in_ok-fill.ensures)) old past p

pub returns-clause-none_kept : goal.returns-clause-none_kept
returns-clause-none_kept g c = λ none never.
    none_tells (line_fault (below c.fill.new.self)) (rw c.if-branch.false at c.in_ok-fill.ensures).answers.below_goes

pub returns-clause-kept : goal.returns-clause-kept
returns-clause-kept g c = λ none. none_below (view_of c.fill.new.self) (below c.fill.new.self) (rw c.if-branch.false at c.in_ok-fill.ensures).answers.goes
