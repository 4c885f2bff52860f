use Rattle.bt_bed.proofs.lemmas.order.TableLemmas.{passed_on}
use Rattle.bt_lines.proofs.Std.{◌<◌, inl, inr, arith}
use Rattle.bt_tool.specs.inside.Rounds.{IsLessIfReady, IsLessOrReady, TwoInputDef}
use Rattle.bt_bed.specs.calls.SortedReader.{fault_in}
use Rattle.bt_tool.proofs.loops.two_inputs.run_two.Goals as goal

-- a round leaves less to be wanted
round_is_less : {E : Type 0} (def : TwoInputDef E) (old filled given : E) → IsLessOrReady def old filled → IsLessIfReady def filled given → def.left given < def.left old
round_is_less def old filled given (inl less) few = omega (arith, less, few.0)
round_is_less def old filled given (inr at) few = omega (arith, at.0, few.1 at.1)

pub loop-engine-init : goal.loop-engine-init
loop-engine-init g c = c.requires

pub returns-in_err-fill_wanted : goal.returns-in_err-fill_wanted
returns-in_err-fill_wanted g c =
    passed_on (λ r. g.E.TwoInputEngine.definition.ends c.args.engine.now c.args.out.now.output (fault_in r) c.fill_wanted.new.engine c.fill_wanted.new.out.output)
    c.from_residual.result c.in_err-fill_wanted.field-0.0 c.from_residual.ensures.1
    (c.in_err-fill_wanted.ensures c.args.engine.now c.args.out.now.output c.loop-engine.invariant)

pub give_buffered-requires : goal.give_buffered-requires
give_buffered-requires g c =
    (c.args.engine.now, c.args.out.now.output, ((rw c.if-branch.true at c.in_ok-fill_wanted.ensures) c.args.engine.now c.args.out.now.output c.loop-engine.invariant).0)

pub loop-engine-smaller : goal.loop-engine-smaller
loop-engine-smaller g c =
    let filled = (rw c.if-branch.true at c.in_ok-fill_wanted.ensures) c.args.engine.now c.args.out.now.output c.loop-engine.invariant in
    let given = c.in_ok-give_buffered.ensures c.args.engine.now c.args.out.now.output filled.0 in
    round_is_less g.E.TwoInputEngine.definition c.loop-engine.engine c.fill_wanted.new.engine c.give_buffered.new.self filled.1 given.1

pub loop-engine-preserved : goal.loop-engine-preserved
loop-engine-preserved g c =
    let filled = (rw c.if-branch.true at c.in_ok-fill_wanted.ensures) c.args.engine.now c.args.out.now.output c.loop-engine.invariant in
    (c.in_ok-give_buffered.ensures c.args.engine.now c.args.out.now.output filled.0).0

pub returns-in_err-give_buffered : goal.returns-in_err-give_buffered
returns-in_err-give_buffered g c =
    let filled = (rw c.if-branch.true at c.in_ok-fill_wanted.ensures) c.args.engine.now c.args.out.now.output c.loop-engine.invariant in
    passed_on (λ r. g.E.TwoInputEngine.definition.ends c.args.engine.now c.args.out.now.output (fault_in r) c.give_buffered.new.self c.give_buffered.new.out.output)
    c.from_residual-in_err-give_buffered.result c.in_err-give_buffered.field-0.0 c.from_residual-in_err-give_buffered.ensures.1
    (c.in_err-give_buffered.ensures c.args.engine.now c.args.out.now.output filled.0)

pub returns : goal.returns
returns g c =
    let none = rw c.if-branch.false at c.in_ok-fill_wanted.ensures in
    c.finish.ensures c.fill_wanted.new.out.output c.args.engine.now c.args.out.now.output (rw (none.1, none.2) c.loop-engine.invariant)
