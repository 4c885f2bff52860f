use Rattle.bt_tool.proofs.loops.two_inputs.run_two.Given as goal

-- the run has come so far
abbrev pub invariant-loop-engine : goal.invariant-loop-engine
invariant-loop-engine g l = g.E.TwoInputEngine.definition.comes l.initial.engine l.initial.out.output l.engine l.out.output

abbrev pub decreases-loop-engine : goal.decreases-loop-engine
decreases-loop-engine g l = g.E.TwoInputEngine.definition.left l.engine
