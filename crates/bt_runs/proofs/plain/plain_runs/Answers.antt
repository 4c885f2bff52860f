use Rattle.bt_lines.proofs.Std.{arith, false≢true}
use Rattle.bt_runs.specs.calls.MergedRuns.{Bridged}
use Rattle.bt_runs.specs.inside.PlainRuns.{spans_in}
use Rattle.bt_runs.proofs.lemmas.definitions.PlainSpans.{below_with, runs_below-all}
use Rattle.bt_runs.proofs.plain.plain_runs.Goals as goal
use Rattle.bt_runs.proofs.plain.plain_runs.Goals.{then-is_bridged+in_ok-add_position, else-is_bridged}

pub loop-position-preserved : goal.loop-position-preserved
loop-position-preserved c =
    let before = spans_in c.loop-position.runs.items in
    elim c.if-is_bridged.branch [
      | then-is_bridged+in_ok-add_position w ↦
          let added = w.in_ok-add_position.ensures in
          rw (w.runs-is, added) (below_with (Bridged c.args.gap (spans_in c.args.spans.now)) c.loop-position.position before c.loop-position.invariant (c.is_bridged.ensures.0 w.if-is_bridged.true))
      | else-is_bridged w ↦ grind (arith, false≢true)
    ]

pub returns : goal.returns
returns c = runs_below-all c.args.gap c.args.spans.now c.greatest_stop-end.result c.loop-position.position (spans_in c.loop-position.runs.items) c.greatest_stop-end.ensures (omega arith) c.loop-position.invariant
