use Rattle.bt_lines.proofs.Std.{◌≡◌, ◌<◌, ◌⊎◌, inl, inr, arith, subst, true}
use Rattle.bt_bed.specs.model.Levels.{AreLevelsOf}
use Rattle.bt_runs.specs.model.Depth.{depth_of}
use Rattle.bt_runs.specs.inside.PlainRuns.{levels_in, spans_in}
use Rattle.bt_runs.proofs.lemmas.definitions.PlainLevels.{all_levels, depth_reported, depth_unreported, value_with, value_without}
use Rattle.bt_runs.proofs.plain.depths.plain_depths.Goals as goal
use Rattle.bt_runs.proofs.plain.depths.plain_depths.Goals.{then-zeros+in_ok-add_depth, then-zeros-via-then-zeros, then-zeros-via-else-zeros+then-depth-gt0, else-zeros+else-depth-gt0}

pub loop-position-preserved : goal.loop-position-preserved
loop-position-preserved c =
    let spans = c.args.spans.now in
    let here = c.loop-position.position in
    let depth = c.depth_at-depth.result in
    let before = levels_in c.loop-position.depths.items in
    elim c.if-zeros.branch [
      | then-zeros+in_ok-add_depth w ↦
          let some : (c.args.zeros ≡ true) ⊎ (0 < depth) = elim w.then-zeros.branch [
            | then-zeros-via-then-zeros w' ↦ inl w'.if-zeros.true
            | then-zeros-via-else-zeros+then-depth-gt0 w' ↦ inr (grind arith)
          ] in
          rw (w.depths-is, w.in_ok-add_depth.ensures) (value_with (depth_of c.args.zeros (spans_in spans)) here depth before (depth_reported c.args.zeros spans here depth c.depth_at-depth.ensures some) c.loop-position.invariant)
      | else-zeros+else-depth-gt0 w ↦
          rw w.depths-is (value_without (depth_of c.args.zeros (spans_in spans)) here before (depth_unreported c.args.zeros spans here depth c.depth_at-depth.ensures w.if-zeros.false (grind arith)) c.loop-position.invariant)
    ]

pub returns : goal.returns
returns c =
    let end : c.loop-position.position ≡ c.args.size = omega (arith, c.loop-position.auto.position-end, c.loop-position-test.false) in
    all_levels (depth_of c.args.zeros (spans_in c.args.spans.now)) c.args.size (levels_in c.loop-position.depths.items) (subst (λ n. AreLevelsOf (depth_of c.args.zeros (spans_in c.args.spans.now)) n (levels_in c.loop-position.depths.items)) end c.loop-position.invariant)
