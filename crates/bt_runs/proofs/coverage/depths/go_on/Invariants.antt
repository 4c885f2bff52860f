use Rattle.bt_lines.proofs.Std.{◌≡◌, ◌-◌, ◌≤◌}
use Rattle.bt_lines.specs.calls.Output.{Grown}
use Rattle.bt_runs.specs.inside.Coverage.{begun_seen, levels_on, still_open}
use Rattle.bt_bed.specs.calls.LevelScan.{begun_after, ended_after}
use Rattle.bt_runs.specs.model.Depth.{depth_lines, depth_of}
use Rattle.bt_runs.proofs.coverage.depths.go_on.Given as goal

-- the intervals so far were written, and the records that were open at first are open while they haven't ended
abbrev pub invariant-loop-position : goal.invariant-loop-position
invariant-loop-position g l = record {
  from : l.fn.held.at ≤ l.position;
  to : l.position - l.fn.held.at ≤ l.stop - l.fn.held.at;
  here : l.held.at ≤ l.position;
  same : still_open l.held.at l.held.spans ≡ still_open l.held.at l.fn.held.spans;
  puts : Grown l.fn.out.output (depth_lines (levels_on l.chrom.name.now (ended_after (depth_of l.chrom.zeros l.fn.held.spans) l.fn.held.at (l.position - l.fn.held.at) (begun_seen l.fn.begun)))) l.out.output;
  begun : begun_seen l.begun ≡ begun_after (depth_of l.chrom.zeros l.fn.held.spans) l.fn.held.at (l.position - l.fn.held.at) (begun_seen l.fn.begun);
}

abbrev pub decreases-loop-position : goal.decreases-loop-position
decreases-loop-position g l = l.stop - l.position
