use Rattle.bt_lines.proofs.Std.{◌≤◌, length}
use Rattle.bt_hits.proofs.meeting.count_undecided.Given as goal

-- there are so many
abbrev pub invariant-loop-index : goal.invariant-loop-index
invariant-loop-index g l = l.index ≤ length l.rest.items
