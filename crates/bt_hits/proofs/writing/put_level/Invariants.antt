use Rattle.bt_lines.proofs.Std.{filter, flat_map, take}
use Rattle.bt_lines.specs.calls.Output.{Grown}
use Rattle.bt_sweep.specs.model.Lines.{hit_line}
use Rattle.bt_hits.specs.inside.Meeting.{records_near}
use Rattle.bt_hits.specs.inside.Writing.{is_hit_on}
use Rattle.bt_hits.proofs.writing.put_level.Given as goal

-- the lines of those so far were put
abbrev pub invariant-loop-index : goal.invariant-loop-index
invariant-loop-index g l = Grown l.fn.out.output (flat_map (hit_line l.listing.shape l.a) (filter (is_hit_on l.listing.rule l.level l.a) (take l.index (records_near l.near)))) l.out.output
