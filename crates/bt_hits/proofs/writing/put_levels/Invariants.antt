use Rattle.bt_lines.proofs.Std.{filter}
use Rattle.bt_lines.specs.calls.Output.{Grown}
use Rattle.bt_sweep.specs.model.Lines.{hit_line}
use Rattle.bt_hits.specs.inside.Meeting.{records_near}
use Rattle.bt_hits.specs.inside.Writing.{is_hit_on}
use Rattle.bt_hits.proofs.lemmas.Writing.{lines_to}
use Rattle.bt_hits.proofs.writing.put_levels.Given as goal

-- the lines of the levels so far were put
abbrev pub invariant-loop-level : goal.invariant-loop-level
invariant-loop-level g l = Grown l.fn.out.output (lines_to (hit_line l.listing.shape l.a) (λ level. filter (is_hit_on l.listing.rule level l.a) (records_near l.near)) l.level) l.out.output
