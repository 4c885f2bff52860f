use Rattle.bt_lines.proofs.Std.{◌≡◌}
use Rattle.bt_lines.specs.calls.Reader.{input_of, room}
use Rattle.bt_tool.proofs.lemmas.running.feed.DrivingLemmas.{Going}
use Rattle.bt_tool.proofs.loops.converting.convert_all.Given as goal

-- the alignments of the lines so far were written
abbrev pub invariant-loop-line : goal.invariant-loop-line
invariant-loop-line g l = record {
  going : Going l.initial.converter.split l.initial.converter.with_cigar g.S.Source l.initial.lines l.initial.out.output l.lines l.out.output;
  same : l.converter ≡ l.initial.converter;
  input : l.input ≡ input_of l.initial.lines;
}

abbrev pub decreases-loop-line : goal.decreases-loop-line
decreases-loop-line g l = room l.lines
