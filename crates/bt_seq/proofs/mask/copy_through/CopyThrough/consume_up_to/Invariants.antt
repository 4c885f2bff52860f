use Rattle.bt_lines.proofs.Std.{◌≡◌, List, length, false}
use Rattle.bt_lines.specs.calls.Reader.{lines_in}
use Rattle.bt_lines.specs.model.Lines.{TextLine}
use Rattle.bt_seq.specs.inside.Masking.{CopiesLines}
use Rattle.bt_seq.proofs.mask.copy_through.CopyThrough.consume_up_to.Given as goal

-- lines were consumed, one after another
abbrev pub invariant-loop : goal.invariant-loop
invariant-loop l = record {
  come : (lines : List TextLine) × CopiesLines l.to l.initial.through lines l.through;
  closed : l.through.lines.is_open ≡ false;
}

abbrev pub decreases-loop : goal.decreases-loop
decreases-loop l = length (lines_in l.through.lines)
