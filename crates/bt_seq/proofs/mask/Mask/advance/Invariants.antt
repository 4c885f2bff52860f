use Rattle.bt_lines.proofs.Std.{◌≡◌, true, Bool, Ok}
use Rattle.bt_seq.specs.calls.MaskSteps.{GivesBoth, DoesNothing, left_to_give}
use Rattle.bt_seq.specs.declared.mask.MaskWant.TheVariants.{Nothing}
use Rattle.bt_seq.proofs.mask.Mask.advance.Given as goal

-- lines and records were given, one after another
abbrev pub invariant-loop : goal.invariant-loop
invariant-loop g l = record {
  gives : GivesBoth g.C.Cursor {A = Bool} l.fn.self l.fn.lines l.fn.records l.fn.out.output (Ok true) l.self l.lines l.records l.out.output;
  idle : l.fn.self.want ≡ Nothing → DoesNothing l.fn.self l.fn.lines l.fn.records l.fn.out.output l.self l.lines l.records l.out.output;
}

abbrev pub decreases-loop : goal.decreases-loop
decreases-loop g l = left_to_give g.C.Cursor l.self l.lines l.records
