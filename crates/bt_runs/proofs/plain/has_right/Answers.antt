use Rattle.bt_lines.proofs.Std.{arith, false≢true}
use Rattle.bt_runs.proofs.lemmas.definitions.PlainSpans.{covered_below}
use Rattle.bt_runs.proofs.plain.has_right.Goals as goal

pub returns : goal.returns
returns c = (
  λ e. absurd (false≢true e),
  λ h.
      let low = covered_below c.args.end c.args.spans.now h.right c.requires.ended h.covered in
      absurd (c.loop-right.invariant h.right h.to_right (omega arith) h.covered h.near),
)
