use Rattle.bt_lines.proofs.Std.{◌≡◌, ℕ, ◌+◌, Option, Some, None, subst, sym, IfNone, IfSome}
use Rattle.bt_lines.proofs.lemmas.reader.lines.BufferedLemmas.{lines_taken, passes_more, passes_none}
use Rattle.bt_lines.specs.calls.Reader.{PassesLines}
use Rattle.bt_lines.specs.declared.reader.buffered_lines.BufferedLines.{BufferedLines}
use Rattle.bt_lines.specs.declared.reader.line.Line.{Line}
use Rattle.bt_lines.proofs.tests.block_tests.takes_two.Goals as goal

-- one more line was consumed, or none
passes_next : (first old new : BufferedLines) (next : Option Line) → (n : ℕ) × PassesLines first n old → IfSome next (λ line. PassesLines old 1 new) → IfNone next (new ≡ old) → (n : ℕ) × PassesLines first n new
passes_next first old new None so_far some none = subst (λ b. (n : ℕ) × PassesLines first n b) (sym none) so_far
passes_next first old new (Some line) so_far some none = (so_far.0 + 1, passes_more first old new so_far.0 1 so_far.1 some)

pub consume-requires : goal.consume-requires
consume-requires g c =
    let first = c.buffered-lines.result in
    let one = passes_next first first c.next.new.self c.next.result (0, passes_none first) c.next.ensures.passes c.next.ensures.unchanged in
    let two = passes_next first c.next.new.self c.next-2.new.self c.next-2.result one c.next-2.ensures.passes c.next-2.ensures.unchanged in
    (lines_taken c.args.reader.now first c.next-2.new.self c.consumed-consumed.result two.0 c.buffered-lines.ensures.begins two.1 c.consumed-consumed.ensures).taken
