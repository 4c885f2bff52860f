use Rattle.bt_lines.proofs.Std.{arith, sym, ◌∙◌, nat_tests, nil_from_length}
use Rattle.bt_lines.specs.calls.Reader.{rest_in}
use Rattle.bt_lines.proofs.lemmas.reader.lines.BufferedLemmas.{line_none}
use Rattle.bt_lines.proofs.reader.buffered_lines.BufferedLines.first.Goals as goal

pub returns-then-is_empty-clause-none : goal.returns-then-is_empty-clause-none
returns-then-is_empty-clause-none c = line_none c.args.self.now (nil_from_length (rest_in c.args.self.now) (grind (arith, nat_tests, sym c.is_empty.ensures ∙ c.if-is_empty.true)))
