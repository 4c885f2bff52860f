use Rattle.bt_lines.proofs.Std.{◌≡◌, ◌∙◌, ap, length, subst, sym, take, length-take-le}
use Rattle.bt_lines.specs.calls.Reader.{rest_in}
use Rattle.bt_lines.specs.calls.Columns.{IsBefore}
use Rattle.bt_lines.proofs.lemmas.reader.lines.BufferedLemmas.{line_first, line_none}
use Rattle.bt_lines.proofs.reader.buffered_lines.BufferedLines.first_line.Goals as goal

pub returns-clause-some : goal.returns-clause-some
returns-clause-some c =
    let count = c.line_length.result in
    let rest = c.rest-rest.result.now in
    let size : length (take count rest) ≡ count = length-take-le count rest c.line_length.ensures.within in
    line_first c.args.self.now (take count rest)
    (subst (λ bytes. IsBefore 10 bytes (length (take count rest))) c.rest-rest.ensures (subst (IsBefore 10 rest) (sym size) c.line_length.ensures))
    (ap (λ n. take n (rest_in c.args.self.now)) size ∙ ap (take count) (sym c.rest-rest.ensures))

pub returns-clause-none : goal.returns-clause-none
returns-clause-none c = line_none c.args.self.now
