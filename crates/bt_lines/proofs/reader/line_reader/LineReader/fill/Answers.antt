use Rattle.bt_lines.proofs.Std.{◌∙◌, ap, eqb, length, false≢true}
use Rattle.bt_lines.proofs.lemmas.reader.block.FillLemmas.{fills_ready}
use Rattle.bt_lines.proofs.reader.line_reader.LineReader.fill.Goals as goal

pub returns-then-not-is_empty-clause-fills : goal.returns-then-not-is_empty-clause-fills
returns-then-not-is_empty-clause-fills g c =
    fills_ready _ c.args.self.now (λ e. false≢true (c.if-not-is_empty.ensures ∙ ap (λ n. eqb n 0) (ap length c.lines.ensures ∙ e)))
