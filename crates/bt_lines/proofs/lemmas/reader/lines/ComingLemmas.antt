-- Lemmas on the lines that come.
use Rattle.bt_lines.proofs.Std.{◌≡◌, ◌∙◌, ℕ, suc, List, [], ◌++◌, sym, ap, append_assoc}
use Rattle.bt_lines.specs.declared.device.Source.{Ghosts as Source}
use Rattle.bt_lines.proofs.lemmas.reader.lines.TextLemmas.{lines_from-nil}
use Rattle.bt_lines.specs.calls.Reader.{GivesEnd, MakesLine, held, lines_coming, lines_given}
use Rattle.bt_lines.specs.declared.reader.line_reader.LineReader.{LineReader}
use Rattle.bt_lines.specs.model.Lines.{lines_from}

module _ {S : Type 0} (device : Source S) (old new : LineReader S) where
  -- the lines that come are the same once one is buffered
  pub made_coming : (makes : MakesLine device old new) (rest : List ℕ) → lines_coming (makes.bytes.0 ++ rest) old ≡ lines_coming rest new
  unfolding lines_coming
  made_coming makes rest =
      ap (lines_from (suc (lines_given old))) (sym (append_assoc (held old) makes.bytes.0 rest) ∙ ap (λ l. l ++ rest) (sym makes.bytes.2)) ∙ ap (λ n. lines_from (suc n) (held new ++ rest)) (sym makes.counted)

  -- at the end none came
  pub none_came : (gives : GivesEnd device old new) → lines_coming gives.bytes.0 old ≡ []
  unfolding lines_coming
  none_came gives = ap (lines_from (suc (lines_given old))) gives.bytes.2 ∙ lines_from-nil (suc (lines_given old))

  -- and none comes
  pub none_comes : GivesEnd device old new → lines_coming [] new ≡ []
  unfolding lines_coming
  none_comes gives = ap (λ l. lines_from (suc (lines_given new)) (l ++ [])) gives.nothing_held ∙ lines_from-nil (suc (lines_given new))
