use denote.Ref.{Bor}
use Rattle.bt_lines.proofs.Std.{List, Option, Some, ap, ℕ}
use Rattle.drop_in.proofs.lemmas.GenomeLemmas.{reader_tells}
use Rattle.drop_in.proofs.lemmas.GzipLemmas.{left_text, surveyed_text}
use Rattle.drop_in.proofs.gzip.survey_text.Goals as goal

-- the bytes that are left of a text in memory
abbrev left_of : Bor (List ℕ) → Option (List ℕ)
left_of text = Some text.now

pub returns-clause-surveys : goal.returns-clause-surveys
returns-clause-surveys c =
    surveyed_text _ c.new-source.result c.read-surveyed.result.1 c.args.text.now
    (reader_tells left_of c.new-source.result c.args.text.now (ap left_of c.new-source.ensures.reader)) c.read-surveyed.result.0 c.read-surveyed.ensures

pub returns-clause-leaves : goal.returns-clause-leaves
returns-clause-leaves c =
    left_text _ c.new-source.result c.read-surveyed.result.1 c.args.text.now
    (reader_tells left_of c.new-source.result c.args.text.now (ap left_of c.new-source.ensures.reader)) c.read-surveyed.result.0 c.read-surveyed.ensures
