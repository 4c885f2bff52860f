use denote.Ref.{Bor}
use Rattle.bt_lines.proofs.Std.{List, Option, Some, ap, subst, sym, ℕ}
use Rattle.bt_lines.specs.calls.Names.{fault_value}
use Rattle.bt_lines.specs.calls.Device.{IsReaderRead, TellsText}
use Rattle.drop_in.proofs.lemmas.GenomeLemmas.{read_whole, read_wrong, reader_tells}
use Rattle.drop_in.proofs.genome_file.genome_in.Goals as goal

-- the bytes that are left of a text in memory
abbrev left_of : Bor (List ℕ) → Option (List ℕ)
left_of text = Some text.now

pub returns-in-Ok-clause-reads : goal.returns-in-Ok-clause-reads
returns-in-Ok-clause-reads c =
    let tells = reader_tells left_of c.new-source.result c.args.text.now (ap left_of c.new-source.ensures.reader) in
    read_whole _ _ _ c.args.text.now c.in-Ok.genome (subst (λ source. TellsText (IsReaderRead left_of) source c.args.text.now) (sym c.new-lines.ensures.source) tells) c.new-lines.ensures.going.2 c.new-lines.ensures.lines c.new-lines.ensures.input c.in-Ok.ensures.answers

pub returns-clause-wrong : goal.returns-clause-wrong
returns-clause-wrong c = λ of_text.
    let tells = reader_tells left_of c.new-source.result c.args.text.now (ap left_of c.new-source.ensures.reader) in
    read_wrong _ _ _ c.args.text.now (fault_value c.in-Err.fault) (subst (λ source. TellsText (IsReaderRead left_of) source c.args.text.now) (sym c.new-lines.ensures.source) tells) c.new-lines.ensures.going.2 c.new-lines.ensures.lines c.new-lines.ensures.input c.new-lines.ensures.going.0 c.in-Err.ensures.answers of_text
