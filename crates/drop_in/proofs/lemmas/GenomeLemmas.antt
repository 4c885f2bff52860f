-- A genome file in memory is read as its whole text.
use Rattle.bt_lines.proofs.Std.{◌≡◌, ◌∙◌, ◌++◌, [], inl, inr, ℕ, List, Ok, Err, Option, Some, None, ap, append-nil, append_cancel_left, false, false≢true, none-some, true, subst, sym}
use Rattle.bt_lines.specs.declared.device.Source.{Ghosts as Source}
use Rattle.bt_lines.specs.declared.device.from_read.FromRead.{FromRead}
use Rattle.bt_lines.proofs.lemmas.Device.{tells_text}
use Rattle.bt_lines.specs.declared.fault.Input.{Input}
use Rattle.bt_lines.specs.declared.fault.Input.TheVariants.{Genome as OfGenome}
use Rattle.bt_lines.specs.declared.reader.line_reader.LineReader.{LineReader}
use Rattle.bt_lines.specs.calls.Device.{IsReaderRead, TellsText, reader_of}
use Rattle.bt_lines.specs.calls.Reader.{AreRead, EndsReads, Hands, MayStillCome, end_told, fault_kept, input_of, lines_coming, source_of}
use Rattle.bt_lines.specs.model.Fault.{FaultValue}
use Rattle.bt_lines.specs.model.Lines.{TextLine, text_lines, whole_text}
use Rattle.bt_bed.specs.model.Genome.{genome_handed, genome_of}
use Rattle.bt_bed.specs.calls.GenomeTable.{EntryIsWrong, ReadingStops, ReadsAll, StopCause, entries}
use Rattle.bt_bed.specs.declared.order.genome.Genome.{Genome}
use Rattle.drop_in.specs.calls.GenomeFiles.{is_of_text}

-- a source over a reader that knows its rest tells it
pub reader_tells : {R : Type 0} (remaining : R → Option (List ℕ)) (source : FromRead R) (text : List ℕ) → remaining (reader_of source) ≡ Some text → TellsText (IsReaderRead remaining) source text
reader_tells remaining source text known = tells_text (IsReaderRead remaining) (λ s. remaining (reader_of s)) (λ before bytes after is. is.1) source text known

module _ {S : Type 0} (device : Source S) (old new : LineReader S) where
  pub read_whole : (text : List ℕ) (genome : Genome) → TellsText device.is_read (source_of old) text → end_told old ≡ false
      → ((rest : List ℕ) → lines_coming rest old ≡ text_lines rest) → input_of old ≡ OfGenome
      → ReadsAll device old new genome → genome_handed OfGenome (whole_text text) ≡ Ok (entries genome)
  unfolding EndsReads
  read_whole text genome tells untold come input reads =
      let is : text ≡ reads.bytes.0 = tells.ends reads.bytes.0 (source_of new) (reads.bytes.1.ends_reads.1 untold reads.told) in
      subst (λ (i : Input). genome_of i (text_lines text) ≡ Ok (entries genome)) input
      (subst (λ (lines : List TextLine). genome_of (input_of old) lines ≡ Ok (entries genome)) (come reads.bytes.0 ∙ ap text_lines (sym is)) reads.is)

  at_wrong : (text bytes rest : List ℕ) (fault : FaultValue) → text ≡ bytes ++ rest → MayStillCome new rest → ((rest : List ℕ) → lines_coming rest old ≡ text_lines rest) → input_of old ≡ OfGenome
      → EntryIsWrong device old bytes new fault → genome_handed OfGenome (whole_text text) ≡ Err fault
  at_wrong text bytes rest fault are may come input wrong =
      subst (λ (i : Input). genome_of i (text_lines text) ≡ Err fault) input
      (subst (λ (lines : List TextLine). genome_of (input_of old) lines ≡ Err fault) (come (bytes ++ rest) ∙ ap text_lines (sym are)) (wrong.is rest may))

  by_reads : (text bytes : List ℕ) (fault : FaultValue) → TellsText device.is_read (source_of old) text → end_told old ≡ false → ((rest : List ℕ) → lines_coming rest old ≡ text_lines rest) → input_of old ≡ OfGenome
      → Hands device old bytes new → EntryIsWrong device old bytes new fault → AreRead device old bytes new → genome_handed OfGenome (whole_text text) ≡ Err fault
  unfolding AreRead EndsReads
  by_reads text bytes fault tells untold come input hands wrong (inl (served, within)) =
      let left = tells.hands bytes (source_of new) served in
      at_wrong text bytes left.0 fault left.1
      (λ told. append_cancel_left bytes left.0 [] (sym left.1 ∙ tells.ends bytes (source_of new) (hands.ends_reads.1 untold told) ∙ sym (append-nil bytes)))
      come input wrong
  by_reads text bytes fault tells untold come input hands wrong (inr (fails, (of_input, line, kept))) = absurd (none-some _ (sym wrong.going ∙ kept))

  by_cause : (text bytes : List ℕ) (fault : FaultValue) → TellsText device.is_read (source_of old) text → end_told old ≡ false → ((rest : List ℕ) → lines_coming rest old ≡ text_lines rest) → input_of old ≡ OfGenome
      → Hands device old bytes new → is_of_text fault.kind ≡ true → StopCause device old bytes new fault → genome_handed OfGenome (whole_text text) ≡ Err fault
  by_cause text bytes fault tells untold come input hands of_text (inl wrong) = by_reads text bytes fault tells untold come input hands wrong hands.reads
  by_cause text bytes fault tells untold come input hands of_text (inr (inl unread)) = absurd (false≢true (subst (λ (f : FaultValue). is_of_text f.kind ≡ true) unread.fails.is of_text))
  by_cause text bytes fault tells untold come input hands of_text (inr (inr ran_out)) = absurd (false≢true (subst (λ (f : FaultValue). is_of_text f.kind ≡ true) ran_out.is of_text))

  pub read_wrong : (text : List ℕ) (fault : FaultValue) → TellsText device.is_read (source_of old) text → end_told old ≡ false
      → ((rest : List ℕ) → lines_coming rest old ≡ text_lines rest) → input_of old ≡ OfGenome → fault_kept old ≡ None
      → ReadingStops device old new fault → is_of_text fault.kind ≡ true → genome_handed OfGenome (whole_text text) ≡ Err fault
  read_wrong text fault tells untold come input none stops of_text =
      by_cause text stops.bytes.0 fault tells untold come input stops.bytes.1 of_text (stops.first none)
