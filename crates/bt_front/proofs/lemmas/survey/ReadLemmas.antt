-- Lemmas on surveying a source.
use Rattle.bt_lines.proofs.Std.{arith, length, length-append, nil_from_length, false, Bool, refl, ◌≡◌, ◌∙◌, ◌⊎◌, ℕ, ◌++◌, [], IsSome, List, None, Option, Some, ap, append-nil, append_assoc, inl, inr, is_some, list_all, subst, sym, true}
use Rattle.bt_lines.specs.calls.Device.{EndsAfter, FailsAfter, ReadsOn, TellsText, begun, gave}
use Rattle.bt_lines.specs.calls.Reader.{AreRead, EndsReads, Hands, IsReadFailed, end_told, fault_kept as line_fault, input_of, lines_coming, source_of}
use Rattle.bt_lines.specs.declared.fault.Input.{Input}
use Rattle.bt_lines.specs.declared.fault.Input.TheVariants.{First}
use Rattle.bt_lines.specs.declared.reader.line_reader.LineReader.{LineReader}
use Rattle.bt_lines.specs.model.Lines.{text_lines}
use Rattle.bt_lines.specs.declared.device.Source.{Ghosts as Source}
use Rattle.bt_lines.specs.model.Fault.{FaultValue}
use Rattle.bt_lines.proofs.lemmas.reader.block.ReadsLemmas.{no_fault}
use Rattle.bt_bed.specs.calls.Blocks.{below, view_of}
use Rattle.bt_bed.specs.calls.Reading.{coming}
use Rattle.bt_bed.specs.declared.read.blocks.Blocks.{Blocks}
use Rattle.bt_bed.specs.model.Feature.{Feature}
use Rattle.bt_bed.specs.model.Good.{Good, block_format, good, items_in}
use Rattle.bt_front.specs.calls.Survey.{LeavesText, Surveys, IsTroubleIn, IsTroubleOf}
use Rattle.bt_front.specs.declared.survey.Survey.{Survey}
use Rattle.bt_front.specs.declared.survey.oddity.OddLine.{OddLine}
use Rattle.bt_front.specs.declared.survey.trouble.Trouble.{Trouble}
use Rattle.bt_front.specs.declared.survey.trouble.Trouble.TheVariants.{ComesBack, Odd, Refused}
use Rattle.bt_front.specs.declared.survey.watched.Watched.{Watched}
use Rattle.bt_front.specs.inside.Seeing.{HasSeenAll, StopsSeeing}
use Rattle.bt_front.specs.inside.Watched.{BeginsOdd, EndsBy, IsWatchedRead, Shows, ShowsBy, watched_source}
use Rattle.bt_front.specs.model.Odd.{IsOddLine, is_plain, raw_lines}
use Rattle.bt_front.specs.model.Survey.{AreSeen, read_of}

-- ---- what a reader of lines says of its reads

some_kept : (kept : Option FaultValue) → IsReadFailed kept → IsSome kept
some_kept kept failed = ap is_some failed.2

-- they all succeeded, or the last one failed and a fault is kept
reads_either : {S : Type 0} (device : Source S) (old : LineReader S) (bytes : List ℕ) (new : LineReader S) → AreRead device old bytes new
    → ReadsOn device.is_read (source_of old) bytes (source_of new) ⊎ (FailsAfter device.is_read (source_of old) bytes (source_of new) × IsSome (line_fault new))
unfolding AreRead
reads_either device old bytes new (inl served) = inl served.0
reads_either device old bytes new (inr failed) = inr (failed.0, some_kept (line_fault new) failed.1)

-- ---- the reads of a watched source are those of the source below, and the bytes are looked at

module _ {S : Type 0} (IsRead : S → Option (List ℕ) → S → Type 0) where
  pub reads_below : {first last : Watched S} {bytes : List ℕ} → ReadsOn (IsWatchedRead IsRead) first bytes last → ReadsOn IsRead first.source bytes last.source
  reads_below begun = begun
  reads_below (gave two piece after is) = gave (reads_below two) piece after.source is.served

  pub shows_after : {first last : Watched S} {bytes : List ℕ} → ReadsOn (IsWatchedRead IsRead) first bytes last → (past : List ℕ) → Shows past first → Shows (past ++ bytes) last
  shows_after {last} begun past shows = subst (λ (l : List ℕ). Shows l last) (sym (append-nil past)) shows
  shows_after (gave {bytes} two piece after is) past shows =
      subst (λ (l : List ℕ). Shows l after) (append_assoc past bytes piece) (is.passes (past ++ bytes) (shows_after two past shows))

  fails_below : (first last : Watched S) (bytes : List ℕ) → FailsAfter (IsWatchedRead IsRead) first bytes last
      → ReadsOn IsRead first.source bytes last.source ⊎ FailsAfter IsRead first.source bytes last.source
  fails_below first last bytes fails = go fails.fails.cause
    where
      go : ((last.source ≡ fails.before.source) × IsSome last.found) ⊎ IsRead fails.before.source None last.source
          → ReadsOn IsRead first.source bytes last.source ⊎ FailsAfter IsRead first.source bytes last.source
      go (inl stopped) = inl (subst (λ (s : S). ReadsOn IsRead first.source bytes s) (sym stopped.0) (reads_below fails.served))
      go (inr failed) = inr (record { before = fails.before.source; served = reads_below fails.served; fails = failed })

  -- all that the reads of a call did
  pub handed_below : (first last : Watched S) (bytes : List ℕ) (Faulty : Type 0) → ReadsOn (IsWatchedRead IsRead) first bytes last ⊎ (FailsAfter (IsWatchedRead IsRead) first bytes last × Faulty)
      → ReadsOn IsRead first.source bytes last.source ⊎ FailsAfter IsRead first.source bytes last.source
  handed_below first last bytes Faulty (inl reads) = inl (reads_below reads)
  handed_below first last bytes Faulty (inr fails) = fails_below first last bytes fails.0

  pub shows_handed : (first last : Watched S) (bytes : List ℕ) (Faulty : Type 0) → ReadsOn (IsWatchedRead IsRead) first bytes last ⊎ (FailsAfter (IsWatchedRead IsRead) first bytes last × Faulty)
      → Shows [] first → Shows bytes last
  shows_handed first last bytes Faulty (inl reads) shows = shows_after reads [] shows
  shows_handed first last bytes Faulty (inr fails) shows = fails.0.fails.keeps bytes (shows_after fails.0.served [] shows)

  pub ends_below : (first last : Watched S) (bytes : List ℕ) → EndsAfter (IsWatchedRead IsRead) first bytes last → EndsAfter IsRead first.source bytes last.source
  ends_below first last bytes ends = record { before = ends.before.source; served = reads_below ends.served; tells = ends.tells.served }

-- ---- a source that tells its text

-- nothing comes after all of it
none_behind : (text bytes rest : List ℕ) → text ≡ bytes → text ≡ bytes ++ rest → rest ≡ []
none_behind text bytes rest all parts = nil_from_length rest (omega (arith, ap length (sym all ∙ parts), length-append bytes rest))

module _ {S : Type 0} (device : Source S) (before after : S) (text : List ℕ) (tells : TellsText device.is_read before text) where
  pub survey_told : (survey : Survey) (surveys : Surveys device before after survey) → text ≡ surveys.bytes
  survey_told survey surveys = tells.ends surveys.bytes after surveys.told

  -- the bytes that were handed over come first
  comes_first : (bytes : List ℕ) → ReadsOn device.is_read before bytes after ⊎ FailsAfter device.is_read before bytes after → (rest : List ℕ) × (text ≡ bytes ++ rest)
  comes_first bytes (inl served) = tells.hands bytes after served
  comes_first bytes (inr fails) = tells.hands bytes fails.before fails.served

  pub leaves_told : (trouble : Trouble) (leaves : LeavesText device before after trouble) → (rest : List ℕ) × (text ≡ leaves.bytes ++ rest) × (leaves.ended ≡ true → rest ≡ [])
  leaves_told trouble leaves =
      let first = comes_first leaves.bytes leaves.handed in
      (first.0, first.1, λ ended. none_behind text leaves.bytes first.0 (tells.ends leaves.bytes after (leaves.told ended)) first.1)

-- ---- a survey

-- the trouble of the records is one of the text
in_text : (text : List ℕ) (trouble : Trouble) → IsTroubleIn (read_of text) trouble → IsTroubleOf text trouble
in_text text (Odd odd) is = inr is
in_text text (Refused fault) is = is
in_text text (ComesBack line) is = is

module _ {S : Type 0} (device : Source S) where
  -- a reader of the records of a source that is watched
  pub record Watching (source : S) (blocks : Blocks (Watched S)) : Type 0 where
    pub source_is : (source_of (below blocks)).source ≡ source
    pub shows : Shows [] (source_of (below blocks))
    pub good : (text : List ℕ) → coming text (view_of blocks) ≡ read_of text
    pub untold : end_told (below blocks) ≡ false

  -- one that was just made is
  pub watching : (source : S) (watched : Watched S) (reader : LineReader (Watched S)) (blocks : Blocks (Watched S)) → watched.source ≡ source → Shows [] watched
      → source_of reader ≡ watched → end_told reader ≡ false → input_of reader ≡ First → ((text : List ℕ) → lines_coming text reader ≡ text_lines text)
      → below blocks ≡ reader → ((text : List ℕ) → coming text (view_of blocks) ≡ good block_format (input_of reader) (lines_coming text reader))
      → Watching source blocks
  watching source watched reader blocks here shows above untold input lines holds comes =
      let at : source_of (below blocks) ≡ watched = ap source_of holds ∙ above in record {
        source_is = ap (λ (w : Watched S). w.source) at ∙ here;
        shows = subst (λ (w : Watched S). Shows [] w) (sym at) shows;
        good = λ text. comes text ∙ ap (λ (i : Input). good block_format i (lines_coming text reader)) input ∙ ap (good block_format First) (lines text);
        untold = ap end_told holds ∙ untold;
      }

  module _ (source : S) (old new : Blocks (Watched S)) (watched : Watched S) (after : S) (so : Watching source old) (is : watched ≡ source_of (below new)) (ends : after ≡ watched.source) where
    same : after ≡ (source_of (below new)).source
    same = ends ∙ ap (λ (w : Watched S). w.source) is

    module _ (bytes : List ℕ) (hands : Hands (watched_source device) (below old) bytes (below new)) where
      handed : ReadsOn device.is_read source bytes after ⊎ FailsAfter device.is_read source bytes after
      handed =
          subst (λ (s : S). ReadsOn device.is_read source bytes s ⊎ FailsAfter device.is_read source bytes s) (sym same)
          (subst (λ (s : S). ReadsOn device.is_read s bytes (source_of (below new)).source ⊎ FailsAfter device.is_read s bytes (source_of (below new)).source) so.source_is
          (handed_below device.is_read (source_of (below old)) (source_of (below new)) bytes (IsSome (line_fault (below new))) (reads_either (watched_source device) (below old) bytes (below new) hands.reads)))

      shown : Shows bytes watched
      shown = subst (λ (w : Watched S). Shows bytes w) (sym is) (shows_handed device.is_read (source_of (below old)) (source_of (below new)) bytes (IsSome (line_fault (below new))) (reads_either (watched_source device) (below old) bytes (below new) hands.reads) so.shows)

      ended : end_told (below new) ≡ true → EndsAfter device.is_read source bytes after
      unfolding EndsReads
      ended told =
          subst (λ (s : S). EndsAfter device.is_read source bytes s) (sym same)
          (subst (λ (s : S). EndsAfter device.is_read s bytes (source_of (below new)).source) so.source_is
          (ends_below device.is_read (source_of (below old)) (source_of (below new)) bytes (hands.ends_reads.1 so.untold told)))

    -- the records were seen to the end, whose last line isn't odd
    pub surveyed : (survey : Survey) → HasSeenAll (watched_source device) old new survey → ((bytes : List ℕ) → Shows bytes watched → EndsBy bytes None) → Surveys device source after survey
    surveyed survey sees plain =
        let bytes = sees.bytes.0 in
        let lines : list_all is_plain (raw_lines bytes) ≡ true = plain bytes (shown bytes sees.bytes.1) in
        record {
          bytes = bytes;
          told = ended bytes sees.bytes.1 sees.told;
          is = record {
            plain = lines;
            faultless = subst (λ (g : Good Feature). g.fault ≡ None) (so.good bytes) sees.faultless;
            records = subst (λ (g : Good Feature). AreSeen (items_in g) survey) (so.good bytes) sees.records;
          };
        }

    -- the last line is odd
    pub ends_odd : (survey : Survey) (odd : OddLine) → HasSeenAll (watched_source device) old new survey → ((bytes : List ℕ) → Shows bytes watched → EndsBy bytes (Some odd)) → LeavesText device source after (Odd odd)
    ends_odd survey odd sees finds =
        let bytes = sees.bytes.0 in
        let line : IsOddLine bytes odd = finds bytes (shown bytes sees.bytes.1) in record {
          bytes = bytes;
          handed = handed bytes sees.bytes.1;
          ended = true;
          told = λ e. ended bytes sees.bytes.1 sees.told;
          is = λ rest follows. inl (subst (λ (l : List ℕ). IsOddLine l odd) (sym (ap (λ l. bytes ++ l) (follows refl) ∙ append-nil bytes)) line);
        }

    -- an odd line passed
    pub found_odd : (odd : OddLine) (trouble : Trouble) → StopsSeeing (watched_source device) old new trouble → watched.found ≡ Some odd → LeavesText device source after (Odd odd)
    found_odd odd trouble stops found =
        let bytes = stops.bytes.0 in
        let begins : BeginsOdd bytes odd = subst (λ (o : Option OddLine). ShowsBy bytes watched.watch watched.feeds o) found (shown bytes stops.bytes.1).by in record {
          bytes = bytes;
          handed = handed bytes stops.bytes.1;
          ended = end_told (below new);
          told = ended bytes stops.bytes.1;
          is = λ rest follows. inl (begins.first rest);
        }

    -- or the records leave the text to bedtools
    pub leaves : (trouble : Trouble) → StopsSeeing (watched_source device) old new trouble → LeavesText device source after trouble
    leaves trouble stops =
        let bytes = stops.bytes.0 in record {
          bytes = bytes;
          handed = handed bytes stops.bytes.1;
          ended = end_told (below new);
          told = ended bytes stops.bytes.1;
          is = λ rest follows. in_text (bytes ++ rest) trouble
              (subst (λ (g : Good Feature). IsTroubleIn g trouble) (so.good (bytes ++ rest)) (stops.trouble_is rest follows));
        }
