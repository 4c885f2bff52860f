-- Lemmas on streams that are kept, and on texts in memory.
use Rattle.std.specs.Prelude.{Vec}
use Rattle.std.specs.Io.Cursor.{cursor_inner, cursor_position}
use Rattle.std.specs.declared.alloc.Global.{Global}
use Rattle.std.specs.declared.io.impls.Cursor.{Cursor}
use Rattle.bt_lines.proofs.Std.{◌≡◌, ◌∙◌, ◌⊎◌, ◌++◌, ℕ, [], List, Option, Some, None, Result, Ok, Err, ap, append-nil, append_assoc, inl, inr, refl, subst, sym}
use Rattle.bt_lines.proofs.lemmas.reader.block.ReadsLemmas.{ends_later, ends_once}
use Rattle.bt_lines.specs.declared.device.Source.{Ghosts as Source}
use Rattle.bt_lines.specs.declared.device.from_read.FromRead.{FromRead}
use Rattle.bt_lines.specs.calls.Device.{EndsAfter, FailsAfter, Gives, ReadsOn, begun, gave, reader_of}
use Rattle.bt_front.specs.calls.Stream.{IsKeptRead, has_stopped, kept_of, source_of}
use Rattle.bt_front.specs.calls.Survey.{ReadsSurvey}
use Rattle.bt_front.specs.declared.stream.keeping.Keeping.{Keeping}
use Rattle.bt_front.specs.declared.survey.Survey.{Survey}
use Rattle.bt_front.specs.declared.survey.trouble.Trouble.{Trouble}
use Rattle.bt_lines.proofs.lemmas.Device.{tells_text}
use Rattle.drop_in.specs.calls.Inputs.{IsFrontRead, kept_left, kept_texts_are_told}
use Rattle.drop_in.specs.declared.front_files.FrontInput.{FrontInput}
use Rattle.drop_in.specs.declared.front_files.FrontInput.TheVariants.{Kept, Opened}
use Rattle.drop_in.specs.calls.Looks.{IsUnfinished, StopsAfter, SurveysStream, Unfinishes}
use Rattle.drop_in.specs.declared.genome_file.Unfinished.{Unfinished}
use Rattle.drop_in.specs.declared.genome_file.Unfinished.TheVariants.{Failed, Long, NoMemory}
use Rattle.drop_in.specs.declared.looks.ReadStream.{ReadStream}

-- a text in memory of which nothing was read has all of it
pub kept_all : (source : FromRead (Cursor (Vec ℕ Global))) (cursor : Cursor (Vec ℕ Global)) (text : Vec ℕ Global)
    → reader_of source ≡ cursor → cursor_position cursor ≡ 0 → cursor_inner cursor ≡ text → kept_left source ≡ Some text.items
kept_all source cursor text reader at inner = rw (reader, at, inner) refl

module _ {S : Type 0} (IsRead : S → Option (List ℕ) → S → Type 0) where
  -- one more read of a source that keeps
  pub kept_more : (first : S) (before after : Keeping S) (piece : List ℕ) → ReadsOn IsRead first (kept_of before) (source_of before)
      → IsKeptRead IsRead before (Some piece) after → ReadsOn IsRead first (kept_of after) (source_of after)
  kept_more first before after piece reads is =
      subst (λ (kept : List ℕ). ReadsOn IsRead first kept (source_of after)) (sym (is.0)) (gave reads piece (source_of after) (is.1))

  -- or one that told the end
  pub kept_last : (first : S) (before after : Keeping S) (piece : List ℕ) → piece ≡ [] → ReadsOn IsRead first (kept_of before) (source_of before)
      → IsKeptRead IsRead before (Some piece) after → EndsAfter IsRead first (kept_of after) (source_of after)
  kept_last first before after piece none reads is =
      subst (λ (kept : List ℕ). EndsAfter IsRead first kept (source_of after)) (sym (is.0))
      (ends_later IsRead reads (ends_once IsRead (source_of before) (source_of after) piece none (is.1)))

  -- what was read of it was read of the source below, and is kept
  pub kept_reads : {first last : Keeping S} {bytes : List ℕ} → ReadsOn (IsKeptRead IsRead) first bytes last
      → ReadsOn IsRead (source_of first) bytes (source_of last) × (kept_of last ≡ kept_of first ++ bytes)
  kept_reads {first} begun = (begun, sym (append-nil (kept_of first)))
  kept_reads {first} (gave {bytes} reads piece after is) =
      let so = kept_reads reads in (
        gave so.0 piece (source_of after) (is.1),
        is.0 ∙ ap (λ (kept : List ℕ). kept ++ piece) so.1 ∙ append_assoc (kept_of first) bytes piece,
      )

  -- or told the end then
  pub kept_ends : (first last : Keeping S) (bytes : List ℕ) → EndsAfter (IsKeptRead IsRead) first bytes last
      → EndsAfter IsRead (source_of first) bytes (source_of last) × (kept_of last ≡ kept_of first ++ bytes)
  kept_ends first last bytes ends =
      let so = kept_reads ends.served in (
        record { before = source_of ends.before; served = so.0; tells = ends.tells.1 },
        ends.tells.0 ∙ append-nil (kept_of ends.before) ∙ so.1,
      )

  -- or it failed then
  pub kept_fails : (first last : Keeping S) (bytes : List ℕ) → FailsAfter (IsKeptRead IsRead) first bytes last
      → (ReadsOn IsRead (source_of first) bytes (source_of last) ⊎ FailsAfter IsRead (source_of first) bytes (source_of last))
      × (kept_of last ≡ kept_of first ++ bytes)
  kept_fails first last bytes fails =
      let so = kept_reads fails.served in (by_cause so.0 (fails.fails.1), fails.fails.0 ∙ so.1)
    where
      by_cause : ReadsOn IsRead (source_of first) bytes (source_of fails.before)
          → (source_of last ≡ source_of fails.before) ⊎ IsRead (source_of fails.before) None (source_of last)
          → ReadsOn IsRead (source_of first) bytes (source_of last) ⊎ FailsAfter IsRead (source_of first) bytes (source_of last)
      by_cause served (inl same) = inl (subst (λ (s : S). ReadsOn IsRead (source_of first) bytes s) (sym same) served)
      by_cause served (inr failed) = inr (record { before = source_of fails.before; served = served; fails = failed })

module _ {S : Type 0} (device : Source S) where
  -- a read of it failed
  kept_stops : (first : S) (before after : Keeping S) → ReadsOn device.is_read first (kept_of before) (source_of before) → IsKeptRead device.is_read before None after
      → StopsAfter device first (kept_of after) (source_of after)
  kept_stops first before after reads (same, inl unread) =
      inl (subst (λ (s : S). ReadsOn device.is_read first (kept_of after) s) (sym unread) (subst (λ (kept : List ℕ). ReadsOn device.is_read first kept (source_of before)) (sym same) reads))
  kept_stops first before after reads (same, inr failed) =
      inr (record { before = source_of before; served = subst (λ (kept : List ℕ). ReadsOn device.is_read first kept (source_of before)) (sym same) reads; fails = failed })

  pub kept_unfinished : (first : S) (before after : Keeping S) (room : ℕ) (cause : Unfinished) → ReadsOn device.is_read first (kept_of before) (source_of before) → IsKeptRead device.is_read before None after
      → Unfinishes device after room cause → IsUnfinished device first room cause
  kept_unfinished first before after room Failed reads fails is = record { bytes = kept_of after; after = source_of after; stops = kept_stops first before after reads fails; failed = is }
  kept_unfinished first before after room Long reads fails is = record { bytes = kept_of after; after = source_of after; stops = kept_stops first before after reads fails; is_long = is }
  kept_unfinished first before after room NoMemory reads fails is = tt

-- a source that keeps, as a source
abbrev pub kept_source : {S : Type 0} → Source S → Source (Keeping S)
kept_source device = record {
  has_failed = has_stopped;
  is_read = IsKeptRead device.is_read;
}

module _ {S : Type 0} (device : Source S) where
  abbrev pub handed_over : S → List ℕ → S → Type 0
  handed_over before bytes after = ReadsOn device.is_read before bytes after ⊎ FailsAfter device.is_read before bytes after

  -- what was handed over by a source that keeps was handed over by the one below
  handed_below : (first last : Keeping S) (bytes : List ℕ)
      → ReadsOn (IsKeptRead device.is_read) first bytes last ⊎ FailsAfter (IsKeptRead device.is_read) first bytes last
      → handed_over (source_of first) bytes (source_of last) × (kept_of last ≡ kept_of first ++ bytes)
  handed_below first last bytes (inl reads) = let so = kept_reads device.is_read reads in (inl so.0, so.1)
  handed_below first last bytes (inr fails) = kept_fails device.is_read first last bytes fails

  -- a survey of a source that keeps is one of the source below
  surveyed_below : (first last : Keeping S) (kept : Vec ℕ Global) (result : Result Survey Trouble) → kept_of first ≡ []
      → kept.items ≡ kept_of last → ReadsSurvey (kept_source device) first last result
      → SurveysStream device (source_of first) (record { source = source_of last; kept = kept }) result
  surveyed_below first last kept (Ok survey) none is surveys =
      let so = kept_ends device.is_read first last surveys.bytes surveys.told in (
        record { bytes = surveys.bytes; told = so.0; is = surveys.is },
        is ∙ so.1 ∙ ap (λ (old : List ℕ). old ++ surveys.bytes) none,
      )
  surveyed_below first last kept (Err trouble) none is leaves =
      let so = handed_below first last leaves.bytes leaves.handed in (
        record { bytes = leaves.bytes; handed = so.0; ended = leaves.ended; told = λ ended. (kept_ends device.is_read first last leaves.bytes (leaves.told ended)).0; is = leaves.is },
        is ∙ so.1 ∙ ap (λ (old : List ℕ). old ++ leaves.bytes) none,
      )

  -- and so it is by these names
  pub surveyed : (first last : Keeping S) (start now : S) (kept : Vec ℕ Global) (result : Result Survey Trouble)
      → source_of first ≡ start → kept_of first ≡ [] → now ≡ source_of last → kept.items ≡ kept_of last
      → ReadsSurvey (kept_source device) first last result
      → SurveysStream device start (record { source = now; kept = kept }) result
  surveyed first last start now kept result is_start none is_now is surveys =
      subst (λ (s : S). SurveysStream device s (record { source = now; kept = kept }) result) is_start
      (subst (λ (s : S). SurveysStream device (source_of first) (record { source = s; kept = kept }) result) (sym is_now)
      (surveyed_below first last kept result none is surveys))

  -- a stream that is left: what was handed over is kept
  pub left_stream : (start : S) (stream : ReadStream S) (trouble : Trouble) → SurveysStream device start stream (Err trouble)
      → handed_over start stream.kept.items stream.source
  left_stream start stream trouble surveys =
      subst (λ (bytes : List ℕ). handed_over start bytes stream.source) (sym (surveys.1)) surveys.0.handed

-- ---- a text in memory

module _ {I : Type 0} (source : Source I) where
  -- the bytes that are left of it; those of an input that was opened aren't known
  abbrev front_left : FrontInput I → Option (List ℕ)
  front_left (Opened input) = None
  front_left (Kept text) = kept_left text

  -- a read takes its bytes from them
  front_gives : (before : FrontInput I) (bytes : List ℕ) (after : FrontInput I) → IsFrontRead source before (Some bytes) after → Gives (front_left before) (Some bytes) (front_left after)
  front_gives (Opened before) bytes (Opened after) is = (tt, λ none. tt)
  front_gives (Kept before) bytes (Kept after) is = is.1
  front_gives (Opened before) bytes (Kept after) is = absurd is
  front_gives (Kept before) bytes (Opened after) is = absurd is

  pub kept_told : kept_texts_are_told source
  kept_told input text has = tells_text (IsFrontRead source) front_left front_gives input text (ap front_left has.is ∙ has.left)
