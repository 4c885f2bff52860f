-- A stream that is kept as it is read, and what becomes of it where another program takes it.
use Rattle.std.specs.Prelude.{◌≡◌, ◌⊎◌, Bool, true, ℕ, List, ◌++◌, Option, Some, None}
use Rattle.bt_lines.specs.calls.Device.{EndsAfter, FailsAfter, ReadsOn}
use Rattle.bt_lines.specs.calls.Output.{Output}
use Rattle.bt_lines.specs.declared.device.Source.{Ghosts as Source}
use Rattle.bt_front.specs.declared.stream.keeping.Keeping.{Keeping}

-- What a source that keeps has.

-- the source below it
abbrev pub source_of : {S : Type 0} → Keeping S → S
source_of s = s.source

-- the bytes that are kept
abbrev pub kept_of : {S : Type 0} → Keeping S → List ℕ
kept_of s = s.kept.items

-- how many bytes are kept before reads fail
abbrev pub room_of : {S : Type 0} → Keeping S → ℕ
room_of s = s.room

-- whether a read of it has failed
abbrev pub has_stopped : {S : Type 0} → Keeping S → Bool
has_stopped s = s.has_failed

-- A read of it is one of the source below, whose bytes it keeps; one that fails may have left the source as it was.
abbrev pub IsKeptRead : {S : Type 0} → (S → Option (List ℕ) → S → Type 0) → Keeping S → Option (List ℕ) → Keeping S → Type 0
IsKeptRead is_read before None after =
    (kept_of after ≡ kept_of before)
    × ((source_of after ≡ source_of before) ⊎ is_read (source_of before) None (source_of after))
IsKeptRead is_read before (Some bytes) after =
    (kept_of after ≡ kept_of before ++ bytes) × is_read (source_of before) (Some bytes) (source_of after)

-- Pouring. Streams are those before and after it, and outputs those of who takes the stream.

module _ {S : Type 0} (source : Source S) where
  -- The taker got what was kept, and then all that the stream gave up to its end.
  pub record IsPoured (kept : List ℕ) (before : S) (taker : Output) (after : S) (new_taker : Output) : Type 0 where
    pub bytes : List ℕ
    pub served : EndsAfter source.is_read before bytes after
    pub taken : new_taker.took ≡ taker.put ++ (kept ++ bytes)

  -- The stream failed, or wasn't read to its end. The taker got what was kept, and what the stream gave before.
  pub record IsCutOff (kept : List ℕ) (before : S) (taker : Output) (after : S) (new_taker : Output) : Type 0 where
    pub bytes : List ℕ
    pub served : ReadsOn source.is_read before bytes after ⊎ FailsAfter source.is_read before bytes after
    pub taken : new_taker.took ≡ taker.put ++ (kept ++ bytes)
