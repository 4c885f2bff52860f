-- What a watched source has shown of the bytes that it handed over.
use Rattle.std.specs.Prelude.{ℕ, ◌≡◌, ◌⊎◌, ◌-◌, ◌^◌, ◌||◌, true, List, ◌++◌, min, Option, Some, None, IsSome}
use Rattle.std.specs.List.{list_all}
use Rattle.bt_lines.specs.declared.device.Source.{Ghosts as Source}
use Rattle.bt_front.specs.calls.Bytes.{ShowsBytes, feeds_in}
use Rattle.bt_front.specs.declared.survey.byte_watch.ByteWatch.{ByteWatch}
use Rattle.bt_front.specs.declared.survey.oddity.OddLine.{OddLine}
use Rattle.bt_front.specs.declared.survey.watched.Watched.{Watched}
use Rattle.bt_front.specs.model.Odd.{IsOddLine, is_plain, raw_lines}

-- nothing is odd in these bytes so far, and their line feeds are counted
pub record IsPlainSoFar (bytes : List ℕ) (watch : ByteWatch) (feeds : ℕ) : Type 0 where
  pub shows : ShowsBytes bytes watch
  pub counted : feeds ≡ min (2 ^ 64 - 1) (feeds_in bytes)

-- the first odd line of every text that begins with these bytes
pub record BeginsOdd (bytes : List ℕ) (odd : OddLine) : Type 0 where
  pub first : (more : List ℕ) → IsOddLine (bytes ++ more) odd

abbrev pub ShowsBy : List ℕ → ByteWatch → ℕ → Option OddLine → Type 0
ShowsBy bytes watch feeds None = IsPlainSoFar bytes watch feeds
ShowsBy bytes watch feeds (Some odd) = BeginsOdd bytes odd

-- what the end of a text shows after these bytes
abbrev pub EndsBy : List ℕ → Option OddLine → Type 0
EndsBy bytes None = list_all is_plain (raw_lines bytes) ≡ true
EndsBy bytes (Some odd) = IsOddLine bytes odd

module _ {S : Type 0} where
  -- these bytes have passed
  pub record Shows (bytes : List ℕ) (watched : Watched S) : Type 0 where
    pub by : ShowsBy bytes watched.watch watched.feeds watched.found

  -- what was known of the bytes before is known with these
  abbrev pub Passes : Watched S → List ℕ → Watched S → Type 0
  Passes before bytes after = (past : List ℕ) → Shows past before → Shows (past ++ bytes) after

  -- the source below served, and its bytes were looked at
  pub record ServesWatched (IsRead : S → Option (List ℕ) → S → Type 0) (before : Watched S)
      (bytes : List ℕ) (after : Watched S) : Type 0 where
    pub served : IsRead before.source (Some bytes) after.source
    pub passes : Passes before bytes after

  -- it wasn't read any more after an odd line, or it failed
  pub record FailsWatched (IsRead : S → Option (List ℕ) → S → Type 0) (before after : Watched S) : Type 0 where
    pub found : after.found ≡ before.found
    pub keeps : (past : List ℕ) → Shows past before → Shows past after
    pub cause : ((after.source ≡ before.source) × IsSome after.found) ⊎ IsRead before.source None after.source

  -- a read of it
  abbrev pub IsWatchedRead : (S → Option (List ℕ) → S → Type 0) → Watched S → Option (List ℕ) → Watched S → Type 0
  IsWatchedRead IsRead before None after = FailsWatched IsRead before after
  IsWatchedRead IsRead before (Some bytes) after = ServesWatched IsRead before bytes after

-- the ghost members of a watched source, as one record
abbrev pub watched_source : {S : Type 0} → Source S → Source (Watched S)
watched_source device = record {
  has_failed = λ watched. watched.has_stopped || device.has_failed watched.source;
  is_read = IsWatchedRead device.is_read;
}
