-- What calls of devices do: any, those of std, and those that play a script.
use Rattle.std.specs.Prelude.{◌≡◌, ℕ, ◌+◌, Bool, true, false, ◌||◌, ◌&&◌, List, [], ◌++◌, length, take, drop, ◌==◌, nat_lt, Option, Some, None, is_some, Result, Ok, Err, MatchResult, ◌-◌, min, nat_le}
use Rattle.std.specs.Io.KnownBytes.{Consumes, IsAtEnd, Keeps}
use Rattle.bt_lines.specs.declared.device.from_read.FromRead.{FromRead}

-- What calls of a device do.

-- a read reports the end by returning 0 for a block with room; once reported, it stays reported
abbrev pub TellsEnd : {E : Type 0} → Bool → Bool → Result ℕ E → List ℕ → Type 0
TellsEnd old new result block =
    MatchResult result (λ n. new ≡ (old || ((n == 0) && nat_lt 0 (length block)))) (λ _. new ≡ old)

-- the bytes that a read handed over, or None if it failed
abbrev pub call_of : {E : Type 0} → Result ℕ E → List ℕ → Option (List ℕ)
call_of (Ok count) block = Some (take count block)
call_of (Err failed) block = None

-- what a read tells of whether its source has failed, by whether it had before: one that serves
-- comes before the first that fails
abbrev pub TellsFailure : Option (List ℕ) → Bool → Bool → Type 0
TellsFailure None had_failed has_failed = has_failed ≡ true
TellsFailure (Some bytes) had_failed has_failed = (had_failed ≡ false) × (has_failed ≡ false)

-- what a read does to the bytes that are left, if they are known; it hands over none only if none is left
abbrev pub Gives : Option (List ℕ) → Option (List ℕ) → Option (List ℕ) → Type 0
Gives old None new = Keeps old new
Gives old (Some bytes) new = Consumes old new bytes × (bytes ≡ [] → IsAtEnd new)

-- Reads that succeeded took the first source to the other, and handed over these bytes in all.
pub data ReadsOn {S : Type 0} (IsRead : S → Option (List ℕ) → S → Type 0) (first : S)
    : List ℕ → S → Type 0 where
  begun : ReadsOn IsRead first [] first
  gave : {bytes : List ℕ} {before : S} → ReadsOn IsRead first bytes before → (piece : List ℕ) (after : S)
      → IsRead before (Some piece) after → ReadsOn IsRead first (bytes ++ piece) after

module _ {S : Type 0} (IsRead : S → Option (List ℕ) → S → Type 0) where
  -- after reads that succeeded and handed over these bytes, one failed
  pub record FailsAfter (old : S) (bytes : List ℕ) (new : S) : Type 0 where
    pub before : S
    pub served : ReadsOn IsRead old bytes before
    pub fails : IsRead before None new

  -- or one handed over no bytes: the end was reported
  pub record EndsAfter (old : S) (bytes : List ℕ) (new : S) : Type 0 where
    pub before : S
    pub served : ReadsOn IsRead old bytes before
    pub tells : IsRead before (Some []) new

  -- A source tells its whole text, what of it was handed over, and whether its end was told by an answer of 0: this text
  -- is what is left of it.
  pub record TellsText (source : S) (text : List ℕ) : Type 0 where
    -- what its reads hand over is the start of the text, also if one fails after them
    pub hands : (bytes : List ℕ) (after : S) → ReadsOn IsRead source bytes after
        → (rest : List ℕ) × (text ≡ bytes ++ rest)
    -- and all of it, if the last one reports the end
    pub ends : (bytes : List ℕ) (after : S) → EndsAfter source bytes after → text ≡ bytes

-- What the adapters of std's readers and writers hold.

-- the reader below the source
abbrev pub reader_of : {R : Type 0} → FromRead R → R
reader_of s = s.reader

-- whether the reader has failed
abbrev pub read_has_failed : {R : Type 0} → FromRead R → Bool
read_has_failed s = s.has_failed

-- a read of the reader failed, or handed over bytes, which a reader that knows its rest loses
abbrev pub IsReaderRead : {R : Type 0} → (R → Option (List ℕ)) → FromRead R → Option (List ℕ) → FromRead R → Type 0
IsReaderRead remaining before call after =
    TellsFailure call (read_has_failed before) (read_has_failed after)
    × Gives (remaining (reader_of before)) call (remaining (reader_of after))

-- a source over a reader that knows its rest tells it as its text
abbrev pub readers_tell_their_text : {R : Type 0} → (R → Option (List ℕ)) → Type 0
readers_tell_their_text {R} remaining = (source : FromRead R) (text : List ℕ)
    → remaining (reader_of source) ≡ Some text → TellsText (IsReaderRead remaining) source text

-- whether the reader reported its end
abbrev pub read_end_told : {R : Type 0} → FromRead R → Bool
read_end_told s = s.end_told

-- a sink over a writer, and the bytes that the writer took
pub record WritesTo (W : Type 0) : Type 0 where
  pub writer : W
  pub has_failed : Bool
  pub is_flushed : Bool
  pub taken : List ℕ

-- a writer of a kind that always knows its contents holds these bytes
abbrev pub HoldsKnown : {W : Type 0} → (W → Option (List ℕ)) → W → List ℕ → Type 0
HoldsKnown {W} contents writer bytes = ((any : W) → is_some (contents any) ≡ true) → contents writer ≡ Some bytes

-- the contents, or none if they aren't known
abbrev pub known_or_none : Option (List ℕ) → List ℕ
known_or_none None = []
known_or_none (Some bytes) = bytes

-- the writer below the sink
abbrev pub writer_of : {W : Type 0} → WritesTo W → W
writer_of s = s.writer

-- the bytes that the writer took, after those that it held when the sink was made, if it knew them
abbrev pub writer_took : {W : Type 0} → WritesTo W → List ℕ
writer_took s = s.taken

-- whether the writer has failed
abbrev pub write_has_failed : {W : Type 0} → WritesTo W → Bool
write_has_failed s = s.has_failed

-- whether the writer was flushed since the last write
abbrev pub write_is_flushed : {W : Type 0} → WritesTo W → Bool
write_is_flushed s = s.is_flushed

-- What scripted devices hold: they stand for a file or a terminal in tests.

-- a source that hands over its bytes in order, at most step of them a call,
-- and fails once good bytes were given
pub record Reading : Type 0 where
  pub bytes : List ℕ
  pub step : ℕ
  pub good : Option ℕ
  pub given : ℕ
  pub has_failed : Bool
  pub end_told : Bool

-- the bytes that a script hasn't given
abbrev pub script_left : Reading → Option (List ℕ)
script_left s = Some (drop s.given s.bytes)

-- a read of a script gave its next bytes, or failed and gave none
abbrev pub IsScriptRead : Reading → Option (List ℕ) → Reading → Type 0
IsScriptRead before None after =
    (after.given ≡ before.given) × (after.has_failed ≡ true) × Gives (script_left before) None (script_left after)
IsScriptRead before (Some bytes) after =
    (after.given ≡ before.given + length bytes) × (after.has_failed ≡ before.has_failed)
    × Gives (script_left before) (Some bytes) (script_left after)

-- a script tells the bytes that it hasn't given as its text
abbrev pub scripts_tell_their_text : Type 0
scripts_tell_their_text = (source : Reading) → TellsText IsScriptRead source (drop source.given source.bytes)

-- a sink that takes at most step bytes a call, and fails once good bytes were taken
pub record Writing : Type 0 where
  pub taken : List ℕ
  pub step : ℕ
  pub good : Option ℕ
  pub has_failed : Bool

-- the script has used up its good bytes
abbrev pub is_spent : Option ℕ → ℕ → Bool
is_spent None moved = false
is_spent (Some good) moved = nat_le good moved

-- how many of n bytes the script lets pass
abbrev pub let_through : Option ℕ → ℕ → ℕ → ℕ
let_through None moved n = n
let_through (Some good) moved n = min n (good - moved)
