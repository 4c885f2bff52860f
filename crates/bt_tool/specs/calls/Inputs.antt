-- What a run read of its inputs, and what their texts may be.
use Rattle.std.specs.Prelude.{◌≡◌, ℕ, ◌-◌, ◌^◌, ◌≤◌, Bool, true, false, ⊤, List, [], ◌++◌, length, nat_le, take, Option, Some, None}
use Rattle.bt_lines.specs.declared.device.Source.{Ghosts as Source}
use Rattle.bt_lines.specs.calls.Device.{EndsAfter, FailsAfter, ReadsOn, TellsText}
use Rattle.bt_lines.specs.model.Lines.{Handed, whole_text}

-- this holds of two, both of which may be missing
abbrev pub OfBoth : {S T : Type 0} → (S → T → Type 0) → Option S → Option T → Type 0
OfBoth P None None = ⊤
OfBoth P (Some one) (Some other) = P one other
OfBoth P _ _ = ⊥

-- an input that may be missing hasn't failed since
abbrev pub ServesIf : {S : Type 0} → (S → Bool) → Option S → Option S → Type 0
ServesIf failed = OfBoth (λ before after. failed after ≡ failed before)

-- What was read of an input.

-- the bytes that the reads of a run handed over, and whether its last read reported the end, or failed
pub record InputRead : Type 0 where
  pub bytes : List ℕ
  pub told : Bool
  pub failed : Bool

-- the reads that go so, by whether the last one reported the end, or failed
abbrev pub ReadsAs : Bool → Bool → {S : Type 0} → (S → Option (List ℕ) → S → Type 0) → S → List ℕ → S → Type 0
ReadsAs false false IsRead before bytes after = ReadsOn IsRead before bytes after
ReadsAs true false IsRead before bytes after = EndsAfter IsRead before bytes after
ReadsAs false true IsRead before bytes after = FailsAfter IsRead before bytes after
ReadsAs true true IsRead before bytes after = ⊥

-- these may be the bytes that weren't handed over: none once the end was reported
abbrev pub MayFollow : InputRead → List ℕ → Type 0
MayFollow read rest = read.told ≡ true → rest ≡ []

-- the reads that took a source from the one to the other went so
pub record ReadsSo {S : Type 0} (device : Source S) (before : S) (read : InputRead) (after : S) : Type 0 where
  pub went : ReadsAs read.told read.failed device.is_read before read.bytes after

-- If the source tells its text, that is what was handed over, and a rest that may follow it.
abbrev pub reads_tell_the_text : {S : Type 0} → Source S → Type 0
reads_tell_the_text {S} device = (before : S) (read : InputRead) (after : S) (text : List ℕ)
    → ReadsSo device before read after → TellsText device.is_read before text
    → (rest : List ℕ) × (text ≡ read.bytes ++ rest) × MayFollow read rest

-- of an input that may not be there: if it is, its reads went so
abbrev pub ReadsSoIf : {S : Type 0} → Source S → Option S → Option InputRead → Option S → Type 0
ReadsSoIf device None None None = ⊤
ReadsSoIf device (Some before) (Some read) (Some after) = ReadsSo device before read after
ReadsSoIf device _ _ _ = ⊥

-- at most this many bytes were handed over, if the input is there
abbrev pub HandsUpTo : ℕ → Option InputRead → Type 0
HandsUpTo most None = ⊤
HandsUpTo most (Some read) = length read.bytes ≤ most

-- What its text may be: the bytes that were handed over, and any others after them, but none once the end was
-- reported.

-- this may be the whole text, what was never handed over included
pub record MayHold (read : InputRead) (handed : Handed) : Type 0 where
  pub rest : List ℕ
  pub follows : MayFollow read rest
  pub is : handed ≡ whole_text (read.bytes ++ rest)

-- what came of a text, of which these bytes were handed over: all of it, or if a read failed or
-- 2^63 bytes came, what came before that
abbrev pub handed_by : Bool → Bool → List ℕ → List ℕ → Handed
handed_by false false text bytes = whole_text text
handed_by _ _ text bytes = record { text = take (2 ^ 63 - 1) bytes; is_cut = true }

-- this may have come of the text: all of it, or if a read failed or 2^63 bytes came, what came before that
pub record CameOf (read : InputRead) (handed : Handed) : Type 0 where
  pub rest : List ℕ
  pub follows : MayFollow read rest
  pub is : handed ≡ handed_by read.failed (nat_le (2 ^ 63) (length read.bytes)) (read.bytes ++ rest) read.bytes
