-- What follows for a source that tells its text.
use Rattle.std.specs.Prelude.{◌≡◌, ℕ, List, ◌++◌, Option}
use Rattle.bt_lines.specs.calls.Device.{ReadsOn, TellsText}

-- once reads handed over the start of the text, the rest is told
abbrev pub what_is_left_is_told : {S : Type 0} → (S → Option (List ℕ) → S → Type 0) → Type 0
what_is_left_is_told {S} IsRead = (source : S) (text bytes : List ℕ) (after : S) → TellsText IsRead source text
    → ReadsOn IsRead source bytes after → (rest : List ℕ) × (text ≡ bytes ++ rest) × TellsText IsRead after rest
