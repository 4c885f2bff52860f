-- A source that keeps which bytes it handed over.
use Rattle.std.specs.Prelude.{◌≡◌, List, ◌++◌, ℕ, Option, Some, None}
use Rattle.bt_files.specs.declared.logged.Logged.{Logged}

-- the source below
abbrev pub source_below : {S : Type 0} → Logged S → S
source_below logged = logged.source

-- the bytes that it handed over since it was opened
abbrev pub handed_by : {S : Type 0} → Logged S → List ℕ
handed_by logged = logged.handed.bytes

-- a read adds its bytes to those that were handed over, and one that fails adds none
abbrev pub HandsOver : List ℕ → Option (List ℕ) → List ℕ → Type 0
HandsOver before None after = after ≡ before
HandsOver before (Some bytes) after = after ≡ before ++ bytes

-- a read is one of the source below, which handed over the same bytes, and these are added to those before
abbrev pub IsLoggedRead : {S : Type 0} → (S → Option (List ℕ) → S → Type 0)
    → Logged S → Option (List ℕ) → Logged S → Type 0
IsLoggedRead IsRead before call after =
    IsRead (source_below before) call (source_below after) × HandsOver (handed_by before) call (handed_by after)
