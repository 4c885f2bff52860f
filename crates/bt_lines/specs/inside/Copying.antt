-- Pieces that are copied by their first and their last bytes.
use Rattle.std.specs.Prelude.{◌≡◌, ℕ, ◌≤◌, ◌⊎◌}

-- a piece of this length is copied without a call
abbrev pub IsShort : ℕ → Type 0
IsShort size = (1 ≤ size) × (size ≤ 64)

-- it is copied by vectors
abbrev pub IsWide : ℕ → Type 0
IsWide size = (4 ≤ size) × (size ≤ 64)

-- the same, or it is a single byte
abbrev pub IsEnd : ℕ → Type 0
IsEnd size = (size ≡ 1) ⊎ IsWide size
