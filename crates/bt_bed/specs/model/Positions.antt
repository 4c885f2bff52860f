-- Sets of positions of one chromosome, and the one list of intervals that makes each of them up.
use Rattle.std.specs.Prelude.{ℕ, ◌≡◌, ◌<◌, ◌≤◌, ◌+◌, ◌⊎◌, ⊤, Bool, List, [], ◌∷◌, IsTrue}
use Rattle.bt_bed.specs.model.Feature.{Span}

-- the position lies in one of the spans
abbrev pub IsCovered : List Span → ℕ → Type 0
IsCovered [] p = ⊥
IsCovered (s ∷ ss) p = ((s.start ≤ p) × (p < s.stop)) ⊎ IsCovered ss p

-- ascending and disjoint, from a first position on: none is empty, and each ends below the start of the next,
-- so that no two touch
abbrev pub AreApartFrom : ℕ → List Span → Type 0
AreApartFrom first [] = ⊤
AreApartFrom first (s ∷ ss) = (first ≤ s.start) × (s.start < s.stop) × AreApartFrom (s.stop + 1) ss

-- the list of intervals that makes up the set: each position of an interval is in the set, and each position of the set is in
-- an interval
pub record AreStretchesOf (S : ℕ → Type 0) (spans : List Span) : Type 0 where
  pub apart : AreApartFrom 0 spans
  pub within : (p : ℕ) → IsCovered spans p → S p
  pub whole : (p : ℕ) → S p → IsCovered spans p

-- the position is below the length, and passes the test
abbrev pub PassesBelow : (ℕ → Bool) → ℕ → ℕ → Type 0
PassesBelow test size p = (p < size) × IsTrue (test p)

-- one list that makes up the positions below a length that pass the test, and no other does
pub record OneSpanList (test : ℕ → Bool) (size : ℕ) : Type 0 where
  pub spans : List Span
  pub are : AreStretchesOf (PassesBelow test size) spans
  pub only : (others : List Span) → AreStretchesOf (PassesBelow test size) others → others ≡ spans
