-- Positions of one chromosome of which some have a value, and the one list of intervals of equal value that they make up.
use Rattle.std.specs.Prelude.{ℕ, ◌≡◌, ◌<◌, ◌≤◌, ◌⊎◌, ⊤, List, [], ◌∷◌, Option, Some}

-- an interval of positions that have one value
pub record Level : Type 0 where
  pub start : ℕ
  pub stop : ℕ
  pub value : ℕ

-- the position lies in one of the intervals, and that has the value
abbrev pub HasValue : List Level → ℕ → ℕ → Type 0
HasValue [] p value = ⊥
HasValue (l ∷ ls) p value = ((l.start ≤ p) × (p < l.stop) × (l.value ≡ value)) ⊎ HasValue ls p value

-- if the next interval touches this one, its value is another
abbrev pub DiffersFromNext : Level → List Level → Type 0
DiffersFromNext l [] = ⊤
DiffersFromNext l (m ∷ ms) = l.stop ≡ m.start → l.value ≡ m.value → ⊥

-- ascending and disjoint, from a first position on: none is empty,
-- and two that touch differ in value
abbrev pub AreDisjointFrom : ℕ → List Level → Type 0
AreDisjointFrom first [] = ⊤
AreDisjointFrom first (l ∷ ls) =
    (first ≤ l.start) × (l.start < l.stop) × DiffersFromNext l ls × AreDisjointFrom l.stop ls

-- the list of intervals that the values of the positions below a length make up: each position of an interval has its
-- value, and each position that has a value is in an interval
pub record AreLevelsOf (value : ℕ → Option ℕ) (size : ℕ) (levels : List Level) : Type 0 where
  pub disjoint : AreDisjointFrom 0 levels
  pub within : (p v : ℕ) → HasValue levels p v → (p < size) × (value p ≡ Some v)
  pub whole : (p v : ℕ) → p < size → value p ≡ Some v → HasValue levels p v

-- one list that is so, and no other is
pub record OneList (value : ℕ → Option ℕ) (size : ℕ) : Type 0 where
  pub levels : List Level
  pub are : AreLevelsOf value size levels
  pub only : (others : List Level) → AreLevelsOf value size others → others ≡ levels
