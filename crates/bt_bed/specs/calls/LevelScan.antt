-- A scan of the positions of a chromosome, one after another, for its intervals of equal value.
use Rattle.std.specs.Prelude.{ℕ, zero, suc, ◌+◌, ◌==◌, Bool, true, false, cond, List, [], ◌∷◌, ◌++◌, Option, Some, None}
use Rattle.bt_bed.specs.model.Levels.{Level}

-- an interval that isn't ended: where it began, and its value
pub record Begun : Type 0 where
  pub start : ℕ
  pub value : ℕ

-- whether a position goes on with what has begun
abbrev pub goes_on_with : Option Begun → Option ℕ → Bool
goes_on_with None None = true
goes_on_with None (Some value) = false
goes_on_with (Some begun) None = false
goes_on_with (Some begun) (Some value) = begun.value == value

-- what begins at a position
abbrev pub begun_at : ℕ → Option ℕ → Option Begun
begun_at p None = None
begun_at p (Some value) = Some (record { start = p; value = value })

-- what has begun, ended at a position
abbrev pub level_ended_at : Option Begun → ℕ → List Level
level_ended_at None p = []
level_ended_at (Some begun) p = record { start = begun.start; stop = p; value = begun.value } ∷ []

-- one more position: what has begun with it, and what ends there
abbrev pub next_begun : ℕ → Option ℕ → Option Begun → Option Begun
next_begun p value begun = cond (goes_on_with begun value) begun (begun_at p value)

abbrev pub next_ended : ℕ → Option ℕ → Option Begun → List Level
next_ended p value begun = cond (goes_on_with begun value) [] (level_ended_at begun p)

-- what has begun after n positions from the first on, and what ended at one of them
unfoldable pub begun_after : (ℕ → Option ℕ) → ℕ → ℕ → Option Begun → Option Begun
begun_after value first zero begun = begun
begun_after value first (suc n) begun =
    begun_after value (first + 1) n (next_begun first (value first) begun)

unfoldable pub ended_after : (ℕ → Option ℕ) → ℕ → ℕ → Option Begun → List Level
ended_after value first zero begun = []
ended_after value first (suc n) begun =
    next_ended first (value first) begun
    ++ ended_after value (first + 1) n (next_begun first (value first) begun)

-- the intervals that end within n positions from the first on, and the one that reaches their end
abbrev pub levels_from : (ℕ → Option ℕ) → ℕ → ℕ → Option Begun → List Level
levels_from value first n begun =
    ended_after value first n begun ++ level_ended_at (begun_after value first n begun) (first + n)

-- the intervals of a chromosome of this length
abbrev pub scanned : (ℕ → Option ℕ) → ℕ → List Level
scanned value size = levels_from value 0 size None
