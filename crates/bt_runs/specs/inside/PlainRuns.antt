-- What the plain program is said to do, in the words of the definitions.
use Rattle.std.specs.Prelude.{ℕ, ◌+◌, ◌-◌, ◌≤◌, cond, ◌==◌, ◌&&◌, List, [], ◌∷◌, map}
use Rattle.bt_bed.specs.model.Feature.{Span}
use Rattle.bt_bed.specs.model.Positions.{IsCovered}
use Rattle.bt_bed.specs.model.Levels.{Level}

-- a start and a stop as a span of the definitions
abbrev pub span_in : ℕ × ℕ → Span
span_in s = record { start = s.0; stop = s.1 }

-- each of them so
abbrev pub spans_in : List (ℕ × ℕ) → List Span
spans_in spans = map span_in spans

-- some covered position at or past p is near `left`
pub record HasRight (gap : ℕ) (spans : List Span) (left p : ℕ) : Type 0 where
  pub right : ℕ
  pub covered : IsCovered spans right
  pub to_right : p ≤ right
  pub near : right - left ≤ gap + 1

-- the first span and the others, with the next position:
-- it belongs to the last of them if that ends there
abbrev pub with_next_after : Span → List Span → ℕ → List Span
with_next_after s [] p =
    cond (s.stop == p) (record { start = s.start; stop = p + 1 } ∷ [])
    (s ∷ record { start = p; stop = p + 1 } ∷ [])
with_next_after s (t ∷ ts) p = s ∷ with_next_after t ts p

-- the spans with the next position
abbrev pub with_next : List Span → ℕ → List Span
with_next [] p = record { start = p; stop = p + 1 } ∷ []
with_next (s ∷ ss) p = with_next_after s ss p

-- a start, a stop and a depth as an interval of the definitions
abbrev pub level_in : ℕ × ℕ × ℕ → Level
level_in d = record { start = d.0; stop = d.1; value = d.2 }

-- each of them so
abbrev pub levels_in : List (ℕ × ℕ × ℕ) → List Level
levels_in depths = map level_in depths

-- the first interval and the others, with the next position and its value:
-- it belongs to the last of them if that ends there and has this value
abbrev pub with_value_after : Level → List Level → ℕ → ℕ → List Level
with_value_after l [] p v =
    cond (l.stop == p && l.value == v) (record { start = l.start; stop = p + 1; value = v } ∷ [])
    (l ∷ record { start = p; stop = p + 1; value = v } ∷ [])
with_value_after l (m ∷ ms) p v = l ∷ with_value_after m ms p v

-- the intervals with the next position
abbrev pub with_value : List Level → ℕ → ℕ → List Level
with_value [] p v = record { start = p; stop = p + 1; value = v } ∷ []
with_value (l ∷ ls) p v = with_value_after l ls p v
