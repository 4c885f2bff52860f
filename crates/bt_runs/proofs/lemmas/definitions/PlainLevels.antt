-- What the plain program for depths adds, against the definition of intervals of equal value.
use Rattle.bt_lines.proofs.Std.{◌≡◌, ℕ, ◌+◌, ◌-◌, ◌<◌, ◌≤◌, ◌⊎◌, inl, inr, List, [], ◌∷◌, ◌++◌, append_assoc, refl, ap, arith, map-append, Option, Some, None, length, filter, nat_le, nat_lt, ◌&&◌, Bool, true, false}
use Rattle.bt_bed.specs.model.Levels.{AreDisjointFrom, AreLevelsOf, HasValue, Level}
use Rattle.bt_runs.specs.model.Depth.{depth_at, depth_of, levels_of, the_levels}
use Rattle.bt_runs.specs.inside.PlainRuns.{levels_in, spans_in, with_value_after, with_value}

-- the list is disjoint, and has the values of the other list and this one at the position
record AddsValue (first p v : ℕ) (xs ys : List Level) : Type 0 where
  disjoint : AreDisjointFrom first ys
  within : (q w : ℕ) → HasValue ys q w → ((q ≡ p) × (v ≡ w)) ⊎ HasValue xs q w
  here : HasValue ys p v
  whole : (q w : ℕ) → HasValue xs q w → HasValue ys q w

with_value_after-adds : (first p v : ℕ) (l : Level) (ls : List Level) → AreDisjointFrom first (l ∷ ls) → ((q w : ℕ) → HasValue (l ∷ ls) q w → q < p) → AddsValue first p v (l ∷ ls) (with_value_after l ls p v)
with_value_after-adds first p v l [] d below =
    let low : l.stop ≤ p = let h = below (l.stop - 1) l.value (inl (omega (arith, d.1), omega (arith, d.1), refl)) in omega (arith, d.1) in
    grind arith
with_value_after-adds first p v l (m ∷ ms) d below = grind (arith, (with_value_after-adds l.stop p v m ms d.3 (λ q w h. below q w (inr h))))

with_value-adds : (p v : ℕ) (xs : List Level) → AreDisjointFrom 0 xs → ((q w : ℕ) → HasValue xs q w → q < p) → AddsValue 0 p v xs (with_value xs p v)
with_value-adds p v [] d below = grind arith
with_value-adds p v (l ∷ ls) d below = with_value_after-adds 0 p v l ls d below

-- the intervals of the positions below n, with the next position and without
pub value_with : (value : ℕ → Option ℕ) (n v : ℕ) (levels : List Level) → value n ≡ Some v → AreLevelsOf value n levels → AreLevelsOf value (n + 1) (with_value levels n v)
value_with value n v levels is r = grind (arith, (with_value-adds n v levels r.disjoint (λ q w h. (r.within q w h).0)))

pub value_without : (value : ℕ → Option ℕ) (n : ℕ) (levels : List Level) → value n ≡ None → AreLevelsOf value n levels → AreLevelsOf value (n + 1) levels
value_without value n levels none r = grind arith

-- the next position after the last interval
with_value_after-last : (x : Level) (xs : List Level) (l : Level) (p v : ℕ) → with_value_after x (xs ++ l ∷ []) p v ≡ (x ∷ xs) ++ with_value (l ∷ []) p v
with_value_after-last x [] l p v = refl
with_value_after-last x (y ∷ ys) l p v = ap (λ zs. x ∷ zs) (with_value_after-last y ys l p v)

with_value-last : (xs : List Level) (l : Level) (p v : ℕ) → with_value (xs ++ l ∷ []) p v ≡ xs ++ with_value (l ∷ []) p v
with_value-last [] l p v = refl
with_value-last (x ∷ xs) l p v = with_value_after-last x xs l p v

pub depth_joined : (front : List (ℕ × ℕ × ℕ)) (start stop depth p v : ℕ) → stop ≡ p → depth ≡ v → levels_in (front ++ (start, p + 1, v) ∷ []) ≡ with_value (levels_in (front ++ (start, stop, depth) ∷ [])) p v
depth_joined front start stop depth p v ends same = grind (arith, map-append, with_value-last)

pub depth_apart : (front : List (ℕ × ℕ × ℕ)) (start stop depth p v : ℕ) → (stop ≡ p → depth ≡ v → ⊥) → levels_in ((front ++ (start, stop, depth) ∷ []) ++ (p, p + 1, v) ∷ []) ≡ with_value (levels_in (front ++ (start, stop, depth) ∷ [])) p v
depth_apart front start stop depth p v other = grind (arith, map-append, append_assoc, with_value-last)

-- as many of the program's spans cover a position
as_deep : (spans : List (ℕ × ℕ)) (p : ℕ) → length (filter (λ s. nat_le s.0 p && nat_lt p s.1) spans) ≡ depth_at (spans_in spans) p
as_deep [] p = refl
as_deep (s ∷ ss) p = grind (arith, (as_deep ss p))

-- whether the depth that the program counts is reported
pub depth_reported : (zeros : Bool) (spans : List (ℕ × ℕ)) (p d : ℕ) → d ≡ length (filter (λ s. nat_le s.0 p && nat_lt p s.1) spans) → (zeros ≡ true) ⊎ (0 < d) → depth_of zeros (spans_in spans) p ≡ Some d
unfolding depth_of
depth_reported zeros spans p d is some = rw (← as_deep spans p, ← is) (grind arith)

pub depth_unreported : (zeros : Bool) (spans : List (ℕ × ℕ)) (p d : ℕ) → d ≡ length (filter (λ s. nat_le s.0 p && nat_lt p s.1) spans) → zeros ≡ false → d ≡ 0 → depth_of zeros (spans_in spans) p ≡ None
unfolding depth_of
depth_unreported zeros spans p d is none empty = rw (← as_deep spans p, ← is, none, empty) refl

-- no other list has the intervals of all positions
pub all_levels : (value : ℕ → Option ℕ) (size : ℕ) (levels : List Level) → AreLevelsOf value size levels → levels ≡ levels_of value size
all_levels value size levels r = (the_levels value size).only levels r
