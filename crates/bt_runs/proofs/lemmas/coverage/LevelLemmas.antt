-- Scans of the positions in parts, scans that see the same values, and where their intervals begin and stop.
use Rattle.bt_lines.proofs.Std.{◌≡◌, ℕ, zero, suc, ◌+◌, ◌<◌, ◌≤◌, List, [], ◌∷◌, ◌++◌, refl, arith, true, Option, Some, None, ⊤}
use Rattle.bt_bed.specs.model.Levels.{Level}
use Rattle.bt_bed.specs.calls.LevelScan.{Begun, begun_after, ended_after, next_begun, next_ended, goes_on_with}

-- a scan in two parts
pub scan_split : (value : ℕ → Option ℕ) (a b p : ℕ) (g : Option Begun) → (begun_after value p (a + b) g ≡ begun_after value (p + a) b (begun_after value p a g))
    × (ended_after value p (a + b) g ≡ ended_after value p a g ++ ended_after value (p + a) b (begun_after value p a g))
unfolding begun_after ended_after
scan_split value zero b p g = let here : p + 0 ≡ p = omega arith in let none : 0 + b ≡ b = omega arith in rw (here, none) (refl, refl)
scan_split value (suc a) b p g =
    let more : suc a + b ≡ suc (a + b) = omega arith in
    grind (arith, (scan_split value a b (p + 1) (next_begun p (value p) g)))

-- scans of the same values
abbrev pub AreSame : (ℕ → Option ℕ) → (ℕ → Option ℕ) → ℕ → ℕ → Type 0
AreSame u v p n = (q : ℕ) → p ≤ q → q < p + n → u q ≡ v q

pub scan_same : (u v : ℕ → Option ℕ) (n p : ℕ) (g : Option Begun) → AreSame u v p n → (begun_after u p n g ≡ begun_after v p n g) × (ended_after u p n g ≡ ended_after v p n g)
unfolding begun_after ended_after
scan_same u v zero p g same = (refl, refl)
scan_same u v (suc n) p g same = grind (arith, (scan_same u v n (p + 1) (next_begun p (v p) g) (λ q low high. same q (omega arith) (omega arith))))

module _ (u : ℕ → Option ℕ) (value : Option ℕ) where
  scan_on : (n p : ℕ) (g : Option Begun) → ((q : ℕ) → p ≤ q → q < p + n → u q ≡ value) → goes_on_with g value ≡ true → (begun_after u p n g ≡ g) × (ended_after u p n g ≡ [])
  unfolding begun_after ended_after
  scan_on zero p g same on = (refl, refl)
  scan_on (suc n) p g same on = rw (same p (omega arith) (omega arith), on) (scan_on n (p + 1) g (λ q low high. same q (omega arith) (omega arith)) on)

  pub scan_run : (n p : ℕ) (g : Option Begun) → 0 < n → ((q : ℕ) → p ≤ q → q < p + n → u q ≡ value) → (begun_after u p n g ≡ next_begun p value g) × (ended_after u p n g ≡ next_ended p value g)
  unfolding begun_after ended_after
  scan_run zero p g some same = absurd (omega arith)
  scan_run (suc n) p g some same = grind (arith, (scan_on n (p + 1) (next_begun p value g) (λ q low high. same q (omega arith) (omega arith)) (grind arith)))

-- where intervals stop
abbrev pub StopIn : ℕ → ℕ → List Level → Type 0
StopIn low high [] = ⊤
StopIn low high (l ∷ ls) = (low ≤ l.stop) × (l.stop < high) × StopIn low high ls

pub stop_wider : (a b c d : ℕ) (ls : List Level) → c ≤ a → b ≤ d → StopIn a b ls → StopIn c d ls
stop_wider a b c d [] h k s = tt
stop_wider a b c d (l ∷ ls) h k s = (omega (arith, s.0), omega (arith, s.1), stop_wider a b c d ls h k s.2)

pub stop_both : (a b : ℕ) (xs ys : List Level) → StopIn a b xs → StopIn a b ys → StopIn a b (xs ++ ys)
stop_both a b [] ys s t = t
stop_both a b (x ∷ xs) ys s t = (s.0, s.1, stop_both a b xs ys s.2 t)

pub ended_after-stop : (value : ℕ → Option ℕ) (n p : ℕ) (g : Option Begun) → StopIn p (p + n) (ended_after value p n g)
unfolding ended_after
ended_after-stop value zero p g = tt
ended_after-stop value (suc n) p g = grind (arith, (ended_after-stop value n (p + 1) (next_begun p (value p) g)), stop_wider)

-- where they start
abbrev pub BeginsBelow : ℕ → Option Begun → Type 0
BeginsBelow p None = ⊤
BeginsBelow p (Some begun) = begun.start < p

abbrev pub BeginsFrom : ℕ → Option Begun → Type 0
BeginsFrom p None = ⊤
BeginsFrom p (Some begun) = p ≤ begun.start

below_later : (p q : ℕ) (g : Option Begun) → p ≤ q → BeginsBelow p g → BeginsBelow q g
below_later p q g h b = grind arith

pub begun_after-below : (value : ℕ → Option ℕ) (n p : ℕ) (g : Option Begun) → BeginsBelow p g → BeginsBelow (p + n) (begun_after value p n g)
unfolding begun_after
begun_after-below value zero p g b = below_later p (p + 0) g (omega arith) b
begun_after-below value (suc n) p g b = grind (arith, (begun_after-below value n (p + 1) (next_begun p (value p) g) (grind arith)))
