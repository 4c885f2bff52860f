-- A scan of the positions finds the stretches of those that pass a test, and no other list makes them up.
use Rattle.bt_lines.proofs.Std.{◌≡◌, ℕ, zero, suc, ◌+◌, ◌<◌, ◌≤◌, ◌⊎◌, inl, inr, Bool, true, List, [], ◌∷◌, refl, arith, cases_Bool, cases_lt, cond-true, cond-false}
use Rattle.bt_bed.specs.model.Feature.{Span}
use Rattle.bt_bed.specs.model.Positions.{IsCovered, AreApartFrom, AreStretchesOf, OneSpanList, PassesBelow}
use Rattle.bt_bed.specs.calls.Stretches.{with_position, stretches_from, scan_finds_stretches}

-- The scan of positions finds the stretches of those that pass the test.

-- the list has a gap before each span from a position on, and covers just the position and what the other list covers
record AddsPosition (p : ℕ) (xs ys : List Span) : Type 0 where
  apart : AreApartFrom p ys
  within : (q : ℕ) → IsCovered ys q → (q ≡ p) ⊎ IsCovered xs q
  here : IsCovered ys p
  whole : (q : ℕ) → IsCovered xs q → IsCovered ys q

with_position-adds : (p : ℕ) (xs : List Span) → AreApartFrom (p + 1) xs → AddsPosition p xs (with_position p xs)
unfolding with_position
with_position-adds p xs a = grind arith

-- the list is what a scan of n positions from the first on is to find
record IsScanOf (test : ℕ → Bool) (first n : ℕ) (ys : List Span) : Type 0 where
  apart : AreApartFrom first ys
  within : (q : ℕ) → IsCovered ys q → (q < first + n) × (test q ≡ true)
  whole : (q : ℕ) → first ≤ q → q < first + n → test q ≡ true → IsCovered ys q

looser : (f g : ℕ) (xs : List Span) → g ≤ f → AreApartFrom f xs → AreApartFrom g xs
looser f g [] h a = tt
looser f g (x ∷ xs) h a = (omega arith, a.1, a.2)

passing : (test : ℕ → Bool) (first n : ℕ) (xs ys : List Span) → test first ≡ true → IsScanOf test (first + 1) n xs → AddsPosition first xs ys → IsScanOf test first (suc n) ys
passing test first n xs ys t scan adds = grind arith

stretches_from-scans : (test : ℕ → Bool) (first n : ℕ) → IsScanOf test first n (stretches_from test first n)
unfolding stretches_from
stretches_from-scans test first zero = grind arith
stretches_from-scans test first (suc n) =
    let rest = stretches_from test (first + 1) n in
    let scan : IsScanOf test (first + 1) n rest = stretches_from-scans test (first + 1) n in
    elim (cases_Bool (test first)) [
      | inl t ↦ rw (cond-true (test first) (with_position first rest) rest t) (passing test first n rest (with_position first rest) t scan (with_position-adds first rest scan.apart))
      | inr t ↦ rw (cond-false (test first) (with_position first rest) rest t) (grind (arith, looser))
    ]

pub scan_finds : scan_finds_stretches
scan_finds test n = grind (arith, (stretches_from-scans test 0 n))

-- Lists of spans with gaps between them: two that cover the same positions are equal.

-- the positions that spans cover are at or after their first position
pub covered_from : (first : ℕ) (xs : List Span) (p : ℕ) → AreApartFrom first xs → IsCovered xs p → first ≤ p
covered_from first [] p apart c = absurd c
covered_from first (x ∷ xs) p apart (inl w) = omega arith
covered_from first (x ∷ xs) p apart (inr w) = let h = covered_from (x.stop + 1) xs p apart.2 w in omega arith

-- and at or past the first start
pub covered_from_start : (first : ℕ) (x : Span) (xs : List Span) (p : ℕ) → AreApartFrom first (x ∷ xs) → IsCovered (x ∷ xs) p → x.start ≤ p
covered_from_start first x xs p apart e = grind (arith, covered_from)

-- a span's stop is covered by none of them
stop_is_bare : (first : ℕ) (x : Span) (xs : List Span) (p : ℕ) → AreApartFrom first (x ∷ xs) → p ≡ x.stop → IsCovered (x ∷ xs) p → ⊥
stop_is_bare first x xs p apart e h = grind (arith, covered_from)

-- each position that the first list covers is covered by the second
abbrev pub IsWithin : List Span → List Span → Type 0
IsWithin xs ys = (p : ℕ) → IsCovered xs p → IsCovered ys p

start_up_to : (f : ℕ) (x y : Span) (g : ℕ) (xs ys : List Span) → AreApartFrom f (x ∷ xs) → AreApartFrom g (y ∷ ys) → IsWithin (x ∷ xs) (y ∷ ys) → y.start ≤ x.start
start_up_to f x y g xs ys a b within = covered_from_start g y ys x.start b (within x.start (inl (omega arith, a.1)))

stop_up_to : (f : ℕ) (x y : Span) (g : ℕ) (xs ys : List Span) → AreApartFrom f (x ∷ xs) → AreApartFrom g (y ∷ ys) → IsWithin (x ∷ xs) (y ∷ ys) → x.start ≡ y.start → x.stop ≤ y.stop
stop_up_to f x y g xs ys a b within e =
    elim (cases_lt y.stop x.stop) [
      | inl l ↦ absurd (stop_is_bare g y ys y.stop b refl (within y.stop (inl (omega arith, l))))
      | inr h ↦ h
    ]

-- two lists of spans with gaps that cover the same positions are equal
pub same_apart : (f g : ℕ) (xs ys : List Span) → AreApartFrom f xs → AreApartFrom g ys → IsWithin xs ys → IsWithin ys xs → xs ≡ ys
same_apart f g [] [] a b to back = refl
same_apart f g [] (y ∷ ys) a b to back = absurd (back y.start (inl (omega arith, b.1)))
same_apart f g (x ∷ xs) [] a b to back = absurd (to x.start (inl (omega arith, a.1)))
same_apart f g (x ∷ xs) (y ∷ ys) a b to back =
    let low = start_up_to f x y g xs ys a b to in
    let high = start_up_to g y x f ys xs b a back in
    let short = stop_up_to f x y g xs ys a b to (omega arith) in
    let long = stop_up_to g y x f ys xs b a back (omega arith) in
    grind (arith, (same_apart (x.stop + 1) (y.stop + 1) xs ys a.2 b.2 (grind (arith, covered_from)) (grind (arith, covered_from))))

-- two lists that make up one set are one list
pub stretches_are_same : (S : ℕ → Type 0) (xs ys : List Span) → AreStretchesOf S xs → AreStretchesOf S ys → xs ≡ ys
stretches_are_same S xs ys a b = same_apart 0 0 xs ys a.apart b.apart (λ p c. b.whole p (a.within p c)) (λ p c. a.whole p (b.within p c))

-- so no other list makes up the positions that pass
pub only_scan : (test : ℕ → Bool) (size : ℕ) (spans : List Span) → AreStretchesOf (PassesBelow test size) spans → spans ≡ stretches_from test 0 size
only_scan test size spans h = stretches_are_same (PassesBelow test size) spans (stretches_from test 0 size) h (scan_finds test size)

abbrev pub one_span_list : (test : ℕ → Bool) (size : ℕ) → OneSpanList test size
one_span_list test size = record { spans = stretches_from test 0 size; are = scan_finds test size; only = only_scan test size }
