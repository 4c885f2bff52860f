-- What the plain programs ask of their spans, and the scans of a chromosome's positions, against the definitions of runs and gaps.
use Rattle.bt_lines.proofs.Std.{◌≡◌, ℕ, ◌+◌, ◌-◌, ◌<◌, ◌≤◌, ◌⊎◌, inl, inr, List, [], ◌∷◌, ◌++◌, append_assoc, refl, sym, ap, ◌∙◌, arith, Bool, true, false, ◌&&◌, Decides, nat_le, nat_lt, All, list_any, false≢true, cases_lt, subst, Decides-and, Decides-or, Decides-ltb, map-append, All-head, All-tail}
use Rattle.bt_bed.specs.model.Feature.{Span}
use Rattle.bt_bed.specs.model.Positions.{IsCovered, AreApartFrom, AreStretchesOf}
use Rattle.bt_runs.specs.model.Gaps.{gaps_of}
use Rattle.bt_runs.specs.model.Merged.{runs_of}
use Rattle.bt_runs.proofs.lemmas.complement.Walks.{only_gaps}
use Rattle.bt_runs.specs.calls.MergedRuns.{Bridged}
use Rattle.bt_runs.specs.inside.PlainRuns.{spans_in, with_next_after, with_next}
use Rattle.bt_runs.proofs.lemmas.merge.Bridging.{Decides-le, only_runs}

-- the program's test of a covered position
pub covers-Decides : (spans : List (ℕ × ℕ)) (p : ℕ) → Decides (list_any (λ s. nat_le s.0 p && nat_lt p s.1) spans) (IsCovered (spans_in spans) p)
covers-Decides [] p = (λ e. false≢true e, λ w. absurd w)
covers-Decides (s ∷ ss) p = Decides-or (nat_le s.0 p && nat_lt p s.1) (list_any (λ s. nat_le s.0 p && nat_lt p s.1) ss) (Decides-and (nat_le s.0 p) (nat_lt p s.1) (Decides-le s.0 p) (Decides-ltb p s.1)) (covers-Decides ss p)

pub covered_at_true : (spans : List (ℕ × ℕ)) (p : ℕ) (r : Bool) → r ≡ list_any (λ s. nat_le s.0 p && nat_lt p s.1) spans → r ≡ true → IsCovered (spans_in spans) p
covered_at_true spans p r is t = (covers-Decides spans p).0 (sym is ∙ t)

pub bare_at_false : (spans : List (ℕ × ℕ)) (p : ℕ) (r : Bool) → r ≡ list_any (λ s. nat_le s.0 p && nat_lt p s.1) spans → r ≡ false → IsCovered (spans_in spans) p → ⊥
bare_at_false spans p r is f c = false≢true (sym f ∙ is ∙ (covers-Decides spans p).1 c)

-- no span ends past `end`
pub covered_below : (end : ℕ) (spans : List (ℕ × ℕ)) (p : ℕ) → All (λ s. s.1 ≤ end) spans → IsCovered (spans_in spans) p → p < end
covered_below end [] p all c = absurd c
covered_below end (s ∷ ss) p all (inl w) = let h = All-head (λ s. s.1 ≤ end) s ss all in omega arith
covered_below end (s ∷ ss) p all (inr w) = covered_below end ss p (All-tail (λ s. s.1 ≤ end) s ss all) w

-- the list has gaps between its spans, and covers just the position and what the other list covers
pub record AddsNext (first p : ℕ) (xs ys : List Span) : Type 0 where
  pub apart : AreApartFrom first ys
  pub within : (q : ℕ) → IsCovered ys q → (q ≡ p) ⊎ IsCovered xs q
  pub here : IsCovered ys p
  pub whole : (q : ℕ) → IsCovered xs q → IsCovered ys q

with_next_after-adds : (first p : ℕ) (s : Span) (ss : List Span) → AreApartFrom first (s ∷ ss) → ((q : ℕ) → IsCovered (s ∷ ss) q → q < p) → AddsNext first p (s ∷ ss) (with_next_after s ss p)
with_next_after-adds first p s [] a below =
    let low : s.stop ≤ p = let h = below (s.stop - 1) (inl (omega (arith, a.1), omega (arith, a.1))) in omega (arith, a.1) in
    grind arith
with_next_after-adds first p s (t ∷ ts) a below = grind (arith, (with_next_after-adds (s.stop + 1) p t ts a.2 (λ q c. below q (inr c))))

pub with_next-adds : (p : ℕ) (xs : List Span) → AreApartFrom 0 xs → ((q : ℕ) → IsCovered xs q → q < p) → AddsNext 0 p xs (with_next xs p)
with_next-adds p [] a below = grind arith
with_next-adds p (s ∷ ss) a below = with_next_after-adds 0 p s ss a below

-- the stretches of the positions below n of which something is so, with the next position and without
abbrev pub AreBelow : (ℕ → Type 0) → ℕ → List Span → Type 0
AreBelow P n spans = AreStretchesOf (λ p. (p < n) × P p) spans

pub below_with : (P : ℕ → Type 0) (n : ℕ) (spans : List Span) → AreBelow P n spans → P n → AreBelow P (n + 1) (with_next spans n)
below_with P n spans r here = grind (arith, (with_next-adds n spans r.apart (λ q c. (r.within q c).0)))

-- those of the bridged positions
abbrev pub AreRunsBelow : ℕ → List Span → ℕ → List Span → Type 0
AreRunsBelow gap spans n runs = AreBelow (Bridged gap spans) n runs

pub runs_below-all : (gap : ℕ) (spans : List (ℕ × ℕ)) (end n : ℕ) (runs : List Span) → All (λ s. s.1 ≤ end) spans → end ≤ n → AreRunsBelow gap (spans_in spans) n runs → runs ≡ runs_of gap (spans_in spans)
runs_below-all gap spans end n runs all past r = only_runs gap (spans_in spans) runs (record {
  apart = r.apart;
  within = λ q c. (r.within q c).1;
  whole = λ q b. r.whole q (let h = covered_below end spans b.right all b.right_covered in let low = b.to_right in omega arith, b);
})

-- the next position after the last span
with_next_after-last : (x : Span) (xs : List Span) (s : Span) (p : ℕ) → with_next_after x (xs ++ s ∷ []) p ≡ (x ∷ xs) ++ with_next (s ∷ []) p
with_next_after-last x [] s p = refl
with_next_after-last x (y ∷ ys) s p = ap (λ zs. x ∷ zs) (with_next_after-last y ys s p)

with_next-last : (xs : List Span) (s : Span) (p : ℕ) → with_next (xs ++ s ∷ []) p ≡ xs ++ with_next (s ∷ []) p
with_next-last [] s p = refl
with_next-last (x ∷ xs) s p = with_next_after-last x xs s p

pub next_joined : (front : List (ℕ × ℕ)) (start stop p : ℕ) → stop ≡ p → spans_in (front ++ (start, p + 1) ∷ []) ≡ with_next (spans_in (front ++ (start, stop) ∷ [])) p
next_joined front start stop p e = grind (arith, map-append, with_next-last)

pub next_apart : (front : List (ℕ × ℕ)) (start stop p : ℕ) → (stop ≡ p → ⊥) → spans_in ((front ++ (start, stop) ∷ []) ++ (p, p + 1) ∷ []) ≡ with_next (spans_in (front ++ (start, stop) ∷ [])) p
next_apart front start stop p other = grind (arith, map-append, append_assoc, with_next-last)

-- without the next position, of which it isn't so
pub below_without : (P : ℕ → Type 0) (n : ℕ) (spans : List Span) → AreBelow P n spans → (P n → ⊥) → AreBelow P (n + 1) spans
below_without P n spans r other = record {
  apart = r.apart;
  within = λ q c. let w = r.within q c in (let below = w.0 in omega arith, w.1);
  whole = λ q w. elim (cases_lt q n) [
    | inl low ↦ r.whole q (low, w.1)
    | inr high ↦ let here : q ≡ n = let below = w.0 in omega arith in absurd (other (subst P here w.1))
  ];
}

-- those of the bare positions are the gaps
pub gaps_below : (size : ℕ) (spans gaps : List Span) → AreBelow (λ p. IsCovered spans p → ⊥) size gaps → gaps ≡ gaps_of size spans
gaps_below size spans gaps r = only_gaps size spans gaps (record {
  apart = r.apart;
  within = λ q c. let w = r.within q c in record { within = w.0; bare = w.1 };
  whole = λ q b. r.whole q (b.within, b.bare);
})
