-- Lemmas on bins.
use Rattle.bt_lines.proofs.Std.{◌≡◌, ℕ, ◌+◌, ◌-◌, ◌*◌, ◌/◌, ◌<◌, ◌≤◌, Bool, true, false, cond, List, [], ◌∷◌, ◌++◌, length, get_or, zero, suc, add-one, arith, refl, sym, ap, subst, ◌∙◌, filter, flat_map, nat_le, le-leb, ◌&&◌}
use Rattle.std.proofs.lemmas.List.Sums.{position_or_len_is}
use Rattle.std.proofs.lemmas.Nat.{le-div}
use Rattle.std.proofs.Math.Nat.{div-mul-le_self}
use Rattle.bt_bed.specs.model.Feature.{Feature}
use Rattle.bt_sweep.specs.calls.Held.{AreRising, AreRisingFrom}
use Rattle.bt_sweep.proofs.lemmas.definitions.PieceLemmas.{rising_filter}
use Rattle.bt_hits.specs.model.Bins.{all_levels, before_in_bins, bin_at, in_bin_order, in_bins, is_on, is_within_one, level_of, levels}

-- the bin of the next level
pub bin_next : (level p : ℕ) → bin_at (level + 1) p ≡ bin_at level p / 8
bin_next level p = rw add-one refl

level_at : (k : ℕ) → k < 7 → get_or levels k 0 ≡ k
level_at zero h = refl
level_at (suc zero) h = refl
level_at (suc (suc zero)) h = refl
level_at (suc (suc (suc zero))) h = refl
level_at (suc (suc (suc (suc zero)))) h = refl
level_at (suc (suc (suc (suc (suc zero))))) h = refl
level_at (suc (suc (suc (suc (suc (suc zero)))))) h = refl
level_at (suc (suc (suc (suc (suc (suc (suc k))))))) h = absurd (omega (arith, h))

-- the level of a record is the first on which one bin has all of it
pub level_is : (r : Feature) (n : ℕ) → n ≤ 7 → ((k : ℕ) → k < n → is_within_one r k ≡ false) → (n < 7 → is_within_one r n ≡ true) → n ≡ level_of r
unfolding level_of
level_is r n le below here =
    sym (position_or_len_is (is_within_one r) levels n 0 le
    (λ k h. subst (λ (j : ℕ). is_within_one r j ≡ false) (sym (level_at k (omega arith))) (below k h))
    (λ h. subst (λ (j : ℕ). is_within_one r j ≡ true) (sym (level_at n h)) (here h)))

-- Lemmas on records that come by their starts: they come by their bins too.

less_div : (m n k : ℕ) → 0 < k → m ≤ n → m / k ≤ n / k
less_div m n k some h = le-div (m / k) n k some (omega (arith, div-mul-le_self m k))

bins_rise : (level p q : ℕ) → p ≤ q → bin_at level p ≤ bin_at level q
bins_rise zero p q h = less_div p q 16384 (omega arith) h
bins_rise (suc level) p q h = less_div (bin_at level p) (bin_at level q) 8 (omega arith) (bins_rise level p q h)

before_rising : (level : ℕ) (r : Feature) (more : List Feature) → AreRisingFrom r.start more → before_in_bins level r more ≡ r ∷ more
before_rising level r [] rises = refl
before_rising level r (next ∷ more) rises =
    ap (λ c. cond c (r ∷ next ∷ more) (next ∷ before_in_bins level r more)) (le-leb (bin_at level r.start) (bin_at level next.start) (bins_rise level r.start next.start rises.0))

in_bins_from : (level low : ℕ) (rs : List Feature) → AreRisingFrom low rs → in_bins level rs ≡ rs
in_bins_from level low [] rises = refl
in_bins_from level low (r ∷ more) rises = ap (before_in_bins level r) (in_bins_from level r.start more rises.1) ∙ before_rising level r more rises.1

both_at : (p q : Feature → Bool) (x : Feature) (xs : List Feature) (c : Bool) → p x ≡ c → filter q (filter p xs) ≡ filter (λ y. p y && q y) xs
    → filter q (cond c (x ∷ filter p xs) (filter p xs)) ≡ cond (c && q x) (x ∷ filter (λ y. p y && q y) xs) (filter (λ y. p y && q y) xs)
both_at p q x xs true e rest = ap (λ l. cond (q x) (x ∷ l) l) rest
both_at p q x xs false e rest = rest

-- those that pass both tests
pub filter_both : (p q : Feature → Bool) (xs : List Feature) → filter q (filter p xs) ≡ filter (λ y. p y && q y) xs
filter_both p q [] = refl
filter_both p q (x ∷ xs) = both_at p q x xs (p x) refl (filter_both p q xs)

levels_alike : (p : Feature → Bool) (xs : List Feature) (each : List ℕ) → AreRising (filter p xs)
    → flat_map (λ level. in_bins level (filter (is_on level) (filter p xs))) each ≡ flat_map (λ level. filter (λ y. p y && is_on level y) xs) each
levels_alike p xs [] rises = refl
levels_alike p xs (level ∷ each) rises =
    let here : in_bins level (filter (is_on level) (filter p xs)) ≡ filter (λ y. p y && is_on level y) xs =
    in_bins_from level 0 (filter (is_on level) (filter p xs)) (rising_filter (is_on level) 0 (filter p xs) rises) ∙ filter_both p (is_on level) xs in
    let rest = levels_alike p xs each rises in
    ap (λ l. l ++ flat_map (λ level. in_bins level (filter (is_on level) (filter p xs))) each) here ∙ ap (λ l. filter (λ y. p y && is_on level y) xs ++ l) rest

-- the order of those that come by their starts, level by level
pub order_is : (p : Feature → Bool) (xs : List Feature) → AreRising (filter p xs) → in_bin_order (filter p xs) ≡ flat_map (λ level. filter (λ y. p y && is_on level y) xs) all_levels
unfolding in_bin_order
order_is p xs rises = levels_alike p xs all_levels rises
