-- Lemmas on the order of bins: it loses no hit and adds none.
use Rattle.bt_lines.proofs.Std.{◌≡◌, ℕ, ◌<◌, ◌≤◌, Bool, true, false, cond, List, [], ◌∷◌, ◌++◌, length, zero, suc, arith, refl, sym, ap, subst, ◌∙◌, filter, flat_map, eqb, nat_le, not, prefix_len-le-length, IsPermutation, IsPermutation-append_left, IsPermutation-append_right, IsPermutation-refl, IsPermutation-trans}
use Rattle.std.proofs.lemmas.List.Sorted.{IsPermutation-cons, IsPermutation-middle, IsPermutation-sym}
use Rattle.bt_bed.specs.model.Feature.{Feature}
use Rattle.bt_hits.specs.calls.Order.{bin_order_has_all}
use Rattle.bt_hits.specs.model.Bins.{all_levels, before_in_bins, bin_at, in_bin_order, in_bins, is_on, is_within_one, level_of, levels}

-- On one level.

before_at : (level : ℕ) (r next : Feature) (more : List Feature) (c : Bool) → IsPermutation (r ∷ more) (before_in_bins level r more) → IsPermutation (r ∷ next ∷ more) (cond c (r ∷ next ∷ more) (next ∷ before_in_bins level r more))
before_at level r next more true rest = IsPermutation-refl (r ∷ next ∷ more)
before_at level r next more false rest =
    IsPermutation-trans (r ∷ next ∷ more) (next ∷ r ∷ more) (next ∷ before_in_bins level r more) (IsPermutation-middle (r ∷ []) next more) (IsPermutation-cons next (r ∷ more) (before_in_bins level r more) rest)

before_all : (level : ℕ) (r : Feature) (more : List Feature) → IsPermutation (r ∷ more) (before_in_bins level r more)
before_all level r [] = IsPermutation-refl (r ∷ [])
before_all level r (next ∷ more) = before_at level r next more (nat_le (bin_at level r.start) (bin_at level next.start)) (before_all level r more)

bins_all : (level : ℕ) (rs : List Feature) → IsPermutation rs (in_bins level rs)
bins_all level [] = IsPermutation-refl []
bins_all level (r ∷ more) =
    IsPermutation-trans (r ∷ more) (r ∷ in_bins level more) (before_in_bins level r (in_bins level more)) (IsPermutation-cons r more (in_bins level more) (bins_all level more)) (before_all level r (in_bins level more))

-- On all levels.

both_all : (xs ys vs ws : List Feature) → IsPermutation xs vs → IsPermutation ys ws → IsPermutation (xs ++ ys) (vs ++ ws)
both_all xs ys vs ws one other = IsPermutation-trans (xs ++ ys) (vs ++ ys) (vs ++ ws) (IsPermutation-append_left ys xs vs one) (IsPermutation-append_right vs ys ws other)

each_all : (found : List Feature) (each : List ℕ) → IsPermutation (flat_map (λ level. filter (is_on level) found) each) (flat_map (λ level. in_bins level (filter (is_on level) found)) each)
each_all found [] = IsPermutation-refl []
each_all found (level ∷ each) =
    both_all (filter (is_on level) found) (flat_map (λ level. filter (is_on level) found) each) (in_bins level (filter (is_on level) found)) (flat_map (λ level. in_bins level (filter (is_on level) found)) each)
    (bins_all level (filter (is_on level) found)) (each_all found each)

module _ (F : ℕ → List Feature) (x : Feature) (n : ℕ) where
  -- one more on a level
  abbrev with_one : ℕ → List Feature
  with_one level = cond (eqb n level) (x ∷ F level) (F level)

  -- how often a level comes
  abbrev times : List ℕ → ℕ
  times [] = 0
  times (level ∷ each) = cond (eqb n level) (suc (times each)) (times each)

  none_at : (level : ℕ) (each : List ℕ) (c : Bool) → cond c (suc (times each)) (times each) ≡ 0 → (times each ≡ 0 → flat_map with_one each ≡ flat_map F each)
      → cond c (x ∷ F level) (F level) ++ flat_map with_one each ≡ F level ++ flat_map F each
  none_at level each true e rest = absurd (omega (arith, e))
  none_at level each false e rest = ap (λ l. F level ++ l) (rest e)

  none_more : (each : List ℕ) → times each ≡ 0 → flat_map with_one each ≡ flat_map F each
  none_more [] e = refl
  none_more (level ∷ each) e = none_at level each (eqb n level) e (none_more each)

  one_at : (level : ℕ) (each : List ℕ) (c : Bool) → cond c (suc (times each)) (times each) ≡ 1 → (times each ≡ 1 → IsPermutation (x ∷ flat_map F each) (flat_map with_one each))
      → IsPermutation (x ∷ F level ++ flat_map F each) (cond c (x ∷ F level) (F level) ++ flat_map with_one each)
  one_at level each true e rest = subst (λ (l : List Feature). IsPermutation (x ∷ F level ++ flat_map F each) (x ∷ F level ++ l)) (sym (none_more each (omega (arith, e)))) (IsPermutation-refl (x ∷ F level ++ flat_map F each))
  one_at level each false e rest =
      IsPermutation-trans (x ∷ F level ++ flat_map F each) (F level ++ x ∷ flat_map F each) (F level ++ flat_map with_one each)
      (IsPermutation-sym (F level ++ x ∷ flat_map F each) (x ∷ F level ++ flat_map F each) (IsPermutation-middle (F level) x (flat_map F each)))
      (IsPermutation-append_right (F level) (x ∷ flat_map F each) (flat_map with_one each) (rest e))

  one_more : (each : List ℕ) → times each ≡ 1 → IsPermutation (x ∷ flat_map F each) (flat_map with_one each)
  one_more [] e = absurd (omega (arith, e))
  one_more (level ∷ each) e = one_at level each (eqb n level) e (one_more each)

once : (F : ℕ → List Feature) (x : Feature) (n : ℕ) → n < 8 → times F x n all_levels ≡ 1
once F x zero h = refl
once F x (suc zero) h = refl
once F x (suc (suc zero)) h = refl
once F x (suc (suc (suc zero))) h = refl
once F x (suc (suc (suc (suc zero)))) h = refl
once F x (suc (suc (suc (suc (suc zero))))) h = refl
once F x (suc (suc (suc (suc (suc (suc zero)))))) h = refl
once F x (suc (suc (suc (suc (suc (suc (suc zero))))))) h = refl
once F x (suc (suc (suc (suc (suc (suc (suc (suc n)))))))) h = absurd (omega (arith, h))

level_within : (x : Feature) → level_of x < 8
unfolding level_of
level_within x = omega (arith, prefix_len-le-length (λ level. not (is_within_one x level)) levels)

parts_all : (found : List Feature) → IsPermutation found (flat_map (λ level. filter (is_on level) found) all_levels)
parts_all [] = IsPermutation-refl []
parts_all (x ∷ xs) =
    let F : ℕ → List Feature = λ level. filter (is_on level) xs in
    IsPermutation-trans (x ∷ xs) (x ∷ flat_map F all_levels) (flat_map (λ level. filter (is_on level) (x ∷ xs)) all_levels) (IsPermutation-cons x xs (flat_map F all_levels) (parts_all xs)) (one_more F x (level_of x) all_levels (once F x (level_of x) (level_within x)))

pub order_has_all : bin_order_has_all
unfolding in_bin_order
order_has_all found =
    IsPermutation-trans found (flat_map (λ level. filter (is_on level) found) all_levels) (in_bin_order found) (parts_all found) (each_all found all_levels)
