-- Lemmas on the lines of one record.
use Rattle.bt_lines.proofs.Std.{◌≡◌, ℕ, ◌+◌, ◌<◌, ◌≤◌, Bool, true, false, cond, List, [], ◌∷◌, ◌++◌, Option, Some, zero, suc, add-one, arith, refl, sym, ap, subst, ◌∙◌, filter, flat_map, flat_map-append, option_to_list, take, drop, slice_get, Err, take-append-drop, append_assoc, append-nil, bytes_eq, ◌&&◌, ltb, ltb-true, min, max, ◌-◌, and_parts, All, AllByRecursion, recursion_from_All, eqb-true, false_from_ne_true, get_or, length, cases_lt, inl, inr, None, IfSome, get_or_from_slice_get}
use Rattle.bt_lines.specs.calls.Names.{fault_value}
use Rattle.bt_lines.specs.calls.Output.{Output, Adds, FailsToAdd, Grown}
use Rattle.bt_lines.specs.declared.fault.Fault.{Fault}
use Rattle.bt_lines.proofs.lemmas.Writer.{cut_off, fails_then, grown_more}
use Rattle.bt_bed.specs.model.Feature.{Feature}
use Rattle.bt_sweep.proofs.lemmas.Output.{take_next}
use Rattle.bt_sweep.proofs.lemmas.definitions.HitLemmas.{apart_misses, hit_overlaps}
use Rattle.bt_sweep.specs.declared.hits.hit_rule.HitRule.{HitRule}
use Rattle.bt_sweep.specs.model.Hits.{is_hit, shared_bases}
use Rattle.bt_hits.specs.inside.Writing.{is_hit_on}
use Rattle.bt_hits.specs.model.Bins.{all_levels, is_on, level_of}
use Rattle.bt_hits.proofs.lemmas.Listing.{got_one}

pub level_get : (n : ℕ) → n < 8 → slice_get all_levels n ≡ Some n
level_get zero h = refl
level_get (suc zero) h = refl
level_get (suc (suc zero)) h = refl
level_get (suc (suc (suc zero))) h = refl
level_get (suc (suc (suc (suc zero)))) h = refl
level_get (suc (suc (suc (suc (suc zero))))) h = refl
level_get (suc (suc (suc (suc (suc (suc zero)))))) h = refl
level_get (suc (suc (suc (suc (suc (suc (suc zero))))))) h = refl
level_get (suc (suc (suc (suc (suc (suc (suc (suc n)))))))) h = absurd (omega (arith, h))

module _ (f : Feature → List ℕ) (on : ℕ → List Feature) where
  -- the lines of the first levels
  abbrev pub lines_to : ℕ → List ℕ
  lines_to n = flat_map f (flat_map on (take n all_levels))

  abbrev pub lines_from : ℕ → List ℕ
  lines_from n = flat_map f (flat_map on (drop n all_levels))

  took_level : (n : ℕ) → n < 8 → take (n + 1) all_levels ≡ take n all_levels ++ n ∷ []
  took_level n h = take_next all_levels n ∙ ap (λ o. take n all_levels ++ option_to_list o) (level_get n h)

  next_lines : (n : ℕ) → n < 8 → lines_to (n + 1) ≡ lines_to n ++ flat_map f (on n)
  next_lines n h =
      ap (λ l. flat_map f (flat_map on l)) (took_level n h)
      ∙ ap (flat_map f) (flat_map-append on (take n all_levels) (n ∷ []) ∙ ap (λ l. flat_map on (take n all_levels) ++ l) (append-nil (on n)))
      ∙ flat_map-append f (flat_map on (take n all_levels)) (on n)

  all_lines : (n : ℕ) → lines_to n ++ lines_from n ≡ flat_map f (flat_map on all_levels)
  all_lines n =
      sym (flat_map-append f (flat_map on (take n all_levels)) (flat_map on (drop n all_levels)))
      ∙ ap (flat_map f) (sym (flat_map-append on (take n all_levels) (drop n all_levels)) ∙ ap (flat_map on) (take-append-drop n all_levels))

  -- the lines of one more level
  pub level_next : (n : ℕ) (old mid new : Output) → n < 8 → Grown old (lines_to n) mid → Grown mid (flat_map f (on n)) new → Grown old (lines_to (n + 1)) new
  level_next n old mid new h so_far here = rw (next_lines n h) (grown_more old mid new (lines_to n) (flat_map f (on n)) so_far here)

  -- those of a level couldn't be written
  pub level_cut : (n : ℕ) (old mid new : Output) (fault : Fault) → n < 8 → Grown old (lines_to n) mid → FailsToAdd mid (flat_map f (on n)) (fault_value fault) new → FailsToAdd old (flat_map f (flat_map on all_levels)) (fault_value fault) new
  level_cut n old mid new fault h so_far here =
      let cut = fails_then old mid new (lines_to n) (flat_map f (on n)) (fault_value fault) so_far here in
      let next : FailsToAdd old (lines_to (n + 1)) (fault_value fault) new = subst (λ (l : List ℕ). FailsToAdd old l (fault_value fault) new) (sym (next_lines n h)) cut in
      rw (← all_lines (n + 1)) (cut_off old new (lines_to (n + 1)) (lines_from (n + 1)) (fault_value fault) next)

-- what lies on another chromosome hits nothing
pub other_misses : (rule : HitRule) (level : ℕ) (a b : Feature) → bytes_eq a.chrom b.chrom ≡ false → is_hit_on rule level a b ≡ false
other_misses rule level a b e = ap (λ c. c && is_on level b) (apart_misses rule a b (ap (λ c. ltb 0 (cond c (min a.stop b.stop - max a.start b.start) 0)) e))

-- what hits a record shares a base with it
pub on_shares : (rule : HitRule) (level : ℕ) (a b x y : Feature) → x ≡ a → y ≡ b → is_hit_on rule level a b ≡ true → 0 < shared_bases x y
on_shares rule level a b x y same_a same_b e =
    let shares : 0 < shared_bases a b = ltb-true 0 (shared_bases a b) (hit_overlaps rule a b (and_parts (is_hit rule a b) (is_on level b) e).0) in
    subst (λ (f : Feature). 0 < shared_bases f y) (sym same_a) (subst (λ (f : Feature). 0 < shared_bases a f) (sym same_b) shares)

-- Lemmas on the levels that have no record.

module _ (rule : HitRule) (a : Feature) (n : ℕ) where
  off_at : (level : ℕ) (b : Feature) → level_of b < n → n ≤ level → is_hit_on rule level a b ≡ false
  off_at level b below above =
      let off : is_on level b ≡ false = false_from_ne_true (is_on level b) (λ e. absurd (omega (arith, eqb-true (level_of b) level e))) in
      grind (arith, off)

  none_rec : (level : ℕ) (bs : List Feature) → n ≤ level → AllByRecursion (λ (b : Feature). level_of b < n) bs → filter (is_hit_on rule level a) bs ≡ []
  none_rec level [] above below = refl
  none_rec level (b ∷ bs) above below =
      ap (λ c. cond c (b ∷ filter (is_hit_on rule level a) bs) (filter (is_hit_on rule level a) bs)) (off_at level b below.0 above) ∙ none_rec level bs above below.1

  none_each : (bs : List Feature) (each : List ℕ) → AllByRecursion (λ (b : Feature). level_of b < n) bs → AllByRecursion (λ (level : ℕ). n ≤ level) each
      → flat_map (λ level. filter (is_hit_on rule level a) bs) each ≡ []
  none_each bs [] below above = refl
  none_each bs (level ∷ each) below above = ap (λ l. l ++ flat_map (λ level. filter (is_hit_on rule level a) bs) each) (none_rec level bs above.0 below) ∙ none_each bs each below above.1

none_dropped : (n : ℕ) → drop {A = ℕ} n [] ≡ []
none_dropped zero = refl
none_dropped (suc n) = refl

levels_above : (n : ℕ) → AllByRecursion (λ (level : ℕ). n ≤ level) (drop n all_levels)
levels_above zero = (omega arith, (omega arith, (omega arith, (omega arith, (omega arith, (omega arith, (omega arith, (omega arith, tt))))))))
levels_above (suc zero) = (omega arith, (omega arith, (omega arith, (omega arith, (omega arith, (omega arith, (omega arith, tt)))))))
levels_above (suc (suc zero)) = (omega arith, (omega arith, (omega arith, (omega arith, (omega arith, (omega arith, tt))))))
levels_above (suc (suc (suc zero))) = (omega arith, (omega arith, (omega arith, (omega arith, (omega arith, tt)))))
levels_above (suc (suc (suc (suc zero)))) = (omega arith, (omega arith, (omega arith, (omega arith, tt))))
levels_above (suc (suc (suc (suc (suc zero))))) = (omega arith, (omega arith, (omega arith, tt)))
levels_above (suc (suc (suc (suc (suc (suc zero)))))) = (omega arith, (omega arith, tt))
levels_above (suc (suc (suc (suc (suc (suc (suc zero))))))) = (omega arith, tt)
levels_above (suc (suc (suc (suc (suc (suc (suc (suc n)))))))) = subst (AllByRecursion (λ (level : ℕ). suc (suc (suc (suc (suc (suc (suc (suc n))))))) ≤ level)) (sym (none_dropped n)) tt

-- the lines of the levels that have a record are all lines
pub levels_reach : (f : Feature → List ℕ) (rule : HitRule) (a : Feature) (held : List Feature) (n : ℕ) → All (λ b. level_of b < n) held
    → lines_to f (λ level. filter (is_hit_on rule level a) held) n ≡ flat_map f (flat_map (λ level. filter (is_hit_on rule level a) held) all_levels)
levels_reach f rule a held n below =
    let none : flat_map (λ level. filter (is_hit_on rule level a) held) (drop n all_levels) ≡ [] = none_each rule a n held (drop n all_levels) (recursion_from_All (λ (b : Feature). level_of b < n) held below) (levels_above n) in
    sym (append-nil (lines_to f (λ level. filter (is_hit_on rule level a) held) n))
    ∙ ap (λ l. lines_to f (λ level. filter (is_hit_on rule level a) held) n ++ flat_map f l) (sym none)
    ∙ all_lines f (λ level. filter (is_hit_on rule level a) held) n

-- the levels of one more
pub levels_more : (held : List Feature) (i count next : ℕ) (o : Option Feature) → o ≡ slice_get held i → i < length held → count ≤ next → IfSome o (λ b. level_of b < next)
    → ((k : ℕ) (d : Feature) → k < i → level_of (get_or held k d) < count) → (k : ℕ) (d : Feature) → k < i + 1 → level_of (get_or held k d) < next
levels_more held i count next None is within more here below k d h = absurd (got_one held i within (sym is))
levels_more held i count next (Some x) is within more here below k d h =
    elim (cases_lt k i) [
      | inl less ↦ omega (arith, below k d less)
      | inr least ↦
          let at_i : k ≡ i = omega arith in
          let same : get_or held k d ≡ x = ap (λ j. get_or held j d) at_i ∙ get_or_from_slice_get held i x d (sym is) in
          subst (λ (f : Feature). level_of f < next) (sym same) here
    ]
