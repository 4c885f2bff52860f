-- Lemmas on the lines of all records.
use Rattle.bt_lines.proofs.Std.{◌≡◌, ◌⊎◌, inl, inr, ℕ, ◌+◌, suc, zero, add-one, Bool, true, false, false≢true, List, [], ◌∷◌, ◌++◌, Option, None, Some, length, ◌<◌, Result, Ok, Err, IsTrue, arith, refl, sym, ap, subst, ◌∙◌, filter, flat_map, not, slice_get, drop, take, take-append-drop, append_assoc, append-nil}
use Rattle.bt_lines.specs.calls.Faults.{no_memory}
use Rattle.bt_lines.specs.calls.Names.{fault_value}
use Rattle.bt_lines.specs.calls.Output.{Adds, FailsToAdd, Grown, Output}
use Rattle.bt_lines.specs.declared.fault.Fault.{Fault}
use Rattle.bt_lines.proofs.lemmas.Writer.{cut_off, fails_then, grown_more, grown_none}
use Rattle.bt_bed.specs.model.Feature.{Feature, intervals_of}
use Rattle.bt_bed.specs.model.Order.{Order}
use Rattle.bt_bed.specs.calls.Orders.{ArePlaced, IsTotal}
use Rattle.bt_sweep.specs.calls.Held.{AreRising}
use Rattle.bt_sweep.specs.declared.hits.hit_rule.HitRule.{HitRule}
use Rattle.bt_sweep.specs.declared.output.shape.Shape.{Shape}
use Rattle.bt_sweep.specs.declared.output.shape.Shape.TheVariants.{Cut, OrigA, CutAndB, OrigBoth, Overlap}
use Rattle.bt_sweep.specs.model.Hits.{decides, hits_among, is_hit}
use Rattle.bt_sweep.specs.model.Lines.{hit_line, lines_of}
use Rattle.bt_sweep.proofs.lemmas.definitions.HitLemmas.{placed_back}
use Rattle.bt_sweep.proofs.lemmas.definitions.PieceLemmas.{rising_all}
use Rattle.bt_hits.specs.calls.Listing.{CutsOff, ListsHits, has_line_each}
use Rattle.bt_hits.specs.inside.Meeting.{FirstDecides, HasListed, IsUndecided, ListsNext, MovesUpTo, Sees, is_passed}
use Rattle.bt_hits.specs.inside.Writing.{hits_by_level}
use Rattle.bt_hits.specs.model.Bins.{all_levels, in_bin_order, lines_by_bins}
use Rattle.bt_hits.proofs.lemmas.Bins.{order_is}
use Rattle.bt_hits.proofs.lemmas.Meeting.{hit_on, hits_are, sees_kept}

each_line : (shape : Shape) → has_line_each shape ≡ true → (a : Feature) (found : List Feature) → lines_of shape a found ≡ flat_map (hit_line shape a) found
each_line Cut e a found = refl
each_line OrigA e a found = refl
each_line CutAndB e a found = refl
each_line OrigBoth e a found = refl
each_line Overlap e a found = refl
each_line _ e a found = absurd (false≢true e)

module _ (order : Order) (total : IsTotal order) (shape : Shape) (each : has_line_each shape ≡ true) (rule : HitRule) (a : Feature) (all : List Feature) (placed : ArePlaced order (intervals_of all)) where
  -- the lines of what hits a record, level by level
  lines_are : (kept : List Feature) → hits_among rule a all ≡ hits_among rule a kept → lines_by_bins shape rule all a ≡ flat_map (hit_line shape a) (hits_by_level rule a all_levels kept)
  unfolding lines_by_bins
  lines_are kept e =
      let rises : AreRising (hits_among rule a kept) = subst AreRising e (rising_all order total (is_hit rule a) a.chrom (hit_on rule a) all placed) in
      each_line shape each a (in_bin_order (hits_among rule a all))
      ∙ ap (λ l. flat_map (hit_line shape a) (in_bin_order l)) e
      ∙ ap (flat_map (hit_line shape a)) (order_is (is_hit rule a) kept rises)

  module _ (later active rest moved_active moved_rest kept : List Feature) (ahead : ℕ) (up : MovesUpTo order a active rest moved_active moved_rest) (are : kept ≡ filter (λ b. not (is_passed order a b)) moved_active)
      (placed_rest : ArePlaced order (intervals_of rest)) (placed_first : ArePlaced order (intervals_of (a ∷ later))) (sees : Sees rule all (active ++ rest) (a ∷ later)) (reached : FirstDecides order a (drop ahead moved_rest)) where
    abbrev filtered : List Feature
    filtered = filter (λ b. not (is_passed order a b)) moved_active

    joined : moved_active ++ moved_rest ≡ active ++ rest
    joined = ap (λ l. l ++ moved_rest) up.are ∙ append_assoc active up.moved moved_rest ∙ ap (λ l. active ++ l) (sym up.were)

    sees_filtered : Sees rule all (filtered ++ moved_rest) (a ∷ later)
    sees_filtered = sees_kept order total rule a placed_first.0 all moved_active moved_rest later placed_first (subst (λ (l : List Feature). Sees rule all l (a ∷ later)) (sym joined) sees)

    left_placed : ArePlaced order (intervals_of moved_rest)
    left_placed = placed_back order up.moved moved_rest (subst (λ (l : List Feature). ArePlaced order (intervals_of l)) up.were placed_rest)

    abbrev near : List Feature
    near = kept ++ take ahead moved_rest

    near_far : near ++ drop ahead moved_rest ≡ filtered ++ moved_rest
    near_far = append_assoc kept (take ahead moved_rest) (drop ahead moved_rest) ∙ ap (λ l. kept ++ l) (take-append-drop ahead moved_rest) ∙ ap (λ l. l ++ moved_rest) are

    far_placed : ArePlaced order (intervals_of (drop ahead moved_rest))
    far_placed = placed_back order (take ahead moved_rest) (drop ahead moved_rest) (subst (λ (l : List Feature). ArePlaced order (intervals_of l)) (sym (take-append-drop ahead moved_rest)) left_placed)

    lines_near : lines_by_bins shape rule all a ≡ flat_map (hit_line shape a) (hits_by_level rule a all_levels near)
    lines_near = lines_are near (hits_are order total rule a placed_first.0 all near (drop ahead moved_rest) far_placed reached (sees_filtered.0 ∙ ap (hits_among rule a) (sym near_far)))

    -- one record
    pub lists_next : {A : Type 0} (r : Result A Fault) (old new : Output) → Adds old (flat_map (hit_line shape a) (hits_by_level rule a all_levels near)) r new → ListsNext order shape rule a later all old r kept moved_rest new
    lists_next (Ok done) old new adds = record {
      puts = subst (λ (l : List ℕ). Grown old l new) (sym lines_near) adds;
      sees = subst (λ (l : List Feature). Sees rule all (l ++ moved_rest) later) (sym are) sees_filtered.1;
      placed = left_placed;
    }
    lists_next (Err fault) old new adds = inr (subst (λ (l : List ℕ). FailsToAdd old l (fault_value fault) new) (sym lines_near) adds)

-- the first that is left
pub drop_get : (rs : List Feature) (i : ℕ) (a : Feature) → slice_get rs i ≡ Some a → drop i rs ≡ a ∷ drop (i + 1) rs
drop_get rs i a e = rw add-one (at rs i e)
  where
    at : (xs : List Feature) (k : ℕ) → slice_get xs k ≡ Some a → drop k xs ≡ a ∷ drop (suc k) xs
    at [] zero f = absurd (cc)
    at [] (suc k) f = absurd (cc)
    at (x ∷ xs) zero f = ap (λ (y : Feature). y ∷ xs) (cc)
    at (x ∷ xs) (suc k) f = at xs k f

-- there is one at each index
pub got_one : (rs : List Feature) (i : ℕ) → i < length rs → slice_get rs i ≡ None → ⊥
got_one [] i h e = absurd (omega (arith, h))
got_one (r ∷ rs) zero h e = cc
got_one (r ∷ rs) (suc i) h e = got_one rs i (omega (arith, h)) e

-- the first of these that isn't undecided decides it
pub decides_at : (order : Order) (a : Feature) (bs : List Feature) (i : ℕ) (o : Option Feature) (is : Bool) → o ≡ slice_get bs i → i < length bs → is ≡ false → IsUndecided order a o is → FirstDecides order a (drop i bs)
decides_at order a bs i None is e h left undecided = absurd (got_one bs i h (sym e))
decides_at order a bs i (Some b) is e h left undecided =
    let first : decides order a b ≡ true = grind (arith, left, undecided) in
    subst (FirstDecides order a) (sym (drop_get bs i b (sym e))) first

module _ (f : Feature → List ℕ) (a : Feature) (later : List Feature) (put whole : List ℕ) (all : put ++ flat_map f (a ∷ later) ≡ whole) where
  -- with the lines of one more
  pub more_put : (put ++ f a) ++ flat_map f later ≡ whole
  more_put = append_assoc put (f a) (flat_map f later) ∙ all

  -- they weren't all put
  pub next_cut : (old mid new : Output) (fault : Fault) → Grown old put mid → ((new ≡ mid) × (fault_value fault ≡ no_memory)) ⊎ FailsToAdd mid (f a) (fault_value fault) new → CutsOff old whole (fault_value fault) new
  next_cut old mid new fault so_far (inl (same, is)) = record { put = put; rest = flat_map f (a ∷ later); are = all; cause = inl (subst (λ (o : Output). Grown old put o) (sym same) so_far, is) }
  next_cut old mid new fault so_far (inr fails) =
      let cut = cut_off old new (put ++ f a) (flat_map f later) (fault_value fault) (fails_then old mid new put (f a) (fault_value fault) so_far fails) in
      record { put = put; rest = flat_map f (a ∷ later); are = all; cause = inr (subst (λ (l : List ℕ). FailsToAdd old l (fault_value fault) new) more_put cut) }

-- at first all are at hand
pub sees_all : (rule : HitRule) (all xs : List Feature) → Sees rule all all xs
sees_all rule all [] = tt
sees_all rule all (x ∷ xs) = (refl, sees_all rule all xs)
