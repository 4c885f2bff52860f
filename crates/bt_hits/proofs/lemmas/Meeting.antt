-- Lemmas on how the records of two inputs meet.
use Rattle.bt_lines.proofs.Std.{◌≡◌, ℕ, ◌<◌, ◌≤◌, ◌⊎◌, inl, inr, Bool, true, false, not, cond, List, [], ◌∷◌, ◌++◌, IsTrue, arith, refl, sym, ap, subst, ◌∙◌, filter, filter-append, append-nil, append_assoc, bytes_eq, list_all, and_from, AllByRecursion, All-from_recursion}
use Rattle.bt_bed.specs.model.Feature.{Feature, intervals_of}
use Rattle.bt_bed.specs.model.Good.{locus_at}
use Rattle.bt_bed.specs.model.Order.{Order}
use Rattle.bt_bed.specs.model.Sorted.{is_below}
use Rattle.bt_bed.specs.calls.Orders.{ArePlaced, IsTotal, IsUpTo}
use Rattle.bt_bed.proofs.lemmas.parse.NameLemmas.{same_name, name_eq, name_ne}
use Rattle.bt_sweep.specs.declared.hits.hit_rule.HitRule.{HitRule}
use Rattle.bt_sweep.specs.model.Hits.{decides, hits_among, is_hit}
use Rattle.bt_sweep.proofs.lemmas.definitions.HitLemmas.{all_decide, apart_misses, none_hit, placed_back, hit_overlaps, overlap_parts}
use Rattle.bt_hits.specs.inside.Meeting.{FirstDecides, KnownAll, MovesUpTo, Sees, is_passed}

known_rec : (order : Order) (rs : List Feature) → ArePlaced order (intervals_of rs) → AllByRecursion (λ (r : Feature). IsTrue (order.knows r.chrom)) rs
known_rec order [] placed = tt
known_rec order (r ∷ rs) placed = (placed.0, known_rec order rs placed.2)

-- records in order are on known chromosomes
pub placed_known : (order : Order) (rs : List Feature) → ArePlaced order (intervals_of rs) → KnownAll order rs
placed_known order rs placed = All-from_recursion (λ (r : Feature). IsTrue (order.knows r.chrom)) rs (known_rec order rs placed)

module _ (order : Order) (total : IsTotal order) (rule : HitRule) (a : Feature) (ka : IsTrue (order.knows a.chrom)) where
  -- a record comes at a or after it
  abbrev Follows : Feature → Type 0
  Follows x = is_below order (locus_at x) (locus_at a) ≡ false

  passed_misses : (x b : Feature) → IsTrue (order.knows x.chrom) → Follows x → is_passed order a b ≡ true → is_hit rule x b ≡ false
  passed_misses x b kx follows passed = apart_misses rule x b (grind (arith, same_name, name_eq))

  kept_at : (x b : Feature) (bs : List Feature) (c : Bool) → is_passed order a b ≡ c → (c ≡ true → is_hit rule x b ≡ false)
      → hits_among rule x (filter (λ y. not (is_passed order a y)) bs) ≡ hits_among rule x bs
      → hits_among rule x (cond (not c) (b ∷ filter (λ y. not (is_passed order a y)) bs) (filter (λ y. not (is_passed order a y)) bs)) ≡ hits_among rule x (b ∷ bs)
  kept_at x b bs true e misses rest = rest ∙ sym (ap (λ h. cond h (b ∷ hits_among rule x bs) (hits_among rule x bs)) (misses refl))
  kept_at x b bs false e misses rest = ap (λ l. cond (is_hit rule x b) (b ∷ l) l) rest

  kept_hits : (x : Feature) → IsTrue (order.knows x.chrom) → Follows x → (bs : List Feature) → hits_among rule x (filter (λ y. not (is_passed order a y)) bs) ≡ hits_among rule x bs
  kept_hits x kx follows [] = refl
  kept_hits x kx follows (b ∷ bs) = kept_at x b bs (is_passed order a b) refl (passed_misses x b kx follows) (kept_hits x kx follows bs)

  follows_next : (y z : Feature) → IsTrue (order.knows y.chrom) → IsTrue (order.knows z.chrom) → Follows y → IsUpTo order (locus_at y) (locus_at z) → Follows z
  follows_next y z ky kz follows up = grind arith

  follows_itself : Follows a
  follows_itself = grind arith

  rest_decide : (bs : List Feature) → ArePlaced order (intervals_of bs) → FirstDecides order a bs → list_all (decides order a) bs ≡ true
  rest_decide [] placed first = refl
  rest_decide (b ∷ bs) placed first = and_from (decides order a b) (list_all (decides order a) bs) first (all_decide order a b bs total ka placed first)

  -- what hits it comes before the first that decides it
  pub hits_are : (all near far : List Feature) → ArePlaced order (intervals_of far) → FirstDecides order a far → hits_among rule a all ≡ hits_among rule a (near ++ far) → hits_among rule a all ≡ hits_among rule a near
  hits_are all near far placed first e =
      e ∙ filter-append (is_hit rule a) near far ∙ ap (λ l. hits_among rule a near ++ l) (none_hit order rule a far total ka placed (rest_decide far placed first)) ∙ append-nil (hits_among rule a near)

  module _ (all active rest : List Feature) where
    abbrev kept : List Feature
    kept = filter (λ y. not (is_passed order a y)) active

    same_hits : (x : Feature) → IsTrue (order.knows x.chrom) → Follows x → hits_among rule x all ≡ hits_among rule x (active ++ rest) → hits_among rule x all ≡ hits_among rule x (kept ++ rest)
    same_hits x kx follows e =
        e ∙ filter-append (is_hit rule x) active rest ∙ ap (λ l. l ++ hits_among rule x rest) (sym (kept_hits x kx follows active)) ∙ sym (filter-append (is_hit rule x) kept rest)

    sees_from : (y : Feature) (ys : List Feature) → Follows y → ArePlaced order (intervals_of (y ∷ ys)) → Sees rule all (active ++ rest) (y ∷ ys) → Sees rule all (kept ++ rest) (y ∷ ys)
    sees_from y [] follows placed sees = (same_hits y placed.0 follows sees.0, tt)
    sees_from y (z ∷ zs) follows placed sees = (same_hits y placed.0 follows sees.0, sees_from z zs (follows_next y z placed.0 placed.2.0 follows placed.1) placed.2 sees.1)

    -- what is passed is dropped, and no record from this one on sees it
    pub sees_kept : (xs : List Feature) → ArePlaced order (intervals_of (a ∷ xs)) → Sees rule all (active ++ rest) (a ∷ xs) → Sees rule all (kept ++ rest) (a ∷ xs)
    sees_kept xs placed sees = sees_from a xs follows_itself placed sees

-- what hits a record lies on its chromosome
pub hit_on : (rule : HitRule) (a b : Feature) → is_hit rule a b ≡ true → b.chrom ≡ a.chrom
hit_on rule a b e = sym (same_name a.chrom b.chrom (overlap_parts a b (hit_overlaps rule a b e)).0)
