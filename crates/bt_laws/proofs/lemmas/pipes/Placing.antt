-- Intervals chromosome by chromosome: they are in order, and those of different chromosomes have nothing in common.
use Rattle.bt_lines.proofs.Std.{◌≡◌, ℕ, ◌+◌, ◌<◌, ◌≤◌, Bool, false, List, [], ◌∷◌, ◌++◌, map, filter, refl, inl, arith, IsTrue, flat_map, bytes_eq, AllByRecursion, or_parts}
use Rattle.std.specs.declared.cmp.Ordering.TheVariants.{Less}
use Rattle.bt_bed.specs.model.Feature.{Interval, Span, placed_on}
use Rattle.bt_bed.specs.model.Positions.{AreApartFrom}
use Rattle.bt_bed.specs.model.Sorted.{locus_of}
use Rattle.bt_bed.specs.calls.Orders.{ArePlaced, IsUpTo, IsTotal, AreDistinct}
use Rattle.bt_bed.specs.model.Order.{Order, is_among, rank_order}
use Rattle.bt_bed.proofs.lemmas.parse.NameLemmas.{name_ne-sym}
use Rattle.bt_laws.specs.Runs.{AreSortedNames, AreKnown}
use Rattle.bt_runs.proofs.lemmas.order.FileOrder.{rank_of-here, skips}
use Rattle.bt_runs.proofs.lemmas.Lists.{EachPair, all_any, all_both, all_filter, all_flat_map, all_map, all_so, all_unmap, all_zip}

-- ---- pairs

pub pairs_so : {A : Type 0} (P : A → Type 0) (R S : A → A → Type 0) (xs : List A) → ((x y : A) → P x → P y → R x y → S x y) → AllByRecursion P xs → EachPair R xs → EachPair S xs
pairs_so P R S [] f ps h = tt
pairs_so P R S (x ∷ xs) f ps h = (all_zip P (R x) (S x) xs (λ y q r. f x y ps.0 q r) ps.1 h.0, pairs_so P R S xs f ps.1 h.1)

pub pairs_weaker : {A : Type 0} (R S : A → A → Type 0) (xs : List A) → ((x y : A) → R x y → S x y) → EachPair R xs → EachPair S xs
pairs_weaker R S xs f h = pairs_so (λ x. Unit {0}) R S xs (λ x y p q r. f x y r) (all_any (λ x. Unit {0}) xs (λ x. tt)) h

pub pairs_any : {A : Type 0} (P : A → Type 0) (R : A → A → Type 0) (xs : List A) → ((x y : A) → P x → P y → R x y) → AllByRecursion P xs → EachPair R xs
pairs_any P R [] f h = tt
pairs_any P R (x ∷ xs) f h = (all_so P (R x) xs (λ y q. f x y h.0 q) h.1, pairs_any P R xs f h.1)

pub pairs_filter : {A : Type 0} (R : A → A → Type 0) (t : A → Bool) (xs : List A) → EachPair R xs → EachPair R (filter t xs)
pairs_filter R t [] h = tt
pairs_filter R t (x ∷ xs) h = grind (arith, (pairs_filter R t xs h.1), (all_filter (R x) t xs h.0))

pub pairs_map : {A B : Type 0} (R : B → B → Type 0) (f : A → B) (xs : List A) → EachPair (λ x y. R (f x) (f y)) xs → EachPair R (map f xs)
pairs_map R f [] h = tt
pairs_map R f (x ∷ xs) h = (all_map (R (f x)) f xs h.0, pairs_map R f xs h.1)

pub pairs_from_map : {A B : Type 0} (R : B → B → Type 0) (f : A → B) (xs : List A) → EachPair R (map f xs) → EachPair (λ x y. R (f x) (f y)) xs
pairs_from_map R f [] h = tt
pairs_from_map R f (x ∷ xs) h = (all_unmap (R (f x)) f xs h.0, pairs_from_map R f xs h.1)

pub pairs_both : {A : Type 0} (R : A → A → Type 0) (xs ys : List A) → EachPair R xs → EachPair R ys → AllByRecursion (λ x. AllByRecursion (R x) ys) xs → EachPair R (xs ++ ys)
pairs_both R [] ys h k cross = k
pairs_both R (x ∷ xs) ys h k cross = (all_both (R x) xs ys h.0 cross.0, pairs_both R xs ys h.1 k cross.1)

-- ---- pairs of a list of lists

behind : {A B : Type 0} (R : B → B → Type 0) (part : A → List B) (x : A) (xs : List A) → AllByRecursion (λ y. AllByRecursion (λ r. AllByRecursion (R r) (part y)) (part x)) xs
    → AllByRecursion (λ r. AllByRecursion (R r) (flat_map part xs)) (part x)
behind R part x [] cross = all_any _ (part x) (λ r. tt)
behind R part x (y ∷ ys) cross = grind (arith, all_zip, all_both, (behind R part x ys cross.1))

pub pairs_flat : {A B : Type 0} (R : B → B → Type 0) (part : A → List B) (xs : List A) → AllByRecursion (λ x. EachPair R (part x)) xs
    → EachPair (λ x y. AllByRecursion (λ r. AllByRecursion (R r) (part y)) (part x)) xs → EachPair R (flat_map part xs)
pairs_flat R part [] own cross = tt
pairs_flat R part (x ∷ xs) own cross = grind (arith, (pairs_flat R part xs own.1 cross.1), pairs_both, behind)

-- ---- names in order

module _ (order : Order) where
  abbrev pub Earlier : List ℕ → List ℕ → Type 0
  Earlier n m = order.compare n m ≡ Less

  later_all : IsTotal order → (n m : List ℕ) (ns : List (List ℕ)) → IsTrue (order.knows n) → IsTrue (order.knows m) → AreKnown order ns → Earlier n m → AllByRecursion (Earlier m) ns → AllByRecursion (Earlier n) ns
  later_all total n m [] known mid knowns less later = tt
  later_all total n m (k ∷ ns) known mid knowns less later =
      (total.ascends n m k known mid knowns.0 less later.0, later_all total n m ns known mid knowns.1 less later.1)

  pub ascending_pairs : IsTotal order → (names : List (List ℕ)) → AreKnown order names → AreSortedNames order names → EachPair Earlier names
  ascending_pairs total [] known up = tt
  ascending_pairs total (n ∷ []) known up = (tt, tt)
  ascending_pairs total (n ∷ m ∷ ns) known up = grind (arith, (ascending_pairs total (m ∷ ns) known.1 up.1), later_all)

-- ---- the names of a genome file

pub known_names : (names : List (List ℕ)) → AllByRecursion (λ name. IsTrue ((rank_order names).knows name)) names
known_names [] = tt
known_names (n ∷ ns) = grind (arith, (known_names ns), rank_of-here, all_so)

pub others : (n : List ℕ) (ns : List (List ℕ)) → is_among ns n ≡ false → AllByRecursion (λ m. bytes_eq n m ≡ false) ns
others n [] e = tt
others n (m ∷ ns) e = let parts = or_parts (bytes_eq m n) (is_among ns n) e in (name_ne-sym m n parts.0, others n ns parts.1)

pub names_pairs : (names : List (List ℕ)) → AreDistinct names → EachPair (Earlier (rank_order names)) names
names_pairs [] distinct = tt
names_pairs (n ∷ ns) distinct = grind (arith, (others n ns distinct.0), (rank_of-here n n ns refl), all_zip, (known_names ns), pairs_so, (names_pairs ns distinct.1))

-- ---- records in order, as pairs

module _ (order : Order) (total : IsTotal order) where
  abbrev pub UpTo : Interval → Interval → Type 0
  UpTo r s = IsUpTo order (locus_of r) (locus_of s)

  up_to_all : (r : Interval) (rs : List Interval) → ArePlaced order (r ∷ rs) → AllByRecursion (UpTo r) rs
  up_to_all r [] placed = tt
  up_to_all r (s ∷ ss) placed = (placed.1, up_to_all r ss (skips order r s ss total placed))

  pub placed_pairs : (rs : List Interval) → ArePlaced order rs → EachPair UpTo rs
  placed_pairs [] placed = tt
  placed_pairs (r ∷ rs) placed = (up_to_all r rs placed, placed_pairs rs placed.2)

  pub pairs_placed : (rs : List Interval) → AllByRecursion (λ (r : Interval). IsTrue (order.knows r.chrom)) rs → EachPair UpTo rs → ArePlaced order rs
  pairs_placed [] known pairs = tt
  pairs_placed (r ∷ rs) known pairs = (known.0, grind arith, pairs_placed rs known.1 pairs.1)

-- ---- spans chromosome by chromosome

-- intervals in order, each pair of which is so
pub record AreInOrder (order : Order) (R : Interval → Interval → Type 0) (rs : List Interval) : Type 0 where
  pub placed : ArePlaced order rs
  pub pairs : EachPair R rs

-- spans that ascend from a position on, each so far past the one before, or farther
abbrev pub AreSpread : ℕ → ℕ → List Span → Type 0
AreSpread gap first [] = Unit {0}
AreSpread gap first (s ∷ ss) = (first ≤ s.start) × (s.start < s.stop) × AreSpread gap (s.stop + gap) ss

pub apart_spread : (first : ℕ) (spans : List Span) → AreApartFrom first spans → AreSpread 1 first spans
apart_spread first [] h = tt
apart_spread first (s ∷ ss) h = (h.0, h.1, apart_spread (s.stop + 1) ss h.2)

abbrev pub IsBehind : ℕ → Span → Span → Type 0
IsBehind gap s t = (s.start < s.stop) × (s.stop + gap ≤ t.start)

spread_behind : (gap first : ℕ) (s : Span) (spans : List Span) → s.start < s.stop → s.stop + gap ≤ first → AreSpread gap first spans
    → AllByRecursion (IsBehind gap s) spans
spread_behind gap first s [] some up h = tt
spread_behind gap first s (t ∷ ts) some up h = ((some, omega (arith, up, h.0)), spread_behind gap (t.stop + gap) s ts some (omega (arith, up, h.0, h.1)) h.2)

pub spread_pairs : (gap first : ℕ) (spans : List Span) → AreSpread gap first spans → EachPair (IsBehind gap) spans
spread_pairs gap first [] h = tt
spread_pairs gap first (s ∷ ss) h = (spread_behind gap (s.stop + gap) s ss h.1 (omega arith) h.2, spread_pairs gap (s.stop + gap) ss h.2)

-- spans of each chromosome; those of different ones have nothing in common
module _ (order : Order) (total : IsTotal order) (R : Interval → Interval → Type 0) (gap : ℕ)
    (far : (r s : Interval) → (r.chrom ≡ s.chrom → r.stop + gap ≤ s.start) → R r s)
    {K : Type 0} (name : K → List ℕ) (spans : K → List Span) where
  abbrev Follows : Interval → Interval → Type 0
  Follows r s = UpTo order total r s × R r s

  abbrev pub placed_spans : K → List Interval
  placed_spans k = map (placed_on (name k)) (spans k)

  on_one : (k : K) → AreSpread gap 0 (spans k) → EachPair Follows (placed_spans k)
  on_one k spread = grind (arith, pairs_map, pairs_weaker, spread_pairs)

  abbrev Cross : K → K → Type 0
  Cross j k = AllByRecursion (λ r. AllByRecursion (Follows r) (placed_spans k)) (placed_spans j)

  on_two : (j k : K) → IsTrue (order.knows (name j)) → Earlier order (name j) (name k) → Cross j k
  on_two j k known less =
      all_map (λ r. AllByRecursion (Follows r) (placed_spans k)) (placed_on (name j)) (spans j)
      (all_any _ (spans j) (λ s. all_map (Follows (placed_on (name j) s)) (placed_on (name k)) (spans k) (all_any _ (spans k)
      (λ t. (inl less, far (placed_on (name j) s) (placed_on (name k) t) (λ same. absurd (let tied = total.same (name j) known in grind arith)))))))

  abbrev IsKnown : Interval → Type 0
  IsKnown r = IsTrue (order.knows r.chrom)

  known_on : (k : K) → IsTrue (order.knows (name k)) → AllByRecursion IsKnown (placed_spans k)
  known_on k known = grind (arith, all_map, all_any)

  pub spans_in_order : (ks : List K) → AllByRecursion (λ k. IsTrue (order.knows (name k))) ks → EachPair (λ j k. Earlier order (name j) (name k)) ks
      → AllByRecursion (λ k. AreSpread gap 0 (spans k)) ks → AreInOrder order R (flat_map placed_spans ks)
  spans_in_order ks known earlier spread =
      let Known : K → Type 0 = λ k. IsTrue (order.knows (name k)) in
      let all = flat_map placed_spans ks in
      let own = all_so (λ k. AreSpread gap 0 (spans k)) (λ k. EachPair Follows (placed_spans k)) ks on_one spread in
      let cross = pairs_so Known (λ j k. Earlier order (name j) (name k)) Cross ks (λ j k p q less. on_two j k p less) known earlier in
      let pairs = pairs_flat Follows placed_spans ks own cross in
      let there = all_flat_map IsKnown placed_spans ks (all_so Known (λ k. AllByRecursion IsKnown (placed_spans k)) ks known_on known) in
      record {
        placed = pairs_placed order total all there (pairs_weaker Follows (UpTo order total) all (λ r s f. f.0) pairs);
        pairs = pairs_weaker Follows R all (λ r s f. f.1) pairs;
      }
