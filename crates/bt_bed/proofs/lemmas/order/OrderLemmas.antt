-- Lemmas on orders of records.
use Rattle.bt_lines.proofs.Std.{rules, ◌≡◌, ℕ, ◌≤◌, ◌⊎◌, inl, inr, List, [], ◌∷◌, ◌++◌, refl, ◌∙◌, subst, true, false, bytes_eq, Some, IsTrue, or_parts, or_from, or_left, or_right, Option, arith, IfSome, ◌||◌, ap, is_some, tied_itself, nat_list_cmp_total}
use Rattle.std.specs.declared.cmp.Ordering.TheVariants.{Less, Equal}
use Rattle.bt_bed.specs.model.Feature.{last_from, last_of, Interval}
use Rattle.bt_bed.specs.model.Order.{Order, is_among, rank_of, byte_order}
use Rattle.bt_bed.specs.calls.Orders.{IsTotal, IsUpTo, ArePlaced, placed_grows, prefixes_are_placed, IsFollowed, AreContiguous, placed_are_contiguous, prefixes_are_contiguous, sorted_by_places}
use Rattle.bt_bed.specs.model.Sorted.{locus_of, has_records, Locus, falls_in, sorting_of}
use Rattle.bt_bed.proofs.lemmas.parse.NameLemmas.{name_eq, name_ne, name_ne-sym, same_name}

-- Lemmas on contiguous records, and on records in a total order of their chromosomes.

pub has_records-append : (name : List ℕ) (xs ys : List Interval) → has_records name (xs ++ ys) ≡ false → (has_records name xs ≡ false) × (has_records name ys ≡ false)
has_records-append name [] ys f = (refl, f)
has_records-append name (x ∷ xs) ys f =
    grind (arith, (has_records-append name xs ys (or_parts (bytes_eq x.chrom name) (has_records name (xs ++ ys)) f).1))

-- records in order: the last of them, and one more
pub contiguous_prefix : prefixes_are_contiguous
contiguous_prefix [] ys t = tt
contiguous_prefix (x ∷ []) ys t = (tt, tt)
contiguous_prefix (x ∷ y ∷ zs) ys t =
    let next : IsFollowed x (y ∷ zs) = elim t.0 [
      | inl same ↦ inl same
      | inr gone ↦ inr (has_records-append x.chrom (y ∷ zs) ys gone).0
    ] in
    (next, contiguous_prefix (y ∷ zs) ys t.1)

pub next_place : (q : Interval) (qs : List Interval) (r : Interval) → AreContiguous (q ∷ qs ++ r ∷ []) → ((r.chrom ≡ (last_from q qs).chrom) × ((last_from q qs).start ≤ r.start)) ⊎ (has_records r.chrom (q ∷ qs) ≡ false)
next_place q [] r t = grind (arith, name_ne-sym)
next_place q (s ∷ ss) r t = grind (arith, (next_place s ss r t.1), has_records-append, name_ne-sym, or_from)

pub last_of-push : (past : List Interval) (r : Interval) → last_of (past ++ r ∷ []) ≡ Some r
last_of-push [] r = refl
last_of-push (q ∷ []) r = refl
last_of-push (q ∷ s ∷ ss) r = last_of-push (s ∷ ss) r

-- the last record's chromosome has records
pub has_records-last : (q : Interval) (qs : List Interval) → has_records (last_from q qs).chrom (q ∷ qs) ≡ true
has_records-last q [] = or_left (bytes_eq q.chrom q.chrom) false (name_eq q.chrom q.chrom refl)
has_records-last q (s ∷ ss) = or_right (bytes_eq q.chrom (last_from s ss).chrom) (has_records (last_from s ss).chrom (s ∷ ss)) (has_records-last s ss)

-- a chromosome that comes before the first record's has no records
lower_is_absent : (order : Order) (name : List ℕ) (s : Interval) (ss : List Interval) → IsTotal order → IsTrue (order.knows name) → ArePlaced order (s ∷ ss) → order.compare name s.chrom ≡ Less → has_records name (s ∷ ss) ≡ false
lower_is_absent order name s [] total known placed lower = grind (arith, name_ne)
lower_is_absent order name s (t ∷ ts) total known placed lower =
    let further : order.compare name t.chrom ≡ Less = elim placed.1 [
      | inl less ↦ total.ascends name s.chrom t.chrom known placed.0 placed.2.0 lower less
      | inr same ↦ subst (λ (c : List ℕ). order.compare name c ≡ Less) same.0 lower
    ] in
    or_from (bytes_eq s.chrom name) (has_records name (t ∷ ts)) (name_ne s.chrom name (grind arith)) (lower_is_absent order name t ts total known placed.2 further)

pub placed_contiguous : placed_are_contiguous
placed_contiguous order [] total placed = tt
placed_contiguous order (r ∷ rs) total placed = ((grind (arith, lower_is_absent)), placed_contiguous order rs total placed.2)

pub placed_prefix : prefixes_are_placed
placed_prefix order [] ys placed = tt
placed_prefix order (x ∷ []) ys placed = (placed.0, tt, tt)
placed_prefix order (x ∷ y ∷ zs) ys placed = (placed.0, placed.1, placed_prefix order (y ∷ zs) ys placed.2)

placed_from : (order : Order) (q : Interval) (qs : List Interval) (r : Interval) → ArePlaced order (q ∷ qs) → IsTrue (order.knows r.chrom) → IsUpTo order (locus_of (last_from q qs)) (locus_of r) → ArePlaced order (q ∷ qs ++ r ∷ [])
placed_from order q [] r placed known next = (placed.0, next, (known, tt, tt))
placed_from order q (s ∷ ss) r placed known next = (placed.0, placed.1, placed_from order s ss r placed.2 known next)

pub grows_placed : placed_grows
grows_placed = grind (arith, placed_from)

-- Lemmas on how records are sorted.

-- in a total order places are sorted as the order has them
pub places_sorted : sorted_by_places
places_sorted order last place total was is = search rules

-- a place that doesn't fall below the last one isn't before it
pub sorted_up_to : (order : Order) (last : Option Locus) (place : Locus) → IsTotal order → IfSome last (λ l. IsTrue (order.knows l.chrom)) → IsTrue (order.knows place.chrom) → falls_in (sorting_of order) last place ≡ false
    → IfSome last (λ l. IsUpTo order l place)
sorted_up_to order last place total was is stays = grind (arith, places_sorted)

-- Lemmas on the ranks of names.

-- a name is among the names exactly if it has a rank
pub among_ranked : (names : List (List ℕ)) (name : List ℕ) → is_some (rank_of names name) ≡ is_among names name
among_ranked [] name = refl
among_ranked (n ∷ ns) name = (grind arith) ∙ ap (λ b. bytes_eq n name || b) (among_ranked ns name)

-- The order of names by their bytes: which of two names comes first.

-- equal names
pub same_name_same : (left right : List ℕ) → bytes_eq left right ≡ true → byte_order.compare left right ≡ Equal
same_name_same left right e = grind (arith, (same_name left right e), (tied_itself nat_list_cmp_total left))
