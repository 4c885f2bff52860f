-- Total orders of chromosomes, and records that are sorted by one or lie in blocks.
use Rattle.std.specs.Prelude.{◌≡◌, ℕ, IsTrue, List, ⊤, IsFalse, [], ◌∷◌, ◌≤◌, ◌⊎◌, IfSome, ◌++◌, Some, ◌<◌, All}
use Rattle.std.specs.Ordering.{ordering_reverse, is_eq}
use Rattle.std.specs.declared.cmp.Ordering.TheVariants.{Less, Equal}
use Rattle.std.specs.Cmp.Lexicographic.{nat_list_cmp_total, same_text, texts_ties}
use Rattle.std.specs.Cmp.{tied_itself}
use Rattle.std.proofs.Common.{sym, ◌∙◌, ap}
use Rattle.bt_lines.specs.model.Lines.{Handed}
use Rattle.bt_lines.specs.declared.fault.Input.{Input}
use Rattle.bt_bed.specs.model.Order.{Order, is_among, rank_order, byte_order}
use Rattle.bt_bed.specs.model.Feature.{Interval, last_of, intervals_of, Feature}
use Rattle.bt_bed.specs.model.Sorted.{Locus, locus_of, is_below, sorting_of, falls_in, has_records}
use Rattle.bt_bed.specs.model.Good.{items_in, bed_good, locus_at, block_good}

-- Orders that are total. The laws of the order by bytes are proved here since an order cites them as its own.

-- a total order on the known names, in which the equal names alone compare as equal
pub record IsTotal (order : Order) : Type 0 where
  pub same : (name : List ℕ) → IsTrue (order.knows name) → order.compare name name ≡ Equal
  pub equal : (a b : List ℕ) → IsTrue (order.knows a) → IsTrue (order.knows b)
      → order.compare a b ≡ Equal → a ≡ b
  pub swapped : (a b : List ℕ) → IsTrue (order.knows a) → IsTrue (order.knows b)
      → order.compare b a ≡ ordering_reverse (order.compare a b)
  pub ascends : (a b c : List ℕ) → IsTrue (order.knows a) → IsTrue (order.knows b)
      → IsTrue (order.knows c) → order.compare a b ≡ Less → order.compare b c ≡ Less
      → order.compare a c ≡ Less

-- no name comes twice
abbrev pub AreDistinct : List (List ℕ) → Type 0
AreDistinct [] = ⊤
AreDistinct (n ∷ ns) = IsFalse (is_among ns n) × AreDistinct ns

-- the order of a list of names is a total order on its names
abbrev pub ranks_are_total : Type 0
ranks_are_total = (names : List (List ℕ)) → IsTotal (rank_order names)

-- the order of names by their bytes is a total order on all names
abbrev pub bytes_are_total : Type 0
bytes_are_total = IsTotal byte_order

pub bytes_total : bytes_are_total
bytes_total = record {
  same = λ name known. tied_itself nat_list_cmp_total name;
  equal = λ a b one two e. same_text a b (sym (texts_ties a b ∙ ap is_eq e));
  swapped = λ a b one two. nat_list_cmp_total.antisymm b a;
  ascends = λ a b c one two three. nat_list_cmp_total.trans a b c;
}

-- Records in an order of their chromosomes, and on each of them by start.

-- the place isn't after the next one
abbrev pub IsUpTo : Order → Locus → Locus → Type 0
IsUpTo order place next =
    (order.compare place.chrom next.chrom ≡ Less)
    ⊎ ((place.chrom ≡ next.chrom) × (place.start ≤ next.start))

-- the record's place isn't after that of the first of the others
abbrev pub IsPlacedBefore : Order → Interval → List Interval → Type 0
IsPlacedBefore order r [] = ⊤
IsPlacedBefore order r (s ∷ ss) = IsUpTo order (locus_of r) (locus_of s)

-- each chromosome is known, and places never fall from one record to the next
abbrev pub ArePlaced : Order → List Interval → Type 0
ArePlaced order [] = ⊤
ArePlaced order (r ∷ rs) =
    IsTrue (order.knows r.chrom) × IsPlacedBefore order r rs × ArePlaced order rs

-- a record whose place isn't below that of the last keeps the records placed
abbrev pub placed_grows : Type 0
placed_grows =
    (order : Order) (past : List Interval) (r : Interval) → ArePlaced order past
    → IsTrue (order.knows r.chrom)
    → IfSome (last_of past) (λ last. IsUpTo order (locus_of last) (locus_of r))
    → ArePlaced order (past ++ r ∷ [])

-- the first of records that are placed are placed
abbrev pub prefixes_are_placed : Type 0
prefixes_are_placed =
    (order : Order) (front rest : List Interval) → ArePlaced order (front ++ rest)
    → ArePlaced order front

-- in a total order, whether a place falls below the last one is the order of places
abbrev pub sorted_by_places : Type 0
sorted_by_places = (order : Order) (last place : Locus) → IsTotal order → IsTrue
    (order.knows last.chrom)
    → IsTrue (order.knows place.chrom)
    → falls_in (sorting_of order) (Some last) place ≡ is_below order place last

-- each record has at least one position
abbrev pub AreNonEmpty : List Interval → Type 0
AreNonEmpty records = All (λ r. r.start < r.stop) records

-- the good records are in the order of their chromosomes
abbrev pub good_are_placed : Type 0
good_are_placed = (input : Input) (order : Order) (handed : Handed) → IsTotal order
    → ArePlaced order (intervals_of (items_in (bed_good input order handed)))

-- each of the good records has at least one base
abbrev pub good_are_non_empty : Type 0
good_are_non_empty = (input : Input) (order : Order) (handed : Handed)
    → AreNonEmpty (intervals_of (items_in (bed_good input order handed)))

-- Records of which those of one chromosome are contiguous, whatever the order of the chromosomes.

-- what comes next is on the record's chromosome and doesn't start before it,
-- or that chromosome doesn't come again
abbrev pub IsFollowed : Interval → List Interval → Type 0
IsFollowed r [] = ⊤
IsFollowed r (s ∷ ss) =
    ((s.chrom ≡ r.chrom) × (r.start ≤ s.start)) ⊎ IsFalse (has_records r.chrom (s ∷ ss))

-- the records of one chromosome are contiguous, and their starts don't fall
abbrev pub AreContiguous : List Interval → Type 0
AreContiguous [] = ⊤
AreContiguous (r ∷ rs) = IsFollowed r rs × AreContiguous rs

-- in a total order of the chromosomes, the records of each are contiguous
abbrev pub placed_are_contiguous : Type 0
placed_are_contiguous =
    (order : Order) (records : List Interval) → IsTotal order → ArePlaced order records
    → AreContiguous records

-- a prefix of contiguous records is contiguous
abbrev pub prefixes_are_contiguous : Type 0
prefixes_are_contiguous =
    (front rest : List Interval) → AreContiguous (front ++ rest) → AreContiguous front

-- Records in blocks, each of one chromosome.

-- a place isn't below another that it follows: on one chromosome the starts don't fall
abbrev pub IsBlockUpTo : Locus → Locus → Type 0
IsBlockUpTo place next = place.chrom ≡ next.chrom → place.start ≤ next.start

-- no record of a chromosome starts before the one right before it,
-- if that is of the same chromosome
abbrev pub AreInBlocks : List Feature → Type 0
AreInBlocks [] = ⊤
AreInBlocks (r ∷ []) = ⊤
AreInBlocks (r ∷ s ∷ rs) = IsBlockUpTo (locus_at r) (locus_at s) × AreInBlocks (s ∷ rs)

-- the good records of an input in blocks are so
abbrev pub good_are_in_blocks : Type 0
good_are_in_blocks = (input : Input) (handed : Handed)
    → AreInBlocks (items_in (block_good input handed))
