-- Orders of chromosomes that fit inputs: whether one does, and one that fits two.
use Rattle.std.specs.Prelude.{◌≡◌, ℕ, suc, Bool, true, false, ◌&&◌, ◌||◌, ◌-◌, List, [], ◌∷◌, ◌++◌, bytes_eq, codes, drop, find, flat_map, nat_le, nat_lt, take, Option, Some, None, option_map, if◌then◌else◌}
use Rattle.std.specs.List.{list_all}
use Rattle.std.specs.Ordering.{is_lt}
use Rattle.bt_bed.specs.model.Feature.{Interval}
use Rattle.bt_bed.specs.model.Genome.{Entry}
use Rattle.bt_bed.specs.model.Order.{Order, is_among, rank_of, rank_order}

-- Whether an order fits the chromosomes of an input, which are given in the order in which they come.

-- whether names are known, and each comes before the next
abbrev pub are_in_order : Order → List (List ℕ) → Bool
are_in_order order [] = true
are_in_order order (n ∷ []) = order.knows n
are_in_order order (n ∷ m ∷ ns) =
    order.knows n && (is_lt (order.compare n m) && are_in_order order (m ∷ ns))

-- whether a list begins with these names
abbrev pub are_first : List (List ℕ) → List (List ℕ) → Bool
are_first names [] = true
are_first [] (n ∷ ns) = false
are_first (name ∷ names) (n ∷ ns) = bytes_eq name n && are_first names ns

-- whether an end is within the length of a chromosome, if there is one
abbrev pub is_within : ℕ → Option Entry → Bool
is_within stop None = false
is_within stop (Some entry) = nat_le stop entry.length

-- whether the end of each extent is within the length that its chromosome has in a genome file
abbrev pub ends_fit : List Entry → List Interval → Bool
ends_fit entries extents = list_all
    (λ extent. is_within extent.stop (find (λ entry. bytes_eq entry.name extent.chrom) entries)) extents

-- An order that fits the chromosomes of two inputs, if there is one: those of the first, and before each that the second
-- has too those of the second that come before it there.

-- the names from one place up to another
abbrev pub names_between : List (List ℕ) → ℕ → ℕ → List (List ℕ)
names_between names from to = take (to - from) (drop from names)

-- A name of the first list, and what follows it. Before it come those of the second list from the next place up to its
-- own; if it came there before the next place, no order fits.
abbrev pub common_at : List (List ℕ) → ℕ → List ℕ → Option ℕ → (ℕ → Option (List (List ℕ)))
    → Option (List (List ℕ))
common_at second next name None rest = option_map (λ names. name ∷ names) (rest next)
common_at second next name (Some place) rest = if nat_lt place next then None else option_map
    (λ names. names_between second next place ++ name ∷ names) (rest (suc place))

-- the names of the first list, and those of the second from the next place on
unfoldable pub common_from : List (List ℕ) → ℕ → List (List ℕ) → Option (List (List ℕ))
common_from second next [] = Some (drop next second)
common_from second next (name ∷ names) =
    common_at second next name (rank_of second name) (λ now. common_from second now names)

-- the names of two lists in an order that fits both
abbrev pub common_names : List (List ℕ) → List (List ℕ) → Option (List (List ℕ))
common_names first second = common_from second 0 first

-- a line of a genome file, with a length that no end is past
abbrev pub entry_text : List ℕ → List ℕ
entry_text name = name ++ codes "\t999999999999\n"

-- a genome file of chromosomes in this order
abbrev pub order_text : List (List ℕ) → List ℕ
order_text names = flat_map entry_text names
