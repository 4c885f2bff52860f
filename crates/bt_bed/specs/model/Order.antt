-- Orders of chromosomes: that of a list of names, and that of their bytes.
use Rattle.std.specs.Prelude.{ℕ, Bool, List, suc, false, cond, ◌||◌, [], ◌∷◌, Option, Some, None, option_map, is_some, bytes_eq, true}
use Rattle.std.specs.Ordering.{nat_cmp}
use Rattle.std.specs.declared.cmp.Ordering.{Ordering}
use Rattle.std.specs.declared.cmp.Ordering.TheVariants.{Equal}
use Rattle.std.specs.Cmp.Lexicographic.{slice_cmp}

-- Orders of chromosomes, by which sorted input is sorted.

-- which names are known, and which of two known ones comes first
pub record Order : Type 0 where
  pub knows : List ℕ → Bool
  pub compare : List ℕ → List ℕ → Ordering

-- The order of a list of names: a name's rank is how many come before it. So the order of a genome
-- file is that of its lines (bedtools manual, genome file format).

-- whether the name is among the names
abbrev pub is_among : List (List ℕ) → List ℕ → Bool
is_among [] name = false
is_among (n ∷ ns) name = bytes_eq n name || is_among ns name

-- the rank of a chromosome: how many names come before its own
abbrev pub rank_of : List (List ℕ) → List ℕ → Option ℕ
rank_of [] name = None
rank_of (n ∷ ns) name =
    cond (bytes_eq n name) (Some 0) (option_map (λ rank. suc rank) (rank_of ns name))

-- ranks compared; if a name has none, the result doesn't matter
abbrev pub compare_ranks : Option ℕ → Option ℕ → Ordering
compare_ranks None right = Equal
compare_ranks (Some left) None = Equal
compare_ranks (Some left) (Some right) = nat_cmp left right

-- the order of a list of names
abbrev pub rank_order : List (List ℕ) → Order
rank_order names = record {
  knows = λ name. is_some (rank_of names name);
  compare = λ left right. compare_ranks (rank_of names left) (rank_of names right);
}

-- The order of names by their bytes, in which `LC_ALL=C sort` sorts them (POSIX, sort and the
-- collation of the POSIX locale).

-- every name is known; the first byte in which two names differ decides,
-- and a name comes before the longer ones that it begins
abbrev pub byte_order : Order
byte_order = record { knows = λ name. true; compare = slice_cmp nat_cmp }
