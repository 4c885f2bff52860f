-- Sorted inputs: by chromosome and start, or with each chromosome in one block.
use Rattle.std.specs.Prelude.{ℕ, Bool, true, false, List, [], ◌∷◌, nat_lt, Option, Some, None, bytes_eq, if◌then◌else◌, ◌||◌}
use Rattle.std.specs.declared.cmp.Ordering.{Ordering}
use Rattle.std.specs.declared.cmp.Ordering.TheVariants.{Less, Equal, Greater}
use Rattle.bt_bed.specs.model.Feature.{Interval}
use Rattle.bt_bed.specs.model.Order.{Order}
use Rattle.std.specs.Ordering.{is_lt}

-- Where records start, and the order of sorted input: by chromosome, then by start. Ends aren't
-- compared (bedtools manual, sorted input and genome files).

-- a start on a chromosome
pub record Locus : Type 0 where
  pub chrom : List ℕ
  pub start : ℕ

-- where a record starts
abbrev pub locus_of : Interval → Locus
locus_of r = record { chrom = r.chrom; start = r.start }

-- whether something comes first, once its chromosome is compared with another's: on the same one, whether it does there
abbrev pub comes_first : Ordering → Bool → Bool
comes_first Less there = true
comes_first Equal there = there
comes_first Greater there = false

-- whether a place lies below another
abbrev pub is_below : Order → Locus → Locus → Bool
is_below order place other =
    comes_first (order.compare place.chrom other.chrom) (nat_lt place.start other.start)

-- How the records of an input are sorted: by chromosome, and on each of them by start.

-- which chromosomes are known, and whether one of two different known ones comes before the other
pub record Sorting : Type 0 where
  pub knows : List ℕ → Bool
  pub comes_before : List ℕ → List ℕ → Bool

-- that of an order of the chromosomes
abbrev pub sorting_of : Order → Sorting
sorting_of order = record {
  knows = order.knows;
  comes_before = λ name other. is_lt (order.compare name other);
}

-- that of blocks, each of one chromosome: every name is a chromosome, and none comes before another
abbrev pub block_sorting : Sorting
block_sorting = record { knows = λ name. true; comes_before = λ name other. false }

-- Whether a place falls below the last one, if there is one. It does on its chromosome with a
-- smaller start, and on a chromosome that comes before it.
abbrev pub falls_in : Sorting → Option Locus → Locus → Bool
falls_in sorting None place = false
falls_in sorting (Some last) place =
    if bytes_eq last.chrom place.chrom then nat_lt place.start last.start
    else sorting.comes_before place.chrom last.chrom

-- Which chromosomes have records.

-- whether a record lies on the chromosome of this name
abbrev pub has_records : List ℕ → List Interval → Bool
has_records name [] = false
has_records name (r ∷ rs) = bytes_eq r.chrom name || has_records name rs
