-- Features that a line of a BED file can say, and what can be wrong with a line.
use Rattle.std.specs.Prelude.{ℕ, ◌<◌, List, [], ◌∷◌, All, Some, Bool, true, ◌==◌, ◌≡◌, false, ◌≤◌, IsTrue, length, Ok, Option, Err}
use Rattle.bt_lines.specs.model.Lines.{pieces, max_number}
use Rattle.bt_lines.specs.declared.fault.Kind.{Kind}
use Rattle.bt_bed.specs.model.Feature.{Feature}
use Rattle.bt_bed.specs.model.BedLine.{strand_of, record_of, IsBedKind}
use Rattle.bt_bed.specs.model.Order.{Order}
use Rattle.bt_bed.specs.model.Sorted.{Locus, sorting_of}
use Rattle.bt_bed.specs.model.Good.{line_says}

-- the columns that a kept rest has
abbrev pub columns_in : List ℕ → List (List ℕ)
columns_in [] = []
columns_in (byte ∷ bytes) = pieces 9 bytes

-- whether a rest is empty, or begins with a tab
abbrev pub is_kept : List ℕ → Bool
is_kept [] = true
is_kept (byte ∷ bytes) = byte == 9

-- a name of a chromosome: it isn't empty and has no tab
pub record IsName (name : List ℕ) : Type 0 where
  pub some : 0 < length name
  pub one_column : All (λ byte. (byte == 9) ≡ false) name

-- a record, also one that a caller gives
pub record IsRecord (feature : Feature) : Type 0 where
  pub non_empty : feature.start < feature.stop
  pub in_range : feature.stop ≤ max_number
  pub kept : IsTrue (is_kept feature.rest)

-- a feature that a line can say
pub record IsFeature (feature : Feature) : Type 0 where
  pub named : IsName feature.chrom
  pub non_empty : feature.start < feature.stop
  pub in_range : feature.stop ≤ max_number
  pub kept : IsTrue (is_kept feature.rest)
  pub stranded : feature.strand ≡ strand_of (columns_in feature.rest)

-- what a line says is such a feature
abbrev pub said_are_features : Type 0
said_are_features =
    (text : List ℕ) (feature : Feature) → record_of text ≡ Ok (Some feature) → IsFeature feature

-- what is wrong with a line is of the kinds of `IsBedKind`, by the order of the chromosomes
abbrev pub wrong_lines_are_of_bed : Type 0
wrong_lines_are_of_bed =
    (order : Order) (last : Option Locus) (text : List ℕ) (kind : Kind)
    → line_says (sorting_of order) last text ≡ Err kind → IsBedKind order kind
