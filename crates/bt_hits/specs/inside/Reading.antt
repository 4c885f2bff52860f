-- How the records of a text are read.
use Rattle.std.specs.Prelude.{◌≡◌, ◌⊎◌, ℕ, List, [], ◌∷◌, ◌++◌, Option, None, Some, Result, Ok, Err, option_map}
use Rattle.std.specs.Io.BufRead.{strip_last}
use Rattle.std.specs.List.{slice_get}
use Rattle.bt_lines.specs.declared.fault.Kind.{Kind}
use Rattle.bt_bed.specs.model.Feature.{Feature}
use Rattle.bt_bed.specs.model.Good.{line_says, locus_at}
use Rattle.bt_bed.specs.model.Sorted.{Locus, Sorting}

-- where a record starts, if there is one
abbrev pub place_of : Option Feature → Option Locus
place_of last = option_map locus_at last

-- the last of these, if there is one
abbrev pub last_in : List Feature → Option Feature
last_in [] = None
last_in (r ∷ []) = Some r
last_in (r ∷ next ∷ more) = last_in (next ∷ more)

-- a line that says nothing or a record was read after others
pub data AddsLine (sorting : Sorting) (before : List Feature) (line : List ℕ) : List Feature → Type 0 where
  adds_none : line_says sorting (place_of (last_in before)) line ≡ Ok None → AddsLine sorting before line before
  adds_one : (r : Feature) → line_says sorting (place_of (last_in before)) line ≡ Ok (Some r)
      → AddsLine sorting before line (before ++ r ∷ [])

-- the records of what a line says, and then of others, unless it is at fault
abbrev pub said_then : Result (Option Feature) Kind → Option Locus → (Option Locus → Option (List Feature))
    → Option (List Feature)
said_then (Err kind) last rest = None
said_then (Ok None) last rest = rest last
said_then (Ok (Some r)) last rest = option_map (λ records. r ∷ records) (rest (Some (locus_at r)))

-- the records of pieces of a text that are divided by line feeds, after a place, unless one is at fault
abbrev pub records_in : Sorting → Option Locus → List (List ℕ) → Option (List Feature)
records_in sorting last [] = Some []
records_in sorting last (piece ∷ more) =
    said_then (line_says sorting last (strip_last 13 piece)) last (λ now. records_in sorting now more)
