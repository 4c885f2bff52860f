-- How the pieces of a record are found.
use Rattle.std.specs.Prelude.{ℕ, List, [], ◌∷◌, ◌++◌, cond, max, nat_lt, map, reverse}
use Rattle.bt_bed.specs.model.Feature.{Feature, Span}
use Rattle.bt_sweep.specs.model.Lines.{piece_line}

-- A walk over the records that hit one, by their starts: what it writes of the pieces between them.

-- the piece of a between two positions, if it has a base
abbrev pub gap_lines : Feature → ℕ → ℕ → List ℕ
gap_lines a start stop =
    cond (nat_lt start stop) (piece_line a (record { start = start; stop = stop })) []

-- the first position from this one on that none of these covers
abbrev pub free_after : ℕ → List Feature → ℕ
free_after free [] = free
free_after free (b ∷ bs) = free_after (max free b.stop) bs

-- the pieces before each of these
abbrev pub lines_before : Feature → ℕ → List Feature → List ℕ
lines_before a free [] = []
lines_before a free (b ∷ bs) = gap_lines a free b.start ++ lines_before a (max free b.stop) bs

-- What the plain program finds, in the words of the definitions.

-- a start and a stop as a piece of the definitions
abbrev pub piece_in : ℕ × ℕ → Span
piece_in piece = record { start = piece.0; stop = piece.1 }

-- the pieces, which were found from the last one on
abbrev pub pieces_in : List (ℕ × ℕ) → List Span
pieces_in found = map piece_in (reverse found)
