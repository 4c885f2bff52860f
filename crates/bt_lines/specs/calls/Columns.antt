-- Pieces of bytes: columns, and what comes before a byte.
use Rattle.std.specs.Prelude.{◌≡◌, ℕ, ◌+◌, List, [], ◌∷◌, take, drop, Option, Some, None, ◌<◌, ◌≤◌, ◌==◌, false, ◌++◌, length}
use Rattle.bt_lines.specs.model.Lines.{pieces}
use Rattle.bt_lines.specs.declared.reader.column_iter.Columns.{Columns}
use denote.Ref.{Bor}
use Rattle.std.specs.List.{All}

-- The columns of a line: the pieces between tabs.

-- the columns of the rest of a text, if there is a rest
abbrev pub columns_of_rest : Option (Bor (List ℕ)) → List (List ℕ)
columns_of_rest None = []
columns_of_rest (Some rest) = pieces 9 rest.now

-- the columns still to come
abbrev pub columns_left : Columns → List (List ℕ)
columns_left columns = columns_of_rest columns.rest

-- the offset of the first tab, if there is one: it divides the first column from the others
abbrev pub CutAt : List ℕ → Option ℕ → Type 0
CutAt text None = pieces 9 text ≡ text ∷ []
CutAt text (Some at) = pieces 9 text ≡ take at text ∷ pieces 9 (drop (at + 1) text)

-- The first byte of a value among some bytes, as a line feed or a tab.

-- no byte has this value
abbrev pub Lacks : ℕ → List ℕ → Type 0
Lacks value bytes = All (λ byte. (byte == value) ≡ false) bytes

-- the count of bytes before the first of this value, or of all bytes if there is none
pub record IsBefore (value : ℕ) (bytes : List ℕ) (count : ℕ) : Type 0 where
  pub within : count ≤ length bytes
  pub clear : Lacks value (take count bytes)
  pub cut : count < length bytes → bytes ≡ take count bytes ++ value ∷ drop (count + 1) bytes

-- some bytes, cut at the first of this value
abbrev pub IsFirstOf : ℕ → List ℕ → Option ℕ → Type 0
IsFirstOf value bytes None = Lacks value bytes
IsFirstOf value bytes (Some at) =
    (at < length bytes) × (bytes ≡ take at bytes ++ value ∷ drop (at + 1) bytes)
    × Lacks value (take at bytes)
