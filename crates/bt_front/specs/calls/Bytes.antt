-- What a watch over the bytes of a text knows.
use Rattle.std.specs.Prelude.{ℕ, suc, ◌≡◌, ◌+◌, ◌++◌, ◌==◌, Bool, true, List, [], ◌∷◌, bytes_eq, codes, count_by, get_or, if◌then◌else◌, length, not, Option, Some, None, take, ◌<◌}
use Rattle.std.specs.List.{list_all, list_any}
use Rattle.bt_lines.specs.model.Lines.{pieces}
use Rattle.bt_front.specs.declared.survey.byte_watch.ByteWatch.{ByteWatch}
use Rattle.bt_front.specs.declared.survey.byte_watch.OddBytes.{OddBytes}
use Rattle.bt_front.specs.declared.survey.oddity.Oddity.{Oddity}
use Rattle.bt_front.specs.model.Odd.{IsFirstOdd, RawLine, is_odd, is_plain, raw_lines}
use Rattle.bt_front.specs.declared.survey.oddity.Oddity.TheVariants.{DoubleReturn, Nul, Long, Vcf, ByteOrderMark, Gzip}

-- how many line feeds bytes have
abbrev pub feeds_in : List ℕ → ℕ
feeds_in bytes = count_by (λ byte. byte == 10) bytes

-- the first odd line of a text that begins with these bytes, of which this block comes last: whatever comes after them
abbrev pub IsOddAfter : List ℕ → List ℕ → OddBytes → Type 0
IsOddAfter before block found = (more : List ℕ)
    → IsFirstOdd (raw_lines (before ++ block ++ more)) (suc (feeds_in before + found.feeds)) found.oddity

-- The line that bytes have begun, and those before it.

-- the last of some pieces
abbrev pub last_piece : List (List ℕ) → List ℕ
last_piece [] = []
last_piece (piece ∷ []) = piece
last_piece (piece ∷ next ∷ rest) = last_piece (next ∷ rest)

-- the pieces but the last as lines, the first of which has the number given
abbrev pub raw_whole : ℕ → List (List ℕ) → List RawLine
raw_whole number [] = []
raw_whole number (piece ∷ []) = []
raw_whole number (piece ∷ next ∷ rest) =
    record { number = number; bytes = piece } ∷ raw_whole (suc number) (next ∷ rest)

-- the line that the bytes have begun
abbrev pub open_line : List ℕ → RawLine
open_line bytes = record { number = suc (feeds_in bytes); bytes = last_piece (pieces 10 bytes) }

-- whether nothing is odd in a line that goes on: it may still be blank
abbrev pub is_plain_so_far : RawLine → Bool
is_plain_so_far line = not (list_any (λ oddity. is_odd oddity line)
    (DoubleReturn ∷ Nul ∷ Long ∷ Vcf ∷ ByteOrderMark ∷ Gzip ∷ []))

-- how many bytes of a line are those of a beginning, if it has no others
abbrev pub begun_as : List ℕ → List ℕ → ℕ
begun_as beginning bytes = if bytes_eq bytes (take (length bytes) beginning) then length bytes else 0

-- the last of some numbers after this one
abbrev pub last_after : ℕ → List ℕ → ℕ
last_after last [] = last
last_after last (byte ∷ bytes) = last_after byte bytes

-- the watch stands after these bytes, in which nothing is odd so far
pub record ShowsBytes (bytes : List ℕ) (watch : ByteWatch) : Type 0 where
  pub whole : list_all is_plain (raw_whole 1 (pieces 10 bytes)) ≡ true
  pub so_far : is_plain_so_far (open_line bytes) ≡ true
  pub line : watch.line ≡ length (open_line bytes).bytes
  -- the last byte of the line, a line feed if it has none yet
  pub last : watch.last ≡ last_after 10 (open_line bytes).bytes
  pub vcf : watch.vcf ≡ begun_as (codes "##fileformat=VCF") (open_line bytes).bytes
  pub is_first : watch.is_first ≡ ((open_line bytes).number == 1)
  pub first : watch.is_first ≡ true → 0 < watch.line → watch.first ≡ get_or (open_line bytes).bytes 0 0

-- what the end of a text shows after these bytes: its last line may be blank
pub record EndsBytes (bytes : List ℕ) (found : Option Oddity) : Type 0 where
  pub plain : found ≡ None → list_all is_plain (raw_lines bytes) ≡ true
  pub odd : (oddity : Oddity) → found ≡ Some oddity
      → IsFirstOdd (raw_lines bytes) (suc (feeds_in bytes)) oddity
