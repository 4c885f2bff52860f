-- Texts: their lines, what an input handed over, and numbers.
use Rattle.std.specs.Prelude.{ℕ, suc, List, [], ◌∷◌, ◌++◌, ◌==◌, flat_map, length, if◌then◌else◌, Bool, false, Option, Some, None, ◌&&◌, nat_lt, nat_le}
use Rattle.std.specs.List.{slice_split, list_all}
use Rattle.std.specs.Io.BufRead.{ends_with_byte, strip_last}
use Rattle.bt_lines.specs.declared.reader.line.LineEnd.{LineEnd}
use Rattle.bt_lines.specs.declared.reader.line.LineEnd.TheVariants.{Absent, Lf, CrLf, Cr}
use Rattle.bt_lines.specs.model.Fault.{FaultValue, read_failed}
use Rattle.bt_lines.specs.declared.fault.Input.{Input}
use Rattle.std.specs.Char.{is_ascii_digit}
use Rattle.std.specs.Str.Parse.{digits_value}

-- The lines of a text, as the UCSC BED description and the SAM specification have them: one a line
-- feed. A carriage return before the line feed, or at the very end, belongs to the line end.

-- a line: its number, counted from 1, its text without the line end, and how it ended
pub record TextLine : Type 0 where
  pub number : ℕ
  pub text : List ℕ
  pub ending : LineEnd

-- the pieces of a text between separators; a text without a separator is one piece
abbrev pub pieces : ℕ → List ℕ → List (List ℕ)
pieces separator bytes = slice_split (λ byte. byte == separator) bytes

-- the line of a piece with a line feed after it
abbrev pub fed_line : ℕ → List ℕ → TextLine
fed_line number piece =
    record {
      number = number;
      text = strip_last 13 piece;
      ending = if ends_with_byte 13 piece then CrLf else Lf;
    }

-- the line of the last piece, which has no line feed after it; an empty one is no line
abbrev pub last_line : ℕ → List ℕ → List TextLine
last_line number [] = []
last_line number (byte ∷ bytes) =
    record {
      number = number;
      text = strip_last 13 (byte ∷ bytes);
      ending = if ends_with_byte 13 (byte ∷ bytes) then Cr else Absent;
    } ∷ []

-- the lines of the pieces between line feeds, numbered from the number given
abbrev pub numbered : ℕ → List (List ℕ) → List TextLine
numbered number [] = []
numbered number (piece ∷ []) = last_line number piece
numbered number (piece ∷ next ∷ rest) = fed_line number piece ∷ numbered (suc number) (next ∷ rest)

-- the lines of a text of which the first has the number given
unfoldable pub lines_from : ℕ → List ℕ → List TextLine
lines_from number bytes = numbered number (pieces 10 bytes)

-- the lines of a text
abbrev pub text_lines : List ℕ → List TextLine
text_lines bytes = lines_from 1 bytes

-- the lines of pieces of which the last was cut off: each of the others has its line feed after it
abbrev pub numbered_whole : ℕ → List (List ℕ) → List TextLine
numbered_whole number [] = []
numbered_whole number (piece ∷ []) = []
numbered_whole number (piece ∷ next ∷ rest) =
    fed_line number piece ∷ numbered_whole (suc number) (next ∷ rest)

-- the complete lines of a text that was cut off,
-- all pieces but the last; the first has the number given
unfoldable pub whole_lines_from : ℕ → List ℕ → List TextLine
whole_lines_from number bytes = numbered_whole number (pieces 10 bytes)

-- the complete lines of a text that was cut off
abbrev pub whole_lines : List ℕ → List TextLine
whole_lines bytes = whole_lines_from 1 bytes

-- the bytes of a line end
abbrev pub end_bytes : LineEnd → List ℕ
end_bytes Absent = []
end_bytes Lf = 10 ∷ []
end_bytes CrLf = 13 ∷ 10 ∷ []
end_bytes Cr = 13 ∷ []

-- a line as the text has it
abbrev pub spelled : TextLine → List ℕ
spelled line = line.text ++ end_bytes line.ending

-- how many bytes lines have, their line ends included
abbrev pub bytes_in : List TextLine → ℕ
bytes_in lines = length (flat_map spelled lines)

-- What an input handed over: its whole text, or what came of it before a read failed.

-- the bytes that were handed over, and whether a failed read cut them off
pub record Handed : Type 0 where
  pub text : List ℕ
  pub is_cut : Bool

-- a text that was handed over whole
abbrev pub whole_text : List ℕ → Handed
whole_text text = record { text = text; is_cut = false }

-- its lines; of a text that was cut off the whole ones alone,
-- since a piece that was cut off is no line
abbrev pub lines_handed : Handed → List TextLine
lines_handed handed = if handed.is_cut then whole_lines handed.text else text_lines handed.text

-- the fault after them, if the text was cut off: the failed read,
-- at the line after the last whole one
abbrev pub cut_fault : Input → Handed → Option FaultValue
cut_fault input handed =
    if handed.is_cut then Some (read_failed input (suc (length (whole_lines handed.text))))
    else None

-- Numbers in decimal.

-- the greatest number that a text may denote: it has twelve digits
abbrev pub max_number : ℕ
max_number = 999999999999

-- one or more decimal digits, leading zeros allowed, of a value of at most the greatest number
abbrev pub is_number : List ℕ → Bool
is_number text =
    nat_lt 0 (length text) && list_all is_ascii_digit text
    && nat_le (digits_value 10 text) max_number

-- the number that a text denotes, if it denotes one
unfoldable pub value_of : List ℕ → Option ℕ
value_of text = if is_number text then Some (digits_value 10 text) else None
