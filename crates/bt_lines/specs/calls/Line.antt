-- Lines: those that are borrowed, the first of some bytes, and the numbers of those of a text.
use Rattle.std.specs.Prelude.{◌≡◌, ℕ, ◌+◌, List, ◌∷◌, take, drop, Option, Some, None, ◌==◌, false, ◌++◌, length, ⊤, Bool, true, nat_lt, if◌then◌else◌, suc, [], count_by}
use Rattle.bt_lines.specs.model.Lines.{TextLine}
use Rattle.std.specs.List.{All}
use Rattle.bt_lines.specs.declared.reader.line.Line.{Line}
use Rattle.std.specs.Io.BufRead.{ends_with_byte, strip_last}
use Rattle.bt_lines.specs.declared.reader.buffered_lines.LineText.{LineText}
use Rattle.bt_lines.specs.declared.reader.line.LineEnd.{LineEnd}
use Rattle.bt_lines.specs.declared.reader.line.LineEnd.TheVariants.{Absent, Lf, CrLf, Cr}

-- Words on lines that are borrowed.

-- a borrowed line, as the definitions have it
abbrev pub line_seen : Line → TextLine
line_seen line = record { number = line.number; text = line.text.now; ending = line.ending }

-- no byte is a line feed
abbrev pub NoLineFeed : List ℕ → Type 0
NoLineFeed bytes = All (λ byte. (byte == 10) ≡ false) bytes

-- The first line of some bytes.

-- the text of a line and its size
pub record Shown : Type 0 where
  pub text : List ℕ
  pub size : ℕ

abbrev pub line_shown : LineText → Shown
line_shown line = record { text = line.text.now; size = line.size }

-- the same of its bytes without the line feed
abbrev pub shown_of : List ℕ → Shown
shown_of line = record { text = strip_last 13 line; size = length line + 1 }

-- the line's bytes without its line feed, and what follows them
pub record Cut (bytes : List ℕ) (line : Shown) : Type 0 where
  pub piece : List ℕ
  pub clear : NoLineFeed piece
  pub size_is : line.size ≡ length piece + 1
  pub cut : bytes ≡ piece ++ 10 ∷ drop line.size bytes
  pub stripped : line.text ≡ strip_last 13 piece
  pub front : take (length line.text) bytes ≡ line.text
  pub returned : nat_lt (length line.text + 1) line.size ≡ ends_with_byte 13 piece

abbrev pub IsFirst : List ℕ → Option Shown → Type 0
IsFirst bytes None = NoLineFeed bytes
IsFirst bytes (Some line) = Cut bytes line

-- how a line ends
abbrev pub ending_at : Bool → Bool → LineEnd
ending_at false has_return = if has_return then CrLf else Lf
ending_at true has_return = if has_return then Cr else Absent

-- How many lines a text has, and how they are numbered.

-- how many line feeds some bytes have, which is how many complete lines they have
abbrev pub line_feeds : List ℕ → ℕ
line_feeds bytes = count_by (λ byte. byte == 10) bytes

-- lines whose numbers count up from the number given
abbrev pub AreNumbered : ℕ → List TextLine → Type 0
AreNumbered number [] = ⊤
AreNumbered number (line ∷ rest) = (line.number ≡ number) × AreNumbered (suc number) rest
