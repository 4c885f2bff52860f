-- How a SAM line is read.
use Rattle.std.specs.Prelude.{◌≡◌, ℕ, ◌+◌, ◌<◌, ◌≤◌, ⊤, Bool, false, IsTrue, List, [], ◌∷◌, length, nat_le, Option, Some, None, ◌++◌, codes, decimal, if◌then◌else◌}
use Rattle.bt_lines.specs.model.Lines.{max_number}
use Rattle.bt_seq.specs.model.Alignment.{Alignment}
use Rattle.bt_seq.specs.model.BedLines.{strand_sign, text_if}
use Rattle.bt_seq.specs.model.Cigar.{operations_in, reference_length, with_operation}
use Rattle.bt_seq.specs.declared.sam.cigar.Operation.{Operation}
use denote.Ref.{Bor}

-- What is read of a CIGAR, one operation after another.

-- no operation is left in an empty text, and another text is malformed
abbrev pub none_left : List ℕ → Option (List Operation)
none_left [] = Some []
none_left (byte ∷ bytes) = None

-- the first operation of a text, and the text after it
abbrev pub IsFirstOperation : List ℕ → Option (Operation × Bor (List ℕ)) → Type 0
IsFirstOperation text None = operations_in text ≡ none_left text
IsFirstOperation text (Some first) =
    operations_in text ≡ with_operation (Some first.0) (operations_in first.1.now)

-- the text after the first operation is shorter, and the operation's length is a number
abbrev pub LeavesShorter : List ℕ → Option (Operation × Bor (List ℕ)) → Type 0
LeavesShorter text None = ⊤
LeavesShorter text (Some first) = (length first.1.now < length text) × (first.0.length ≤ max_number)

-- whether there are operations that from a place of the reference on end within the greatest number
abbrev pub fit_behind : ℕ → Option (List Operation) → Bool
fit_behind start None = false
fit_behind start (Some operations) = nat_le (start + reference_length operations) max_number

abbrev pub FitBehind : ℕ → Option (List Operation) → Type 0
FitBehind start operations = IsTrue (fit_behind start operations)

-- The pieces of an alignment's line between and after its columns of text.

-- between chromosome and name
abbrev pub bounds_text : ℕ → ℕ → List ℕ
bounds_text start stop =
    codes "\t" ++ (decimal start ++ (codes "\t" ++ (decimal stop ++ codes "\t")))

-- after the name of the read
abbrev pub marks : Bool → Bool → List ℕ
marks first last = text_if first (codes "/1") ++ text_if last (codes "/2")

-- what follows the strand: a tab if the CIGAR comes next, and else the line feed
abbrev pub end_sign : Bool → List ℕ
end_sign with_cigar = if with_cigar then codes "\t" else codes "\n"

-- after the marks
abbrev pub quality_text : Bool → Alignment → List ℕ
quality_text with_cigar a =
    codes "\t" ++ (decimal a.quality
    ++ (codes "\t" ++ (strand_sign a.reverse ++ end_sign with_cigar)))

-- from the marks on
abbrev pub line_tail : Bool → Alignment → List ℕ
line_tail with_cigar a =
    (marks a.first a.last ++ quality_text with_cigar a)
    ++ text_if with_cigar (a.cigar ++ codes "\n")
