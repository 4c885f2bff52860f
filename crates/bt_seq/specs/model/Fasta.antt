-- The lines of a FASTA input.
use Rattle.std.specs.Prelude.{◌++◌, ℕ, Bool, true, false, List, [], ◌∷◌, Option, Some, if◌then◌else◌, ◌+◌, ◌==◌, drop, length, Result, Ok, Err}
use Rattle.bt_bed.specs.model.BedLine.{first_word}
use Rattle.bt_bed.specs.model.Good.{Format, Good, good_handed}
use Rattle.bt_lines.specs.model.Lines.{Handed, TextLine}
use Rattle.bt_lines.specs.declared.fault.Input.{Input}
use Rattle.bt_lines.specs.declared.fault.Kind.{Kind}
use Rattle.bt_lines.specs.declared.fault.Kind.TheVariants.{TextBeforeHeader}
use Rattle.bt_lines.specs.declared.reader.line.LineEnd.{LineEnd}

-- The lines of a FASTA input (bedtools manual, maskfasta; getfasta for names). A line that begins
-- with `>` is a header, and begins a sequence. Every other line after a header holds bases, one for
-- each byte of its text. Before the first header lines are blank.

-- a line of a sequence, and where it is
pub record SequenceLine : Type 0 where
  -- the names of the sequences up to its own,
  -- which is the last; before the first header there is none
  pub names : List (List ℕ)
  -- how many bases of its sequence come before it
  pub before : ℕ
  pub text : List ℕ
  pub ending : LineEnd

-- whether a text is a header
abbrev pub is_sequence_header : List ℕ → Bool
is_sequence_header [] = false
is_sequence_header (byte ∷ bytes) = byte == 62

-- the name that a header gives: the text after `>` up to the first space or tab, or all of it
-- if the full header is requested
abbrev pub name_in : Bool → List ℕ → List ℕ
name_in full text =
    if full then drop 1 text else first_word (drop 1 text)

-- how many bases a text holds
abbrev pub bases_in : List ℕ → ℕ
bases_in text = if is_sequence_header text then 0 else length text

-- how many bases of its sequence come before the end of a line
abbrev pub bases_up_to : SequenceLine → ℕ
bases_up_to line = line.before + bases_in line.text

-- how far the lines before have come: the names of the sequences,
-- and how many bases the last one has
pub record Reached : Type 0 where
  pub names : List (List ℕ)
  pub bases : ℕ

-- a line of the last sequence
abbrev pub line_behind : Reached → TextLine → SequenceLine
line_behind reached line =
    record { names = reached.names; before = reached.bases; text = line.text; ending = line.ending }

-- the header of a new sequence
abbrev pub header_behind : Bool → Reached → TextLine → SequenceLine
header_behind full reached line =
    record {
      names = reached.names ++ name_in full line.text ∷ [];
      before = 0;
      text = line.text;
      ending = line.ending;
    }

-- whether a text may follow sequences of these names without being a header:
-- after none it is blank
abbrev pub may_stand : List (List ℕ) → List ℕ → Bool
may_stand [] [] = true
may_stand [] (byte ∷ bytes) = false
may_stand (name ∷ names) text = true

-- what a line says after those before it
abbrev pub sequence_says : Bool → Reached → TextLine → Result (Option SequenceLine) Kind
sequence_says full reached line =
    if is_sequence_header line.text then Ok (Some (header_behind full reached line))
    else (if may_stand reached.names line.text then Ok (Some (line_behind reached line))
    else Err TextBeforeHeader)

-- every line is a member, as long as text comes in sequences
abbrev pub sequence_format : Bool → Format SequenceLine Reached
sequence_format full = record {
  begin = record { names = []; bases = 0 };
  says = sequence_says full;
  after = λ reached line. record { names = line.names; bases = bases_up_to line };
}

-- what is good of a FASTA input
abbrev pub sequence_good : Bool → Input → Handed → Good SequenceLine
sequence_good full input handed = good_handed (sequence_format full) input handed
