-- The texts of faults, and the line that tells one.
use Rattle.std.specs.Prelude.{ℕ, List, [], ◌++◌, Option, Some, None, codes, decimal}
use Rattle.bt_lines.specs.declared.fault.Kind.{Kind}
use Rattle.bt_lines.specs.declared.fault.Kind.TheVariants.{TooFewColumns, EmptyName, BadStart, BadStop, EmptyFeature, UnknownChrom, OutOfOrder, BadLength, RepeatedChrom, BadFlag, BadPosition, BadQuality, BadCigar, StopTooLarge, TextBeforeHeader, NoSequence, TooManyHeld, ReadFailed, WriteFailed, NoMemory}
use Rattle.bt_lines.specs.declared.fault.Input.{Input}
use Rattle.bt_lines.specs.declared.fault.Input.TheVariants.{Genome, First, Second}
use Rattle.bt_lines.specs.declared.fault.Place.{Place}

-- what went wrong, and where
pub record FaultValue : Type 0 where
  pub kind : Kind
  pub place : Option Place

-- the words for each kind
abbrev pub text_of : Kind → List ℕ
text_of TooFewColumns = codes "too few columns"
text_of EmptyName = codes "empty chromosome name"
text_of BadStart = codes "start is not a number"
text_of BadStop = codes "end is not a number"
text_of EmptyFeature = codes "start is not below end"
text_of UnknownChrom = codes "chromosome is not in the genome file"
text_of OutOfOrder = codes "record is out of order"
text_of BadLength = codes "length is not a number"
text_of RepeatedChrom = codes "chromosome is repeated"
text_of BadFlag = codes "flag is not a number"
text_of BadPosition = codes "position is not a number"
text_of BadQuality = codes "mapping quality is not a number"
text_of BadCigar = codes "CIGAR is malformed"
text_of StopTooLarge = codes "end is too large"
text_of TextBeforeHeader = codes "text before the first header"
text_of NoSequence = codes "no such sequence from here on"
text_of TooManyHeld = codes "too many open records"
text_of ReadFailed = codes "reading failed"
text_of WriteFailed = codes "writing failed"
text_of NoMemory = codes "no memory"

-- the names of the inputs, as they were given
pub record InputNames : Type 0 where
  pub genome : List ℕ
  pub first : List ℕ
  pub second : List ℕ

abbrev pub name_of : InputNames → Input → List ℕ
name_of names Genome = names.genome
name_of names First = names.first
name_of names Second = names.second

-- `NAME:LINE: `, or nothing for a fault without a place
abbrev pub place_text : InputNames → Option Place → List ℕ
place_text names None = []
place_text names (Some place) =
    name_of names place.input ++ codes ":" ++ decimal place.line ++ codes ": "

-- `bedtools CMD: NAME:LINE: TEXT` and a line feed
abbrev pub line_of : List ℕ → InputNames → FaultValue → List ℕ
line_of command names fault =
    codes "bedtools " ++ command ++ codes ": " ++ place_text names fault.place ++ text_of fault.kind
    ++ codes "\n"

-- the fault of a failed read, at a line of an input
abbrev pub read_failed : Input → ℕ → FaultValue
read_failed input line =
    record { kind = ReadFailed; place = Some (record { input = input; line = line }) }
