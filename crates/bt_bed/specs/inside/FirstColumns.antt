-- The first columns of a line, packed names, texts that are kept, and columns that are written.
use Rattle.std.specs.Prelude.{◌≡◌, ℕ, ◌<◌, ◌≤◌, ◌+◌, ◌==◌, true, false, List, ◌∷◌, ◌++◌, length, take, drop, get_or, Some, ◌*◌, ◌%◌, ◌^◌, [], codes, decimal}
use Rattle.std.specs.Char.{is_ascii_digit}
use Rattle.std.specs.List.{All, list_all}
use Rattle.std.specs.Str.Parse.{digits_value}
use Rattle.bt_lines.specs.model.Lines.{value_of}
use Rattle.bt_bed.specs.model.BedLine.{says_nothing}
use Rattle.bt_bed.specs.calls.Features.{IsName}
use Rattle.bt_bed.specs.declared.record.raw_record.ParsedNumber.{ParsedNumber}
use Rattle.std.specs.Int.{from_le_bytes, w64}
use Rattle.bt_bed.specs.declared.parse.packed_name.PackedName.{PackedName}
use Rattle.bt_bed.specs.declared.record.inline_text.InlineText.{InlineText}
use Rattle.bt_bed.specs.declared.record.inline_text.InlineText.TheVariants.{Short, Long}

-- The first columns of a line that are in order.

-- the first column ends here: it isn't empty, and a tab comes after it
pub record EndsName (text : List ℕ) (end : ℕ) : Type 0 where
  pub some : 0 < end
  pub within : end < length text
  pub tab : get_or text end 0 ≡ 9
  pub column : All (λ byte. (byte == 9) ≡ false) (take end text)

-- the text begins with this name and a tab
abbrev pub BeginsWithName : List ℕ → List ℕ → Type 0
BeginsWithName text name = text ≡ name ++ 9 ∷ drop (length name + 1) text

-- a name with which a record's line can begin: no line that begins with it and a tab is a header
pub record IsRecordName (name : List ℕ) : Type 0 where
  pub named : IsName name
  pub no_header : (rest : List ℕ) → says_nothing (name ++ 9 ∷ rest) ≡ false

-- the first column ends here
pub record EndsFirst (text : List ℕ) (end : ℕ) : Type 0 where
  pub within : end ≤ length text
  pub tab : end < length text → get_or text end 0 ≡ 9
  pub column : All (λ byte. (byte == 9) ≡ false) (take end text)

-- the first column denotes the number, and ends here
pub record Leads (text : List ℕ) (lead : ParsedNumber) : Type 0 where
  pub within : lead.end ≤ length text
  pub tab : lead.end < length text → get_or text lead.end 0 ≡ 9
  pub column : All (λ byte. (byte == 9) ≡ false) (take lead.end text)
  pub value : value_of (take lead.end text) ≡ Some lead.value

-- the second and the third column denote the start and the end of a feature, if the first column
-- ends here
pub record AreBounds (text : List ℕ) (name : ℕ) (start stop : ParsedNumber) : Type 0 where
  pub first : Leads (drop (name + 1) text) start
  pub inside : start.end < length (drop (name + 1) text)
  pub second : Leads (drop (start.end + 1) (drop (name + 1) text)) stop
  pub below : start.value < stop.value

-- the text says a record on the chromosome of this name, whose start and end the second and the third column denote
pub record SaysBounds (text name : List ℕ) (start stop : ParsedNumber) : Type 0 where
  pub named : EndsName text (length name)
  pub chrom : take (length name) text ≡ name
  pub bounds : AreBounds text (length name) start stop
  pub no_header : says_nothing text ≡ false

-- `lead.end` digits come first, at most twelve, and denote the number
pub record BeginsWith (text : List ℕ) (lead : ParsedNumber) : Type 0 where
  pub within : lead.end ≤ length text
  pub short : lead.end ≤ 12
  pub digits : list_all is_ascii_digit (take lead.end text) ≡ true
  pub value : lead.value ≡ digits_value 10 (take lead.end text)

-- the bytes begin with this name, and after it come, each after a tab, the digits of a start and of a greater end
pub record HasColumns (bytes name : List ℕ) (start stop : ParsedNumber) : Type 0 where
  pub named : BeginsWithName bytes name
  pub first : BeginsWith (drop (length name + 1) bytes) start
  pub some_first : 0 < start.end
  pub tab : get_or bytes (length name + start.end + 1) 0 ≡ 9
  pub second : BeginsWith (drop (length name + start.end + 2) bytes) stop
  pub some_second : 0 < stop.end
  pub below : start.value < stop.value

-- The name of a chromosome and the tab after it, as one number.

-- the key of this name: the name and a tab as the upper bytes of a number, and what moves them there from the lower ones
pub record IsKey (name : List ℕ) (key : PackedName) : Type 0 where
  pub short : length name ≤ 7
  pub bytes : (i : ℕ) → get_or name i 0 < 256
  pub factor : key.factor * 256 ^ (length name + 1) ≡ 2 ^ 64
  pub word : key.word ≡ (from_le_bytes w64 (name ++ 9 ∷ []) * key.factor) % 2 ^ 64

-- it is, if the name is one that has a key
abbrev pub HasKey : List ℕ → PackedName → Type 0
HasKey name key = length name ≤ 7 → IsKey name key

-- The bytes of a text that is kept, inline or in a buffer.

abbrev pub bytes_of : InlineText → List ℕ
bytes_of (Short bytes) = bytes
bytes_of (Long text) = text.items

-- The columns that follow a name, as they are written.

-- the bounds after the name: a tab, the start, a tab and the stop
abbrev pub bounds_text : ℕ → ℕ → List ℕ
bounds_text start stop = codes "\t" ++ (decimal start ++ (codes "\t" ++ decimal stop))
