-- Lines that bedtools 2.30.0 may read otherwise, or take for the end of a text.
use Rattle.std.specs.Prelude.{ℕ, suc, ◌-◌, ◌^◌, min, Bool, true, false, ◌≡◌, ◌==◌, ◌&&◌, ◌||◌, not, List, [], ◌∷◌, ◌++◌, bytes_eq, codes, length, map, nat_lt, nat_le, take, drop, Option, Some, None}
use Rattle.std.specs.List.{list_any, list_all}
use Rattle.std.specs.Io.BufRead.{strip_last}
use Rattle.std.specs.Char.{to_ascii_lowercase}
use Rattle.bt_lines.specs.model.Lines.{pieces}
use Rattle.bt_front.specs.declared.survey.oddity.Oddity.{Oddity}
use Rattle.bt_front.specs.declared.survey.oddity.OddLine.{OddLine}
use Rattle.bt_front.specs.declared.survey.oddity.Oddity.TheVariants.{Blank, DoubleReturn, Nul, Long, Vcf, ByteOrderMark, Gzip, HeaderName, FarEnd}

-- Lines as bytes: what comes before each line feed, with a carriage return if there is one, and a last piece that isn't
-- empty.

-- a line and its number, counted from 1
pub record RawLine : Type 0 where
  pub number : ℕ
  pub bytes : List ℕ

-- the pieces as lines, the first of which has the number given; an empty last one is no line
abbrev pub raw_numbered : ℕ → List (List ℕ) → List RawLine
raw_numbered number [] = []
raw_numbered number ([] ∷ []) = []
raw_numbered number (piece ∷ rest) = record { number = number; bytes = piece } ∷ raw_numbered (suc number) rest

-- the lines of a text
abbrev pub raw_lines : List ℕ → List RawLine
raw_lines text = raw_numbered 1 (pieces 10 text)

-- What is odd in a line.

-- whether these bytes begin so
abbrev pub begins_with : List ℕ → List ℕ → Bool
begins_with beginning bytes = bytes_eq (take (length beginning) bytes) beginning

-- whether two carriage returns come one after the other
abbrev pub has_double_return : List ℕ → Bool
has_double_return [] = false
has_double_return (byte ∷ []) = false
has_double_return (byte ∷ next ∷ rest) =
    ((byte == 13) && (next == 13)) || has_double_return (next ∷ rest)

-- how many bytes a line has that bedtools writes whole: it cuts what it writes after 1,023 bytes, and there a start may
-- have eight digits more than in the line
abbrev pub longest_line : ℕ
longest_line = 1015

-- whether a line of this number has what the bytes alone show
abbrev pub is_odd : Oddity → RawLine → Bool
is_odd Blank line = bytes_eq (strip_last 13 line.bytes) []
is_odd DoubleReturn line = has_double_return line.bytes
is_odd Nul line = list_any (λ byte. byte == 0) line.bytes
is_odd Long line = nat_lt longest_line (length line.bytes)
is_odd Vcf line = begins_with (codes "##fileformat=VCF") line.bytes
is_odd ByteOrderMark line = (line.number == 1) && begins_with (239 ∷ 187 ∷ 191 ∷ []) line.bytes
is_odd Gzip line = (line.number == 1) && begins_with (31 ∷ []) line.bytes
is_odd HeaderName line = false
is_odd FarEnd line = false

-- whether nothing is odd in a line
abbrev pub is_plain : RawLine → Bool
is_plain line = not (list_any (λ oddity. is_odd oddity line)
    (Blank ∷ DoubleReturn ∷ Nul ∷ Long ∷ Vcf ∷ ByteOrderMark ∷ Gzip ∷ []))

-- all lines before this number are plain, and the one of this number is odd in this way
pub record IsFirstOdd (lines : List RawLine) (number : ℕ) (oddity : Oddity) : Type 0 where
  pub before : List RawLine
  pub line : RawLine
  pub after : List RawLine
  pub lines_are : lines ≡ before ++ line ∷ after
  pub plain_before : list_all is_plain before ≡ true
  pub number_is : line.number ≡ number
  pub odd : is_odd oddity line ≡ true

-- the first line of a text that is odd by its bytes; its number is cut at the largest of 64 bits
pub record IsOddLine (text : List ℕ) (odd : OddLine) : Type 0 where
  pub number : ℕ
  pub first : IsFirstOdd (raw_lines text) number odd.oddity
  pub line : odd.line ≡ min (2 ^ 64 - 1) number

-- whether a byte is NUL, CR or #
abbrev pub is_mark : ℕ → Bool
is_mark byte = (byte == 0) || (byte == 13) || (byte == 35)

-- whether it is a line feed
abbrev pub is_feed : ℕ → Bool
is_feed byte = byte == 10

-- whether bytes have a NUL, a CR, a # or two line feeds one after the other: lines without them may be odd by their
-- length, and at the beginning of a text
abbrev pub has_special : List ℕ → Bool
has_special [] = false
has_special (byte ∷ []) = is_mark byte
has_special (byte ∷ next ∷ rest) =
    is_mark byte || ((byte == 10) && (next == 10)) || has_special (next ∷ rest)

-- Names of chromosomes that bedtools may pass over, as a header line's first word.

-- whether a name begins with a word of lowercase letters, whatever the case of its own
abbrev pub begins_as : List ℕ → List ℕ → Bool
begins_as word name = bytes_eq (map to_ascii_lowercase (take (length word) name)) word

-- whether bedtools takes a byte for a space; a tab isn't in a name
abbrev pub is_space : ℕ → Bool
is_space byte = (byte == 32) || (byte == 11) || (byte == 12) || (byte == 13)

-- whether a word ends a name, or has a space after it
abbrev pub is_spaced : List ℕ → Bool
is_spaced [] = false
is_spaced (byte ∷ rest) = is_space byte

-- whether a name begins with a word that makes a line a header line, whatever comes after it
abbrev pub begins_header : List ℕ → Bool
begins_header name = list_any (λ word. begins_as word name)
    (codes "!" ∷ codes ">" ∷ codes "track" ∷ codes "browser" ∷ codes "visibility" ∷ [])

-- whether a name begins with `chr` and a space
abbrev pub is_spaced_chr : List ℕ → Bool
is_spaced_chr name = begins_as (codes "chr") name && is_spaced (drop 3 name)

-- whether a name is `chrom`, or begins with it and a space
abbrev pub is_chrom : List ℕ → Bool
is_chrom name = begins_as (codes "chrom") name && ((length name == 5) || is_spaced (drop 5 name))

-- whether bedtools may pass over lines with this name: some commands do, of some of these names
abbrev pub is_header_name : List ℕ → Bool
is_header_name name = begins_header name || is_spaced_chr name || is_chrom name
