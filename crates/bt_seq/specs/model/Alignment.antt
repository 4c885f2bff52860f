-- What a line of a SAM file says.
use Rattle.std.specs.Prelude.{ℕ, ◌+◌, ◌==◌, ◌||◌, Bool, List, [], ◌∷◌, codes, bytes_eq, Option, Some, None, option_and_then, if◌then◌else◌, ◌-◌, true, length, bit_and, nat_le, nat_lt, not, Result, Ok, Err, ⊤, false}
use Rattle.bt_lines.specs.model.Lines.{value_of, pieces, max_number}
use Rattle.bt_lines.specs.declared.fault.Kind.{Kind}
use Rattle.bt_lines.specs.declared.fault.Kind.TheVariants.{TooFewColumns, EmptyName, BadFlag, BadPosition, BadQuality, BadCigar, StopTooLarge}
use Rattle.bt_bed.specs.model.Good.{Format}
use Rattle.bt_seq.specs.model.Cigar.{cigar_length}

-- What a line of a SAM file says: nothing, an alignment, or what is wrong with it (Sequence
-- Alignment/Map Format Specification, section 1.3 for header lines, 1.4 for the mandatory fields).

-- an alignment that gives BED lines
pub record Alignment : Type 0 where
  -- the name of the read (QNAME), and whether it is the first or the last segment of its template
  pub name : List ℕ
  pub first : Bool
  pub last : Bool
  pub reverse : Bool
  -- where it lies: from the first reference base, counted from 0, up to the one after the last
  pub chrom : List ℕ
  pub start : ℕ
  pub stop : ℕ
  -- the mapping quality (MAPQ)
  pub quality : ℕ
  pub cigar : List ℕ

-- the columns that are read
pub record Fields : Type 0 where
  pub name : List ℕ
  pub flag : List ℕ
  pub chrom : List ℕ
  pub position : List ℕ
  pub quality : List ℕ
  pub cigar : List ℕ

-- The columns are QNAME, FLAG, RNAME, POS, MAPQ and CIGAR, and five at least after them, which are
-- only counted: RNEXT, PNEXT, TLEN, SEQ and QUAL.
abbrev pub fields_of : List (List ℕ) → Option Fields
fields_of (name ∷ flag ∷ chrom ∷ position ∷ quality ∷ cigar ∷ rest) =
    if nat_le 5 (length rest)
    then Some (record {
      name = name;
      flag = flag;
      chrom = chrom;
      position = position;
      quality = quality;
      cigar = cigar;
    }) else None
fields_of _ = None

-- a number of at most the limit
abbrev pub up_to : ℕ → Option ℕ → Option ℕ
up_to limit number = option_and_then (λ n. if nat_le n limit then Some n else None) number

-- the number that a text denotes, if it is at most the limit
abbrev pub value_up_to : ℕ → List ℕ → Option ℕ
value_up_to limit text = up_to limit (value_of text)

-- whether a bit of FLAG is set (section 1.4, field 2): 0x4 for an unmapped segment, 0x10 for one that
-- is reverse complemented, 0x40 for the first segment of the template, 0x80 for the last
abbrev pub has_bit : ℕ → ℕ → Bool
has_bit flag bit = not (bit_and flag bit == 0)

-- an alignment that gives no BED line: the read is unmapped, has no reference name or no position,
-- or covers no reference base
abbrev pub gives_nothing : ℕ → List ℕ → ℕ → ℕ → Bool
gives_nothing flag chrom position span =
    has_bit flag 4 || bytes_eq chrom (codes "*") || (position == 0) || (span == 0)

-- the alignment of these values; the position is counted from 1
abbrev pub alignment_at : Fields → ℕ → ℕ → ℕ → ℕ → Alignment
alignment_at fields flag position quality span = record {
  name = fields.name;
  first = has_bit flag 64;
  last = has_bit flag 128;
  reverse = has_bit flag 16;
  chrom = fields.chrom;
  start = position - 1;
  stop = position - 1 + span;
  quality = quality;
  cigar = fields.cigar;
}

-- what these values say: the end is checked only if the alignment gives a line
abbrev pub values_say : Fields → ℕ → ℕ → ℕ → ℕ → Result (Option Alignment) Kind
values_say fields flag position quality span =
    if gives_nothing flag fields.chrom position span then Ok None
    else (if nat_lt max_number (position - 1 + span) then Err StopTooLarge
    else Ok (Some (alignment_at fields flag position quality span)))

-- the first of the columns that is at fault, or what their values say: flag, reference name,
-- position, mapping quality, and the reference length of the CIGAR
abbrev pub sam_columns_say : Fields → Option ℕ → List ℕ → Option ℕ → Option ℕ → Option ℕ
    → Result (Option Alignment) Kind
sam_columns_say fields None chrom position quality span = Err BadFlag
sam_columns_say fields (Some flag) [] position quality span = Err EmptyName
sam_columns_say fields (Some flag) (byte ∷ bytes) None quality span = Err BadPosition
sam_columns_say fields (Some flag) (byte ∷ bytes) (Some position) None span = Err BadQuality
sam_columns_say fields (Some flag) (byte ∷ bytes) (Some position) (Some quality) None = Err BadCigar
sam_columns_say fields (Some flag) (byte ∷ bytes) (Some position) (Some quality) (Some span) =
    values_say fields flag position quality span

-- what the columns say, if there are enough of them; FLAG, POS and MAPQ have these limits
unfoldable pub fields_say : Option Fields → Result (Option Alignment) Kind
fields_say None = Err TooFewColumns
fields_say (Some fields) =
    sam_columns_say fields (value_up_to 65535 fields.flag) fields.chrom
    (value_up_to 2147483647 fields.position) (value_up_to 255 fields.quality)
    (cigar_length fields.cigar)

-- whether a line says nothing: it is blank, or a header line, which begins with `@`
abbrev pub is_skipped_sam : List ℕ → Bool
is_skipped_sam [] = true
is_skipped_sam (byte ∷ bytes) = byte == 64

-- what a line's text says
unfoldable pub alignment_of : List ℕ → Result (Option Alignment) Kind
alignment_of text = if is_skipped_sam text then Ok None else fields_say (fields_of (pieces 9 text))

-- The good alignments of a SAM input (Sequence Alignment/Map Format Specification, section 1).

-- each line says its alignment independently: the alignments come in any order,
-- and nothing is known of those before
abbrev pub sam_format : Format Alignment ⊤
sam_format = record {
  begin = tt;
  says = λ known line. alignment_of line.text;
  after = λ known a. known;
}

-- Faults of a line of a SAM file.

-- whether a line of a SAM file can be at fault so
abbrev pub is_sam_kind : Kind → Bool
is_sam_kind TooFewColumns = true
is_sam_kind EmptyName = true
is_sam_kind BadFlag = true
is_sam_kind BadPosition = true
is_sam_kind BadQuality = true
is_sam_kind BadCigar = true
is_sam_kind StopTooLarge = true
is_sam_kind _ = false
