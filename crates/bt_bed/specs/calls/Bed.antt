-- One record: as it is borrowed, as a line has it, as a caller gives it.
use Rattle.std.specs.Prelude.{ℕ, ◌≤◌, List, drop, length, take, Option, Result, Ok, Err, option_map, ◌≡◌, ◌+◌, ◌++◌, ◌∷◌, [], Some, Bool, true, false, None, bytes_eq, nat_lt, if◌then◌else◌, option_to_list}
use Rattle.bt_lines.specs.declared.fault.Kind.{Kind}
use Rattle.bt_bed.specs.model.Feature.{Feature}
use Rattle.bt_bed.specs.model.BedLine.{strand_of, kept_columns, record_of}
use Rattle.bt_bed.specs.calls.Features.{IsRecord, columns_in}
use Rattle.bt_bed.specs.declared.record.bed.BedRef.{BedRef}
use Rattle.bt_bed.specs.declared.record.strand.Strand.{Strand}
use Rattle.std.specs.Io.BufRead.{strip_last}
use Rattle.bt_bed.specs.declared.record.raw_record.RawRecord.{RawRecord}
use Rattle.bt_lines.specs.model.Lines.{TextLine}
use Rattle.bt_bed.specs.declared.read.cursor.Single.{Single}

-- how many bytes of a record that is kept, its name and its columns from the fourth on, are inline
abbrev pub inline_size : ℕ
inline_size = 31

-- A feature as the definitions see it.

abbrev pub feature_lent : BedRef → Feature
feature_lent bed =
    record {
      chrom = bed.chrom.now;
      start = bed.start;
      stop = bed.stop;
      strand = bed.strand;
      rest = bed.rest.now;
    }

abbrev pub record_seen : Result (Option BedRef) Kind → Result (Option Feature) Kind
record_seen (Ok bed) = Ok (option_map feature_lent bed)
record_seen (Err kind) = Err kind

-- the feature of a chromosome's name, of its start and its end, if they were found, and of the
-- columns from the fourth on
abbrev pub feature_between : List ℕ → Result (ℕ × ℕ) Kind → List (List ℕ) → Result Feature Kind
feature_between chrom (Ok bounds) rest =
    Ok (record {
      chrom = chrom;
      start = bounds.0;
      stop = bounds.1;
      strand = strand_of rest;
      rest = kept_columns rest;
    })
feature_between chrom (Err kind) rest = Err kind

-- the feature whose name is the first `name_len` bytes of a text,
-- and whose kept columns are the others
abbrev pub feature_in : List ℕ → ℕ → ℕ → ℕ → Strand → Feature
feature_in text name_len start stop strand = record {
  chrom = take name_len text;
  start = start;
  stop = stop;
  strand = strand;
  rest = drop name_len text;
}

-- the name is within the text, and the feature is a record
pub record IsFeatureIn (text : List ℕ) (name_len start stop : ℕ) (strand : Strand) : Type 0 where
  pub within : name_len ≤ length text
  pub is : IsRecord (feature_in text name_len start stop strand)

-- What a line says of which a record's start and end were read.

-- the text of the line
unfoldable pub text_in : RawRecord → List ℕ
text_in raw = strip_last 13 raw.line.now

-- the bytes of the line, with its end
unfoldable pub raw_in : RawRecord → List ℕ
raw_in raw = raw.line.now ++ 10 ∷ []

-- what follows its third column
unfoldable pub kept_in : RawRecord → List ℕ
kept_in raw = drop (raw.name + raw.start.end + raw.stop.end + 2) (strip_last 13 raw.line.now)

-- the record
unfoldable pub record_in : RawRecord → Feature
record_in raw =
    record {
      chrom = take raw.name (strip_last 13 raw.line.now);
      start = raw.start.value;
      stop = raw.stop.value;
      strand = strand_of (columns_in (kept_in raw));
      rest = kept_in raw;
    }

-- it is what this line, without its line feed, says on the chromosome of this name
pub record IsOnLine (line name : List ℕ) (raw : RawRecord) : Type 0 where
  pub line_is : raw.line.now ≡ line
  pub says : record_of (strip_last 13 line) ≡ Ok (Some (record_in raw))
  pub chrom : (record_in raw).chrom ≡ name

-- The records on one chromosome that lines begin with.

-- whether what was said is a record on the chromosome of this name
abbrev pub is_on : List ℕ → Result (Option Feature) Kind → Bool
is_on name (Err kind) = false
is_on name (Ok None) = false
is_on name (Ok (Some r)) = bytes_eq r.chrom name

-- a record on it that doesn't start before this
abbrev pub placed_record : List ℕ → ℕ → Result (Option Feature) Kind → Option Feature
placed_record name start (Err kind) = None
placed_record name start (Ok None) = None
placed_record name start (Ok (Some r)) =
    if bytes_eq r.chrom name then (if nat_lt r.start start then None else Some r) else None

-- the record that a line says, if it is one on the chromosome of this name that doesn't start before this
unfoldable pub record_on : List ℕ → ℕ → List ℕ → Option Feature
record_on name start text = placed_record name start (record_of text)

abbrev pub run_then : Option Feature → (ℕ → List Feature) → List Feature
run_then None more = []
run_then (Some r) more = r ∷ more r.start

-- the records that lines begin with, on the chromosome of this name and in order, from a start on
unfoldable pub run_of : List ℕ → ℕ → List TextLine → List Feature
run_of name start [] = []
run_of name start (line ∷ lines) =
    run_then (record_on name start line.text) (λ next. run_of name next lines)

-- whether there is one
abbrev pub is_some_left : List Feature → Bool
is_some_left [] = false
is_some_left (r ∷ more) = true

-- where the last of them starts
abbrev pub last_start : ℕ → List Feature → ℕ
last_start start [] = start
last_start start (r ∷ records) = last_start r.start records

-- One record that a caller gives, or none.

-- the record that it gives, if it has one
unfoldable pub single_left : Single → List Feature
single_left one = option_to_list (option_map feature_lent one.bed)

-- the chromosome of the record
unfoldable pub single_name : Single → List ℕ
single_name one = one.chrom.now

-- the number of the record's line
unfoldable pub single_line : Single → ℕ
single_line one = one.line

-- the records were given
pub record GivesSingle (old : Single) (records : List Feature) (new : Single) : Type 0 where
  pub left : single_left old ≡ records ++ single_left new
  pub name : single_name new ≡ single_name old
  pub line : single_line new ≡ single_line old

-- there is none
pub record HasNone (one : Single) : Type 0 where
  pub none : single_left one ≡ []
