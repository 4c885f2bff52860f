-- What a line of a BED file says: headers, features, faults; and the lines that intervals are written as.
use Rattle.std.specs.Prelude.{ℕ, List, [], ◌∷◌, bytes_eq, Option, Some, None, Bool, true, ◌==◌, ◌||◌, not, codes, ◌++◌, decimal, flat_map, ◌≡◌, false, Result, Ok, Err, nat_lt, if◌then◌else◌}
use Rattle.bt_bed.specs.declared.record.strand.Strand.{Strand}
use Rattle.std.specs.List.{take_while}
use Rattle.bt_lines.specs.model.Fault.{FaultValue}
use Rattle.bt_lines.specs.declared.fault.Input.{Input}
use Rattle.bt_lines.specs.declared.fault.Kind.{Kind}
use Rattle.bt_lines.specs.declared.fault.Kind.TheVariants.{TooFewColumns, EmptyName, BadStart, BadStop, EmptyFeature, UnknownChrom, OutOfOrder}
use Rattle.bt_bed.specs.model.Order.{Order}
use Rattle.bt_lines.specs.model.Lines.{pieces, value_of}
use Rattle.bt_bed.specs.declared.record.strand.Strand.TheVariants.{Plus, Minus, Dot}
use Rattle.bt_bed.specs.model.Feature.{Interval, Feature}

-- Lines of a BED file that aren't features: comments, and the lines that speak to a genome browser
-- (UCSC custom tracks description, browser lines and track lines). They may come anywhere.

-- whether the byte ends a word: a space or a tab
abbrev pub ends_word : ℕ → Bool
ends_word byte = (byte == 32) || (byte == 9)

-- the first word of a text
abbrev pub first_word : List ℕ → List ℕ
first_word text = take_while (λ byte. not (ends_word byte)) text

-- whether a word begins a header line
abbrev pub is_header_word : List ℕ → Bool
is_header_word word = bytes_eq word (codes "track") || bytes_eq word (codes "browser")

-- whether a text says nothing: it is empty, or a header line, which begins with `#` or has `track`
-- or `browser` as its first word
abbrev pub says_nothing : List ℕ → Bool
says_nothing [] = true
says_nothing (byte ∷ bytes) = (byte == 35) || is_header_word (first_word (byte ∷ bytes))

-- The lines that intervals are written as: columns with tabs between them (UCSC BED description,
-- fields chrom, chromStart and chromEnd).

-- chromosome, start and stop
abbrev pub interval_line : Interval → List ℕ
interval_line r =
    r.chrom ++ codes "\t" ++ decimal r.start ++ codes "\t" ++ decimal r.stop ++ codes "\n"

-- the lines of intervals, one after another
abbrev pub interval_lines : List Interval → List ℕ
interval_lines intervals = flat_map interval_line intervals

-- Faults of a line.

-- whether a line of a BED input can be at fault so on its own, whatever its chromosome and its place
abbrev pub is_record_kind : Kind → Bool
is_record_kind TooFewColumns = true
is_record_kind EmptyName = true
is_record_kind BadStart = true
is_record_kind BadStop = true
is_record_kind EmptyFeature = true
is_record_kind _ = false

-- whether a line of a BED input can be at fault so
abbrev pub is_bed_kind : Kind → Bool
is_bed_kind UnknownChrom = true
is_bed_kind OutOfOrder = true
is_bed_kind kind = is_record_kind kind

-- A line of a BED input that is sorted by an order of the chromosomes can be at fault so. For an
-- unknown chromosome it is only if there is a name that the order doesn't know.
abbrev pub IsBedKind : Order → Kind → Type 0
IsBedKind order kind =
    (is_bed_kind kind ≡ true)
    × (kind ≡ UnknownChrom → (name : List ℕ) × (order.knows name ≡ false))

-- a fault of this kind at a line of the input
abbrev pub fault_at_line : Input → ℕ → Kind → FaultValue
fault_at_line input line kind =
    record { kind = kind; place = Some (record { input = input; line = line }) }

-- What a line of a BED file says: nothing if it is blank or a header, or else a feature (UCSC
-- BED description, fields chrom, chromStart, chromEnd and strand).

-- the columns, each with a tab before it
abbrev pub kept_columns : List (List ℕ) → List ℕ
kept_columns columns = flat_map (λ column. 9 ∷ column) columns

-- the strand that a column names: anything but `+` and `-` counts as no strand
abbrev pub strand_named : List ℕ → Strand
strand_named column =
    if bytes_eq column (codes "+") then Plus
    else (if bytes_eq column (codes "-") then Minus else Dot)

-- the strand of the columns from the fourth on: the sixth has it
abbrev pub strand_of : List (List ℕ) → Strand
strand_of [] = Dot
strand_of (name ∷ []) = Dot
strand_of (name ∷ score ∷ []) = Dot
strand_of (name ∷ score ∷ strand ∷ rest) = strand_named strand

-- the feature of a chromosome's name, of the numbers that its start and its end denote, and of the
-- columns from the fourth on: it has a base at least
abbrev pub feature_of : List ℕ → Option ℕ → Option ℕ → List (List ℕ) → Result Feature Kind
feature_of [] start stop rest = Err EmptyName
feature_of (byte ∷ bytes) None stop rest = Err BadStart
feature_of (byte ∷ bytes) (Some start) None rest = Err BadStop
feature_of (byte ∷ bytes) (Some start) (Some stop) rest =
    if nat_lt start stop then Ok
    (record {
      chrom = byte ∷ bytes;
      start = start;
      stop = stop;
      strand = strand_of rest;
      rest = kept_columns rest;
    }) else Err EmptyFeature

-- what the columns say
abbrev pub columns_say : List (List ℕ) → Result Feature Kind
columns_say [] = Err TooFewColumns
columns_say (chrom ∷ []) = Err TooFewColumns
columns_say (chrom ∷ start ∷ []) = Err TooFewColumns
columns_say (chrom ∷ start ∷ stop ∷ rest) = feature_of chrom (value_of start) (value_of stop) rest

-- a line that isn't skipped
abbrev pub not_skipped : {T : Type 0} → Result T Kind → Result (Option T) Kind
not_skipped (Ok x) = Ok (Some x)
not_skipped (Err kind) = Err kind

-- what a line's text says
unfoldable pub record_of : List ℕ → Result (Option Feature) Kind
record_of text = if says_nothing text then Ok None else not_skipped (columns_say (pieces 9 text))

-- the bytes of a record, without a line end: start and end without leading zeros,
-- and the kept columns as they are
abbrev pub bed_text : Feature → List ℕ
bed_text feature =
    feature.chrom ++ codes "\t" ++ decimal feature.start ++ codes "\t" ++ decimal feature.stop
    ++ feature.rest

-- a record with another start and end, and all else unchanged
abbrev pub cut_to : ℕ → ℕ → Feature → Feature
cut_to start stop feature =
    record {
      chrom = feature.chrom;
      start = start;
      stop = stop;
      strand = feature.strand;
      rest = feature.rest;
    }
