-- Lemmas on the first columns of a line that are in order.
use Rattle.bt_lines.proofs.Std.{common_steps, rules, ◌≡◌, ℕ, ◌+◌, ◌^◌, ◌<◌, ◌≤◌, Bool, true, false, List, [], ◌∷◌, ◌++◌, length, take, drop, get_or, Some, Ok, refl, sym, ap, ◌∙◌, subst, arith, append_assoc, bytes_eq, eqb, ltb, length-take, is_ascii_digit, list_all, digits_value, get_or-append_seam, take-append_seam, drop-drop, drop_more, drop_all, length-append, take_all, take-append-drop, slice_split_none, length-slice_split, bytes_eq-Decides, inl, inr, cases_Bool, cases_lt, false≢true, drop_at, ◌-◌, decimal, eq-eqb, length-drop, IsTrue, not, strip_last, list_all_at, AllDigits, decimal-digits_value, get_or-drop, get_or-take, length-take-le, numerals_by_value, tells_digits}
use Rattle.bt_lines.proofs.lemmas.reader.lines.TextLemmas.{cut_at, IsColumn}
use Rattle.bt_lines.proofs.lemmas.numbers.NumberLemmas.{digits_below, value_of_digits, all_digits_in, digits_denoting}
use Rattle.bt_lines.specs.model.Lines.{pieces, value_of}
use Rattle.bt_bed.proofs.lemmas.parse.FeatureLemmas.{cut_and_kept, record_said, said_is_feature, said_stands, header_before_tab, pieces_are_columns, IsWhole, of_whole, said_by_columns}
use Rattle.bt_bed.specs.model.Feature.{Feature}
use Rattle.bt_bed.specs.model.BedLine.{says_nothing, columns_say, kept_columns, record_of, strand_of, bed_text}
use Rattle.bt_bed.specs.calls.Features.{IsName, columns_in, is_kept, IsFeature}
use Rattle.bt_bed.specs.inside.FirstColumns.{AreBounds, BeginsWith, BeginsWithName, EndsName, IsRecordName, Leads, EndsFirst, HasColumns}
use Rattle.bt_bed.specs.declared.record.raw_record.ParsedNumber.{ParsedNumber}
use Rattle.bt_bed.specs.declared.record.strand.Strand.{Strand}
use Rattle.bt_bed.specs.calls.Bed.{is_on, IsOnLine, kept_in, record_in, text_in}
use Rattle.bt_bed.specs.declared.record.raw_record.RawRecord.{RawRecord}

pub cut_by : (text : List ℕ) (n : ℕ) → n ≤ length text → (n < length text → get_or text n 0 ≡ 9) → IsColumn (take n text) → (b : Bool) → ltb n (length text) ≡ b → pieces 9 text ≡ take n text ∷ columns_in (drop n text)
cut_by text n within tab column b e = grind (arith, drop_more, cut_at, take_all, drop_all, slice_split_none)

kept_by : (bytes : List ℕ) (columns : List (List ℕ)) → pieces 9 bytes ≡ columns → 0 < length columns → kept_columns columns ≡ 9 ∷ bytes
kept_by bytes [] e some = absurd (omega arith)
kept_by bytes (x ∷ xs) e some = ap (λ l. 9 ∷ l) (sym (cut_and_kept bytes x xs e))

-- what is kept is its columns, each with a tab before it
pub kept_again : (kept : List ℕ) → is_kept kept ≡ true → kept_columns (columns_in kept) ≡ kept
kept_again kept e = grind (arith, kept_by, length-slice_split)

-- the three columns say a feature
pub direct_say : (text first second kept : List ℕ) (name : ℕ) (start stop : ParsedNumber) (strand : Strand) → first ≡ drop (name + 1) text → second ≡ drop (start.end + 1) first → kept ≡ drop stop.end second → strand ≡ strand_of (columns_in kept)
    → EndsName text name → Leads first start → start.end < length first → Leads second stop → start.value < stop.value
    → Ok (record { chrom = take name text; start = start.value; stop = stop.value; strand = strand; rest = kept }) ≡ columns_say (pieces 9 text)
direct_say text first second kept name start stop strand f s k t n p inside q below =
    let last = cut_by second stop.end q.within q.tab q.column (ltb stop.end (length second)) refl ∙ ap (λ l. take stop.end second ∷ columns_in l) (sym k) in
    grind (arith, common_steps, (cut_at first start.end inside (p.tab inside) p.column), (cut_at text name n.within n.tab n.column), kept_again, drop_more, drop_all)

-- the digits up to a tab or the end denote a number
pub leads_by : (text : List ℕ) (value end : ℕ) → 0 < end → end ≤ length text → (end < length text → get_or text end 0 ≡ 9) → value ≡ digits_value 10 (take end text) → list_all is_ascii_digit (take end text) ≡ true → value ≤ 999999999999
    → Leads text (record { value = value; end = end })
leads_by text value end some within tab is digits small = grind (arith, value_of_digits, common_steps)

-- the value of the first digits is below the power of ten that has one digit more
pub begins_below : (text : List ℕ) (lead : ParsedNumber) → BeginsWith text lead → lead.value < 10 ^ lead.end
begins_below text lead begins = grind (arith, length-take, digits_below)

-- what follows three columns, by the count of bytes before it
pub rest_stands : (text first second kept : List ℕ) (a b c : ℕ) → first ≡ drop (a + 1) text
    → second ≡ drop (b + 1) first
    → kept ≡ drop c second → drop (a + b + c + 2) text ≡ kept
rest_stands text first second kept a b c f s k = grind (arith, drop-drop)

-- the feature of two columns that are its bounds, and of what follows them
pub bounds_say : (text rest : List ℕ) (name : ℕ) (start stop : ParsedNumber) (strand : Strand) → EndsName text name → AreBounds text name start stop → rest ≡ drop (name + start.end + stop.end + 2) text
    → strand ≡ strand_of (columns_in rest)
    → Ok (record { chrom = take name text; start = start.value; stop = stop.value; strand = strand; rest = rest }) ≡ columns_say (pieces 9 text)
bounds_say text rest name start stop strand ends bounds r t = grind (arith, direct_say, rest_stands)

-- a text of which a name and a tab are a prefix
pub name_in_front : (text name : List ℕ) → length name < length text → get_or text (length name) 0 ≡ 9 → bytes_eq name (take (length name) text) ≡ true → BeginsWithName text name
name_in_front text name within tab same = grind (arith, bytes_eq-Decides, drop_more, take-append-drop)

-- it is the first column
pub front_is_name : (text name : List ℕ) → BeginsWithName text name → take (length name) text ≡ name
front_is_name text name e = grind (arith, take-append_seam)

pub begins_within : (text name : List ℕ) → BeginsWithName text name → length name < length text
begins_within text name e = grind (arith, length-append)

pub name_ends : (text name : List ℕ) → IsName name → BeginsWithName text name → EndsName text (length name)
name_ends text name named e = grind (arith, length-append, get_or-append_seam, front_is_name)

-- the name of a record that a line said
pub said_record_name : (text : List ℕ) (f : Feature) → Ok (Some f) ≡ record_of text → IsRecordName f.chrom
said_record_name text f e = grind (arith, record_said, said_stands, append_assoc, said_is_feature, header_before_tab)

-- a line that begins with the name of a record and a tab is no header
pub named_is_no_header : (text name : List ℕ) → IsRecordName name → BeginsWithName text name → says_nothing text ≡ false
named_is_no_header text name named e = ap says_nothing e ∙ named.no_header (drop (length name + 1) text)

-- Lemmas on the first columns of a line that was parsed.

behind_name : (name rest : List ℕ) → drop (length name + 1) (name ++ 9 ∷ rest) ≡ rest
behind_name name rest = grind (arith, (append_assoc name (9 ∷ []) rest), (drop_at (name ++ 9 ∷ []) rest (length name + 1) (length-append name (9 ∷ []))))

-- a text without a tab is its first column
pub alone_ends : (text : List ℕ) → pieces 9 text ≡ text ∷ [] → EndsFirst text (length text)
alone_ends text e = grind (arith, take_all, pieces_are_columns)

module _ (text : List ℕ) {name : List ℕ} {r : Feature} (says : record_of text ≡ Ok (Some r)) (on : r.chrom ≡ name) where
  said : columns_say (pieces 9 text) ≡ Ok r
  said = (record_said text r says).1

  stands : (between : List ℕ) × (text ≡ (r.chrom ++ 9 ∷ between) ++ r.rest)
  stands = said_stands text r said

  pub parsed_begins : BeginsWithName text name
  parsed_begins = grind (arith, stands, append_assoc, behind_name)

  pub parsed_name : EndsName text (length name)
  parsed_name = name_ends text name (subst IsName on (said_is_feature text r said).named) (grind (arith, stands, append_assoc, behind_name))

  abbrev pub first : List ℕ
  first = drop (length name + 1) text

  cut_name : pieces 9 text ≡ take (length name) text ∷ pieces 9 first
  cut_name = cut_at text (length name) parsed_name.within parsed_name.tab parsed_name.column

  -- a tab follows the second column
  module _ {a : ℕ} (ends : EndsFirst first a) where
    pub parsed_inside : a < length first
    parsed_inside = elim (cases_lt a (length first)) [
      | inl inside ↦ inside
      | inr past ↦ grind (arith, (slice_split_none (λ byte. eqb byte 9) first (subst IsColumn (take_all a first past) ends.column)), cut_name, said)
    ]

    abbrev pub second : List ℕ
    second = drop (a + 1) first

    cut_first : pieces 9 first ≡ take a first ∷ pieces 9 second
    cut_first = cut_at first a parsed_inside (ends.tab parsed_inside) ends.column

    module _ {b : ℕ} (last : EndsFirst second b) where
      cut_second : pieces 9 second ≡ take b second ∷ columns_in (drop b second)
      cut_second = cut_by second b last.within last.tab last.column (ltb b (length second)) refl

      cut_all : pieces 9 text ≡ take (length name) text ∷ take a first ∷ take b second ∷ columns_in (drop b second)
      cut_all = cut_name ∙ ap (λ l. take (length name) text ∷ l) cut_first ∙ ap (λ l. take (length name) text ∷ take a first ∷ l) cut_second

      whole_is : IsWhole (take (length name) text) (value_of (take a first)) (value_of (take b second)) (columns_in (drop b second)) r
      whole_is = of_whole (take (length name) text) (value_of (take a first)) (value_of (take b second)) (columns_in (drop b second)) r (sym (ap columns_say cut_all) ∙ said)

      -- the columns denote the bounds
      pub parsed_bounds : AreBounds text (length name) (record { value = r.start; end = a }) (record { value = r.stop; end = b })
      parsed_bounds = grind (arith, whole_is, parsed_inside)

  pub parsed_no_header : says_nothing text ≡ false
  parsed_no_header = (record_said text r says).0

-- a text that says a record on the chromosome
pub parsed_of : (name text : List ℕ) → is_on name (record_of text) ≡ true → (r : Feature) × (record_of text ≡ Ok (Some r)) × (r.chrom ≡ name)
parsed_of name text e = search rules

-- one that doesn't begin with the name says none
pub not_on : (name text : List ℕ) → (BeginsWithName text name → ⊥) → false ≡ is_on name (record_of text)
not_on name text other = elim (cases_Bool (is_on name (record_of text))) [
  | inl is ↦ let p = parsed_of name text is in absurd (other (parsed_begins text p.1 p.2))
  | inr none ↦ sym none
]

-- where its third column begins
pub third_at : (text : List ℕ) (n a : ℕ) → drop (a + 1) (drop (n + 1) text) ≡ drop (n + a + 2) text
third_at text n a = let at : n + 1 + (a + 1) ≡ n + a + 2 = omega arith in drop-drop (a + 1) (n + 1) text ∙ ap (λ k. drop k text) at

-- Lemmas on lines of which a record's bounds were read.

pub says_its_record : (line : RawRecord) → record_of (text_in line) ≡ Ok (Some (record_in line))
unfolding text_in record_in kept_in
says_its_record line = sym (said_by_columns (strip_last 13 line.line.now) (Ok (record_in line)) line.no_header (bounds_say (strip_last 13 line.line.now) (kept_in line) line.name line.start line.stop (strand_of (columns_in (kept_in line))) line.named line.bounds refl refl))

-- it says no other
pub same_record : (line : RawRecord) (r : Feature) → record_of (text_in line) ≡ Ok (Some r) → record_in line ≡ r
same_record line r says = let e : Ok (Some (record_in line)) ≡ record_of (text_in line) = sym (says_its_record line) in cc

-- a byte that isn't another
pub other_byte : (a b : ℕ) → IsTrue (not (eqb a b)) → a ≡ b → ⊥
other_byte a b other same = false≢true (sym (ap not (eq-eqb a b same)) ∙ other)

-- digits of which the first is no zero are what is written of their number
digits_written : (digits : List ℕ) (value : ℕ) → value_of digits ≡ Some value → value ≤ 999999999999 → (get_or digits 0 0 ≡ 48 → ⊥) → decimal value ≡ digits
unfolding value_of
digits_written [] value e small no_zero = cc
digits_written (byte ∷ bytes) value e small no_zero =
    let is = digits_denoting (byte ∷ bytes) value (sym e) in
    ap decimal is.1
    ∙ decimal-digits_value (numerals_by_value (AllDigits 10) tells_digits) (byte ∷ bytes) (all_digits_in (byte ∷ bytes) is.0) (omega arith) (λ zero. absurd (no_zero zero)) (omega (arith, is.1))

-- a column that denotes a number has a byte
some_digits : (end : ℕ) (text : List ℕ) (value : ℕ) → value_of (take end text) ≡ Some value → 0 < end
unfolding value_of
some_digits end text value e = grind arith

-- so is a column
column_written : (text : List ℕ) (lead : ParsedNumber) → Leads text lead → lead.value ≤ 999999999999 → (get_or text 0 0 ≡ 48 → ⊥) → decimal lead.value ≡ take lead.end text
column_written text lead leads small no_zero = grind (arith, digits_written)

-- a text is its first column, the tab after that and the rest
cut_there : (text : List ℕ) (end : ℕ) → end < length text → get_or text end 0 ≡ 9 → text ≡ take end text ++ 9 ∷ drop (end + 1) text
cut_there text end inside tab = grind (arith, take-append-drop, drop_more)

-- the third column has a first byte
pub column_begins : (line : RawRecord) → line.name + 1 + line.start.end + 1 < length (strip_last 13 line.line.now)
column_begins line = grind (arith, some_digits, length-drop)

-- if no number begins with a zero, the record is written as its line is
pub written_so : (line : RawRecord) (r : Feature) → record_of (strip_last 13 line.line.now) ≡ Ok (Some r) → (get_or (strip_last 13 line.line.now) (line.name + 1) 0 ≡ 48 → ⊥) → (get_or (strip_last 13 line.line.now) (line.name + 1 + line.start.end + 1) 0 ≡ 48 → ⊥) → bed_text r ≡ (strip_last 13 line.line.now)
unfolding text_in record_in kept_in
written_so line r said start stop =
    let text = (strip_last 13 line.line.now) in
    grind (arith, (same_record line r said), (said_is_feature text r (record_said text r said).1), get_or-drop, column_written, rest_stands, append_assoc, cut_there, take-append-drop)

-- the record is one that a line can say
pub raw_is_feature : (raw : RawRecord) → IsFeature (record_in raw)
raw_is_feature raw = said_is_feature (text_in raw) (record_in raw) (record_said (text_in raw) (record_in raw) (says_its_record raw)).1

-- so it is by the text that is looked at
pub text_is_feature : (raw : RawRecord) (text : List ℕ) → text ≡ text_in raw
    → IsFeature (record {
      chrom = take raw.name text;
      start = raw.start.value;
      stop = raw.stop.value;
      strand = strand_of (columns_in (drop (raw.name + raw.start.end + raw.stop.end + 2) text));
      rest = drop (raw.name + raw.start.end + raw.stop.end + 2) text;
    })
unfolding text_in record_in kept_in
text_is_feature raw text is = grind (arith, raw_is_feature)

-- a line that is as it is written is its record's text
pub text_written : (raw : RawRecord) → ((r : Feature) → record_of (text_in raw) ≡ Ok (Some r) → bed_text r ≡ text_in raw) → text_in raw ≡ bed_text (record_in raw)
text_written raw stands = sym (stands (record_in raw) (says_its_record raw))

-- the record of a line on which it was read
pub on_line : (raw : RawRecord) (line name : List ℕ) → raw.line.now ≡ line → take raw.name (strip_last 13 raw.line.now) ≡ name → IsOnLine line name raw
unfolding text_in record_in
on_line raw line name is chrom = grind (arith, says_its_record)

-- ---- a line and its text

-- the text's bytes are its line's
pub byte_there : (line : List ℕ) (i : ℕ) → i < length (strip_last 13 line) → get_or line i 0 ≡ get_or (strip_last 13 line) i 0
byte_there line i inside = grind (arith, common_steps)

pub text_less : (line : List ℕ) → length (strip_last 13 line) ≤ length line
text_less line = search rules

pub name_within : (raw : RawRecord) → raw.name < length raw.line.now
name_within raw = let inside = raw.named.within in omega (arith, text_less raw.line.now)

-- no carriage return is the last byte of the third column
pub no_return_there : (bytes name line : List ℕ) (start stop : ParsedNumber) → HasColumns bytes name start stop → take (length line) bytes ≡ line
    → length name + start.end + stop.end + 2 ≤ length line → get_or line (length name + start.end + stop.end + 2 - 1) 0 ≡ 13 → ⊥
no_return_there bytes name line start stop has front inside is =
    let from = length name + start.end + 2 in
    let size : length (take stop.end (drop from bytes)) ≡ stop.end = length-take-le stop.end (drop from bytes) has.second.within in
    let place : from + (stop.end - 1) ≡ (length name + start.end + stop.end + 2) - 1 = omega (arith, has.some_second) in
    grind (arith, get_or-take, get_or-drop, list_all_at)
