-- Lemmas on lines, records and their orders.
use Rattle.bt_lines.proofs.Std.{◌≡◌, ℕ, Bool, true, false, cond, List, [], ◌∷◌, Option, Some, None, Result, Ok, Err, refl, sym, ap, ◌∙◌, ⊤, length, arith, zero, suc, ◌+◌, ◌<◌, ◌≤◌, take, ◌++◌, append_assoc, append-nil, IfErr, IfSome, decimal, lt-ltb, decimal_is_IsNumeral, digit_from_value, is_ascii_digit, AllByRecursion, list_all, AllDigits, IsTrue, ◌⊎◌, inl, inr, bytes_eq, or_parts, or_from, digit_glyph, digits_onto, ◌/◌, ◌%◌, All-from_recursion, codes}
use Rattle.bt_lines.specs.model.Fault.{FaultValue}
use Rattle.bt_lines.specs.model.Lines.{TextLine, pieces, value_of, text_lines}
use Rattle.bt_lines.specs.calls.Line.{AreNumbered}
use Rattle.bt_lines.specs.declared.fault.Input.{Input}
use Rattle.bt_lines.specs.declared.fault.Kind.{Kind}
use Rattle.bt_lines.specs.declared.fault.Kind.TheVariants.{UnknownChrom}
use Rattle.bt_bed.specs.model.Feature.{Interval, last_from}
use Rattle.bt_bed.specs.model.BedLine.{record_of, ends_word, first_word, kept_columns}
use Rattle.bt_bed.specs.calls.Features.{columns_in, said_are_features, IsName, is_kept}
use Rattle.bt_bed.specs.model.Good.{Good, bed_format, block_format, good, good_after, good_with, items_in, line_says}
use Rattle.bt_bed.specs.model.Meeting.{Rule, join_report, written}
use Rattle.bt_laws.specs.Records.{blocks_know_each_chromosome, good_stand_on_lines, first_lines_have_the_first, good_in_blocks_are_non_empty, good_in_blocks_stand_on_lines, genome_names_are_distinct, first_lines_make_entries, read_are_rewritten, written_are_read, StaysDecided, bytes_know_each_chromosome, first_difference_decides, prefixes_come_first, shared_are_common, stretches_are_one, contiguous_grows}
use Rattle.bt_bed.specs.model.Sorted.{Locus, sorting_of, has_records}
use Rattle.bt_bed.specs.calls.Orders.{AreContiguous, AreDistinct}
use Rattle.bt_lines.proofs.lemmas.reader.lines.TextLemmas.{lines_are_numbered, IsColumn, IsInside}
use Rattle.bt_bed.proofs.lemmas.read.good.SaidLemmas.{ascend_from, first_from, within_from}
use Rattle.bt_bed.proofs.lemmas.Definitions.{non_empty_from, met_output, written_at}
use Rattle.bt_bed.proofs.lemmas.StretchScans.{stretches_are_same}
use Rattle.bt_bed.specs.calls.Reading.{IsFaultBeyond}
use Rattle.bt_bed.specs.model.Order.{byte_order}
use Rattle.bt_bed.specs.model.Genome.{Entry, entry_of, genome_format, genome_names, new_entry}
use Rattle.bt_bed.proofs.lemmas.order.TableLemmas.{distinct_push, is_new}
use Rattle.bt_bed.proofs.lemmas.read.ColumnLemmas.{kept_again}
use Rattle.bt_bed.proofs.lemmas.parse.FeatureLemmas.{columns_of_line, record_said, said_is_feature, said_stands, whole, of_word, kept_is_cut, pieces_are_columns, header_before_tab}
use Rattle.bt_bed.proofs.lemmas.parse.NameLemmas.{name_ne, name_ne-sym}
use Rattle.bt_bed.proofs.lemmas.order.OrderLemmas.{has_records-last}
use Rattle.std.specs.Fmt.{digits}

-- In blocks no chromosome is unknown.

is_other : Kind → Bool
is_other UnknownChrom = false
is_other _ = true

abbrev Other : {T : Type 0} → Result T Kind → Type 0
Other (Ok x) = ⊤
Other (Err kind) = is_other kind ≡ true

abbrev Tells : Option FaultValue → Type 0
Tells None = ⊤
Tells (Some fault) = is_other fault.kind ≡ true

from_other : (input : Input) (last : Option Locus) (lines : List TextLine) → Tells (good_after block_format input last lines).fault
unfolding good_after line_says record_of is_other
from_other input last [] = tt
from_other input last (line ∷ lines) = grind (arith, (λ (now : Option Locus). from_other input now lines))

pub each_known : blocks_know_each_chromosome
unfolding is_other
each_known = grind (arith, from_other)

-- Lemmas on the lines and the bases of good records.

-- each is on a line of the text
pub good_on_lines : good_stand_on_lines
good_on_lines input order text =
    let lines = text_lines text in
    let numbered = lines_are_numbered 1 text in (
      ascend_from (bed_format (sorting_of order)) input 1 None lines numbered,
      within_from (bed_format (sorting_of order)) input (length lines) 1 None lines numbered (omega arith),
    )

pub first_have_first : first_lines_have_the_first
first_have_first input order count text past rest fault e up beyond = grind (arith, first_from, (lines_are_numbered 1 text))

pub good_blocks_non_empty : good_in_blocks_are_non_empty
good_blocks_non_empty input handed = grind (arith, non_empty_from)

pub good_blocks_on_lines : good_in_blocks_stand_on_lines
good_blocks_on_lines input text =
    let lines = text_lines text in
    let numbered = lines_are_numbered 1 text in (
      ascend_from block_format input 1 None lines numbered,
      within_from block_format input (length lines) 1 None lines numbered (omega arith),
    )

-- Lemmas on the entries of a genome file.

abbrev KeepsDistinct : List (List ℕ) → Good Entry → Type 0
KeepsDistinct names good = AreDistinct (names ++ genome_names (items_in good))

distinct_with : (input : Input) (line : TextLine) (names : List (List ℕ)) (rest : List (List ℕ) → Good Entry) → AreDistinct names → ((now : List (List ℕ)) → AreDistinct now → KeepsDistinct now (rest now))
    → (said : Result (Option Entry) Kind) → new_entry names (entry_of line.text) ≡ said → KeepsDistinct names (good_with genome_format input line.number names said rest)
distinct_with input line names rest d h (Err kind) was = grind (arith, append-nil)
distinct_with input line names rest d h (Ok None) was = h names d
distinct_with input line names rest d h (Ok (Some entry)) was =
    let more = h (names ++ entry.name ∷ []) (distinct_push names entry.name d (is_new names (entry_of line.text) entry was)) in
    grind (arith, append_assoc)

distinct_from : (input : Input) (names : List (List ℕ)) (lines : List TextLine) → AreDistinct names → KeepsDistinct names (good_after genome_format input names lines)
unfolding good_after
distinct_from input names [] d = grind (arith, append-nil)
distinct_from input names (line ∷ lines) d =
    distinct_with input line names (λ now. good_after genome_format input now lines) d (λ now fresh. distinct_from input now lines fresh) (new_entry names (entry_of line.text)) refl

-- no chromosome of a genome file comes twice
pub distinct_genome : genome_names_are_distinct
distinct_genome input lines entries e = grind (arith, (good genome_format input lines).fault, (distinct_from input [] lines tt))

-- if the fault, if there is one, lies after the first lines, these have none
faultless_from : (input : Input) (more count number : ℕ) (names : List (List ℕ)) (lines : List TextLine) → suc count ≡ number + more → AreNumbered number lines
    → IfSome (good_after genome_format input names lines).fault (IsFaultBeyond count) → (good_after genome_format input names (take more lines)).fault ≡ None
unfolding good_after
faultless_from input zero count number names lines size n beyond = refl
faultless_from input (suc more) count number names [] size n beyond = refl
faultless_from input (suc more) count number names (line ∷ lines) size n beyond =
    grind (arith, (new_entry names (entry_of line.text)), (λ (now : List (List ℕ)). faultless_from input more count (suc number) now lines (omega arith) n.1))

pub first_make_entries : first_lines_make_entries
first_make_entries input count text beyond =
    let none = faultless_from input count count 1 [] (text_lines text) (omega arith) (lines_are_numbered 1 text) (grind (arith, (good genome_format input (text_lines text)).fault)) in
    (items_in (good genome_format input (take count (text_lines text))), grind arith)

-- What a line says is said by its bytes, written anew.

-- a decimal digit is a digit and no tab
digits_pass : (ds : List ℕ) → AllDigits 10 ds → list_all is_ascii_digit ds ≡ true
digits_pass [] h = refl
digits_pass (c ∷ cs) h = grind (arith, (digit_from_value c), (digits_pass cs h.1))

-- ---- a number's text has digits alone

abbrev pub IsDigit : ℕ → Type 0
IsDigit c = (48 ≤ c) × (c ≤ 57)

glyph_is_digit : (d : ℕ) → d < 10 → IsDigit (digit_glyph false d)
glyph_is_digit d below = grind (arith, cond, (lt-ltb d 10 below))

onto_digits : (k n : ℕ) (acc : List ℕ) → AllByRecursion IsDigit acc → AllByRecursion IsDigit (digits_onto k 10 false n acc)
onto_digits zero n acc h = h
onto_digits (suc k) n acc h = grind (arith, (onto_digits k (n / 10) (digit_glyph false (n % 10) ∷ acc) ((glyph_is_digit (n % 10) (omega arith)), h)))

pub decimal_digits : (n : ℕ) → AllByRecursion IsDigit (decimal n)
unfolding digits
decimal_digits n = onto_digits 64 n [] tt

digits_inside : (ds : List ℕ) → AllByRecursion IsDigit ds → AllByRecursion IsInside ds
digits_inside [] h = tt
digits_inside (c ∷ cs) h = ((grind arith), digits_inside cs h.1)

pub number_column : (n : ℕ) → IsColumn (decimal n)
number_column n = All-from_recursion IsInside (decimal n) (digits_inside (decimal n) (decimal_digits n))

-- ---- a line

-- a name, two numbers, and what follows them
abbrev pub columns_text : List ℕ → ℕ → ℕ → List ℕ → List ℕ
columns_text chrom start stop tail = chrom ++ codes "\t" ++ decimal start ++ codes "\t" ++ decimal stop ++ tail

pub line_columns : (chrom : List ℕ) (start stop : ℕ) (tail : List ℕ) → IsName chrom → IsTrue (is_kept tail) → pieces 9 (columns_text chrom start stop tail) ≡ chrom ∷ decimal start ∷ decimal stop ∷ columns_in tail
line_columns chrom start stop tail named kept =
    let text : columns_text chrom start stop tail ≡ chrom ++ kept_columns (decimal start ∷ decimal stop ∷ columns_in tail) =
    ap (λ l. chrom ++ 9 ∷ [] ++ decimal start ++ 9 ∷ [] ++ decimal stop ++ l) (sym (kept_again tail kept)) ∙ simp append_assoc in
    ap (pieces 9) text ∙ kept_is_cut chrom (decimal start ∷ decimal stop ∷ columns_in tail) named.one_column (number_column start, (number_column stop, grind (arith, pieces_are_columns)))

pub said_feature : said_are_features
said_feature text f e = said_is_feature text f (record_said text f e).1

pub written_feature : written_are_read
unfolding value_of
written_feature f is header = grind (arith, columns_of_line, line_columns, decimal_is_IsNumeral, digits_pass, kept_again)

-- what follows a tab doesn't change the first word
pub until_tab : (chrom tail : List ℕ) → first_word (chrom ++ 9 ∷ tail) ≡ first_word chrom
until_tab [] tail = refl
until_tab (byte ∷ chrom) tail = grind (arith, (of_word byte (chrom ++ 9 ∷ tail) (ends_word byte) refl), (until_tab chrom tail), (of_word byte chrom (ends_word byte) refl))

pub rewritten_feature : read_are_rewritten
rewritten_feature text f e = grind (arith, (record_said text f e), written_feature, said_is_feature, append_assoc, header_before_tab, said_stands)

-- Lemmas on what is written early of two inputs.

module _ {A : Type 0} where
  begin_at : (early late : Rule A) (a : A) (members more : List A) (d : Bool) → early.decided a ≡ d → StaysDecided early late a
      → (rest : List ℕ) × (written late (members ++ more) ≡ written early members ++ rest)
      → (rest : List ℕ) × (written late (a ∷ members ++ more) ≡ written early (a ∷ members) ++ rest)
  begin_at early late a members more true e stays rest =
      let now = stays e in (
        rest.0,
        written_at late a (members ++ more) true now.0
            ∙ ap (λ l. l ++ written late (members ++ more)) (sym now.1)
            ∙ ap (λ l. early.lines a ++ l) rest.1
            ∙ sym (append_assoc (early.lines a) (written early members) rest.0)
            ∙ ap (λ l. l ++ rest.0) (sym (written_at early a members true e)),
      )
  begin_at early late a members more false e stays rest =
      (written late (a ∷ members ++ more), ap (λ l. l ++ written late (a ∷ members ++ more)) (sym (written_at early a members false e)))

  begins : (early late : Rule A) (members more : List A) → AllByRecursion (StaysDecided early late) members
      → (rest : List ℕ) × (written late (members ++ more) ≡ written early members ++ rest)
  begins early late [] more stays = (written late more, refl)
  begins early late (a ∷ members) more stays = begin_at early late a members more (early.decided a) refl stays.0 (begins early late members more stays.1)

  pub written_begins : (early late : Rule A) (members more : List A) (fault : Option FaultValue) → AllByRecursion (StaysDecided early late) members
      → (rest : List ℕ) × ((join_report late (members ++ more) fault).output ≡ written early members ++ rest)
  written_begins early late members more fault stays = grind (arith, (begins early late members more stays), (met_output late (members ++ more) fault))

-- The order of names by their bytes: which of two names comes first.

-- equal first bytes leave the others to decide
same_first : (byte : ℕ) (left right : List ℕ) → byte_order.compare (byte ∷ left) (byte ∷ right) ≡ byte_order.compare left right
same_first byte left right = grind arith

pub prefix_first : prefixes_come_first
prefix_first [] byte rest = refl
prefix_first (b ∷ name) byte rest = grind (arith, same_first, (prefix_first name byte rest))

pub difference_decides : first_difference_decides
difference_decides [] low high left right less = grind arith
difference_decides (b ∷ front) low high left right less = grind (arith, (difference_decides front low high left right less))

pub know_each : bytes_know_each_chromosome
know_each kind of_bed is = grind arith

-- Lemmas on the bases of intervals.

-- the shared bases are the common ones
pub common_bases : shared_are_common
common_bases a b chrom p = grind arith

pub one_list : stretches_are_one
one_list test xs ys a b = stretches_are_same (λ p. IsTrue (test p)) xs ys a b

-- Lemmas on contiguous records, and on records in a total order of their chromosomes.

has_records-push : (name : List ℕ) (xs : List Interval) (r : Interval) → has_records name xs ≡ false → bytes_eq r.chrom name ≡ false → has_records name (xs ++ r ∷ []) ≡ false
has_records-push name [] r f g = or_from (bytes_eq r.chrom name) false g refl
has_records-push name (x ∷ xs) r f g = grind (arith, (has_records-push name xs r (or_parts (bytes_eq x.chrom name) (has_records name xs) f).1 g))

-- the next of a past in order: what the last record asks of it, it asks of all
grows_from : (q : Interval) (qs : List Interval) (r : Interval) → AreContiguous (q ∷ qs) → ((r.chrom ≡ (last_from q qs).chrom) × ((last_from q qs).start ≤ r.start)) ⊎ (has_records r.chrom (q ∷ qs) ≡ false) → AreContiguous (q ∷ qs ++ r ∷ [])
grows_from q [] r t next = grind (arith, name_ne-sym)
grows_from q (s ∷ ss) r t next =
    let later : ((r.chrom ≡ (last_from s ss).chrom) × ((last_from s ss).start ≤ r.start)) ⊎ (has_records r.chrom (s ∷ ss) ≡ false) = elim next [
      | inl same ↦ inl same
      | inr new ↦ inr (or_parts (bytes_eq q.chrom r.chrom) (has_records r.chrom (s ∷ ss)) new).1
    ] in
    grind (arith, (grows_from s ss r t.1 later), has_records-push, name_ne, has_records-last, name_ne-sym, or_parts)

pub grows_contiguous : contiguous_grows
grows_contiguous = grind (arith, grows_from)
