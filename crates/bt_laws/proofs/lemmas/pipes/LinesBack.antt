-- Lines and numbers have no line feed.
use Rattle.bt_lines.proofs.Std.{common_steps, rules, ◌≡◌, ℕ, Bool, true, false, List, [], ◌∷◌, ◌++◌, refl, sym, subst, eqb, suc, ◌<◌, ◌≤◌, cond, arith, decimal, AllByRecursion, ends_with_byte, strip_last, All-append, All-cons, All-head, All-tail, All-nil, length, Option, Some, None, Ok, ap, ◌∙◌, append_assoc, append-nil, IsTrue, decimal_is_IsNumeral, get_or-append-add, length-append, Err, map, filter, flat_map, flat_map-map, Result, join_with_byte, join_with_byte-slice_split}
use Rattle.bt_lines.specs.calls.Line.{NoLineFeed}
use Rattle.bt_lines.specs.model.Lines.{TextLine, last_line, lines_from, whole_lines_from, text_lines, Handed, lines_handed, pieces, value_of}
use Rattle.bt_lines.proofs.lemmas.reader.lines.TextLemmas.{lines_from-fed, lines_from-last, by_lines, whole_lines_from-fed, whole_lines_from-last, lines_from-nil}
use Rattle.bt_runs.proofs.lemmas.Lists.{all_so, all_any, all_map, map_map, flat_map_same}
use Rattle.bt_bed.specs.model.Feature.{Feature, interval_of, intervals_of, Interval}
use Rattle.bt_bed.specs.model.BedLine.{says_nothing, record_of, strand_of}
use Rattle.bt_bed.specs.calls.Features.{IsName, columns_in, is_kept, IsFeature}
use Rattle.bt_bed.proofs.lemmas.parse.FeatureLemmas.{header_says, record_said, said_is_feature, said_stands, pieces_are_columns}
use Rattle.bt_laws.proofs.lemmas.single.Records.{written_feature, until_tab, IsDigit, decimal_digits, columns_text}
use Rattle.bt_lines.specs.declared.fault.Input.{Input}
use Rattle.bt_bed.specs.model.Good.{Good, good, good_after, items_in, bed_format, line_says, locus_at, bed_good}
use Rattle.bt_bed.specs.model.Sorted.{Locus, falls_in, sorting_of}
use Rattle.bt_bed.specs.calls.Orders.{ArePlaced, IsPlacedBefore, IsTotal}
use Rattle.bt_bed.specs.model.Order.{Order}
use Rattle.bt_runs.proofs.lemmas.order.FileOrder.{some_placed}
use Rattle.bt_laws.specs.Pipes.{IsInput, is_no_header}
use Rattle.bt_lines.specs.model.Fault.{FaultValue}
use Rattle.bt_bed.specs.model.Genome.{Entry, columns_give, entry_of, genome_format, genome_handed}
use Rattle.bt_bed.proofs.lemmas.Definitions.{line_said}
use Rattle.bt_laws.proofs.lemmas.parts.PartLines.{items_so}

pub clear_front : (xs ys : List ℕ) → NoLineFeed (xs ++ ys) → NoLineFeed xs
clear_front [] ys h = All-nil (λ b. eqb b 10 ≡ false)
clear_front (x ∷ xs) ys h = grind (arith, (clear_front xs ys (All-tail (λ b. eqb b 10 ≡ false) x (xs ++ ys) h)), All-head)

pub clear_back : (xs ys : List ℕ) → NoLineFeed (xs ++ ys) → NoLineFeed ys
clear_back [] ys h = h
clear_back (x ∷ xs) ys h = clear_back xs ys (All-tail (λ b. eqb b 10 ≡ false) x (xs ++ ys) h)

pub clear_both : (xs ys : List ℕ) → NoLineFeed xs → NoLineFeed ys → NoLineFeed (xs ++ ys)
clear_both xs ys h k = All-append (λ b. eqb b 10 ≡ false) xs ys h k

pub clear_tab : (xs : List ℕ) → NoLineFeed xs → NoLineFeed (9 ∷ xs)
clear_tab xs h = grind (arith, All-cons)

pub clear_strip : (byte : ℕ) (xs : List ℕ) → NoLineFeed xs → NoLineFeed (strip_last byte xs)
clear_strip byte xs h = grind (arith, common_steps)

abbrev pub AreClear : List TextLine → Type 0
AreClear lines = AllByRecursion (λ line. NoLineFeed line.text) lines

clear_last : (n : ℕ) (piece : List ℕ) → NoLineFeed piece → AreClear (last_line n piece)
clear_last n [] h = tt
clear_last n (byte ∷ bytes) h = (clear_strip 13 (byte ∷ bytes) h, tt)

-- so it is of each line of a text
pub clear_lines : (n : ℕ) (bytes : List ℕ) → AreClear (lines_from n bytes)
clear_lines n bytes = by_lines (λ n bytes. AreClear (lines_from n bytes))
    (λ n piece clear. subst AreClear (sym (lines_from-last n piece clear)) (clear_last n piece clear))
    (λ n piece rest clear is. subst AreClear (sym (lines_from-fed n piece rest clear)) (clear_strip 13 piece clear, is))
    n bytes

pub clear_whole : (n : ℕ) (bytes : List ℕ) → AreClear (whole_lines_from n bytes)
clear_whole n bytes = by_lines (λ n bytes. AreClear (whole_lines_from n bytes))
    (λ n piece clear. subst AreClear (sym (whole_lines_from-last n piece clear)) tt)
    (λ n piece rest clear is. subst AreClear (sym (whole_lines_from-fed n piece rest clear)) (clear_strip 13 piece clear, is))
    n bytes

-- ---- a number

pub clear_number : (n : ℕ) → NoLineFeed (decimal n)
clear_number n = grind (arith, common_steps, (decimal_digits n))

digits_none : (ds : List ℕ) → AllByRecursion IsDigit ds → AllByRecursion (λ b. eqb b 13 ≡ false) ds
digits_none [] h = tt
digits_none (c ∷ cs) h = ((grind arith), digits_none cs h.1)

-- no carriage return ends it, with a tab before it
pub strip_number : (n : ℕ) → strip_last 13 (9 ∷ decimal n) ≡ 9 ∷ decimal n
strip_number n = grind (arith, common_steps, (digits_none (decimal n) (decimal_digits n)))

pub strip_decimal : (n : ℕ) → strip_last 13 (decimal n) ≡ decimal n
strip_decimal n = grind (arith, common_steps, (digits_none (decimal n) (decimal_digits n)))

-- What a line says that begins with a name and two numbers.

-- ---- a byte at the end

pub ends_both : (byte : ℕ) (front back : List ℕ) → 0 < length back → ends_with_byte byte (front ++ back) ≡ ends_with_byte byte back
ends_both byte front back some = grind (arith, length-append, get_or-append-add)

pub strip_both : (byte : ℕ) (front back : List ℕ) → 0 < length back → strip_last byte (front ++ back) ≡ front ++ strip_last byte back
strip_both byte front back some = grind (arith, common_steps)

-- ---- digits

-- ---- the first word

pub header_of_name : (chrom tail : List ℕ) → 0 < length chrom → says_nothing (chrom ++ 9 ∷ tail) ≡ says_nothing chrom
header_of_name [] tail some = absurd (omega arith)
header_of_name (byte ∷ chrom) tail some = grind (arith, (until_tab (byte ∷ chrom) tail))

-- ---- a line

-- the record of these columns
abbrev pub record_with : List ℕ → ℕ → ℕ → List ℕ → Feature
record_with chrom start stop tail = record { chrom = chrom; start = start; stop = stop; strand = strand_of (columns_in tail); rest = tail }

abbrev pub unless_header : List ℕ → Feature → Option Feature
unless_header chrom r = cond (says_nothing chrom) None (Some r)

module _ (chrom : List ℕ) (start stop : ℕ) (named : IsName chrom) (below : start < stop) (small : stop ≤ 999999999999) where
  pub name_first : (tail : List ℕ) → columns_text chrom start stop tail ≡ chrom ++ 9 ∷ (decimal start ++ 9 ∷ (decimal stop ++ tail))
  name_first tail = simp append_assoc

  header_first : (tail : List ℕ) → says_nothing (columns_text chrom start stop tail) ≡ says_nothing chrom
  header_first tail = grind (arith, name_first, header_of_name)

  first_says : (tail : List ℕ) (b : Bool) → says_nothing chrom ≡ b → IsTrue (is_kept tail) → record_of (columns_text chrom start stop tail) ≡ Ok (cond b None (Some (record_with chrom start stop tail)))
  first_says tail true e kept = grind (arith, header_says, header_first)
  first_says tail false e kept =
      written_feature (record_with chrom start stop tail) (record { named = named; non_empty = below; in_range = small; kept = kept; stranded = refl })
      (header_first tail ∙ e)

  pub strip_columns : (tail : List ℕ) → strip_last 13 (columns_text chrom start stop tail) ≡ columns_text chrom start stop (strip_last 13 tail)
  strip_columns [] = grind (arith, strip_both, decimal_is_IsNumeral, append-nil, strip_decimal)
  strip_columns (byte ∷ bytes) = grind (arith, strip_both)

  -- what is kept of what follows is empty, or begins with a tab
  pub kept_by : (tail : List ℕ) (b : Bool) → ends_with_byte 13 tail ≡ b → IsTrue (is_kept tail) → (some : List ℕ) → strip_last 13 tail ≡ some → IsTrue (is_kept some)
  kept_by tail b e kept some is = grind arith

  pub tail_clear : (tail : List ℕ) → NoLineFeed chrom → NoLineFeed tail → NoLineFeed (columns_text chrom start stop tail)
  tail_clear tail clear behind = grind (arith, (name_first tail), clear_both, (clear_number start), (clear_tab (decimal stop ++ tail) (clear_both (decimal stop) tail (clear_number stop) behind)))

-- Lines of known records are an input without a fault.

-- the record that is said, if there is one
abbrev pub some_said : Option Feature → List Feature
some_said None = []
some_said (Some r) = r ∷ []

module _ (order : Order) (total : IsTotal order) where
  -- the records follow the last place in order
  abbrev pub Follow : Option Locus → List Feature → Type 0
  Follow last [] = Unit {0}
  Follow last (r ∷ rs) = IsTrue (order.knows r.chrom) × (falls_in (sorting_of order) last (locus_at r) ≡ false) × Follow (Some (locus_at r)) rs

  placed_behind : (r : Feature) (rs : List Feature) → IsTrue (order.knows r.chrom) → IsPlacedBefore order (interval_of r) (intervals_of rs) → ArePlaced order (intervals_of rs) → Follow (Some (locus_at r)) rs
  placed_behind r [] known before placed = tt
  placed_behind r (s ∷ ss) known before placed = (placed.0, search rules, placed_behind s ss placed.0 placed.1 placed.2)

  pub placed_follow : (rs : List Feature) → ArePlaced order (intervals_of rs) → Follow None rs
  placed_follow [] placed = tt
  placed_follow (r ∷ rs) placed = grind (arith, placed_behind)

  module _ {X : Type 0} (text : X → List ℕ) (said : X → Option Feature) where
    -- the line of x has no line feed, and says what it is to say
    pub record SaysLine (x : X) : Type 0 where
      pub clear : NoLineFeed (text x)
      pub says : record_of (strip_last 13 (text x)) ≡ Ok (said x)

    abbrev pub line_for : X → List ℕ
    line_for x = text x ++ 10 ∷ []

    abbrev pub said_of : List X → List Feature
    said_of xs = flat_map (λ x. some_said (said x)) xs

    pub record IsGood (rs : List Feature) (g : Good Feature) : Type 0 where
      pub items : items_in g ≡ rs
      pub faultless : g.fault ≡ None

    module _ (input : Input) where
      good_written : (n : ℕ) (last : Option Locus) (xs : List X) → AllByRecursion SaysLine xs → Follow last (said_of xs)
          → IsGood (said_of xs) (good_after (bed_format (sorting_of order)) input last (lines_from n (flat_map line_for xs)))
      unfolding good_after line_says
      good_written n last [] says follow = grind (arith, (lines_from-nil n))
      good_written n last (x ∷ xs) says follow =
          grind (
            arith,
            (append_assoc (text x) (10 ∷ []) (flat_map line_for xs)),
            (lines_from-fed n (text x) (flat_map line_for xs) says.0.clear),
            (says.0.says),
            (said x),
            (λ (now : Option Locus). good_written (suc n) now xs says.1),
          )

      -- what is good of these lines
      pub good_lines : (xs : List X) → AllByRecursion SaysLine xs → ArePlaced order (intervals_of (said_of xs))
          → IsGood (said_of xs) (good (bed_format (sorting_of order)) input (text_lines (flat_map line_for xs)))
      good_lines xs says placed = good_written 1 None xs says (placed_follow (said_of xs) placed)

-- ---- lines of a name, two numbers and what follows them

-- a line: where it lies, and what follows the three columns
pub record Columns : Type 0 where
  pub at : Interval
  pub tail : List ℕ

-- such as the commands write
pub record IsColumns (line : Columns) : Type 0 where
  pub named : IsName line.at.chrom
  pub clear : NoLineFeed line.at.chrom
  pub below : line.at.start < line.at.stop
  pub small : line.at.stop ≤ 999999999999
  pub kept : IsTrue (is_kept line.tail)
  pub clear_tail : NoLineFeed line.tail

abbrev pub text_of_columns : Columns → List ℕ
text_of_columns line = columns_text line.at.chrom line.at.start line.at.stop line.tail

-- the record that is read of it
abbrev pub record_back : Columns → Feature
record_back line = record_with line.at.chrom line.at.start line.at.stop (strip_last 13 line.tail)

abbrev pub said_back : Columns → Option Feature
said_back line = unless_header line.at.chrom (record_back line)

said_are : (lines : List Columns) → flat_map (λ line. some_said (said_back line)) lines ≡ filter is_no_header (map record_back lines)
said_are [] = refl
said_are (line ∷ lines) = grind (arith, (said_are lines))

pub placed_known : (order : Order) (rs : List Interval) → ArePlaced order rs → AllByRecursion (λ (r : Interval). IsTrue (order.knows r.chrom)) rs
placed_known order [] placed = tt
placed_known order (r ∷ rs) placed = (placed.0, placed_known order rs placed.2)

module _ (order : Order) (total : IsTotal order) where
  says_columns : (line : Columns) → IsColumns line → SaysLine order total text_of_columns said_back line
  says_columns line is = grind (arith, tail_clear, common_steps, strip_columns, first_says)

  -- their lines are an input, whose records are those that no header word hides
  pub lines_back : (lines : List Columns) → AllByRecursion IsColumns lines → ArePlaced order (map (λ line. line.at) lines)
      → IsInput order (flat_map (λ line. text_of_columns line ++ 10 ∷ []) lines) (filter is_no_header (map record_back lines))
  lines_back lines are placed =
      let says = all_so IsColumns (SaysLine order total text_of_columns said_back) lines says_columns are in
      let here : ArePlaced order (intervals_of (filter is_no_header (map record_back lines))) = some_placed order total is_no_header (map record_back lines) (subst (ArePlaced order) (sym (map_map record_back interval_of (λ line. line.at) lines (all_any _ lines (λ line. refl)))) placed) in
      let text = flat_map (λ line. text_of_columns line ++ 10 ∷ []) lines in
      let is : (input : Input) → IsGood order total text_of_columns said_back (filter is_no_header (map record_back lines)) (good (bed_format (sorting_of order)) input (text_lines text)) = λ input.
      subst (λ rs. IsGood order total text_of_columns said_back rs (good (bed_format (sorting_of order)) input (text_lines text))) (said_are lines)
      (good_lines order total text_of_columns said_back input lines says (subst (λ rs. ArePlaced order (intervals_of rs)) (sym (said_are lines)) here)) in
      grind arith

  -- so are items that write such a line each
  pub written_back : {A : Type 0} (line : A → List ℕ) (columns : A → Columns) (back : A → Feature) (items : List A) → ((a : A) → line a ≡ text_of_columns (columns a) ++ 10 ∷ [])
      → AllByRecursion (λ a. record_back (columns a) ≡ back a) items → AllByRecursion (λ a. IsColumns (columns a)) items → ArePlaced order (map (λ a. (columns a).at) items)
      → IsInput order (flat_map line items) (filter is_no_header (map back items))
  written_back line columns back items as_line as_read are placed = grind (arith, flat_map-map, flat_map_same, (all_any _ items as_line), (map_map columns record_back back items as_read), lines_back, (all_map IsColumns columns items are), map_map, all_any)

-- What is known of each good record of an input, and of each chromosome of a genome file.

-- a record that a line said, which was no header line and had no line feed
pub record IsSaid (r : Feature) : Type 0 where
  pub feature : IsFeature r
  pub no_header : says_nothing r.chrom ≡ false
  pub clear_name : NoLineFeed r.chrom
  pub clear_rest : NoLineFeed r.rest

pub line_is_said : (text : List ℕ) (r : Feature) → NoLineFeed text → record_of text ≡ Ok (Some r) → IsSaid r
line_is_said text r clear e =
    let said = record_said text r e in
    let stands = said_stands text r said.1 in
    let feature = said_is_feature text r said.1 in
    let split : text ≡ r.chrom ++ 9 ∷ (stands.0 ++ r.rest) = stands.1 ∙ simp append_assoc in
    record {
      feature = feature;
      no_header = sym (header_of_name r.chrom (stands.0 ++ r.rest) feature.named.some) ∙ ap says_nothing (sym split) ∙ said.0;
      clear_name = clear_front r.chrom (9 ∷ (stands.0 ++ r.rest)) (subst NoLineFeed split clear);
      clear_rest = clear_back (r.chrom ++ 9 ∷ stands.0) r.rest (subst NoLineFeed stands.1 clear);
    }

pub clear_handed : (handed : Handed) → AreClear (lines_handed handed)
clear_handed handed = grind (arith, clear_whole, clear_lines)

pub good_are_said : (input : Input) (order : Order) (handed : Handed) → AllByRecursion IsSaid (items_in (bed_good input order handed))
good_are_said input order handed =
    items_so (bed_format (sorting_of order)) input IsSaid None (lines_handed handed)
    (all_so _ _ (lines_handed handed) (λ line clear last r e. line_is_said line.text r clear (line_said (sorting_of order) last line.text r e).says) (clear_handed handed))

-- ---- chromosomes of a genome file

pub record IsChrom (entry : Entry) : Type 0 where
  pub named : IsName entry.name
  pub clear : NoLineFeed entry.name
  pub some : 0 < entry.length
  pub small : entry.length ≤ 999999999999

columns_said : (text : List ℕ) (columns : List (List ℕ)) (entry : Entry) → NoLineFeed text → pieces 9 text ≡ columns → columns_give columns ≡ Ok entry → IsChrom entry
unfolding value_of
columns_said text [] entry clear cut e = cc
columns_said text (name ∷ []) entry clear cut e = cc
columns_said text (name ∷ size ∷ rest) entry clear cut e = grind (arith, (join_with_byte-slice_split 9 text), (pieces_are_columns text), (clear_front name (9 ∷ join_with_byte 9 (size ∷ rest))))

line_is_chrom : (text : List ℕ) (entry : Entry) → NoLineFeed text → entry_of text ≡ Ok (Some entry) → IsChrom entry
unfolding entry_of
line_is_chrom text entry clear e = columns_said text (pieces 9 text) entry clear refl (grind arith)

chroms_from : (input : Input) (names : List (List ℕ)) (lines : List TextLine) → AreClear lines → AllByRecursion IsChrom (items_in (good_after genome_format input names lines))
unfolding good_after
chroms_from input names [] clear = tt
chroms_from input names (line ∷ lines) clear =
    grind (arith, (entry_of line.text), line_is_chrom, (λ (now : List (List ℕ)). chroms_from input now lines clear.1))

pub genome_chroms : (input : Input) (handed : Handed) (entries : List Entry) → genome_handed input handed ≡ Ok entries → AllByRecursion IsChrom entries
genome_chroms input handed entries e = grind (arith, chroms_from, clear_handed, (good genome_format input (lines_handed handed)).fault)
