-- The names of a text that was surveyed are names that a genome file can have.
use Rattle.bt_lines.proofs.Std.{arith, ◌≡◌, ℕ, suc, ◌<◌, ◌==◌, Bool, true, false, List, [], ◌∷◌, ◌++◌, Option, Some, None, Result, Ok, Err, All, All-take, ap, append_assoc, bytes_eq, cond, eqb, inl, inr, length, or_cases, or_left, or_parts, or_right, refl, strip_last, subst, sym, take-append_seam, ◌∙◌, ◌||◌}
use Rattle.std.specs.List.{AllByRecursion}
use Rattle.std.specs.Io.BufRead.{ends_with_byte}
use Rattle.bt_lines.specs.model.Lines.{TextLine, lines_from, numbered, pieces, text_lines}
use Rattle.bt_lines.specs.calls.Line.{NoLineFeed}
use Rattle.bt_lines.specs.declared.fault.Input.TheVariants.{First}
use Rattle.bt_lines.specs.declared.fault.Kind.{Kind}
use Rattle.bt_bed.specs.model.BedLine.{says_nothing, record_of}
use Rattle.bt_bed.specs.model.Feature.{Feature, intervals_of}
use Rattle.bt_bed.specs.model.Genome.{is_skipped}
use Rattle.bt_bed.specs.model.Good.{Good, block_format, good_after, good_with, in_order, items_in, line_says, locus_at, said_after}
use Rattle.bt_bed.specs.model.Order.{is_among}
use Rattle.bt_bed.specs.model.Sorted.{Locus, block_sorting, falls_in}
use Rattle.bt_bed.proofs.lemmas.parse.FeatureLemmas.{record_said, said_is_feature, said_stands}
use Rattle.bt_bed.proofs.lemmas.parse.NameLemmas.{name_eq, same_name}
use Rattle.bt_front.specs.calls.OrderText.{AreLineNames, IsLineName}
use Rattle.bt_front.specs.model.Survey.{chroms_of, distinct, read_of, without}

-- Lines have no line feed.

feeds_more : (byte : ℕ) (bytes : List ℕ) (b : Bool) → eqb byte 10 ≡ b → AllByRecursion NoLineFeed (pieces 10 bytes)
    → AllByRecursion NoLineFeed (pieces 10 (byte ∷ bytes))
feeds_more byte bytes b e h = grind arith

pieces_are_clear : (text : List ℕ) → AllByRecursion NoLineFeed (pieces 10 text)
pieces_are_clear [] = ((λ k d l. absurd (omega arith)), tt)
pieces_are_clear (byte ∷ bytes) = feeds_more byte bytes (eqb byte 10) refl (pieces_are_clear bytes)

abbrev AreClear : List TextLine → Type 0
AreClear [] = Unit {0}
AreClear (line ∷ lines) = NoLineFeed line.text × AreClear lines

strip_by : (b : Bool) (piece short : List ℕ) → NoLineFeed piece → NoLineFeed short → NoLineFeed (cond b short piece)
strip_by true piece short long less = less
strip_by false piece short long less = long

strip_clear : (piece : List ℕ) → NoLineFeed piece → NoLineFeed (strip_last 13 piece)
strip_clear piece clear =
    strip_by (ends_with_byte 13 piece) piece _ clear (All-take (λ byte. (byte == 10) ≡ false) _ piece clear)

lines_clear : (n : ℕ) (pieces : List (List ℕ)) → AllByRecursion NoLineFeed pieces → AreClear (numbered n pieces)
lines_clear n [] clear = tt
lines_clear n ([] ∷ []) clear = tt
lines_clear n ((byte ∷ bytes) ∷ []) clear = (strip_clear (byte ∷ bytes) clear.0, tt)
lines_clear n (piece ∷ next ∷ rest) clear = (strip_clear piece clear.0, lines_clear (suc n) (next ∷ rest) clear.1)

text_clear : (text : List ℕ) → AreClear (text_lines text)
unfolding lines_from
text_clear text = lines_clear 1 (pieces 10 text) (pieces_are_clear text)

-- The name of a record.

no_comment_by : (chrom more text : List ℕ) → 0 < length chrom → text ≡ chrom ++ more → says_nothing text ≡ false → is_skipped chrom ≡ false
no_comment_by [] more text some whole plain = absurd (omega arith)
no_comment_by (byte ∷ bytes) more text some whole plain = (or_parts (byte == 35) _ (ap says_nothing (sym whole) ∙ plain)).0

line_name : (text : List ℕ) (f : Feature) → NoLineFeed text → record_of text ≡ Ok (Some f) → IsLineName f.chrom
line_name text f clear e =
    let said = record_said text f e in
    let stands = said_stands text f said.1 in
    let feature = said_is_feature text f said.1 in
    let whole : text ≡ f.chrom ++ ((9 ∷ stands.0) ++ f.rest) = stands.1 ∙ append_assoc f.chrom (9 ∷ stands.0) f.rest in
    let front = All-take (λ byte. (byte == 10) ≡ false) (length f.chrom) (f.chrom ++ ((9 ∷ stands.0) ++ f.rest))
    (subst NoLineFeed whole clear) in
    record {
      column = feature.named;
      line = subst NoLineFeed (take-append_seam f.chrom ((9 ∷ stands.0) ++ f.rest)) front;
      no_comment = no_comment_by f.chrom ((9 ∷ stands.0) ++ f.rest) text feature.named.some whole said.0;
    }

abbrev names_good : Good Feature → List (List ℕ)
names_good good = chroms_of (intervals_of (items_in good))

module _ (number : ℕ) (last : Option Locus) (rest : Option Locus → Good Feature) (all : (now : Option Locus) → AreLineNames (names_good (rest now))) where
  with_record : (r : Feature) (falls : Bool) → falls_in block_sorting last (locus_at r) ≡ falls → IsLineName r.chrom
      → AreLineNames (names_good (good_with block_format First number last (in_order block_sorting last r) rest))
  with_record r true e is = rw e tt
  with_record r false e is = rw e (is, all (Some (locus_at r)))

  with_said : (said : Result (Option Feature) Kind) → ((r : Feature) → said ≡ Ok (Some r) → IsLineName r.chrom)
      → AreLineNames (names_good (good_with block_format First number last (said_after block_sorting last said) rest))
  with_said (Err kind) is = tt
  with_said (Ok None) is = all last
  with_said (Ok (Some r)) is = with_record r (falls_in block_sorting last (locus_at r)) refl (is r refl)

names_of_lines : (lines : List TextLine) → AreClear lines → (last : Option Locus) → AreLineNames (names_good (good_after block_format First last lines))
unfolding good_after line_says
names_of_lines [] clear last = tt
names_of_lines (line ∷ lines) clear last =
    with_said line.number last (λ now. good_after block_format First now lines) (λ now. names_of_lines lines clear.1 now)
    (record_of line.text) (λ r e. line_name line.text r clear.0 e)

-- Each once, and of both inputs.

named_by : (b : Bool) (m n : List ℕ) (among : Bool) → bytes_eq m n ≡ b → (b || among) ≡ true → IsLineName m → (among ≡ true → IsLineName n)
    → IsLineName n
named_by true m n among same e is more = subst IsLineName (same_name m n same) is
named_by false m n among same e is more = more e

named_among : (ns : List (List ℕ)) (n : List ℕ) → AreLineNames ns → is_among ns n ≡ true → IsLineName n
named_among [] n are e = absurd (cc)
named_among (m ∷ ms) n are e = named_by (bytes_eq m n) m n (is_among ms n) refl e are.0 (named_among ms n are.1)

all_named : (ns : List (List ℕ)) → ((n : List ℕ) → is_among ns n ≡ true → IsLineName n) → AreLineNames ns
all_named [] each = tt
all_named (n ∷ ns) each =
    (each n (or_left (bytes_eq n n) (is_among ns n) (name_eq n n refl)), all_named ns (λ m e. each m (or_right (bytes_eq n m) (is_among ns m) e)))

-- names that are all among those of two inputs
pub both_named : (first second names : List (List ℕ)) → AreLineNames first → AreLineNames second
    → ((n : List ℕ) → is_among names n ≡ (is_among first n || is_among second n)) → AreLineNames names
both_named first second names one two same =
    all_named names (λ n e. elim (or_cases (is_among first n) (is_among second n) (sym (same n) ∙ e)) [
      | inl among ↦ named_among first n one among
      | inr among ↦ named_among second n two among
    ])

without_by : (b : Bool) (c n : List ℕ) (ns : List (List ℕ)) → bytes_eq n c ≡ b → IsLineName n → AreLineNames (without c ns) → AreLineNames (without c (n ∷ ns))
without_by true c n ns e is are = rw e are
without_by false c n ns e is are = rw e (is, are)

without_named : (c : List ℕ) (ns : List (List ℕ)) → AreLineNames ns → AreLineNames (without c ns)
without_named c [] are = tt
without_named c (n ∷ ns) are = without_by (bytes_eq n c) c n ns refl are.0 (without_named c ns are.1)

distinct_named : (ns : List (List ℕ)) → AreLineNames ns → AreLineNames (distinct ns)
distinct_named [] are = tt
distinct_named (n ∷ ns) are = (are.0, without_named n (distinct ns) (distinct_named ns are.1))

-- the chromosomes of a text have such names
pub names_of_text : (text : List ℕ) → AreLineNames (distinct (chroms_of (intervals_of (items_in (read_of text)))))
names_of_text text =
    distinct_named (chroms_of (intervals_of (items_in (read_of text)))) (names_of_lines (text_lines text) (text_clear text) None)
