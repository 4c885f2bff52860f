-- Lines of two concatenated texts, of which the first is empty or ends with a line feed, and what is good of them.
use Rattle.bt_lines.proofs.Std.{arith, ◌≡◌, ℕ, suc, false, List, [], ◌∷◌, ◌++◌, refl, sym, ap, ◌∙◌, append-nil, append_assoc, eqb, IsTrue, All-head, All-tail, Option, Some, None, Ok, is_none, AllByRecursion, map-append, rules, flat_map}
use Rattle.bt_lines.specs.model.Lines.{TextLine, fed_line, lines_from, numbered, pieces, text_lines}
use Rattle.bt_lines.specs.calls.Line.{NoLineFeed}
use Rattle.bt_lines.proofs.lemmas.reader.lines.TextLemmas.{lines_from-fed, lines_from-nil, by_lines}
use Rattle.bt_laws.specs.Parts.{StandsBefore, ends_line, ComeBefore, said_record, said_records}
use Rattle.bt_lines.specs.model.Fault.{FaultValue}
use Rattle.bt_lines.specs.declared.fault.Input.{Input}
use Rattle.bt_bed.specs.model.Good.{Format, Good, good, good_after, items_in, bed_format, line_says, locus_at}
use Rattle.std.specs.declared.cmp.Ordering.TheVariants.{Less}
use Rattle.bt_bed.specs.model.Feature.{Feature}
use Rattle.bt_bed.specs.model.BedLine.{record_of}
use Rattle.bt_bed.specs.model.Sorted.{Locus, sorting_of, Sorting}
use Rattle.bt_bed.specs.model.Order.{Order}
use Rattle.bt_bed.specs.calls.Orders.{IsTotal}
use Rattle.bt_bed.proofs.lemmas.Definitions.{line_said}
use Rattle.bt_runs.proofs.lemmas.Lists.{all_any, all_back, all_front, all_so}

-- lines that differ in their numbers alone
abbrev pub AreAlike : List TextLine → List TextLine → Type 0
AreAlike [] [] = Unit {0}
AreAlike [] (m ∷ ms) = ⊥
AreAlike (l ∷ ls) [] = ⊥
AreAlike (l ∷ ls) (m ∷ ms) = (l.text ≡ m.text) × (l.ending ≡ m.ending) × AreAlike ls ms

alike_numbered : (n m : ℕ) (parts : List (List ℕ)) → AreAlike (numbered n parts) (numbered m parts)
alike_numbered n m [] = tt
alike_numbered n m (piece ∷ []) = grind arith
alike_numbered n m (piece ∷ next ∷ rest) = (refl, refl, alike_numbered (suc n) (suc m) (next ∷ rest))

pub alike_lines : (n m : ℕ) (bytes : List ℕ) → AreAlike (lines_from n bytes) (lines_from m bytes)
unfolding lines_from
alike_lines n m bytes = alike_numbered n m (pieces 10 bytes)

no_feed_ends : (piece : List ℕ) → NoLineFeed piece → IsTrue (ends_line piece) → piece ≡ []
no_feed_ends [] clear e = refl
no_feed_ends (byte ∷ []) clear e = grind (arith, All-head)
no_feed_ends (byte ∷ next ∷ bytes) clear e = grind (arith, (no_feed_ends (next ∷ bytes) (All-tail (λ (b : ℕ). eqb b 10 ≡ false) byte (next ∷ bytes) clear) e))

ends_behind : (piece rest : List ℕ) → IsTrue (ends_line (piece ++ 10 ∷ rest)) → IsTrue (ends_line rest)
ends_behind [] [] e = refl
ends_behind [] (byte ∷ bytes) e = e
ends_behind (byte ∷ []) rest e = ends_behind [] rest e
ends_behind (byte ∷ next ∷ bytes) rest e = ends_behind (next ∷ bytes) rest e

-- after a text that ends with a line feed
lines_fed : (n : ℕ) (one two : List ℕ) → IsTrue (ends_line one) → (k : ℕ) × (lines_from n (one ++ two) ≡ lines_from n one ++ lines_from k two)
lines_fed n one two = by_lines (λ n bytes. IsTrue (ends_line bytes) → (k : ℕ) × (lines_from n (bytes ++ two) ≡ lines_from n bytes ++ lines_from k two))
    (λ n piece clear e.
    let none = no_feed_ends piece clear e in
    (n, ap (λ p. lines_from n (p ++ two)) none ∙ ap (λ ls. ls ++ lines_from n two) (sym (ap (lines_from n) none ∙ lines_from-nil n))))
    (λ n piece rest clear is e.
    let more = is (ends_behind piece rest e) in (
      more.0,
      ap (lines_from n) (append_assoc piece (10 ∷ rest) two)
          ∙ lines_from-fed n piece (rest ++ two) clear
          ∙ ap (λ ls. fed_line n piece ∷ ls) more.1
          ∙ ap (λ ls. ls ++ lines_from more.0 two) (sym (lines_from-fed n piece rest clear)),
    ))
    n one

-- the lines of the first text, then those of the other, numbered from some number on
pub lines_join : (n : ℕ) (one two : List ℕ) → StandsBefore one two → (k : ℕ) × (lines_from n (one ++ two) ≡ lines_from n one ++ lines_from k two)
lines_join n one two p1 = grind (arith, lines_fed, append-nil, lines_from-nil)

-- What is good of two concatenated texts.

-- the same items, and a fault in both or in neither
pub record IsLike {A : Type 0} (g h : Good A) : Type 0 where
  pub items : items_in g ≡ items_in h
  pub fault : is_none g.fault ≡ is_none h.fault

-- what is good of lines, followed by this
abbrev pub put_on : {A : Type 0} → Option FaultValue → Good A → Good A → Good A
put_on None g h = record { members = g.members ++ h.members; fault = h.fault }
put_on (Some fault) g h = g

abbrev pub IsJointBy : {A : Type 0} → Option FaultValue → Good A → Good A → Good A → Type 0
IsJointBy None one two whole = (items_in whole ≡ items_in one ++ items_in two) × (is_none whole.fault ≡ is_none two.fault)
IsJointBy (Some fault) one two whole = (items_in whole ≡ items_in one) × (is_none whole.fault ≡ false)

-- what is good of a whole text, by what is good of its two parts
abbrev pub IsJoint : {A : Type 0} → Good A → Good A → Good A → Type 0
IsJoint one two whole = IsJointBy one.fault one two whole

module _ {A State : Type 0} (format : Format A State) where
  -- a line's number changes nothing of what it says
  abbrev pub IsNumberless : Type 0
  IsNumberless = (state : State) (l m : TextLine) → l.text ≡ m.text → l.ending ≡ m.ending → format.says state l ≡ format.says state m

  pub like_from : (input : Input) (state : State) (ls ms : List TextLine) → IsNumberless → AreAlike ls ms → IsLike (good_after format input state ls) (good_after format input state ms)
  unfolding good_after
  like_from input state [] [] free alike = record { items = refl; fault = refl }
  like_from input state [] (m ∷ ms) free alike = absurd alike
  like_from input state (l ∷ ls) [] free alike = absurd alike
  like_from input state (l ∷ ls) (m ∷ ms) free alike =
      grind (arith, (free state l m alike.0 alike.1), (format.says state l), (λ (now : State). like_from input now ls ms free alike.2))

  -- what is known after members
  abbrev pub reached : State → List A → State
  reached state [] = state
  reached state (x ∷ xs) = reached (format.after state x) xs

  module _ (input : Input) where
    -- what is good of lines and of others after them
    pub go_from : (state : State) (ls ms : List TextLine) → good_after format input state (ls ++ ms)
        ≡ put_on (good_after format input state ls).fault (good_after format input state ls) (good_after format input (reached state (items_in (good_after format input state ls))) ms)
    unfolding good_after
    go_from state [] ms = refl
    go_from state (l ∷ ls) ms = grind (arith, (format.says state l), (λ (now : State). go_from now ls ms))

    -- of two texts, if what is good of the second is so after the members of the first
    pub good_joint : (one two : List ℕ) → StandsBefore one two → IsNumberless
        → ((n : ℕ) → good_after format input (reached format.begin (items_in (good format input (text_lines one)))) (lines_from n two) ≡ good_after format input format.begin (lines_from n two))
        → IsJoint (good format input (text_lines one)) (good format input (text_lines two)) (good format input (text_lines (one ++ two)))
    good_joint one two ends free is = grind (arith, (lines_join 1 one two ends), go_from, map-append, like_from, alike_lines)

    -- what holds of each member that a line says, holds of the good members
    module _ (Q : A → Type 0) where
      pub items_so : (state : State) (ls : List TextLine) → AllByRecursion (λ l. (now : State) (x : A) → format.says now l ≡ Ok (Some x) → Q x) ls → AllByRecursion Q (items_in (good_after format input state ls))
      unfolding good_after
      items_so state [] q = tt
      items_so state (l ∷ ls) q = grind (arith, (q.0 state), (format.says state l), (λ (now : State). items_so now ls q.1))

-- What is good of two concatenated texts of records.

all_parts : {A B : Type 0} (P : B → Type 0) (f : A → List B) (xs : List A) → AllByRecursion P (flat_map f xs) → AllByRecursion (λ x. AllByRecursion P (f x)) xs
all_parts P f [] h = tt
all_parts P f (x ∷ xs) h = (all_front P (f x) (flat_map f xs) h, all_parts P f xs (all_back P (f x) (flat_map f xs) h))

-- the records that lines say
abbrev pub records_on : List TextLine → List Feature
records_on lines = flat_map (λ line. said_record (record_of line.text)) lines

pub alike_records : (ls ms : List TextLine) → AreAlike ls ms → records_on ls ≡ records_on ms
alike_records [] [] h = refl
alike_records [] (m ∷ ms) h = absurd h
alike_records (l ∷ ls) [] h = absurd h
alike_records (l ∷ ls) (m ∷ ms) h = grind (arith, (alike_records ls ms h.2))

-- the members are among the records that the lines say, and their chromosomes are known
module _ (sorting : Sorting) (input : Input) (Q : Feature → Type 0) where
  abbrev IfKnown : Feature → Type 0
  IfKnown r = IsTrue (sorting.knows r.chrom) → Q r

  item_so : (line : TextLine) → AllByRecursion IfKnown (said_record (record_of line.text)) → (last : Option Locus) (r : Feature) → line_says sorting last line.text ≡ Ok (Some r) → Q r
  item_so line h last r e = grind (arith, (line_said sorting last line.text r e))

  pub items_all : (last : Option Locus) (lines : List TextLine) → AllByRecursion IfKnown (records_on lines) → AllByRecursion Q (items_in (good_after (bed_format sorting) input last lines))
  items_all last lines q = grind (arith, items_so, all_so, item_so, all_parts)

module _ (order : Order) (total : IsTotal order) where
  -- the name, if it is known, comes before the chromosomes of the records
  abbrev pub Leading : List ℕ → List Feature → Type 0
  Leading name records = AllByRecursion (λ s. IsTrue (order.knows name) → IsTrue (order.knows s.chrom) → order.compare name s.chrom ≡ Less) records

  module _ (input : Input) (last : Locus) (was : IsTrue (order.knows last.chrom)) where
    -- records on later chromosomes are as good as without those before
    pub fresh_from : (ms : List TextLine) → Leading last.chrom (records_on ms) → good_after (bed_format (sorting_of order)) input (Some last) ms ≡ good_after (bed_format (sorting_of order)) input None ms
    unfolding good_after line_says
    fresh_from [] leads = refl
    fresh_from (m ∷ ms) leads = grind (arith, (fresh_from ms (all_back _ (said_record (record_of m.text)) (records_on ms) leads)), rules)

  -- the chromosomes of the good records are known
  pub good_known : (input : Input) (text : List ℕ) → AllByRecursion (λ r. IsTrue (order.knows r.chrom)) (items_in (good (bed_format (sorting_of order)) input (text_lines text)))
  good_known input text = items_all (sorting_of order) input (λ r. IsTrue (order.knows r.chrom)) None (text_lines text) (all_any _ _ (λ r known. known))

  -- each of these records comes before each of the others
  abbrev pub Earlier : List Feature → List Feature → Type 0
  Earlier ones twos = AllByRecursion (λ r. AllByRecursion (λ s. order.compare r.chrom s.chrom ≡ Less) twos) ones

  module _ (one two : List ℕ) (before : ComeBefore order (said_records one) (said_records two)) where
    abbrev Leads : Option Locus → Type 0
    Leads None = Unit {0}
    Leads (Some last) = IsTrue (order.knows last.chrom) × Leading last.chrom (said_records two)

    fresh : (input : Input) (n : ℕ) (last : Option Locus) → Leads last → good_after (bed_format (sorting_of order)) input last (lines_from n two) ≡ good_after (bed_format (sorting_of order)) input None (lines_from n two)
    fresh input n None leads = refl
    fresh input n (Some last) leads = grind (arith, fresh_from, (alike_records (text_lines two) (lines_from n two) (alike_lines 1 n two)), (alike_lines 1 n two))

    leads_on : (last : Option Locus) (rs : List Feature) → Leads last → AllByRecursion (λ r. Leads (Some (locus_at r))) rs → Leads (reached (bed_format (sorting_of order)) last rs)
    leads_on last [] leads h = leads
    leads_on last (r ∷ rs) leads h = leads_on (Some (locus_at r)) rs h.0 h.1

    -- what is good of both texts
    pub bed_joint : (input : Input) → StandsBefore one two
        → IsJoint (good (bed_format (sorting_of order)) input (text_lines one)) (good (bed_format (sorting_of order)) input (text_lines two)) (good (bed_format (sorting_of order)) input (text_lines (one ++ two)))
    bed_joint input ends =
        good_joint (bed_format (sorting_of order)) input one two ends (λ last l m e d. ap (line_says (sorting_of order) last) e)
        (λ n. fresh input n _ (leads_on None _ tt (items_all (sorting_of order) input (λ r. Leads (Some (locus_at r))) None (text_lines one) (all_so _ _ (said_records one) (λ r leads known. (known, leads)) before))))

    -- the good records of the first come before those of the second
    pub good_earlier : (input other : Input) → Earlier (items_in (good (bed_format (sorting_of order)) input (text_lines one))) (items_in (good (bed_format (sorting_of order)) other (text_lines two)))
    good_earlier input other =
        items_all (sorting_of order) input (λ r. AllByRecursion (λ s. order.compare r.chrom s.chrom ≡ Less) (items_in (good (bed_format (sorting_of order)) other (text_lines two)))) None (text_lines one)
        (all_so (λ r. Leading r.chrom (said_records two)) _ (said_records one)
        (λ r leads known. items_all (sorting_of order) other (λ s. order.compare r.chrom s.chrom ≡ Less) None (text_lines two) (all_so _ _ (said_records two) (λ s h is. h known is) leads))
        before)
