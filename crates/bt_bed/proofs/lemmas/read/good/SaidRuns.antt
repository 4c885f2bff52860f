-- Lemmas on records that lines say one after another, and on what is good of such lines.
use Rattle.bt_lines.proofs.Std.{rules, ◌≡◌, ℕ, suc, ◌≤◌, Bool, true, false, List, [], ◌∷◌, ◌++◌, length, take, drop, Option, Some, None, Ok, refl, sym, ap, ◌∙◌, subst, arith, ⊤, IsTrue, length-append, IfNone, IfSome, take-append_seam, drop_at, length-drop}
use Rattle.bt_bed.specs.calls.Batch.{IsWhere, Passes, cursor_in, left}
use Rattle.bt_bed.specs.calls.SortedReader.{are_in_order, IsTaken, Lends, buffered_in, count_in}
use Rattle.bt_lines.specs.model.Lines.{TextLine}
use Rattle.bt_lines.specs.calls.Line.{AreNumbered}
use Rattle.bt_lines.specs.declared.fault.Input.{Input}
use Rattle.bt_bed.proofs.lemmas.Definitions.{line_said}
use Rattle.bt_bed.specs.model.Feature.{Feature}
use Rattle.bt_bed.specs.model.BedLine.{record_of}
use Rattle.bt_bed.specs.model.Good.{Format, good_after, bed_format, line_says, locus_at, said_after}
use Rattle.bt_bed.specs.model.Sorted.{Locus, Sorting, falls_in}
use Rattle.bt_bed.specs.calls.Reading.{AreSaid, members_from, state_behind, with_members}
use Rattle.bt_bed.specs.calls.Bed.{last_start, record_on, run_of, record_in, is_some_left}
use Rattle.bt_lines.proofs.lemmas.reader.block.BufferLemmas.{fed_none}
use Rattle.bt_lines.proofs.lemmas.reader.lines.BufferedLemmas.{lines_taken}
use Rattle.bt_lines.specs.calls.Reader.{PassesLines, rest_in, TakenLines}
use Rattle.bt_lines.specs.declared.reader.buffered_lines.BufferedLines.{BufferedLines}
use Rattle.bt_bed.specs.declared.read.batch.Batch.{Batch}
use Rattle.bt_bed.specs.declared.read.batch.Consumed.{Consumed}
use Rattle.bt_bed.specs.declared.record.raw_record.RawRecord.{RawRecord}
use Rattle.bt_bed.specs.declared.read.sorted_reader.SortedReader.{SortedReader}

-- the first of these lines say the items, one after another
abbrev pub LinesSay : {A State : Type 0} → Format A State → State → List TextLine → List A → Type 0
LinesSay format state lines [] = ⊤
LinesSay format state [] (item ∷ items) = ⊥
LinesSay format state (line ∷ lines) (item ∷ items) = (format.says state line ≡ Ok (Some item)) × LinesSay format (format.after state item) lines items

module _ {A State : Type 0} (format : Format A State) (input : Input) where
  said_one : (state : State) (line : TextLine) (lines : List TextLine) (item : A) → format.says state line ≡ Ok (Some item)
      → good_after format input state (line ∷ lines) ≡ with_members (record { line = line.number; item = item } ∷ []) (good_after format input (format.after state item) lines)
  unfolding good_after
  said_one state line lines item e = rw e refl

  -- the items are the first of what is good
  pub good_said : (number : ℕ) (state : State) (lines : List TextLine) (items : List A) → AreNumbered number lines → LinesSay format state lines items
      → with_members (members_from number items) (good_after format input (state_behind format state items) (drop (length items) lines)) ≡ good_after format input state lines
  good_said number state lines [] n say = refl
  good_said number state [] (item ∷ items) n say = absurd say
  good_said number state (line ∷ lines) (item ∷ items) n say = grind (arith, (good_said (suc number) (format.after state item) lines items n.1 say.1), said_one)

module _ {A State : Type 0} (format : Format A State) where
  -- what the first lines say, all lines say
  pub say_front : (state : State) (front all : List TextLine) (items : List A) → take (length front) all ≡ front → LinesSay format state front items → LinesSay format state all items
  say_front state front all [] e say = tt
  say_front state [] all (item ∷ items) e say = absurd say
  say_front state (line ∷ front) [] (item ∷ items) e say = cc
  say_front state (line ∷ front) (other ∷ all) (item ∷ items) e say = grind (arith, (say_front (format.after state item) front all items (cc) say.1))

  -- and they say the first of it
  pub say_fewer : (state : State) (lines : List TextLine) (items more : List A) → LinesSay format state lines (items ++ more) → LinesSay format state lines items
  say_fewer state lines [] more say = tt
  say_fewer state [] (item ∷ items) more say = absurd say
  say_fewer state (line ∷ lines) (item ∷ items) more say = (say.0, say_fewer (format.after state item) lines items more say.1)

  pub said_fewer : (state : State) (items more : List A) → AreSaid format state (items ++ more) → AreSaid format state items
  said_fewer state [] more said = tt
  said_fewer state (item ∷ items) more said = (said.0, said_fewer (format.after state item) items more said.1)

-- a record of a run is what its line says
pub record_on_is : (name : List ℕ) (start : ℕ) (text : List ℕ) (r : Feature) → record_on name start text ≡ Some r → (record_of text ≡ Ok (Some r)) × (r.chrom ≡ name) × (start ≤ r.start)
unfolding record_on
record_on_is name start text r e = search rules

-- the first line of a run
pub record FirstOfRun (name : List ℕ) (start : ℕ) (lines : List TextLine) (r : Feature) (items : List Feature) : Type 0 where
  pub line : TextLine
  pub more : List TextLine
  pub lines_are : lines ≡ line ∷ more
  pub says : record_of line.text ≡ Ok (Some r)
  pub chrom : r.chrom ≡ name
  pub above : start ≤ r.start
  pub rest : run_of name r.start more ≡ items

pub first_of_run : (name : List ℕ) (start : ℕ) (lines : List TextLine) (r : Feature) (items : List Feature) → run_of name start lines ≡ r ∷ items → FirstOfRun name start lines r items
unfolding run_of
first_of_run name start [] r items e = cc
first_of_run name start (line ∷ lines) r items e = grind (arith, record_on_is)

pub says_again : (sorting : Sorting) (state : Option Locus) (text other : List ℕ) (r : Feature) → line_says sorting state other ≡ Ok (Some r) → record_of text ≡ Ok (Some r) → line_says sorting state text ≡ Ok (Some r)
unfolding line_says
says_again sorting state text other r said e = grind arith

-- the lines of a run say its records, if each is said after those before it
pub run_says : (sorting : Sorting) (state : Option Locus) (name : List ℕ) (start : ℕ) (lines : List TextLine) (records : List Feature) → run_of name start lines ≡ records → AreSaid (bed_format sorting) state records
    → LinesSay (bed_format sorting) state lines records
run_says sorting state name start lines [] e said = tt
run_says sorting state name start [] (r ∷ records) e said = let none = (first_of_run name start [] r records e).lines_are in cc
run_says sorting state name start (line ∷ lines) (r ∷ records) e said =
    let first = first_of_run name start (line ∷ lines) r records e in
    grind (arith, (run_says sorting (Some (locus_at r)) name r.start lines records (subst (λ l. run_of name r.start l ≡ records) (cc) first.rest) said.1), says_again)

-- a record on the chromosome of the last place that doesn't start below
pub says_on : (sorting : Sorting) (name : List ℕ) (start : ℕ) (text : List ℕ) (r : Feature) → IsTrue (sorting.knows name) → record_of text ≡ Ok (Some r) → r.chrom ≡ name → start ≤ r.start
    → line_says sorting (Some (record { chrom = name; start = start })) text ≡ Ok (Some r)
unfolding line_says
says_on sorting name start text r known says on above = search rules

-- the records of a run are said after the place that it begins at
pub run_is_said : (sorting : Sorting) (name : List ℕ) (start : ℕ) (lines : List TextLine) (records : List Feature) → IsTrue (sorting.knows name) → run_of name start lines ≡ records
    → AreSaid (bed_format sorting) (Some (record { chrom = name; start = start })) records
run_is_said sorting name start lines [] known e = tt
run_is_said sorting name start lines (r ∷ records) known e =
    let first = first_of_run name start lines r records e in
    grind (arith, (run_is_said sorting name r.start first.more records known first.rest), says_on)

-- what is left of a run after some of its records
pub run_behind : (name : List ℕ) (start : ℕ) (lines : List TextLine) (records more : List Feature) → run_of name start lines ≡ records ++ more
    → run_of name (last_start start records) (drop (length records) lines) ≡ more
run_behind name start lines [] more e = e
run_behind name start [] (r ∷ records) more e = let none = (first_of_run name start [] r (records ++ more) e).lines_are in cc
run_behind name start (line ∷ lines) (r ∷ records) more e =
    let first = first_of_run name start (line ∷ lines) r (records ++ more) e in
    grind (arith, (run_behind name r.start lines records more (subst (λ l. run_of name r.start l ≡ records ++ more) (cc) first.rest)))

-- the place after some records of a run
pub place_behind : (sorting : Sorting) (state : Option Locus) (name : List ℕ) (start : ℕ) (lines : List TextLine) (r : Feature) (records more : List Feature) → run_of name start lines ≡ r ∷ (records ++ more)
    → state_behind (bed_format sorting) state (r ∷ records) ≡ Some (record { chrom = name; start = last_start start (r ∷ records) })
place_behind sorting state name start lines r [] more e = grind (arith, (first_of_run name start lines r more e))
place_behind sorting state name start lines r (x ∷ records) more e =
    let first = first_of_run name start lines r (x ∷ (records ++ more)) e in
    place_behind sorting (Some (locus_at r)) name r.start first.more x records more first.rest

-- what is in order fits, one after another
pub order_first : (sorting : Sorting) (state : Option Locus) (r : Feature) (records : List Feature) → are_in_order sorting state (r ∷ records) ≡ true
    → (sorting.knows r.chrom ≡ true) × (falls_in sorting state (locus_at r) ≡ false) × (are_in_order sorting (Some (locus_at r)) records ≡ true)
order_first sorting state r records e = grind arith

says_in_order : (sorting : Sorting) (state : Option Locus) (text : List ℕ) (r : Feature) → sorting.knows r.chrom ≡ true → falls_in sorting state (locus_at r) ≡ false → record_of text ≡ Ok (Some r) → line_says sorting state text ≡ Ok (Some r)
unfolding line_says
says_in_order sorting state text r knows stays says = ap (said_after sorting state) says ∙ rw (knows, stays) refl

-- the records of a run are said if they are in order
pub order_is_said : (sorting : Sorting) (state : Option Locus) (name : List ℕ) (start : ℕ) (lines : List TextLine) (records : List Feature) → run_of name start lines ≡ records → are_in_order sorting state records ≡ true
    → AreSaid (bed_format sorting) state records
order_is_said sorting state name start lines [] e o = tt
order_is_said sorting state name start lines (r ∷ records) e o =
    let first = first_of_run name start lines r records e in
    let fits = order_first sorting state r records o in
    ((first.line, says_in_order sorting state first.line.text r fits.0 fits.1 first.says), order_is_said sorting (Some (locus_at r)) name r.start first.more records first.rest fits.2)

pub order_behind : (sorting : Sorting) (state : Option Locus) (records more : List Feature) → are_in_order sorting state (records ++ more) ≡ true → are_in_order sorting (state_behind (bed_format sorting) state records) more ≡ true
order_behind sorting state [] more o = o
order_behind sorting state (r ∷ records) more o = order_behind sorting (Some (locus_at r)) records more (order_first sorting state r (records ++ more) o).2

-- what is said, one record after another, is in order
pub said_in_order : (sorting : Sorting) (state : Option Locus) (records : List Feature) → AreSaid (bed_format sorting) state records → are_in_order sorting state records ≡ true
said_in_order sorting state [] said = refl
said_in_order sorting state (r ∷ records) said = grind (arith, (line_said sorting state said.0.0.text r said.0.1), (said_in_order sorting (Some (locus_at r)) records said.1))

-- What was consumed of a batch that a reader gave is a token that it takes.

none_before : (xs ys : List Feature) → [] ≡ xs ++ ys → xs ≡ []
none_before [] ys e = refl
none_before (x ∷ xs) ys e = cc

-- if no line was consumed, no byte was
same_place : (first last : BufferedLines) → PassesLines first 0 last → last.at ≡ first.at
unfolding rest_in
same_place first last p = grind (arith, fed_none, length-drop)

-- if a record is buffered, the next one of the batch is some
pub one_given : {S Q : Type 0} (sorted : SortedReader S Q) (first last : Batch) (next : Option RawRecord) (r : Feature) (more : List Feature) → buffered_in sorted ≡ r ∷ more → Lends sorted first
    → IfSome next (λ raw. Passes first (record_in raw ∷ []) last) → IfNone next (left first ≡ []) → (one : Feature) × Passes first (one ∷ []) last
one_given sorted first last (Some raw) r more is lends some none = (record_in raw, some)
one_given sorted first last None r more is lends some none = absurd (let gone : [] ≡ r ∷ more = sym none ∙ lends.left_is ∙ is in cc)

module _ {S Q : Type 0} (sorted : SortedReader S Q) (first last : Batch) (records : List Feature) (consumed : Consumed) (lends : Lends sorted first) (passes : Passes first records last) (is : IsWhere last consumed) where
  taken_by : (b : Bool) → is_some_left (buffered_in sorted) ≡ b → TakenLines sorted.reader consumed.lines (length records)
  taken_by true e = lines_taken sorted.reader (cursor_in first) (cursor_in last) consumed.lines (length records) (lends.begins e) passes.lines is.lines
  taken_by false e = grind (arith, none_before, same_place)

  lines_are : TakenLines sorted.reader consumed.lines (length records)
  lines_are = taken_by (is_some_left (buffered_in sorted)) refl

  -- as many were consumed as there are records
  pub count_is : count_in sorted consumed ≡ length records
  count_is = omega (arith, lines_are.given)

  -- these
  pub taken_are : take (count_in sorted consumed) (buffered_in sorted) ≡ records
  taken_are = ap (λ n. take n (buffered_in sorted)) count_is ∙ ap (take (length records)) (sym lends.left_is ∙ passes.left_is) ∙ take-append_seam records (left last)

  pub token_is : IsTaken sorted consumed
  token_is = grind (arith, lines_are, length-append, taken_are, drop_at)
