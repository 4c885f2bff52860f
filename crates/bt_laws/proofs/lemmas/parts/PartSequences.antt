-- What is good of two concatenated FASTA texts.
use Rattle.bt_lines.proofs.Std.{common_steps, ◌≡◌, ℕ, Bool, true, false, cond, List, [], ◌∷◌, ◌++◌, map, append-nil, append_assoc, Option, Some, None, Ok, Err, refl, sym, ap, ap₂, arith, IsTrue, ⊤, flat_map, AllByRecursion, map-append, is_none, option_map}
use Rattle.bt_lines.specs.model.Fault.{FaultValue}
use Rattle.bt_lines.specs.model.Lines.{TextLine, lines_from, text_lines}
use Rattle.bt_lines.specs.declared.fault.Input.{Input}
use Rattle.bt_lines.specs.declared.fault.Kind.TheVariants.{TextBeforeHeader}
use Rattle.bt_lines.proofs.lemmas.reader.lines.TextLemmas.{lines_from-fed, lines_from-last, by_lines}
use Rattle.bt_bed.specs.model.Good.{Format, Good, good, good_after, items_in, line_says as record_says, locus_at, block_format, bed_format}
use Rattle.bt_seq.specs.model.Masked.{is_unnamed, names_of_sequences}
use Rattle.bt_seq.specs.model.Fasta.{Reached, SequenceLine, header_behind, is_sequence_header, line_behind, sequence_says, may_stand, sequence_format}
use Rattle.bt_laws.specs.Parts.{begins_sequence, name_on, sequence_names, StandsBefore, said_records}
use Rattle.bt_laws.proofs.lemmas.parts.PartLines.{like_from, alike_lines, lines_join, IsLike, put_on, reached, go_from, alike_records, records_on, items_all}
use Rattle.bt_bed.specs.model.Feature.{Feature}
use Rattle.bt_bed.specs.model.BedLine.{record_of}
use Rattle.bt_bed.specs.model.Sorted.{Locus, block_sorting, Sorting}
use Rattle.bt_seq.proofs.lemmas.definitions.KnowsLemmas.{is_last}
use Rattle.bt_seq.proofs.lemmas.Sam.{last_from}
use Rattle.bt_runs.proofs.lemmas.Lists.{all_so}

-- ---- sequences

-- a line after sequences of these names
abbrev pub line_after : List (List ℕ) → SequenceLine → SequenceLine
line_after names line = record { names = names ++ line.names; before = line.before; text = line.text; ending = line.ending }

-- a state after sequences of these names
abbrev reached_after : List (List ℕ) → Reached → Reached
reached_after names reached = record { names = names ++ reached.names; bases = reached.bases }

-- lines of sequences, and the same after sequences of these names
pub record AreMoved (names : List (List ℕ)) (g h : Good SequenceLine) : Type 0 where
  pub items : items_in g ≡ map (line_after names) (items_in h)
  pub none : g.fault ≡ None
  pub same : h.fault ≡ None
  pub named : AllByRecursion (λ line. is_unnamed line.names ≡ false) (items_in h)

-- the first line, if there is one, is a header
abbrev pub BeginsAtHeader : List TextLine → Type 0
BeginsAtHeader [] = ⊤
BeginsAtHeader (line ∷ lines) = is_sequence_header line.text ≡ true

pub named_more : (names more : List (List ℕ)) → is_unnamed more ≡ false → is_unnamed (names ++ more) ≡ false
named_more [] more e = e
named_more (n ∷ ns) more e = refl

module _ (full : Bool) (input : Input) where
  abbrev Fasta : Format SequenceLine Reached
  Fasta = sequence_format full

  says_header : (s : Reached) (line : TextLine) → is_sequence_header line.text ≡ true → sequence_says full s line ≡ Ok (Some (header_behind full s line))
  says_header s line e = grind (arith, cond, (cond (may_stand s.names line.text) (Ok (Some (line_behind s line))) (Err TextBeforeHeader)))

  says_bases : (s : Reached) (line : TextLine) → is_sequence_header line.text ≡ false → is_unnamed s.names ≡ false → sequence_says full s line ≡ Ok (Some (line_behind s line))
  says_bases s line e named = grind arith

  moved_from : (names : List (List ℕ)) (s : Reached) (ls : List TextLine) → is_unnamed s.names ≡ false → AreMoved names (good_after Fasta input (reached_after names s) ls) (good_after Fasta input s ls)
  unfolding good_after
  moved_from names s [] named = grind arith
  moved_from names s (l ∷ ls) named =
      grind (
        arith,
        (says_header s l),
        (says_header (reached_after names s) l),
        (says_bases s l),
        (says_bases (reached_after names s) l),
        named_more,
        append_assoc,
        (λ (now : Reached). moved_from names now ls),
      )

  -- from a header on
  moved_header : (r : Reached) (ls : List TextLine) → BeginsAtHeader ls → AreMoved r.names (good_after Fasta input r ls) (good_after Fasta input Fasta.begin ls)
  unfolding good_after
  moved_header r [] h = grind arith
  moved_header r (l ∷ ls) h = grind (arith, (moved_from r.names (Fasta.after Fasta.begin (header_behind full Fasta.begin l)) ls refl))

  -- if a line is at fault, no line before it has a sequence
  pub unnamed_from : (s : Reached) (ls : List TextLine) (fault : FaultValue) → (good_after Fasta input s ls).fault ≡ Some fault → AllByRecursion (λ line. is_unnamed line.names ≡ true) (items_in (good_after Fasta input s ls))
  unfolding good_after
  unnamed_from s [] fault e = tt
  unnamed_from s (l ∷ ls) fault e = grind (arith, (λ (now : Reached). unnamed_from now ls fault), (λ (now : Reached). moved_from [] now ls))

  -- ---- names

  pub reached_names : (s : Reached) (x : SequenceLine) (xs : List SequenceLine) → (reached Fasta s (x ∷ xs)).names ≡ names_of_sequences (x ∷ xs)
  reached_names s x [] = refl
  reached_names s x (y ∷ ys) = reached_names (Fasta.after s x) y ys

  begin_names : (xs : List SequenceLine) → (reached Fasta Fasta.begin xs).names ≡ names_of_sequences xs
  begin_names [] = refl
  begin_names (x ∷ xs) = reached_names Fasta.begin x xs

  -- each line's names begin those of all
  abbrev pub Begins : List (List ℕ) → SequenceLine → Type 0
  Begins names line = (more : List (List ℕ)) × (names ≡ line.names ++ more)

  -- the names after lines: without a fault each header has given one
  record Grows (s : Reached) (g : Good SequenceLine) (named : List (List ℕ)) : Type 0 where
    more : List (List ℕ)
    is : (reached Fasta s (items_in g)).names ≡ s.names ++ more
    said : g.fault ≡ None → more ≡ named
    all : AllByRecursion (Begins (reached Fasta s (items_in g)).names) (items_in g)

  grows_from : (s : Reached) (ls : List TextLine) → Grows s (good_after Fasta input s ls) (flat_map (λ line. name_on full line.text) ls)
  unfolding good_after
  grows_from s [] = grind (arith, append-nil)
  grows_from s (l ∷ ls) = grind (arith, append-nil, append_assoc, (λ (now : Reached). grows_from now ls))

  -- without a fault the names are those of the headers
  pub names_grown : (text : List ℕ) → (good Fasta input (text_lines text)).fault ≡ None → names_of_sequences (items_in (good Fasta input (text_lines text))) ≡ sequence_names full text
  names_grown text none = grind (arith, (begin_names (items_in (good Fasta input (text_lines text)))), (grows_from Fasta.begin (text_lines text)))

  pub names_begin : (ls : List TextLine) → AllByRecursion (Begins (names_of_sequences (items_in (good Fasta input ls)))) (items_in (good Fasta input ls))
  names_begin ls = grind (arith, (begin_names (items_in (good Fasta input ls))), (grows_from Fasta.begin ls))

  -- the names of two parts
  names_moved : (names : List (List ℕ)) (y : SequenceLine) (ys : List SequenceLine) → names_of_sequences (map (line_after names) (y ∷ ys)) ≡ names ++ names_of_sequences (y ∷ ys)
  names_moved names y [] = refl
  names_moved names y (z ∷ zs) = names_moved names z zs

  last_names : (xs : List SequenceLine) (y : SequenceLine) (ys : List SequenceLine) → names_of_sequences (xs ++ y ∷ ys) ≡ names_of_sequences (y ∷ ys)
  last_names [] y ys = refl
  last_names (x ∷ []) y ys = refl
  last_names (x ∷ z ∷ zs) y ys = last_names (z ∷ zs) y ys

  pub names_both : (xs ys : List SequenceLine) → names_of_sequences (xs ++ map (line_after (names_of_sequences xs)) ys) ≡ names_of_sequences xs ++ names_of_sequences ys
  names_both xs [] = grind (arith, append-nil)
  names_both xs (y ∷ ys) = grind (arith, last_names, names_moved)

  -- ---- two texts

  header_first : (n : ℕ) (text : List ℕ) → IsTrue (begins_sequence text) → BeginsAtHeader (lines_from n text)
  header_first n text =
      by_lines (λ n bytes. IsTrue (begins_sequence bytes) → BeginsAtHeader (lines_from n bytes))
      (λ n piece clear e. grind (arith, (lines_from-last n piece clear)))
      (λ n piece rest clear is e. grind (arith, common_steps, (lines_from-fed n piece rest clear))) n text

  -- the lines of the second text, whatever the numbers of its lines
  moved_lines : (r : Reached) (n : ℕ) (two : List ℕ) → IsTrue (begins_sequence two) → AreMoved r.names (good_after Fasta input r (lines_from n two)) (good Fasta input (text_lines two))
  moved_lines r n two e =
      let moved = moved_header r (lines_from n two) (header_first n two e) in
      grind (arith, (like_from Fasta input Fasta.begin (lines_from n two) (text_lines two) (λ state l m t d. same_said state l m t d) (alike_lines n 1 two)))
    where
      same_said : (state : Reached) (l m : TextLine) → l.text ≡ m.text → l.ending ≡ m.ending → sequence_says full state l ≡ sequence_says full state m
      same_said state l m t d = ap₂ (λ text ending. sequence_says full state (record { number = l.number; text = text; ending = ending })) t d

  -- what is good of both texts: the first is at fault, or the lines of the second come after its sequences
  abbrev pub AreBothBy : Option FaultValue → Good SequenceLine → Good SequenceLine → Good SequenceLine → Type 0
  AreBothBy None one two whole =
      (items_in whole ≡ items_in one ++ map (line_after (names_of_sequences (items_in one))) (items_in two)) × (whole.fault ≡ None)
  AreBothBy (Some fault) one two whole = whole ≡ one

  module _ (one two : List ℕ) (ends : StandsBefore one two) (begins : IsTrue (begins_sequence two)) where
    pub fasta_both : AreBothBy (good Fasta input (text_lines one)).fault (good Fasta input (text_lines one)) (good Fasta input (text_lines two)) (good Fasta input (text_lines (one ++ two)))
    fasta_both = grind (arith, (lines_join 1 one two ends), moved_lines, go_from, map-append, begin_names)

    pub second_sound : (good Fasta input (text_lines two)).fault ≡ None
    second_sound = (moved_lines Fasta.begin 1 two begins).same

    pub second_named : AllByRecursion (λ line. is_unnamed line.names ≡ false) (items_in (good Fasta input (text_lines two)))
    second_named = (moved_lines Fasta.begin 1 two begins).named

-- Records in blocks, in two concatenated texts.

-- the chromosome of a place
abbrev pub name_at : Option Locus → Option (List ℕ)
name_at last = option_map (λ l. l.chrom) last

pub reached_last : (last : Option Locus) (rs : List Feature) → name_at (reached block_format last rs) ≡ last_from (name_at last) rs
reached_last last [] = refl
reached_last last (r ∷ rs) = reached_last (Some (locus_at r)) rs

-- the first record, if there is one, doesn't lie on this chromosome
abbrev pub BeginsElsewhere : Option (List ℕ) → List Feature → Type 0
BeginsElsewhere last [] = ⊤
BeginsElsewhere last (r ∷ rs) = is_last last r.chrom ≡ false

module _ (sorting : Sorting) (input : Input) where
  -- without a fault the records are all that the lines say
  pub sound_from : (last : Option Locus) (ms : List TextLine) → (good_after (bed_format sorting) input last ms).fault ≡ None → items_in (good_after (bed_format sorting) input last ms) ≡ records_on ms
  unfolding good_after record_says
  sound_from last [] e = refl
  sound_from last (m ∷ ms) e = grind (arith, (record_of m.text), (λ (now : Option Locus). sound_from now ms))

-- what holds of all that the lines say, holds of the good records
pub among : (input : Input) (P : Feature → Type 0) (ms : List TextLine) → AllByRecursion P (records_on ms) → AllByRecursion P (items_in (good block_format input ms))
among input P ms h = items_all block_sorting input P None ms (all_so _ _ (records_on ms) (λ r p known. p) h)

module _ (input : Input) where
  -- records of which the first lies on another chromosome are as good as without those before
  pub fresh_from : (last : Option Locus) (ms : List TextLine) → BeginsElsewhere (name_at last) (records_on ms) → good_after block_format input last ms ≡ good_after block_format input None ms
  unfolding good_after record_says
  fresh_from last [] h = refl
  fresh_from last (m ∷ ms) h = grind (arith, (record_of m.text), (records_on ms), (fresh_from last ms))

  -- and so are records without a fault
  pub calm_from : (last : Option Locus) (ms : List TextLine) → (good_after block_format input last ms).fault ≡ None → good_after block_format input last ms ≡ good_after block_format input None ms
  unfolding good_after record_says
  calm_from last [] e = refl
  calm_from last (m ∷ ms) e = grind (arith, (record_of m.text), (calm_from last ms))

  -- ---- two texts

  module _ (one two : List ℕ) (ends : StandsBefore one two) where
    abbrev First-good : Good Feature
    First-good = good block_format input (text_lines one)

    abbrev Second-good : Good Feature
    Second-good = good block_format input (text_lines two)

    abbrev Whole-good : Good Feature
    Whole-good = good block_format input (text_lines (one ++ two))

    -- what comes after the records of the first text, whatever the numbers of its lines
    abbrev Lines-behind : List TextLine
    Lines-behind = lines_from (lines_join 1 one two ends).0 two

    abbrev Last : Option Locus
    Last = reached block_format None (items_in First-good)

    like_two : IsLike (good_after block_format input None Lines-behind) Second-good
    like_two = like_from block_format input None Lines-behind (text_lines two) (λ state l m t d. ap (record_says block_sorting state) t) (alike_lines (lines_join 1 one two ends).0 1 two)

    -- the records of both
    abbrev pub AreJoint : Type 0
    AreJoint = (items_in Whole-good ≡ items_in First-good ++ items_in Second-good) × (is_none Whole-good.fault ≡ is_none Second-good.fault)

    -- if those of the second text begin on another chromosome
    pub fresh_joint : First-good.fault ≡ None → BeginsElsewhere (last_from None (items_in First-good)) (said_records two) → AreJoint
    fresh_joint none h = grind (arith, like_two, (go_from block_format input None (text_lines one) Lines-behind), fresh_from, reached_last, alike_records, alike_lines, map-append)

    -- or if both texts have no fault
    pub calm_joint : Whole-good.fault ≡ None → (First-good.fault ≡ None) × (Second-good.fault ≡ None) × (items_in Whole-good ≡ items_in First-good ++ items_in Second-good)
    calm_joint none = grind (arith, (go_from block_format input None (text_lines one) Lines-behind), calm_from, like_two, map-append)

    -- a fault of the first text is that of both
    pub faulty_same : (fault : FaultValue) → First-good.fault ≡ Some fault → Whole-good ≡ First-good
    faulty_same fault e = grind (arith, (go_from block_format input None (text_lines one) Lines-behind))

    front_by : (fault : Option FaultValue) (g h : Good Feature) → (more : List Feature) × (items_in (put_on fault g h) ≡ items_in g ++ more)
    front_by None g h = (items_in h, map-append (λ m. m.item) g.members h.members)
    front_by (Some fault) g h = ([], sym (append-nil (items_in g)))

    -- the records of the first text come first
    pub first_front : (more : List Feature) × (items_in Whole-good ≡ items_in First-good ++ more)
    first_front = grind (arith, (front_by First-good.fault First-good (good_after block_format input Last Lines-behind)), (go_from block_format input None (text_lines one) Lines-behind))
