-- Lemmas on a reader of sorted records.
use Rattle.bt_lines.proofs.Std.{IfNone, IsErrAnd, ◌≡◌, ℕ, suc, ◌-◌, ◌<◌, ◌≤◌, Bool, true, false, List, [], ◌∷◌, ◌++◌, length, take, drop, Option, Some, None, Ok, refl, sym, ap, ◌∙◌, subst, arith, length-take, take-append-drop, if◌then◌else◌, is_some, IfSome, IsTrue, option_map, ForSome, Result, Err, inl, inr}
use Rattle.bt_lines.specs.declared.device.Source.{Ghosts as Source}
use Rattle.bt_lines.proofs.lemmas.reader.lines.TakingLemmas.{next_bytes, next_number, prefix_of}
use Rattle.bt_lines.specs.calls.Reader.{MayStillCome, TakesLines, buffered_in as lines_buffered, fault_kept as line_fault, input_of, lines_coming, lines_given, GivesEnd, GivesFault, IsKept, MakesLine}
use Rattle.bt_lines.specs.model.Lines.{TextLine}
use Rattle.bt_lines.specs.calls.Line.{AreNumbered}
use Rattle.bt_lines.specs.calls.Names.{fault_value}
use Rattle.bt_lines.specs.declared.fault.Input.{Input}
use Rattle.bt_lines.specs.declared.reader.line_reader.LineReader.{LineReader}
use Rattle.bt_bed.proofs.lemmas.read.good.ReadingLemmas.{none_pass, numbered_coming, LineCame, line_came, Follows, Going, gives_again, going_end, going_member, going_more, going_start, going_unkept, going_unread, going_wrong, given_first, unkept_bytes}
use Rattle.bt_bed.proofs.lemmas.Definitions.{line_said}
use Rattle.bt_bed.proofs.lemmas.read.batch.RecordsLemmas.{placed_there, run_some, says_of_line}
use Rattle.bt_bed.proofs.lemmas.read.good.SaidRuns.{LinesSay, good_said, order_behind, order_is_said, place_behind, run_behind, run_is_said, run_says, said_fewer, said_in_order, say_fewer, say_front, FirstOfRun, first_of_run, says_again}
use Rattle.bt_bed.specs.model.Feature.{Feature}
use Rattle.bt_bed.specs.model.BedLine.{fault_at_line, record_of}
use Rattle.bt_bed.specs.model.Good.{Format, Good, Member, good_after, or_else, bed_format, line_says, locus_at}
use Rattle.bt_bed.specs.model.Sorted.{Locus, Sorting}
use Rattle.bt_bed.specs.inside.OrderedLookahead.{HasNext, HoldsChrom, IsKnownLast, LineTaken, MakesLast, ahead_of, last_in, name_in, start_in, KeepsLast}
use Rattle.bt_bed.specs.calls.Reading.{AreSaid, BeginsComing, LinesPass, MemberReader, Takes, coming, good_behind, members_from, state_behind, with_members, AnswersFault}
use Rattle.bt_bed.specs.calls.Batch.{StandsFirst, left, left_after}
use Rattle.bt_bed.specs.calls.Bed.{feature_lent, is_some_left, record_in, run_of}
use Rattle.bt_bed.specs.declared.record.bed.BedRef.{BedRef}
use Rattle.bt_bed.specs.declared.read.batch.Batch.{Batch}
use Rattle.bt_bed.specs.declared.record.raw_record.RawRecord.{RawRecord}
use Rattle.bt_bed.proofs.lemmas.parse.NameLemmas.{name_eq}
use Rattle.bt_bed.specs.calls.SortedReader.{FillsByName, FillsSorted, NameUnkept, PeeksSorted, IsPlaced, IsTaken, are_in_order, buffered_in, count_in, view_in, view_with, FindsRecord, LosesLine, SkipsLine, TakesFirst, TakesOne}
use Rattle.bt_bed.specs.declared.read.batch.Consumed.{Consumed}
use Rattle.bt_bed.specs.declared.read.lookahead.OrderedLookahead.{OrderedLookahead}
use Rattle.bt_bed.specs.declared.read.sorted_reader.SortedReader.{SortedReader}
use Rattle.bt_lines.specs.calls.Faults.{no_memory}
use Rattle.bt_lines.specs.model.Fault.{FaultValue}
use Rattle.bt_lines.specs.declared.fault.Fault.{Fault}
use Rattle.bt_bed.proofs.lemmas.read.good.SaidLemmas.{bed_of_line}
use Rattle.bt_bed.proofs.lemmas.read.ColumnLemmas.{said_record_name}
use Rattle.bt_lines.proofs.lemmas.reader.block.ReadsLemmas.{hands_none}
use Rattle.bt_bed.proofs.lemmas.order.TableLemmas.{passed_on, lost_parts}
use Rattle.bt_bed.specs.inside.FirstColumns.{IsRecordName}

-- items that lines say are the first of what is good
begins_good : {A State : Type 0} (format : Format A State) (input : Input) (state : State) (number : ℕ) (items : List A) (all : List TextLine) → AreNumbered number all → LinesSay format state all items
    → (more : List (Member A)) × ((good_after format input state all).members ≡ members_from number items ++ more)
begins_good {A} {State} format input state number items all n say = (
  (good_after format input (state_behind format state items) (drop (length items) all)).members,
  ap (λ (g : Good A). g.members) (sym (good_said format input number state all items n say)),
)

begins_none : {A : Type 0} (good : Good A) (number : ℕ) (items : List A) → items ≡ [] → (more : List (Member A)) × (good.members ≡ members_from number items ++ more)
begins_none {A} good number items none = (good.members, ap (λ (l : List A). members_from number l ++ good.members) (sym none))

cond_left : (b : Bool) (run more : List Feature) → b ≡ is_some_left more → run ≡ more → (if b then run else []) ≡ more
cond_left b run more e same = grind arith

pub is_ahead_by : (b : Bool) (run : List Feature) (r : Feature) (more : List Feature) → (if b then run else []) ≡ r ∷ more → (b ≡ true) × (run ≡ r ∷ more)
is_ahead_by b run r more e = grind arith

some_taken : (n : ℕ) (records : List Feature) → 0 < n → n ≤ length records → (r : Feature) × (taken : List Feature) × (take n records ≡ r ∷ taken) × (records ≡ r ∷ (taken ++ drop n records)) × (n ≡ length (r ∷ taken))
some_taken n [] some within = absurd (omega (arith, some, within))
some_taken n (r ∷ records) some within =
    let less : n ≡ suc (n - 1) = omega (arith, some) in (
      r,
      take (n - 1) records,
      ap (λ k. take k (r ∷ records)) less,
      ap (λ l. r ∷ l) (sym (take-append-drop (n - 1) records)) ∙ ap (λ k. r ∷ (take (n - 1) records ++ drop k (r ∷ records))) (sym less),
      omega (arith, less, length-take (n - 1) records, within),
    )

-- a record was ahead of which some were taken
pub was_some : {S Q : Type 0} (sorted : SortedReader S Q) (consumed : Consumed) → IsTaken sorted consumed → 0 < count_in sorted consumed → sorted.is_ahead ≡ true
unfolding buffered_in
was_some sorted consumed is some =
    let parts = some_taken (count_in sorted consumed) (buffered_in sorted) some is.within in
    (is_ahead_by sorted.is_ahead (run_of (name_in sorted.lookahead) (start_in sorted.lookahead) (lines_buffered sorted.reader)) parts.0 _ parts.3).0

-- a record that is said lies on a known chromosome
knows_said : (sorting : Sorting) (state : Option Locus) (text : List ℕ) (r : Feature) → line_says sorting state text ≡ Ok (Some r) → IsTrue (sorting.knows r.chrom)
knows_said sorting state text r e = (line_said sorting state text r e).known

known_last : (sorting : Sorting) (state : Option Locus) (r : Feature) (records more : List Feature) (last : Option Locus) → AreSaid (bed_format sorting) state ((r ∷ records) ++ more) → last ≡ state_behind (bed_format sorting) state (r ∷ records)
    → ForSome last (λ place. IsTrue (sorting.knows place.chrom))
known_last sorting state r [] more last said e place is = grind (arith, knows_said)
known_last sorting state r (x ∷ records) more last said e place is = known_last sorting (Some (locus_at r)) x records more last said.1 e place is

module _ {S Q : Type 0} {device : Source S} {sorting : Sorting} {old : SortedReader S Q} {reader : LineReader S} {lookahead : OrderedLookahead Q} {is_ahead : Bool} {consumed : Consumed} (is : IsTaken old consumed) (some : 0 < count_in old consumed)
    (placed : IsPlaced sorting (view_in sorting old)) (takes : TakesLines device old.reader consumed.lines reader) (makes : MakesLast old.lookahead consumed.start lookahead)
    (ahead : is_ahead ≡ consumed.is_ahead) where
  abbrev pub now : MemberReader S Feature (Option Locus)
  now = view_with sorting (option_map fault_value old.fault) reader lookahead (ahead_of is_ahead reader lookahead)

  abbrev pub n : ℕ
  n = count_in old consumed

  abbrev pub taken : List Feature
  taken = take n (buffered_in old)

  abbrev pub rest : List Feature
  rest = drop n (buffered_in old)

  split : buffered_in old ≡ taken ++ rest
  split = sym (take-append-drop n (buffered_in old))

  parts : (r : Feature) × (more : List Feature) × (take n (buffered_in old) ≡ r ∷ more) × (buffered_in old ≡ r ∷ (more ++ drop n (buffered_in old))) × (n ≡ length (r ∷ more))
  parts = some_taken n (buffered_in old) some is.within

  was : (old.is_ahead ≡ true) × (run_of (name_in old.lookahead) (start_in old.lookahead) (lines_buffered old.reader) ≡ parts.0 ∷ (parts.1 ++ rest))
  unfolding buffered_in
  was = grind arith

  run_then : run_of (name_in lookahead) (start_in lookahead) (lines_buffered reader) ≡ rest
  run_then = grind (arith, (run_behind (name_in old.lookahead) (start_in old.lookahead) (lines_buffered old.reader) (parts.0 ∷ parts.1) rest was.1))

  buffered_then : ahead_of is_ahead reader lookahead ≡ rest
  buffered_then = cond_left is_ahead (run_of (name_in lookahead) (start_in lookahead) (lines_buffered reader)) rest (ahead ∙ is.ahead) run_then

  going : (view_in sorting old).fault ≡ None
  unfolding view_with
  going = placed.going (ap is_some_left parts.3)

  none_kept : or_else (option_map fault_value old.fault) (line_fault old.reader) ≡ None
  unfolding view_with
  none_kept = going

  order_all : are_in_order sorting (last_in old.lookahead) (buffered_in old) ≡ true
  unfolding view_with
  order_all = placed.in_order

  said_all : AreSaid (bed_format sorting) (last_in old.lookahead) (buffered_in old)
  said_all = order_is_said sorting (last_in old.lookahead) (name_in old.lookahead) (start_in old.lookahead) (lines_buffered old.reader) (buffered_in old) (was.1 ∙ sym parts.3) order_all

  say_those : LinesSay (bed_format sorting) (last_in old.lookahead) (lines_buffered old.reader) taken
  say_those =
      say_fewer (bed_format sorting) (last_in old.lookahead) (lines_buffered old.reader) taken rest
      (run_says sorting (last_in old.lookahead) (name_in old.lookahead) (start_in old.lookahead) (lines_buffered old.reader) (taken ++ rest)
      (was.1 ∙ sym parts.3 ∙ split) (subst (AreSaid (bed_format sorting) (last_in old.lookahead)) split said_all))

  count_is : n ≡ length taken
  count_is = parts.4 ∙ ap length (sym parts.2)

  state_then : last_in lookahead ≡ state_behind (bed_format sorting) (last_in old.lookahead) taken
  state_then = grind (arith, (place_behind sorting (last_in old.lookahead) (name_in old.lookahead) (start_in old.lookahead) (lines_buffered old.reader) parts.0 parts.1 rest was.1))

  drops : (more : List ℕ) → MayStillCome reader more → lines_coming more reader ≡ drop n (lines_coming more old.reader)
  drops more follows = takes.left_is more follows ∙ ap (λ k. drop k (lines_coming more old.reader)) is.lines.feeds

  good_then : (more : List ℕ) → MayStillCome reader more → coming more (view_in sorting old) ≡ with_members (members_from (suc (lines_given old.reader)) taken) (coming more now)
  unfolding coming view_with
  good_then more follows =
      let format = bed_format sorting in
      let state = last_in old.lookahead in
      let say = say_front format state (lines_buffered old.reader) (lines_coming more old.reader) taken (prefix_of old.reader more (λ told. follows (takes.told_is ∙ told))) say_those in
      let gone : lines_coming more reader ≡ drop (length taken) (lines_coming more old.reader) = drops more follows ∙ ap (λ k. drop k (lines_coming more old.reader)) count_is in
      rw (ap (or_else (option_map fault_value old.fault)) takes.fault_is ∙ none_kept, none_kept, state_then, takes.input_is, gone)
      (sym (good_said format (input_of old.reader) (suc (lines_given old.reader)) state (lines_coming more old.reader) taken (numbered_coming old.reader more) say))

  lines_then : LinesPass old.reader [] reader
  lines_then more follows = let counted : lines_given reader - lines_given old.reader ≡ n = omega (arith, takes.given, is.lines.given) in rw counted (drops more follows)

  pub sorted_takes : Takes device (view_in sorting old) taken now
  unfolding view_with
  sorted_takes = grind (arith, split, buffered_then, said_fewer, said_all, state_then, good_then, count_is, lines_then)

  known_then : ForSome (last_in lookahead) (λ place. IsTrue (sorting.knows place.chrom))
  known_then = known_last sorting (last_in old.lookahead) parts.0 parts.1 rest (last_in lookahead) (subst (AreSaid (bed_format sorting) (last_in old.lookahead)) (split ∙ ap (λ l. l ++ rest) parts.2) said_all) (state_then ∙ ap (state_behind (bed_format sorting) (last_in old.lookahead)) parts.2)

  pub sorted_placed : IsPlaced sorting now
  unfolding view_with
  sorted_placed = grind (arith, known_then, buffered_then, state_then, order_behind, split)

  pub sorted_ahead : is_ahead ≡ true → is_some_left (ahead_of is_ahead reader lookahead) ≡ true
  sorted_ahead e = ap is_some_left buffered_then ∙ sym (ahead ∙ is.ahead) ∙ e

  pub was_ahead : old.is_ahead ≡ true
  was_ahead = was.0

-- the records that are buffered are the first of those still to come
module _ {S Q : Type 0} (sorting : Sorting) (sorted : SortedReader S Q) (placed : IsPlaced sorting (view_in sorting sorted)) where
  some_comes : (r : Feature) (more : List Feature) → buffered_in sorted ≡ r ∷ more → BeginsComing (view_in sorting sorted)
  unfolding coming view_with buffered_in
  some_comes r more e rest follows =
      let format = bed_format sorting in
      let reader = sorted.reader in
      let state = last_in sorted.lookahead in
      let run = is_ahead_by sorted.is_ahead (run_of (name_in sorted.lookahead) (start_in sorted.lookahead) (lines_buffered reader)) r more e in
      let is : run_of (name_in sorted.lookahead) (start_in sorted.lookahead) (lines_buffered reader) ≡ buffered_in sorted = run.1 ∙ sym e in
      let said = order_is_said sorting state (name_in sorted.lookahead) (start_in sorted.lookahead) (lines_buffered reader) (buffered_in sorted) is placed.in_order in
      let say = run_says sorting state (name_in sorted.lookahead) (start_in sorted.lookahead) (lines_buffered reader) (buffered_in sorted) is said in
      let all = say_front format state (lines_buffered reader) (lines_coming rest reader) (buffered_in sorted) (prefix_of reader rest follows) say in
      subst (λ own. (more : List (Member Feature)) × ((good_behind format (input_of reader) own state (lines_coming rest reader)).members ≡ members_from (suc (lines_given reader)) (buffered_in sorted) ++ more))
      (sym (placed.going (ap is_some_left e)))
      (begins_good format (input_of reader) state (suc (lines_given reader)) (buffered_in sorted) (lines_coming rest reader) (numbered_coming reader rest) all)

  comes_by : (items : List Feature) → buffered_in sorted ≡ items → BeginsComing (view_in sorting sorted)
  unfolding view_with
  comes_by [] e rest follows = begins_none (coming rest (view_in sorting sorted)) (suc (lines_given sorted.reader)) (buffered_in sorted) e
  comes_by (r ∷ more) e rest follows = some_comes r more e rest follows

  pub sorted_comes : BeginsComing (view_in sorting sorted)
  sorted_comes = comes_by (buffered_in sorted) refl

-- a line that says a record which fits begins the records that are buffered then
module _ {Q : Type 0} (sorting : Sorting) (old new : OrderedLookahead Q) (line : TextLine) (more : List TextLine) (r : Feature) (says : line_says sorting (last_in old) line.text ≡ Ok (Some r)) (holds : HoldsChrom old r.chrom new) where
  pub found_run : run_of (name_in new) (start_in new) (line ∷ more) ≡ r ∷ run_of (name_in new) r.start more
  found_run = grind (arith, (line_said sorting (last_in old) line.text r says), run_some, placed_there)

  pub found_buffered : (lines : List TextLine) → lines ≡ line ∷ more → run_of (name_in new) (start_in new) lines ≡ r ∷ run_of (name_in new) r.start more
  found_buffered lines e = ap (run_of (name_in new) (start_in new)) e ∙ found_run

  pub found_in_order : (lines : List TextLine) → lines ≡ line ∷ more → are_in_order sorting (last_in old) (run_of (name_in new) (start_in new) lines) ≡ true
  found_in_order lines e = grind (arith, said_in_order, (line_said sorting (last_in old) line.text r says), found_run, run_is_said)

  pub found_some : (lines : List TextLine) → lines ≡ line ∷ more → is_some_left (run_of (name_in new) (start_in new) lines) ≡ true
  found_some lines e = ap is_some_left (found_buffered lines e)

-- a line that was taken as a record says one
pub record Found {Q : Type 0} (sorting : Sorting) (old new : OrderedLookahead Q) (text : List ℕ) : Type 0 where
  pub r : Feature
  pub says : line_says sorting (last_in old) text ≡ Ok (Some r)
  pub holds : HoldsChrom old r.chrom new

pub found_of : {Q : Type 0} (sorting : Sorting) (old new : OrderedLookahead Q) (text : List ℕ) → LineTaken sorting text old true new → Found sorting old new text
found_of sorting old new text taken = grind arith

-- the record of a line that goes on is found there
pub record FoundNext {Q : Type 0} (sorting : Sorting) (lookahead : OrderedLookahead Q) (lines : List TextLine) : Type 0 where
  pub line : TextLine
  pub more : List TextLine
  pub lines_are : lines ≡ line ∷ more
  pub found : Found sorting lookahead lookahead line.text

goes_on_says : (sorting : Sorting) (place : Locus) (text : List ℕ) (r : Feature) → IsTrue (sorting.knows place.chrom) → record_of text ≡ Ok (Some r) → r.chrom ≡ place.chrom → place.start ≤ r.start
    → line_says sorting (Some place) text ≡ Ok (Some r)
unfolding line_says
goes_on_says sorting place text r known says on above = grind (arith, name_eq)

pub found_next : {Q : Type 0} (sorting : Sorting) (lookahead : OrderedLookahead Q) (lines : List TextLine) → IsKnownLast sorting (last_in lookahead) → HasNext lookahead lines → FoundNext sorting lookahead lines
found_next sorting lookahead lines known next =
    let place : Locus = record { chrom = name_in lookahead; start = start_in lookahead } in
    let first = first_of_run (name_in lookahead) (start_in lookahead) lines next.r next.more next.run in
    let is_known : IsTrue (sorting.knows (name_in lookahead)) = rw next.last at known in
    record {
      line = first.line;
      more = first.more;
      lines_are = first.lines_are;
      found = record {
        r = next.r;
        says = ap (λ last. line_says sorting last first.line.text) next.last ∙ goes_on_says sorting place first.line.text next.r is_known first.says first.chrom first.above;
        holds = record {
          name_is = sym first.chrom;
          start_is = rw (next.last, name_eq (name_in lookahead) next.r.chrom (sym first.chrom)) refl;
        };
      };
    }

-- a record that a batch has first
pub some_first : (batch : Batch) (first : Option RawRecord) → is_some first ≡ true → IfSome first (StandsFirst batch) → (r : Feature) × (more : List Feature) × (left batch ≡ r ∷ more)
some_first batch None some first = cc
some_first batch (Some raw) some first = (record_in raw, left_after batch (record_in raw).start, first.left_is)

-- one that wasn't says nothing
pub skipped_of : {Q : Type 0} (sorting : Sorting) (old new : OrderedLookahead Q) (text : List ℕ) → LineTaken sorting text old false new → line_says sorting (last_in old) text ≡ Ok None
skipped_of sorting old new text taken = taken.says ∙ ap (λ o. Ok o) (grind arith)

-- Lemmas on how a reader of sorted records reads on.

module _ {S Q : Type 0} (device : Source S) (sorting : Sorting) where
  rests : (reader : LineReader S) (lookahead : OrderedLookahead Q) → (view_with sorting None reader lookahead []).fault ≡ line_fault (view_with sorting None reader lookahead []).below
  unfolding view_with
  rests reader lookahead = refl

  none_in : (reader : LineReader S) (lookahead : OrderedLookahead Q) → (view_with sorting None reader lookahead []).buffered ≡ []
  unfolding view_with
  none_in reader lookahead = refl

  pub sorted_start : (reader : LineReader S) (lookahead : OrderedLookahead Q) → Going device (view_with sorting None reader lookahead []) (view_with sorting None reader lookahead [])
  sorted_start reader lookahead = going_start device (view_with sorting None reader lookahead []) (none_in reader lookahead) (rests reader lookahead)

  module _ {old : MemberReader S Feature (Option Locus)} {now : LineReader S} (mid new : SortedReader S Q) (makes : MakesLine device now mid.reader) (kept : IsKept device now → IsKept device mid.reader)
      (g : Going device old (view_with sorting None now mid.lookahead [])) {line : TextLine} {more : List TextLine} (first : lines_buffered mid.reader ≡ line ∷ more)
      (keeps : KeepsLast mid.lookahead new.lookahead) where
    number : line.number ≡ suc (lines_given mid.reader)
    number = next_number mid.reader line more first

    follows : (own : Option FaultValue) (records : List Feature) → Follows device (view_with sorting None now mid.lookahead []) (view_with sorting own new.reader new.lookahead records)
    unfolding view_with
    follows own records = record { state = keeps.last; format = refl }

    came : TakesOne device mid.reader new.reader → LineCame device now line new.reader
    came one = line_came device now mid.reader new.reader makes line more first number one.consumed one.are one.takes

    kept_on : TakesOne device mid.reader new.reader → IsKept device now → IsKept device new.reader
    kept_on one was = one.takes.kept (kept was)

    -- the line said nothing
    pub sorted_more : SkipsLine device sorting mid line new → Going device old (view_with sorting None new.reader new.lookahead [])
    unfolding view_with
    sorted_more skips =
        going_more device old (view_with sorting None now mid.lookahead []) (view_with sorting None new.reader new.lookahead []) line g (came skips.takes) (kept_on skips.takes) skips.says refl refl (follows None [])

    -- it said a record
    pub sorted_record : FindsRecord device sorting mid line new → FillsByName device old (Ok true) (view_with sorting None new.reader new.lookahead (buffered_in new))
    unfolding view_with
    sorted_record finds =
        let made : MakesLine device now new.reader = subst (λ r. MakesLine device now r) (sym finds.same) makes in
        let stays : IsKept device now → IsKept device new.reader = subst (λ r. IsKept device now → IsKept device r) (sym finds.same) kept in
        record {
          fills = record {
            answers = (
              record { line = line.number; item = finds.r },
              going_member device old g made stays
                  (ap lines_buffered finds.same ∙ first) (number ∙ ap (λ r. suc (lines_given r)) (sym finds.same)) finds.says finds.buffered refl (follows None (buffered_in new)),
            );
            kept = λ was. stays (g.passed.kept was);
          };
          for_name = tt;
        }

    -- a fault was returned once some bytes were handed over, and what name it was if memory ran out for one
    record LostFor (fault : FaultValue) : Type 0 where
      answers : AnswersFault device old fault (view_with sorting (Some fault) new.reader new.lookahead [])
      for_name : fault ≡ no_memory → NameUnkept old answers.stays.bytes.0 new.reader

    lost_by : (fault : FaultValue) → LosesLine device sorting mid line fault new → LostFor fault
    unfolding view_with
    lost_by fault loses = elim (lost_parts (record { input = input_of mid.reader; line = line.number }) (line_says sorting (last_in mid.lookahead) line.text) fault loses.cause) [
      | inl wrong ↦ record {
        answers = going_wrong device old g (came loses.takes) refl refl (follows (Some fault) []) (kept_on loses.takes)
            wrong.says (bed_of_line wrong.kind (says_of_line sorting (last_in mid.lookahead) line.text wrong.kind wrong.says))
            (wrong.is ∙ ap (λ i. fault_at_line i line.number wrong.kind) (makes.bytes.1.same_input ∙ g.passed.bytes.1.same_input));
        for_name = λ is. absurd (let other = ap (λ (f : FaultValue). f.place) (sym wrong.is ∙ is) in cc);
      }
      | inr unkept ↦ record {
        answers = going_unkept device old g (came loses.takes) refl refl (follows (Some fault) []) (kept_on loses.takes) unkept.says unkept.is;
        for_name = λ is. subst (λ bytes. NameUnkept old bytes new.reader) (sym (unkept_bytes device old g (came loses.takes) refl refl (follows (Some fault) []) (kept_on loses.takes) unkept.says unkept.is)) (record {
          r = unkept.item;
          first = given_first device old (view_with sorting None now mid.lookahead []) (view_with sorting (Some fault) new.reader new.lookahead []) line g (came loses.takes) unkept.item unkept.says;
          said = rw (← g.format, ← g.state) (line, unkept.says);
          elsewhere = rw (← g.state) (rw unkept.says at loses.elsewhere);
        });
      }
    ]

    -- it wasn't taken
    pub sorted_lost : (fault : Fault) → LosesLine device sorting mid line (fault_value fault) new → FillsByName device old (Err fault) (view_with sorting (Some (fault_value fault)) new.reader new.lookahead [])
    unfolding view_with
    sorted_lost fault loses = record {
      fills = record {
        answers = (lost_by (fault_value fault) loses).answers;
        kept = λ was. kept_on loses.takes (g.passed.kept was);
      };
      for_name = λ going is none. (lost_by (fault_value fault) loses).for_name is;
    }

  module _ (old : MemberReader S Feature (Option Locus)) (now new : LineReader S) (lookahead : OrderedLookahead Q) (kept : IsKept device now → IsKept device new) (g : Going device old (view_with sorting None now lookahead [])) where
    alike : (own : Option FaultValue) → (view_with sorting own new lookahead []).below ≡ (view_with sorting None now lookahead []).below → (view_with sorting own new lookahead []).fault ≡ (view_with sorting None now lookahead []).fault
        → view_with sorting own new lookahead [] ≡ view_with sorting None now lookahead []
    unfolding view_with
    alike own reader fault = let both : new ≡ now = reader in rw (fault, both) refl

    -- the line couldn't be read
    pub sorted_unread : (fault : Fault) → GivesFault device now (fault_value fault) new → FillsByName device old (Err fault) (view_with sorting (Some (fault_value fault)) new lookahead [])
    unfolding view_with
    sorted_unread fault gives = record {
      fills = record {
        answers = going_unread device old (view_with sorting None now lookahead []) (view_with sorting (Some (fault_value fault)) new lookahead []) (fault_value fault) g gives refl refl (record { state = refl; format = refl }) (alike (Some (fault_value fault)));
        kept = λ was. kept (g.passed.kept was);
      };
      for_name = λ going is none. absurd (let apart : None ≡ Some (fault_value fault) = sym none ∙ gives.kept in cc);
    }

    -- no line was left
    pub sorted_end : GivesEnd device now new → FillsByName device old (Ok false) (view_with sorting None new lookahead [])
    unfolding view_with
    sorted_end gives = record {
      fills = record {
        answers = going_end device old (view_with sorting None now lookahead []) (view_with sorting None new lookahead []) g gives refl refl (record { state = refl; format = refl }) (alike None);
        kept = λ was. kept (g.passed.kept was);
      };
      for_name = tt;
    }

-- if no record is known to be ahead, none is buffered
pub none_buffered : {S Q : Type 0} (sorted : SortedReader S Q) → sorted.is_ahead ≡ false → buffered_in sorted ≡ []
unfolding buffered_in
none_buffered sorted none = rw none refl

module _ {S Q : Type 0} (device : Source S) (sorting : Sorting) where
  -- a reader with no fault of its own and no record buffered
  pub view_before : (sorted : SortedReader S Q) → sorted.is_ahead ≡ false → sorted.fault ≡ None → view_in sorting sorted ≡ view_with sorting None sorted.reader sorted.lookahead []
  view_before sorted none going = grind (arith, none_buffered)

  -- the next line, which was made buffered, was taken
  module _ {mid new : SortedReader S Q} (rules : Sorting) (same : rules ≡ sorting) where
    there : (answer : Result Bool Fault) → TakesFirst device rules mid answer new → TakesFirst device sorting mid answer new
    there answer taken = subst (λ s. TakesFirst device s mid answer new) same taken

    module _ (old : MemberReader S Feature (Option Locus)) (now : LineReader S) (makes : MakesLine device now mid.reader) (kept : IsKept device now → IsKept device mid.reader) (g : Going device old (view_with sorting None now mid.lookahead [])) where
      pub taken_record : TakesFirst device rules mid (Ok true) new → FillsByName device old (Ok true) (view_with sorting None new.reader new.lookahead (buffered_in new))
      taken_record taken =
          let first = there (Ok true) taken in
          sorted_record device sorting mid new makes kept g first.first first.keeps first.takes

      pub taken_nothing : TakesFirst device rules mid (Ok false) new → Going device old (view_with sorting None new.reader new.lookahead [])
      taken_nothing taken =
          let first = there (Ok false) taken in
          sorted_more device sorting mid new makes kept g first.first first.keeps first.takes

      pub taken_fault : (fault : Fault) → TakesFirst device rules mid (Err fault) new → FillsByName device old (Err fault) (view_with sorting (Some (fault_value fault)) new.reader new.lookahead (buffered_in new))
      taken_fault fault taken =
          let first = there (Err fault) taken in
          rw (none_buffered new first.takes.none) (sorted_lost device sorting mid new makes kept g first.first first.keeps fault first.takes)

module _ {S Q : Type 0} (sorted : SortedReader S Q) (some : sorted.is_ahead ≡ true) where
  ahead_parts : (r : Feature) × (more : List Feature) × (buffered_in sorted ≡ r ∷ more)
  unfolding buffered_in
  ahead_parts = grind arith

  run_is : run_of (name_in sorted.lookahead) (start_in sorted.lookahead) (lines_buffered sorted.reader) ≡ ahead_parts.0 ∷ ahead_parts.1
  unfolding buffered_in
  run_is = (is_ahead_by sorted.is_ahead (run_of (name_in sorted.lookahead) (start_in sorted.lookahead) (lines_buffered sorted.reader)) ahead_parts.0 ahead_parts.1 ahead_parts.2).1

  first_is : FirstOfRun (name_in sorted.lookahead) (start_in sorted.lookahead) (lines_buffered sorted.reader) ahead_parts.0 ahead_parts.1
  first_is = first_of_run (name_in sorted.lookahead) (start_in sorted.lookahead) (lines_buffered sorted.reader) ahead_parts.0 ahead_parts.1 run_is

  -- the chromosome of what is buffered has a record's name
  pub name_is_record : IsRecordName (name_in sorted.lookahead)
  name_is_record = subst IsRecordName first_is.chrom (said_record_name first_is.line.text ahead_parts.0 (sym first_is.says))

  module _ (device : Source S) (sorting : Sorting) (placed : IsPlaced sorting (view_in sorting sorted)) where
    said_first : AreSaid (bed_format sorting) (last_in sorted.lookahead) (ahead_parts.0 ∷ ahead_parts.1)
    unfolding view_with
    said_first = order_is_said sorting (last_in sorted.lookahead) (name_in sorted.lookahead) (start_in sorted.lookahead) (lines_buffered sorted.reader) (ahead_parts.0 ∷ ahead_parts.1) run_is (ap (are_in_order sorting (last_in sorted.lookahead)) (sym ahead_parts.2) ∙ placed.in_order)

    going_below : (own kept : Option FaultValue) → or_else own kept ≡ None → kept ≡ None
    going_below own kept e = grind arith

    -- the record ahead is given again
    pub sorted_again : FillsByName device (view_in sorting sorted) (Ok true) (view_in sorting sorted)
    unfolding view_with
    sorted_again =
        let says = says_again sorting (last_in sorted.lookahead) first_is.line.text said_first.0.0.text ahead_parts.0 said_first.0.1 first_is.says in
        record {
          fills = record {
            answers = (
              record { line = first_is.line.number; item = ahead_parts.0 },
              gives_again device (view_in sorting sorted) first_is.line first_is.more ahead_parts.0 ahead_parts.1 (placed.going (ap is_some_left ahead_parts.2))
                  (going_below (option_map fault_value sorted.fault) (line_fault sorted.reader) (placed.going (ap is_some_left ahead_parts.2)))
                  (next_bytes sorted.reader first_is.line first_is.more first_is.lines_are) first_is.lines_are (next_number sorted.reader first_is.line first_is.more first_is.lines_are) says ahead_parts.2,
            );
            kept = λ was. was;
          };
          for_name = tt;
        }

-- a fault is returned again
fails_again : {S A State : Type 0} (device : Source S) (reader : MemberReader S A State) (fault : FaultValue) → reader.fault ≡ Some fault → reader.buffered ≡ [] → AnswersFault device reader fault reader
fails_again device reader fault is none = record {
  stays = record { bytes = ([], hands_none device reader.below); format = refl };
  kept = is;
  was_none = none;
  none_buffered = none;
  state = refl;
  again = λ before e. let same : Some fault ≡ Some before = sym is ∙ e in (cc, refl);
  first = λ going. let other : ◌≡◌ {A = Option FaultValue} (Some fault) None = sym is ∙ going in cc;
  below_was_going = λ going. let other : ◌≡◌ {A = Option FaultValue} (Some fault) None = sym is ∙ going in cc;
  rises = omega arith;
  lines = λ none. none_pass reader.below reader.below [] (λ rest. refl) refl;
  near = λ going. let other : ◌≡◌ {A = Option FaultValue} (Some fault) None = sym is ∙ going in cc;
}

pub sorted_fails : {S Q : Type 0} (device : Source S) (sorting : Sorting) (sorted : SortedReader S Q) (fault : Fault) → sorted.is_ahead ≡ false → sorted.fault ≡ Some fault
    → FillsByName device (view_in sorting sorted) (Err fault) (view_in sorting sorted)
unfolding view_with buffered_in
sorted_fails device sorting sorted fault none is = record {
  fills = record { answers = fails_again device (view_in sorting sorted) (fault_value fault) (rw is refl) (rw none refl); kept = λ was. was };
  for_name = λ going. absurd (let apart : ◌≡◌ {A = Option FaultValue} (Some (fault_value fault)) None = sym (rw is refl) ∙ going in cc);
}

-- `peek` is `fill` and the first of what is buffered
module _ {S : Type 0} (device : Source S) (Next : Feature → Type 0) (Keeps : Type 0) (old new : MemberReader S Feature (Option Locus)) where
  peeks_at : (is_some : Bool) (first : Option BedRef) → FillsSorted device Next Keeps old new (Ok is_some) → IfSome first (λ bed. (more : List Feature) × (new.buffered ≡ feature_lent bed ∷ more))
      → IfNone first (new.buffered ≡ []) → PeeksSorted device Next Keeps old new (Ok first)
  peeks_at true (Some bed) fills some none = grind arith
  peeks_at true None fills some none = grind arith
  peeks_at false (Some bed) fills some none = grind arith
  peeks_at false None fills some none = grind arith

  pub peeks_by : (answer : Result Bool Fault) (is_some : Bool) (first : Option BedRef) → answer ≡ Ok is_some → FillsSorted device Next Keeps old new answer
      → IfSome first (λ bed. (more : List Feature) × (new.buffered ≡ feature_lent bed ∷ more)) → IfNone first (new.buffered ≡ []) → PeeksSorted device Next Keeps old new (Ok first)
  peeks_by answer is_some first e fills = peeks_at is_some first (subst (λ (r : Result Bool Fault). FillsSorted device Next Keeps old new r) e fills)

  fails_at : (fault : Fault) → FillsSorted device Next Keeps old new (Err fault) → PeeksSorted device Next Keeps old new (Err fault)
  fails_at fault fills = record { answers = fills.answers; next = fills.next; for_name = fills.for_name; kept = fills.kept; order = fills.order }

  -- and a fault that it returns
  pub peek_fails : (answer : Result Bool Fault) (peeked : Result (Option BedRef) Fault) (fault : Fault) → answer ≡ Err fault → IsErrAnd peeked (λ e. e ≡ fault) → FillsSorted device Next Keeps old new answer → PeeksSorted device Next Keeps old new peeked
  peek_fails answer peeked fault e is fills =
      passed_on (λ (r : Result (Option BedRef) Fault). PeeksSorted device Next Keeps old new r) peeked fault is (fails_at fault (subst (λ (r : Result Bool Fault). FillsSorted device Next Keeps old new r) e fills))
