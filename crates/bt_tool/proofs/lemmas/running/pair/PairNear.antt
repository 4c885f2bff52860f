-- Lemmas on how far two inputs were read beside what was written.
use Rattle.bt_lines.proofs.Std.{common_steps, ◌≡◌, ℕ, zero, suc, ◌+◌, ◌-◌, ◌<◌, ◌≤◌, Bool, true, false, not, List, [], ◌∷◌, ◌++◌, take, drop, Option, None, Some, Result, Ok, Err, refl, sym, ap, ◌∙◌, subst, arith, flat_map, inl, inr, ◌⊎◌, ◌&&◌, ◌||◌, All, IfSome, length, if◌then◌else◌, list_all, list_any, false≢true, map-append, take-append-drop, option_map, All-head, All-tail, append-nil, append_cancel_left}
use Rattle.bt_lines.specs.model.Lines.{Handed, TextLine, bytes_in, text_lines}
use Rattle.bt_lines.specs.calls.Line.{AreNumbered}
use Rattle.bt_lines.specs.model.Fault.{FaultValue}
use Rattle.bt_lines.specs.calls.Output.{Output, block_size}
use Rattle.bt_lines.specs.calls.Reader.{source_of, lines_coming, lines_given}
use Rattle.bt_lines.specs.declared.fault.Input.{Input}
use Rattle.bt_lines.specs.declared.fault.Input.TheVariants.{First, Second}
use Rattle.bt_lines.specs.declared.fault.Kind.{Kind}
use Rattle.bt_lines.specs.declared.fault.Place.{Place}
use Rattle.bt_lines.proofs.lemmas.reader.lines.TextLemmas.{bytes_in-append, lines_are_numbered}
use Rattle.bt_bed.specs.model.Feature.{Feature}
use Rattle.bt_bed.specs.model.Good.{Format, Good, Member, good, good_after, good_handed, good_with, items_in}
use Rattle.bt_bed.specs.calls.Reading.{BeginsComing, IsBeyond, IsFaultBeyond, MemberReader, ahead_in, first_from as first_of_members}
use Rattle.bt_bed.proofs.lemmas.read.good.SaidLemmas.{ascend_from, first_from}
use Rattle.bt_tool.specs.model.Reaches.{bytes_up_to, last_line_needed}
use Rattle.bt_tool.specs.calls.Run.{IsFaultButWrite, IsWithin, ReadsNoFurther}
use Rattle.bt_tool.specs.inside.Feed.{TookButBlock, WhateverComes, member_items, ConsumesGiven, HasTaken}
use Rattle.bt_tool.specs.calls.Inputs.{InputRead, MayHold}
use Rattle.bt_tool.specs.inside.Pair.{HasNoMore, JoinDef, MayCome, Pair, AsksFor, PairEnds, StaysNear}
use Rattle.bt_tool.proofs.lemmas.running.members.CursorLemmas.{BeginsAt, at_whole, handed_to, read}
use Rattle.bt_lines.specs.declared.device.Source.{Ghosts as Source}
use Rattle.bt_bed.specs.calls.Batch.{IsWhere, Passes, cursor_in, left as left_in, line_in}
use Rattle.bt_bed.specs.calls.SortedReader.{view_with}
use Rattle.bt_bed.specs.calls.Records.{IsTaken, Lends, TakesRecords, below, buffered_in, count_in, view_of}
use Rattle.bt_bed.specs.declared.read.batch.Batch.{Batch}
use Rattle.bt_bed.specs.declared.read.batch.Consumed.{Consumed}
use Rattle.bt_bed.specs.declared.order.ChromOrder.{Ghosts}
use Rattle.bt_bed.specs.declared.read.records.Records.{Records}
use Rattle.bt_bed.proofs.lemmas.read.good.SaidRuns.{taken_are, token_is}
use Rattle.bt_tool.proofs.lemmas.running.members.PassedLemmas.{has_taken}

module _ {A State : Type 0} (format : Format A State) (input : Input) where
  front_with : (bound number : ℕ) (state : State) (said : Result (Option A) Kind) (whole taken : State → Good A) (past rest : List (Member A))
      → ((now : State) (past rest : List (Member A)) → (whole now).members ≡ past ++ rest → All (λ m. m.line ≤ bound) past → (extra : List (Member A)) × ((taken now).members ≡ past ++ extra))
      → (good_with format input number state said whole).members ≡ past ++ rest → All (λ m. m.line ≤ bound) past
      → (extra : List (Member A)) × ((good_with format input number state said taken).members ≡ past ++ extra)
  front_with bound number state said whole taken [] rest h e up = ((good_with format input number state said taken).members, refl)
  front_with bound number state (Err kind) whole taken (m ∷ ms) rest h e up = cc
  front_with bound number state (Ok None) whole taken (m ∷ ms) rest h e up = h state (m ∷ ms) rest e up
  front_with bound number state (Ok (Some item)) whole taken (m ∷ ms) rest h e up = grind (arith, (All-tail (λ (m : Member A). m.line ≤ bound) m ms up))

  -- members on the first lines are among those that are good of these lines
  pub front_from : (more : ℕ) {bound : ℕ} (number : ℕ) (state : State) (lines : List TextLine) (past rest : List (Member A)) → suc bound ≡ number + more → AreNumbered number lines
      → (good_after format input state lines).members ≡ past ++ rest → All (λ m. m.line ≤ bound) past
      → (extra : List (Member A)) × ((good_after format input state (take more lines)).members ≡ past ++ extra)
  unfolding good_after
  front_from zero number state lines [] rest size n e up = ([], refl)
  front_from zero {bound} number state lines (m ∷ ms) rest size n e up = grind (arith, (ascend_from format input number state lines n), (All-head (λ (m : Member A). m.line ≤ bound) m ms up))
  front_from (suc more) number state [] past rest size n e up = (rest, e)
  front_from (suc more) {bound} number state (line ∷ lines) past rest size n e up =
      front_with bound line.number state (format.says state line) (λ now. good_after format input now lines) (λ now. good_after format input now (take more lines)) past rest
      (λ now past rest e up. front_from more (suc number) now lines past rest (omega arith) n.1 e up) e up

-- the bytes of fewer lines
pub take_less : (less more : ℕ) (lines : List TextLine) → less ≤ more → bytes_in (take less lines) ≤ bytes_in (take more lines)
take_less zero more lines h = omega arith
take_less (suc less) zero lines h = absurd (omega arith)
take_less (suc less) (suc more) [] h = omega arith
take_less (suc less) (suc more) (x ∷ xs) h = grind (arith, common_steps, (take_less less more xs (omega arith)))

pub take_whole : (count : ℕ) (lines : List TextLine) → bytes_in (take count lines) ≤ bytes_in lines
take_whole count lines = omega (arith, bytes_in-append (take count lines) (drop count lines), ap bytes_in (take-append-drop count lines))

open_by : (b any all : Bool) → (not b || any) ≡ true → (any ≡ true → all ≡ false) → (b && all) ≡ false
open_by b any all e h = grind arith

pub not_all : {X : Type 0} (test : X → Bool) (xs : List X) → list_any (λ x. not (test x)) xs ≡ true → list_all test xs ≡ false
not_all test [] e = absurd (false≢true e)
not_all test (x ∷ xs) e = open_by (test x) (list_any (λ x. not (test x)) xs) (list_all test xs) e (not_all test xs)

pub least_by : (b : Bool) (m : Member Feature) (o : Option (Member Feature)) (fault : Option FaultValue) (lines : List TextLine) (count : ℕ) → count < m.line
    → bytes_in (take (suc count) lines) ≤ bytes_up_to lines (last_line_needed o fault) → bytes_in (take (suc count) lines) ≤ bytes_up_to lines (last_line_needed (if b then Some m else o) fault)
least_by true m o fault lines count low h = take_less (suc count) m.line lines (omega arith)
least_by false m o fault lines count low h = h

place_least : (place : Option Place) (lines : List TextLine) (count : ℕ) → IfSome place (λ place. count < place.line) → bytes_in (take (suc count) lines) ≤ bytes_up_to lines (option_map (λ place. place.line) place)
place_least None lines count h = take_whole (suc count) lines
place_least (Some place) lines count h = take_less (suc count) place.line lines (omega arith)

-- where no member is needed, the lines up to the fault are
pub fault_least : (fault : Option FaultValue) (lines : List TextLine) (count : ℕ) → IfSome fault (IsFaultBeyond count) → bytes_in (take (suc count) lines) ≤ bytes_up_to lines (last_line_needed None fault)
fault_least None lines count h = take_whole (suc count) lines
fault_least (Some fault) lines count h = place_least fault.place lines count h

-- members of the first need the lines after those that were taken for the first of them
abbrev pub AreNeeded : {X Y : Type 0} → JoinDef X Y → Type 0
AreNeeded {X} {Y} join =
    (given extra : List X) (past rest : List (Member Y)) (fault : Option FaultValue) (lines : List TextLine) (count : ℕ) → join.Asks given (member_items past)
    → IsBeyond count (record { members = rest; fault = fault })
    → bytes_in (take (suc count) lines) ≤ join.reaches (given ++ extra) (record { members = past ++ rest; fault = fault }) lines

module _ {A B X Y U V : Type 0} {join : JoinDef X Y} {pair : Pair A B X Y U V} {out : Output}
    {first_format : Format X U} {second_format : Format Y V} (in_order : (two : Handed) → join.InOrder (items_in (good_handed second_format Second two))) (needed : AreNeeded join)
    {one_before : A} {two_before : B} (begins : BeginsAt first_format First one_before pair.first) (begins_second : BeginsAt second_format Second two_before pair.second)
    {first : MemberReader A X U} {second : MemberReader B Y V} {one_after : A} {two_after : B} (ended : source_of first.below ≡ one_after) (ended_second : source_of second.below ≡ two_after)
    {fault : Option FaultValue} {grown : Output} (w : PairEnds join pair out fault first second grown) where
  abbrev near : StaysNear join pair out w.first_bytes.0 w.second_bytes.0 first second grown
  near = w.near

  abbrev count : ℕ
  count = near.first_near.to.count

  abbrev one_read : InputRead
  one_read = read pair.source_a pair.first begins first ended w.first_bytes.1

  abbrev two_read : InputRead
  two_read = read pair.source_b pair.second begins_second second ended_second w.second_bytes.1

  abbrev pub items_on : List TextLine → List X
  items_on lines = items_in (good first_format First lines)

  abbrev pub settles : Handed → List TextLine → List ℕ
  settles two lines = flat_map (λ x. join.bytes x (items_in (good_handed second_format Second two))) (items_on lines)

  abbrev pub reaches : Handed → List TextLine → ℕ
  reaches two lines = join.reaches (items_on lines) (good_handed second_format Second two) (text_lines two.text)

  module _ (one two : Handed) (holds : MayHold one_read one) (others : MayHold two_read two) where
    abbrev good_one : Good X
    good_one = good first_format First (text_lines one.text)

    abbrev good_two : Good Y
    good_two = good_handed second_format Second two

    of_one : (P : Good X → Type 0) → WhateverComes pair.first w.first_bytes.0 first P → P good_one
    of_one P h = subst P (begins.good (w.first_bytes.0 ++ holds.rest) ∙ ap (λ (t : Handed). good first_format First (text_lines t.text)) (sym holds.is)) (h holds.rest holds.follows)

    of_two : (P : Good Y → Type 0) → WhateverComes pair.second w.second_bytes.0 second P → P good_two
    of_two P h = at_whole pair.source_b pair.second begins_second second ended_second w.second_bytes.1 others P h

    -- those that were given are on them and the next
    given_on : (extra : List (Member X)) × (items_on (take (suc count) (text_lines one.text)) ≡ member_items near.given_first ++ member_items extra)
    given_on =
        let b = of_one (λ good. (rest : List (Member X)) × (good.members ≡ near.given_first ++ rest)) near.first_near.begins in
        let found = front_from first_format First (suc count) 1 first_format.begin (text_lines one.text) near.given_first b.0 (omega arith) (lines_are_numbered 1 one.text) b.1 near.first_near.high in
        (found.0, ap member_items found.1 ∙ map-append (λ m. m.item) near.given_first found.0)

    -- the members of the first lines are those that were written, and none of them is at fault
    on_first : good first_format First (take count (text_lines one.text)) ≡ record { members = near.past; fault = None }
    on_first =
        let b = of_one (λ good. (rest : List (Member X)) × (good.members ≡ near.past ++ rest) × IsBeyond count (record { members = rest; fault = good.fault })) near.first_near.to.behind in
        first_from first_format First count 1 first_format.begin (text_lines one.text) (omega arith) (lines_are_numbered 1 one.text) b.1 refl near.first_near.low b.2

    -- what the second input may have
    may_two : MayCome (member_items near.wrote.seen) near.wrote.ended (items_in good_two) good_two.fault
    may_two =
        let b = of_two (λ good. (rest : List (Member Y)) × (good.members ≡ near.wrote.seen ++ rest)) near.wrote.second_begins in
        record {
          begins = (member_items b.0, ap member_items b.1 ∙ map-append (λ m. m.item) near.wrote.seen b.0);
          all = λ e. (let all = of_two (λ good. (good.members ≡ near.wrote.seen) × (good.fault ≡ None)) (near.wrote.second_all e) in (ap member_items all.0, all.1));
        }

    -- their lines were written
    settled : settles two (take count (text_lines one.text)) ≡ near.bytes
    settled =
        ap (flat_map (λ x. join.bytes x (items_in good_two))) (ap (λ (g : Good X). items_in g) on_first ∙ near.items)
        ∙ (near.wrote.settles.whatever (items_in good_two) good_two.fault (in_order two) may_two).1

    -- the second input was read as far as they need
    beside_by : AsksFor join pair out w.first_bytes.0 w.second_bytes.0 near.given_first second → length two_read.bytes ≤ reaches two (take (suc count) (text_lines one.text)) + block_size
    beside_by asks =
        let read = asks.near in
        let text = w.second_bytes.0 ++ others.rest in
        let handed = handed_to pair.source_b pair.second begins_second second ended_second w.second_bytes.1 read.count others.rest others.follows read.near in
        let rest = of_two (λ good. (rest : List (Member Y)) × (good.members ≡ asks.past ++ rest) × IsBeyond read.count (record { members = rest; fault = good.fault })) read.behind in
        let needs = needed (member_items near.given_first) (member_items given_on.0) asks.past rest.0 good_two.fault (text_lines text) read.count asks.reached rest.2 in
        let whole : good_two ≡ record { members = asks.past ++ rest.0; fault = good_two.fault } = ap (λ members. record { members = members; fault = good_two.fault }) rest.1 in
        let all : join.reaches (member_items near.given_first ++ member_items given_on.0) (record { members = asks.past ++ rest.0; fault = good_two.fault }) (text_lines text) ≡ reaches two (take (suc count) (text_lines one.text)) =
        ap (λ (g : Good Y). join.reaches (member_items near.given_first ++ member_items given_on.0) g (text_lines text)) (sym whole)
        ∙ ap (λ (xs : List X). join.reaches xs good_two (text_lines text)) (sym given_on.1)
        ∙ ap (λ (t : Handed). join.reaches (items_on (take (suc count) (text_lines one.text))) good_two (text_lines t.text)) (sym others.is) in
        omega (arith, handed, needs, all)

    beside : HasNoMore pair w.first_bytes.0 first count ⊎ AsksFor join pair out w.first_bytes.0 w.second_bytes.0 near.given_first second → IsWithin one_read.told one.text (suc count)
        → length two_read.bytes ≤ reaches two (take (suc count) (text_lines one.text)) + block_size
    beside (inr asks) within = beside_by asks
    beside (inl none) (inl untold) = absurd (false≢true (sym untold ∙ none.0))
    beside (inl none) (inr more) =
        let same : text_lines one.text ≡ lines_coming w.first_bytes.0 pair.first.below =
        ap (λ (t : Handed). text_lines t.text) holds.is ∙ ap (λ l. text_lines (w.first_bytes.0 ++ l)) (holds.follows none.0) ∙ ap text_lines (append-nil w.first_bytes.0) ∙ sym (begins.lines w.first_bytes.0) in
        absurd (omega (arith, more, none.1, ap length same))

  -- how far both inputs were read
  pub near_both : (n : ℕ) × ((one two : Handed) → MayHold one_read one → MayHold two_read two
      → ReadsNoFurther n (IsWithin one_read.told one.text n → length two_read.bytes ≤ reaches two (take n (text_lines one.text)) + block_size)
      (λ lines. (good first_format First lines).fault) (settles two) one.text one_read.bytes out.put grown.took (grown.has_failed ≡ true) (IsFaultButWrite fault) grown.put)
  near_both = (
    suc count,
    λ one two holds others.
        let less : suc count - 1 ≡ count = omega arith in
        let same : near.bytes ≡ settles two (take count (text_lines one.text)) = sym (settled one two holds others) in
        let lines : TookButBlock out (settles two (take count (text_lines one.text))) grown = subst (λ l. TookButBlock out l grown) same near.took in
        let handed = handed_to pair.source_a pair.first begins first ended w.first_bytes.1 count holds.rest holds.follows near.first_near.to.near in
        record {
          some = omega arith;
          faultless = rw less (ap (λ (g : Good X). g.fault) (on_first one two holds others));
          read = subst (λ (t : Handed). length w.first_bytes.0 ≤ bytes_in (take (suc count) (text_lines t.text)) + block_size) (sym holds.is) handed;
          settled = rw less lines.took;
          kept = rw less lines.put;
          exact = rw less (λ stops. w.exact stops ∙ ap (λ l. out.put ++ l) same);
          beside = beside one two holds others near.beside;
        },
  )

-- Lemmas on what is consumed of the records that a reader has buffered, once their batch was given.

module _ {S O : Type 0} {g : Ghosts O} (now : Records S O g) {batch : Batch} (lends : Lends now batch) where
  lent_is : left_in batch ≡ buffered_in now
  unfolding view_of view_with
  lent_is = lends.left_is

  given_is : (cursor_in batch).lines ≡ lines_given (below now)
  unfolding view_of view_with
  given_is = lends.given

  module _ {last : Batch} {records : List Feature} (passes : Passes batch records last) {consumed : Consumed} (is : IsWhere last consumed) where
    pub batch_taken : IsTaken now consumed
    batch_taken = token_is now.sorted batch last records consumed lends passes is

    records_are : take (count_in now consumed) (buffered_in now) ≡ records
    unfolding view_of view_with
    records_are = taken_are now.sorted batch last records consumed lends passes is

    module _ {device : Source S} (comes : BeginsComing (view_of now)) (new : Records S O g) (takes : TakesRecords device now (count_in now consumed) new) where
      pub taken_of : HasTaken device (view_of now) records (view_of new)
      taken_of = has_taken device now new (count_in now consumed) records records_are comes takes

      -- what is buffered then is what the batch has left
      pub left_then : (view_of new).buffered ≡ left_in last
      left_then = append_cancel_left records (view_of new).buffered (left_in last) (sym taken_of.takes.buffered ∙ sym lent_is ∙ passes.left_is)

      -- where it has none left, all that was buffered is taken
      pub all_taken : left_in last ≡ [] → HasTaken device (view_of now) (buffered_in now) (view_of new)
      all_taken none = grind (arith, append-nil, lent_is, taken_of)

      line_is : line_in last ≡ lines_given (below new)
      unfolding line_in cursor_in
      line_is = omega (arith, passes.lines.given, given_is, taken_of.takes.given)

-- the reader consumed what was given of the batch
pub consumes_given : {S O : Type 0} {g : Ghosts O} (now : Records S O g) (batch : Batch) (lends : Lends now batch) (last : Batch) (records : List Feature) → Passes batch records last → (consumed : Consumed) → IsWhere last consumed
    → (device : Source S) → BeginsComing (view_of now) → (new : Records S O g) → TakesRecords device now (count_in now consumed) new → ConsumesGiven device now batch last new
consumes_given now batch lends last records passes consumed is device comes new takes = record {
  takes = λ records passes. taken_of now lends passes is comes new takes;
  left_is = left_then now lends passes is comes new takes;
  line_is = line_is now lends passes is comes new takes;
  order = takes.order;
}

module _ {S O : Type 0} {g : Ghosts O} (device : Source S) (old new : Records S O g) (first last : Batch) (consumes : ConsumesGiven device old first last new) where
  -- the next record of the batch is ahead
  pub first_then : (b : Feature) (after : Batch) → Passes last (b ∷ []) after → ahead_in (view_of new) ≡ Some (record { line = suc (lines_given (below new)); item = b })
  first_then b after next = ap (first_of_members (suc (lines_given (below new)))) (consumes.left_is ∙ next.left_is)

  pub line_then : (b : Feature) (after : Batch) → Passes last (b ∷ []) after → line_in after ≡ suc (lines_given (below new))
  unfolding line_in cursor_in
  line_then b after next = omega (arith, next.lines.given, consumes.line_is)
