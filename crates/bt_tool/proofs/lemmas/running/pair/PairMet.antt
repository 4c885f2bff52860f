-- What all members of two inputs give.
use Rattle.bt_lines.proofs.Std.{ℕ, ◌||◌, List, is_none, ◌≡◌, suc, ◌+◌, ◌≤◌, ◌<◌, Bool, true, false, [], ◌∷◌, ◌++◌, Option, None, Some, refl, sym, ap, ◌∙◌, subst, append_assoc, append-nil, arith, flat_map, inl, inr, ◌⊎◌, ◌≢◌, All, IsSome, length, option_to_list, take, list_all, false≢true, or_from, map-append, All-head, All-tail, Result, Ok, Err, option_map}
use Rattle.std.specs.Result.{result_err}
use Rattle.bt_lines.specs.model.Fault.{FaultValue}
use Rattle.bt_lines.specs.declared.fault.Fault.{Fault}
use Rattle.bt_lines.specs.calls.Names.{fault_value}
use Rattle.bt_bed.specs.calls.SortedReader.{fault_in}
use Rattle.bt_lines.specs.calls.Faults.{no_memory, write_failed}
use Rattle.bt_bed.specs.model.Good.{Good, items_in, or_else, Format, Member, good, good_handed}
use Rattle.bt_bed.specs.model.Meeting.{Report, Rule, join_report, written}
use Rattle.bt_tool.specs.inside.Pair.{JoinDef, MayCome, Pair, Serves, PairEnds, FirstStops, InputsEnd, LimitStops, RestStops, SecondFails, SecondStops, Why}
use Rattle.bt_lines.proofs.lemmas.reader.block.ReadsLemmas.{some_is}
use Rattle.bt_lines.specs.model.Lines.{Handed, TextLine, text_lines}
use Rattle.bt_lines.specs.calls.Output.{Output, block_size}
use Rattle.bt_lines.specs.calls.Reader.{MayStillCome, end_told, fault_kept as line_fault, input_of, lines_given, source_of}
use Rattle.bt_lines.specs.declared.fault.Input.TheVariants.{First, Second}
use Rattle.bt_bed.specs.calls.Reading.{IsBeyond, MemberReader, coming}
use Rattle.bt_bed.proofs.lemmas.Definitions.{all_stop, met_fault_stop, met_output, written_past, written_stop}
use Rattle.bt_tool.specs.model.Behaviour.{Behaviour, or_empty}
use Rattle.bt_tool.specs.calls.Inputs.{CameOf, InputRead, MayHold, OfBoth}
use Rattle.bt_bed.specs.model.BedLine.{fault_at_line}
use Rattle.bt_tool.specs.calls.Run.{RunsBy, IsFaultButWrite, IsReported, IsWithin, ReadsNoFurther, TellsDevice, TellsInput, TellsNoRead}
use Rattle.bt_tool.proofs.lemmas.running.members.CursorLemmas.{Came, BeginsAt, at_whole, came_cut, came_whole, not_failed, read, reads_so, says_fault, tells_read}
use Rattle.bt_tool.specs.inside.Feed.{CutsLines, IsKeptBelow, PutsLines, WhateverComes, member_items, HasFaultBehind}
use Rattle.bt_tool.proofs.lemmas.running.feed.WritingLemmas.{is_whole}
use Rattle.bt_tool.proofs.lemmas.running.members.SeenLemmas.{PutsFront, puts_front}

module _ {X Y : Type 0} (join : JoinDef X Y) where
  -- what the good members of the second input, and its fault, make of the members of the first
  abbrev pub rule_of : List X → Good Y → Rule X
  rule_of all second = record {
    decided = λ x. is_none second.fault || join.decided x (items_in second);
    lines = λ x. join.bytes x (items_in second);
    fault = second.fault;
    last = or_else (join.last all second.members) second.fault;
  }

  -- what is written of two inputs, and the fault that is reported
  abbrev pub met_whole : Good X → Good Y → Report
  met_whole first second = join_report (rule_of (items_in first) second) (items_in first) first.fault

  -- the same, by what the first meets of the second
  abbrev pub met_by : Good X → Good Y → Report
  met_by first second = met_whole first (join.within_limit (items_in first) second)

-- Lemmas from how a run over two readers of members ends to the report on how the inputs meet.

pub record AreLimits {X Y : Type 0} (join : JoinDef X Y) : Type 0 where
  -- what fits, fits with more of the first input
  pub more : (given later : List X) (past : List (Member Y)) → join.Fits given past → join.Fits (given ++ later) past
  -- if all of the second fits, it isn't cut
  pub whole : (first : List X) (past : List (Member Y)) (fault : Option FaultValue) → join.Fits first past
      → join.within_limit first (record { members = past; fault = fault }) ≡ record { members = past; fault = fault }
  -- what fits stays, and so does the one member after it
  pub keeps : (first : List X) (past : List (Member Y)) (ahead : Option (Member Y)) (rest : List (Member Y)) (fault : Option FaultValue) → join.Fits first past
      → (more : List (Member Y)) × ((join.within_limit first (record { members = (past ++ option_to_list ahead) ++ rest; fault = fault })).members ≡ (past ++ option_to_list ahead) ++ more)
  -- if all of the first is decided, the second isn't cut
  pub done : (first : List X) (past : List (Member Y)) (ahead : Option (Member Y)) (rest : List (Member Y)) (fault : Option FaultValue) → join.Fits first past
      → join.InOrder (member_items ((past ++ option_to_list ahead) ++ rest))
      → (join.InOrder (member_items (past ++ option_to_list ahead)) → list_all (λ x. join.decided x (member_items (past ++ option_to_list ahead))) first ≡ true)
      → join.within_limit first (record { members = (past ++ option_to_list ahead) ++ rest; fault = fault }) ≡ record { members = (past ++ option_to_list ahead) ++ rest; fault = fault }
  -- what is left of the second is in order
  pub ordered : (first : List X) (second : Good Y) → join.InOrder (items_in second) → join.InOrder (items_in (join.within_limit first second))

-- an input that is there
both_if : (P : InputRead → Handed → Type 0) (one : InputRead) (handed : Option Handed) → OfBoth P (Some one) handed → P one (or_empty handed)
both_if P one None h = absurd h
both_if P one (Some handed) h = h

module _ {X Y : Type 0} (join : JoinDef X Y) where
  -- what the lines and the fault of a meeting are
  abbrev MeetsAs : Good X → Good Y → List ℕ → Option FaultValue → Type 0
  MeetsAs first second bytes fault = ((met_whole join first second).output ≡ bytes) × ((met_whole join first second).fault ≡ fault)

  -- these members are decided, and have these bytes
  abbrev HereAs : Good Y → List X → List ℕ → Type 0
  HereAs second xs bytes = (list_all (λ x. is_none second.fault || join.decided x (items_in second)) xs ≡ true) × (flat_map (λ x. join.bytes x (items_in second)) xs ≡ bytes)

  module _ (first : Good X) (second : Good Y) (xs : List X) (bytes : List ℕ) (here : HereAs second xs bytes) where
    -- one of them waits, which the second input doesn't decide
    meets_stop : (a : X) (rest : List X) (fault : FaultValue) → items_in first ≡ xs ++ a ∷ rest → second.fault ≡ Some fault → join.decided a (items_in second) ≡ false → MeetsAs first second bytes (Some fault)
    meets_stop a rest fault is told undecided_by =
        let made = rule_of join (items_in first) second in
        let undecided : made.decided a ≡ false = or_from (is_none second.fault) (join.decided a (items_in second)) (ap is_none told) undecided_by in (
          met_output made (items_in first) first.fault ∙ ap (written made) is ∙ written_stop made xs a rest here.0 undecided ∙ here.1,
          met_fault_stop made (items_in first) first.fault (ap (list_all made.decided) is ∙ all_stop made xs a rest undecided) ∙ told,
        )

    -- whatever comes after them
    meets_front : (rest : List X) → items_in first ≡ xs ++ rest → (more : List ℕ) × ((met_whole join first second).output ≡ bytes ++ more)
    meets_front rest is = grind (arith, (met_output (rule_of join (items_in first) second) (items_in first) first.fault), (written_past (rule_of join (items_in first) second) xs rest here.0))

module _ {Y : Type 0} where
  -- of two fronts of a list, that which lies on lower lines begins the other
  front_in : (past rest seen more : List (Member Y)) (count : ℕ) → past ++ rest ≡ seen ++ more → All (λ m. m.line ≤ count) seen → All (λ m. count < m.line) rest
      → (k : List (Member Y)) × (past ≡ seen ++ k)
  front_in past rest [] more count e low high = (past, refl)
  front_in [] [] (m ∷ seen) more count e low high = cc
  front_in [] (r ∷ rest) (m ∷ seen) more count e low high = grind (arith, All-head)
  front_in (p ∷ past) rest (m ∷ seen) more count e low high = grind (arith, (front_in past rest seen more count (cc) (All-tail (λ (m : Member Y). m.line ≤ count) m seen low) high))

  good_is : (good : Good Y) (members : List (Member Y)) (fault : Option FaultValue) → good.members ≡ members → good.fault ≡ fault → good ≡ record { members = members; fault = fault }
  good_is good members fault e f = ap (λ ms. record { members = ms; fault = good.fault }) e ∙ ap (λ (o : Option FaultValue). record { members = members; fault = o }) f

  -- the members that were seen of a second input come first, and are all if it has ended
  abbrev Sees : List (Member Y) → Bool → Good Y → Type 0
  Sees seen ended good = ((rest : List (Member Y)) × (good.members ≡ seen ++ rest)) × (ended ≡ true → (good.members ≡ seen) × (good.fault ≡ None))

  -- the members seen are among those that came before a failed read
  pub seen_in : (good : Good Y) (past seen : List (Member Y)) (count : ℕ) → (rest : List (Member Y)) × (good.members ≡ past ++ rest) × IsBeyond count (record { members = rest; fault = good.fault })
      → (rest : List (Member Y)) × (good.members ≡ seen ++ rest) → All (λ m. m.line ≤ count) seen → (k : List (Member Y)) × (past ≡ seen ++ k)
  seen_in good past seen count f b low = front_in past f.0 seen b.0 count (sym f.1 ∙ b.1) low f.2.members

module _ {A B X Y U V : Type 0} {join : JoinDef X Y} {pair : Pair A B X Y U V} {out : Output}
    {first_format : Format X U} {second_format : Format Y V} (in_order : (two : Handed) → join.InOrder (items_in (good_handed second_format Second two))) (limits : AreLimits join)
    {one_before : A} {two_before : B} (begins : BeginsAt first_format First one_before pair.first) (begins_second : BeginsAt second_format Second two_before pair.second)
    {first : MemberReader A X U} {second : MemberReader B Y V} {one_after : A} {two_after : B} (ended : source_of first.below ≡ one_after) (ended_second : source_of second.below ≡ two_after) (kept : IsKeptBelow first first.below) (kept_second : IsKeptBelow second second.below)
    {fault : Option FaultValue} {grown : Output} (w : PairEnds join pair out fault first second grown) where
  abbrev good_one : Handed → Good X
  good_one one = good_handed first_format First one

  abbrev good_two : Handed → Good Y
  good_two two = good_handed second_format Second two

  -- what was read of the inputs
  abbrev pub one_read : InputRead
  one_read = read pair.source_a pair.first begins first ended w.first_bytes.1

  abbrev pub two_read : InputRead
  two_read = read pair.source_b pair.second begins_second second ended_second w.second_bytes.1

  abbrev CameOne : Option FaultValue → Handed → Type 0
  CameOne = Came one_read

  abbrev CameTwo : Option FaultValue → Handed → Type 0
  CameTwo = Came two_read

  -- what is so of the inputs, whatever follows
  abbrev WhateverOne : (Good X → Type 0) → Type 0
  WhateverOne P = WhateverComes pair.first w.first_bytes.0 first P

  abbrev WhateverTwo : (Good Y → Type 0) → Type 0
  WhateverTwo P = WhateverComes pair.second w.second_bytes.0 second P

  -- what the first meets of the second
  abbrev limit : Handed → Handed → Good Y
  limit one two = join.within_limit (items_in (good_one one)) (good_two two)

  abbrev MayBe : Good Y → Type 0
  MayBe good = MayCome (member_items w.wrote.seen) w.wrote.ended (items_in good) good.fault

  -- what the second input may have
  second_may : WhateverTwo MayBe
  second_may rest follows =
      let b = w.wrote.second_begins rest follows in
      record {
        begins = (member_items b.0, ap member_items b.1 ∙ map-append (λ m. m.item) w.wrote.seen b.0);
        all = λ e. (let all = w.wrote.second_all e rest follows in (ap member_items all.0, all.1));
      }

  abbrev SeesTwo : Good Y → Type 0
  SeesTwo = Sees w.wrote.seen w.wrote.ended

  second_sees : WhateverTwo SeesTwo
  second_sees rest follows = (w.wrote.second_begins rest follows, λ e. w.wrote.second_all e rest follows)

  abbrev Begins : Good X → Type 0
  Begins good = (rest : List X) × (items_in good ≡ w.wrote.given ++ rest)

  module _ (first_good : Good X) (second_good : Good Y) (begun : Begins first_good) where
    abbrev firsts : List X
    firsts = items_in first_good

    fits_first : join.Fits firsts w.wrote.taken
    fits_first = subst (λ (l : List X). join.Fits l w.wrote.taken) (sym begun.1) (limits.more w.wrote.given begun.0 w.wrote.taken w.wrote.fits)

    abbrev seen_all : List (Member Y)
    seen_all = w.wrote.taken ++ option_to_list w.wrote.ahead

    parted : (rest : List (Member Y)) → second_good.members ≡ w.wrote.seen ++ rest → second_good ≡ record { members = seen_all ++ rest; fault = second_good.fault }
    parted rest e = good_is second_good (seen_all ++ rest) second_good.fault (e ∙ ap (λ l. l ++ rest) w.wrote.sees) refl

    ended_taken : w.wrote.ended ≡ true → w.wrote.seen ≡ w.wrote.taken
    ended_taken e = w.wrote.sees ∙ ap (λ (o : Option (Member Y)). w.wrote.taken ++ option_to_list o) (w.wrote.none_ahead e) ∙ append-nil w.wrote.taken

    whole_at : w.wrote.ended ≡ true → second_good.members ≡ w.wrote.seen → join.within_limit firsts second_good ≡ second_good
    whole_at e all = grind (arith, ended_taken)

    -- what the first meets of the second begins with what was seen
    limited_may : SeesTwo second_good → MayBe (join.within_limit firsts second_good)
    limited_may sees =
        let is = parted sees.0.0 sees.0.1 in
        let keeps = limits.keeps firsts w.wrote.taken w.wrote.ahead sees.0.0 second_good.fault fits_first in
        record {
          begins = (
            member_items keeps.0,
            ap (λ (g : Good Y). items_in (join.within_limit firsts g)) is ∙ ap member_items keeps.1 ∙ ap (λ l. member_items (l ++ keeps.0)) (sym w.wrote.sees) ∙ map-append (λ m. m.item) w.wrote.seen keeps.0,
          );
          all = λ e.
              let same = whole_at e (sees.1 e).0 in
              (ap items_in same ∙ ap member_items (sees.1 e).0, ap (λ (g : Good Y). g.fault) same ∙ (sees.1 e).1);
        }

    decided_all : w.wrote.ended ≡ false → firsts ≡ w.written → join.InOrder (member_items seen_all) → list_all (λ x. join.decided x (member_items seen_all)) firsts ≡ true
    decided_all e all ordered =
        let may : MayCome (member_items w.wrote.seen) w.wrote.ended (member_items seen_all) (Some no_memory) = record {
          begins = ([], sym (ap member_items w.wrote.sees) ∙ sym (append-nil (member_items w.wrote.seen)));
          all = λ t. absurd (false≢true (sym e ∙ t));
        } in
        ap (list_all (λ x. join.decided x (member_items seen_all))) all ∙ (w.wrote.settles.whatever (member_items seen_all) (Some no_memory) ordered may).0

    -- if all of the first is written, the limit changes nothing
    free : firsts ≡ w.written → join.InOrder (items_in second_good) → (rest : List (Member Y)) → second_good.members ≡ w.wrote.seen ++ rest
        → (w.wrote.ended ≡ true → second_good.members ≡ w.wrote.seen) → join.within_limit firsts second_good ≡ second_good
    free all ordered rest begins ends = grind (arith, whole_at, decided_all)

  first_whole : (other : Option FaultValue) (one : Handed) → CameOne other one → Serves pair.source_a.has_failed pair.first first → (P : Good X → Type 0) → WhateverOne P → P (good_one one)
  first_whole other one came serves = came_whole pair.source_a pair.first begins first ended w.first_bytes.1 came serves.clear serves.within

  second_whole : (other : Option FaultValue) (two : Handed) → CameTwo other two → Serves pair.source_b.has_failed pair.second second → (P : Good Y → Type 0) → WhateverTwo P → P (good_two two)
  second_whole other two came serves = came_whole pair.source_b pair.second begins_second second ended_second w.second_bytes.1 came serves.clear serves.within

  here_by : (one two : Handed) → MayBe (limit one two) → HereAs join (limit one two) w.written w.bytes
  here_by one two may = w.wrote.settles.whatever (items_in (limit one two)) (limit one two).fault (limits.ordered (items_in (good_one one)) (good_two two) (in_order two)) may

  -- what the fault of an input says of it
  first_wrong : (past : List (Member X)) (other : FaultValue) (one : Handed) → CameOne (Some other) one → HasFaultBehind pair.source_a pair.first join.first_kinds w.first_bytes.0 past other first
      → ((good_one one).members ≡ past) × ((good_one one).fault ≡ Some other)
  first_wrong past other one came fails =
      says_fault pair.source_a pair.first begins first ended w.first_bytes.1 join.first_kinds past other one came kept fails

  second_wrong : (past : List (Member Y)) (other : FaultValue) (two : Handed) → CameTwo (Some other) two → SecondFails join pair out w.first_bytes.0 w.second_bytes.0 w.wrote.ended past second other
      → ((good_two two).members ≡ past) × ((good_two two).fault ≡ Some other) × MayBe (good_two two)
      × ((rest : List (Member Y)) × ((good_two two).members ≡ w.wrote.seen ++ rest)) × (w.wrote.ended ≡ true → (good_two two).members ≡ w.wrote.seen)
  second_wrong past other two came fails =
      elim fails.cause [
        | inl wrong ↦
            let serves : Serves pair.source_b.has_failed pair.second second = record { served = wrong.served; clear = wrong.clear; within = wrong.within } in
            let is = second_whole (Some other) two came serves (λ good. (good.members ≡ past) × (good.fault ≡ Some other)) wrong.whole in
            let sees = second_whole (Some other) two came serves SeesTwo second_sees in
            (is.0, is.1, second_whole (Some other) two came serves MayBe second_may, sees.0, λ e. (sees.1 e).0)
        | inr unread ↦
            let cut = kept_second (input_of pair.second.below) (suc (lines_given second.below)) (unread.kept ∙ ap Some unread.is) in
            let is = came_cut pair.source_b pair.second begins_second second ended_second w.second_bytes.1 past other two came unread (input_of pair.second.below, suc (lines_given second.below), cut) in
            let none : MayStillCome second.below [] = λ told. refl in
            let k = seen_in (coming (w.second_bytes.0 ++ []) pair.second) past w.wrote.seen (lines_given second.below) (unread.members [] none) (w.wrote.second_begins [] none) (w.wrote.low (subst IsSome (sym unread.kept) refl)) in
            let may : MayCome (member_items w.wrote.seen) w.wrote.ended (member_items past) (Some other) = record {
              begins = (member_items k.0, ap member_items k.1 ∙ map-append (λ m. m.item) w.wrote.seen k.0);
              all = λ e. absurd (fails.before_end e (input_of pair.second.below) (suc (lines_given second.below)) unread.is);
            } in (
              ap (λ (g : Good Y). g.members) is,
              ap (λ (g : Good Y). g.fault) is,
              subst MayBe (sym is) may,
              (k.0, ap (λ (g : Good Y). g.members) is ∙ k.1),
              λ e. absurd (fails.before_end e (input_of pair.second.below) (suc (lines_given second.below)) unread.is),
            )
      ]

  -- the inputs tell the end
  module _ (one two : Handed) (came : CameOne fault one) (came_second : CameTwo fault two) where
    abbrev MeetsHere : Type 0
    MeetsHere = MeetsAs join (good_one one) (limit one two) w.bytes fault

    meets_first : (other : FaultValue) → fault ≡ Some other → FirstStops join pair out w.first_bytes.0 w.second_bytes.0 w.written w.wrote.given first second other → MeetsHere
    meets_first other is stops =
        let says = first_wrong stops.past other one (subst (λ f. CameOne f one) is came) stops.cause in
        let begun : Begins (good_one one) = ([], ap member_items says.0 ∙ sym stops.all_given ∙ sym (append-nil w.wrote.given)) in
        let may = limited_may (good_one one) (good_two two) begun (second_whole fault two came_second stops.serves SeesTwo second_sees) in
        grind (arith, here_by)

    meets_second : (other : FaultValue) → fault ≡ Some other → SecondStops join pair out w.first_bytes.0 w.second_bytes.0 w.written w.wrote.ended first second other → MeetsHere
    meets_second other is stops =
        let says = second_wrong stops.past other two (subst (λ f. CameTwo f two) is came_second) stops.fails in
        let waits = first_whole fault one came stops.serves (λ good. (rest : List X) × (items_in good ≡ w.written ++ stops.waiting ∷ rest)) stops.begins in
        let all = items_in (good_one one) in
        let fits : join.Fits all stops.past = rw (← append_assoc w.written (stops.waiting ∷ []) waits.0 ∙ sym waits.1) (limits.more (w.written ++ stops.waiting ∷ []) waits.0 stops.past stops.fits) in
        let cut = good_is (good_two two) stops.past (Some other) says.0 says.1 in
        let same : limit one two ≡ good_two two = ap (join.within_limit all) cut ∙ limits.whole all stops.past (Some other) fits ∙ sym cut in
        let undecided_by : join.decided stops.waiting (items_in (limit one two)) ≡ false =
        ap (λ (g : Good Y). join.decided stops.waiting (items_in g)) same
        ∙ ap (λ ms. join.decided stops.waiting (member_items ms)) says.0
        ∙ stops.undecided in
        let told : (limit one two).fault ≡ Some other = ap (λ (g : Good Y). g.fault) same ∙ says.1 in
        let met = meets_stop join (good_one one) (limit one two) w.written w.bytes (here_by one two (subst MayBe (sym same) says.2)) stops.waiting waits.0 other waits.1 told undecided_by in
        (met.0, met.1 ∙ sym is)

    meets_limit : (other : FaultValue) → fault ≡ Some other → LimitStops join pair out w.first_bytes.0 w.second_bytes.0 w.written first second other → MeetsHere
    meets_limit other is stops =
        let waits = first_whole fault one came stops.serves (λ good. (rest : List X) × (items_in good ≡ w.written ++ stops.waiting ∷ rest)) stops.begins in
        let begun = first_whole fault one came stops.serves Begins w.wrote.given_begin in
        let comes = second_whole fault two came_second stops.serves_second (λ good. (rest : List (Member Y)) × (good.members ≡ (stops.past ++ stops.m ∷ []) ++ rest)) stops.comes in
        let may = limited_may (good_one one) (good_two two) begun (second_whole fault two came_second stops.serves_second SeesTwo second_sees) in
        let cut : limit one two ≡ record { members = stops.past ++ stops.m ∷ []; fault = Some other } =
        ap (λ (l : List X). join.within_limit l (good_two two)) waits.1
        ∙ ap (join.within_limit (w.written ++ stops.waiting ∷ waits.0)) (good_is (good_two two) ((stops.past ++ stops.m ∷ []) ++ comes.0) (good_two two).fault comes.1 refl)
        ∙ stops.cuts waits.0 comes.0 (good_two two).fault in
        let met = meets_stop join (good_one one) (limit one two) w.written w.bytes (here_by one two may) stops.waiting waits.0 other waits.1 (ap (λ (g : Good Y). g.fault) cut)
        (ap (λ (g : Good Y). join.decided stops.waiting (items_in g)) cut ∙ stops.undecided) in
        (met.0, met.1 ∙ sym is)

    -- all of the first is written
    module _ (stops : RestStops join pair out w.first_bytes.0 w.second_bytes.0 w.written w.wrote.ended first second fault) where
      whole_first : ((good_one one).members ≡ stops.past) × ((good_one one).fault ≡ None)
      whole_first = first_whole fault one came stops.serves (λ good. (good.members ≡ stops.past) × (good.fault ≡ None)) stops.whole

      every : items_in (good_one one) ≡ w.written
      every = ap member_items whole_first.0 ∙ sym stops.all

      at_last : (told : Option FaultValue) → join.last w.written (good_two two).members ≡ told → or_else told (good_two two).fault ≡ fault → MayBe (good_two two)
          → (rest : List (Member Y)) × ((good_two two).members ≡ w.wrote.seen ++ rest) → (w.wrote.ended ≡ true → (good_two two).members ≡ w.wrote.seen) → MeetsHere
      at_last told is last may begins ends =
          let begun = first_whole fault one came stops.serves Begins w.wrote.given_begin in
          let same = free (good_one one) (good_two two) begun every (in_order two) begins.0 begins.1 ends in
          let here : HereAs join (good_two two) w.written w.bytes = (w.wrote.settles).whatever (items_in (good_two two)) (good_two two).fault (in_order two) may in
          grind (arith, whole_first)

      meets_rest : MeetsHere
      meets_rest =
          elim stops.rest [
            | inl end ↦
                let says = second_whole fault two came_second end.2 (λ good. (good.members ≡ stops.past_second) × (good.fault ≡ None)) end.1 in
                let sees = second_whole fault two came_second end.2 SeesTwo second_sees in
                at_last None (ap (join.last w.written) says.0 ∙ end.3) (says.1 ∙ sym end.0) (second_whole fault two came_second end.2 MayBe second_may) sees.0 (λ e. (sees.1 e).0)
            | inr others ↦ elim others [
              | inl told ↦
                  let says = second_wrong stops.past_second told.0 two (subst (λ f. CameTwo f two) told.1 came_second) told.2 in
                  at_last None (ap (join.last w.written) says.0 ∙ told.3) (says.1 ∙ sym told.1) says.2 says.3 says.4
              | inr told ↦
                  let last = told.2 in
                  let sees = second_whole fault two came_second last.serves SeesTwo second_sees in
                  at_last (Some told.0) (second_whole fault two came_second last.serves (λ good. join.last w.written good.members ≡ Some told.0) last.told) (sym told.1)
                  (second_whole fault two came_second last.serves MayBe second_may) sees.0 (λ e. (sees.1 e).0)
            ]
          ]

    meets : InputsEnd join pair out w.first_bytes.0 w.second_bytes.0 w.written w.wrote.given w.wrote.ended first second fault → MeetsHere
    meets (inl stops) = meets_first stops.0 stops.1 stops.2
    meets (inr (inl stops)) = meets_second stops.0 stops.1 stops.2
    meets (inr (inr (inl stops))) = meets_rest stops
    meets (inr (inr (inr stops))) = meets_limit stops.0 stops.1 stops.2

    reported : InputsEnd join pair out w.first_bytes.0 w.second_bytes.0 w.written w.wrote.given w.wrote.ended first second fault → PutsLines out w.bytes grown
        → IsReported (met_by join (good_one one) (good_two two)) out.put fault grown
    reported end puts = let met = meets end in (sym met.1, puts ∙ ap (λ l. out.put ++ l) (sym met.0))

  -- what was written begins the report on the whole texts
  front_of : (first second : Handed) → MayHold one_read first → MayHold two_read second
      → (more : List ℕ) × ((met_by join (good_one first) (good_two second)).output ≡ w.bytes ++ more)
  front_of one two holds others =
      let sees = at_whole pair.source_b pair.second begins_second second ended_second w.second_bytes.1 others SeesTwo second_sees in
      let begun = at_whole pair.source_a pair.first begins first ended w.first_bytes.1 holds Begins w.wrote.given_begin in
      let may = limited_may (good_one one) (good_two two) begun sees in
      let rest = at_whole pair.source_a pair.first begins first ended w.first_bytes.1 holds (λ good. (rest : List X) × (items_in good ≡ w.written ++ rest)) w.wrote.first_begins in
      meets_front join (good_one one) (limit one two) w.written w.bytes (here_by one two may) rest.0 rest.1

  first_named : (past : List (Member X)) (other : FaultValue) → HasFaultBehind pair.source_a pair.first join.first_kinds w.first_bytes.0 past other first → TellsInput pair.source_a join.first_kinds First one_read one_after other
  first_named past other (inl wrong) = inl (record { line = wrong.line; kind = wrong.kind; of_kind = wrong.of_kind; is = wrong.is ∙ ap (λ i. fault_at_line i wrong.line wrong.kind) begins.input_is })
  first_named past other (inr unread) = inr (tells_read pair.source_a pair.first begins first ended w.first_bytes.1 unread kept)

  second_cause : (past : List (Member Y)) (other : FaultValue) → HasFaultBehind pair.source_b pair.second join.second_kinds w.second_bytes.0 past other second → TellsInput pair.source_b join.second_kinds Second two_read two_after other
  second_cause past other (inl wrong) = inl (record { line = wrong.line; kind = wrong.kind; of_kind = wrong.of_kind; is = wrong.is ∙ ap (λ i. fault_at_line i wrong.line wrong.kind) begins_second.input_is })
  second_cause past other (inr unread) = inr (tells_read pair.source_b pair.second begins_second second ended_second w.second_bytes.1 unread kept_second)

  second_named : (past : List (Member Y)) (other : FaultValue) → SecondFails join pair out w.first_bytes.0 w.second_bytes.0 w.wrote.ended past second other → TellsInput pair.source_b join.second_kinds Second two_read two_after other
  second_named past other fails = second_cause past other fails.cause

  abbrev Because : Type 0
  Because = Why join pair out w.first_bytes.0 w.second_bytes.0 w.written w.bytes w.wrote.given w.wrote.ended first second fault grown

  abbrev TellsBoth : FaultValue → Type 0
  TellsBoth told = TellsInput pair.source_a join.first_kinds First one_read one_after told ⊎ TellsInput pair.source_b join.second_kinds Second two_read two_after told

  -- what the inputs tell
  tells_by : (told : FaultValue) → fault ≡ Some told → InputsEnd join pair out w.first_bytes.0 w.second_bytes.0 w.written w.wrote.given w.wrote.ended first second fault → TellsBoth told
  tells_by told e (inl stops) = subst TellsBoth (some_is stops.0 told (sym stops.1 ∙ e)) (inl (first_named stops.2.past stops.0 stops.2.cause))
  tells_by told e (inr (inl stops)) = subst TellsBoth (some_is stops.0 told (sym stops.1 ∙ e)) (inr (second_named stops.2.past stops.0 stops.2.fails))
  tells_by told e (inr (inr (inr stops))) = subst TellsBoth (some_is stops.0 told (sym stops.1 ∙ e)) (inr (inl (record { line = stops.2.m.line; kind = stops.2.kind; of_kind = stops.2.of_kind; is = stops.2.is })))
  tells_by told e (inr (inr (inl stops))) =
      elim stops.rest [
        | inl end ↦ absurd (let apart : None ≡ Some told = sym end.0 ∙ e in cc)
        | inr others ↦ elim others [
          | inl other ↦ subst TellsBoth (some_is other.0 told (sym other.1 ∙ e)) (inr (second_named stops.past_second other.0 other.2))
          | inr other ↦ subst TellsBoth (some_is other.0 told (sym other.1 ∙ e)) (inr (inl (record { line = other.2.line; kind = other.2.kind; of_kind = other.2.of_kind; is = other.2.is })))
        ]
      ]

  named_by : (told : FaultValue) → fault ≡ Some told → Because → TellsBoth told ⊎ TellsDevice grown.sink_has_failed grown.sink_last_failed told
  named_by told e (inl (end, puts, works)) = inl (tells_by told e end)
  named_by told e (inr (inl ran)) = inr (inr (some_is told no_memory (sym e ∙ ran.0)))
  named_by told e (inr (inr cut)) = inr (inl (some_is told write_failed (sym e ∙ cut.0), cut.1.sink_failed.0, cut.1.sink_failed.1))

  -- without a fault both inputs have ended
  ends_in : fault ≡ None → InputsEnd join pair out w.first_bytes.0 w.second_bytes.0 w.written w.wrote.given w.wrote.ended first second fault → (end_told first.below ≡ true) × (end_told second.below ≡ true)
  ends_in none (inl stops) = absurd (let apart : None ≡ Some stops.0 = sym none ∙ stops.1 in cc)
  ends_in none (inr (inl stops)) = absurd (let apart : None ≡ Some stops.0 = sym none ∙ stops.1 in cc)
  ends_in none (inr (inr (inr stops))) = absurd (let apart : None ≡ Some stops.0 = sym none ∙ stops.1 in cc)
  ends_in none (inr (inr (inl stops))) =
      elim stops.rest [
        | inl end ↦ (stops.told, end.4)
        | inr others ↦ elim others [
          | inl other ↦ absurd (let apart : None ≡ Some other.0 = sym none ∙ other.1 in cc)
          | inr other ↦ absurd (let apart : None ≡ Some other.0 = sym none ∙ other.1 in cc)
        ]
      ]

  ended_by : fault ≡ None → Because → (end_told first.below ≡ true) × (end_told second.below ≡ true)
  ended_by none (inl (end, puts, works)) = ends_in none end
  ended_by none (inr (inl ran)) = absurd (let apart : None ≡ Some no_memory = sym none ∙ ran.0 in cc)
  ended_by none (inr (inr cut)) = absurd (let apart : None ≡ Some write_failed = sym none ∙ cut.0 in cc)

  -- unless a failed write is reported, no write failed
  no_failed_by : fault ≢ Some write_failed → Because → grown.sink_has_failed ≡ out.sink_has_failed
  no_failed_by other (inl (end, puts, works)) = works.sink_served
  no_failed_by other (inr (inl ran)) = (ran.2).sink_served
  no_failed_by other (inr (inr cut)) = absurd (other cut.0)

  whole_by : (one two : Handed) → CameOne fault one → CameTwo fault two → fault ≢ Some write_failed → fault ≢ Some no_memory → Because
      → IsReported (met_by join (good_one one) (good_two two)) out.put fault grown
  whole_by one two came came_second write memory (inl (end, puts, works)) = reported one two came came_second end puts
  whole_by one two came came_second write memory (inr (inl ran)) = absurd (memory ran.0)
  whole_by one two came came_second write memory (inr (inr cut)) = absurd (write cut.0)

  kept_by : fault ≢ Some write_failed → Because → PutsFront out w.bytes grown
  kept_by other (inl (end, puts, works)) = puts_front out w.bytes grown puts
  kept_by other (inr (inl ran)) = puts_front out w.bytes grown ran.1
  kept_by other (inr (inr cut)) = absurd (other cut.0)

  cut_by : fault ≡ Some write_failed → Because → CutsLines out w.bytes grown
  cut_by is p1 = grind arith

  module _ (settles : Handed → List TextLine → List ℕ) (reaches : Handed → List TextLine → ℕ) where
    abbrev pub NearBoth : Type 0
    NearBoth = (n : ℕ) × ((one two : Handed) → MayHold one_read one → MayHold two_read two
        → ReadsNoFurther n (IsWithin one_read.told one.text n → length two_read.bytes ≤ reaches two (take n (text_lines one.text)) + block_size)
        (λ lines. (good first_format First lines).fault) (settles two) one.text one_read.bytes out.put grown.took (grown.has_failed ≡ true) (IsFaultButWrite fault) grown.put)

    abbrev behaviour : Behaviour
    behaviour = record {
      report = λ one two. (met_by join (good_one one) (good_two (or_empty two)));
      settles = λ two. settles (or_empty two);
      faults = λ lines. (good first_format First lines).fault;
      reaches = λ two. reaches (or_empty two);
      FirstKinds = join.first_kinds;
      SecondKinds = join.second_kinds;
    }

    -- the report on how the inputs meet, by how far they were read
    pub writes_both : NearBoth → (TellsNoRead fault → TellsNoRead (line_fault first.below) × TellsNoRead (line_fault second.below)) → RunsBy pair.source_a pair.source_b behaviour one_before (Some two_before) out fault one_after (Some two_after) grown
    writes_both near none = record {
      one = one_read;
      one_reads = reads_so pair.source_a pair.first begins first ended w.first_bytes.1;
      two = Some two_read;
      two_reads = reads_so pair.source_b pair.second begins_second second ended_second w.second_bytes.1;
      whole = λ one two came others write memory. whole_by one (or_empty two) (inl came) (inl (both_if CameOf two_read two others)) write memory w.why;
      told = λ one two holds others is.
          whole_by one (or_empty two) (inr (is_whole holds is)) (inr (is_whole (both_if MayHold two_read two others) is)) is.no_write is.no_growth w.why;
      cut = λ is one two holds others.
          let more = front_of one (or_empty two) holds (both_if MayHold two_read two others) in
          (w.bytes, more.0, more.1, (cut_by is w.why).front);
      kept = λ other one two holds others.
          let more = front_of one (or_empty two) holds (both_if MayHold two_read two others) in
          let part = kept_by other w.why in
          (part.front, part.rest ++ more.0, more.1 ∙ ap (λ l. l ++ more.0) part.parts ∙ append_assoc part.front part.rest more.0, part.puts);
      grows = w.wrote.grows;
      ended = λ none. ended_by none w.why;
      served = λ e. grind arith;
      no_failed_write = λ other. no_failed_by other w.why;
      near = (near.0, λ one two holds others. near.1 one (or_empty two) holds (both_if MayHold two_read two others));
      named = λ told e. named_by told e w.why;
      no_failed = λ never. (
        not_failed pair.source_a pair.first begins first ended w.first_bytes.1 (none never).0,
        not_failed pair.source_b pair.second begins_second second ended_second w.second_bytes.1 (none never).1,
      );
    }

-- the fault of a result that is handed on as an option
pub err_told : {T : Type 0} (result : Result T Fault) → option_map fault_value (result_err result) ≡ fault_in result
err_told (Ok done) = refl
err_told (Err fault) = refl
