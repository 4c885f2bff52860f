-- Lemmas on records that a sweep is given of what two readers have buffered.
use Rattle.bt_lines.proofs.Std.{◌⊎◌, rules, arith, ◌≡◌, inl, inr, ℕ, suc, true, ◌&&◌, not, List, [], ◌∷◌, ◌++◌, Option, None, Some, Ok, Err, Result, refl, sym, ap, ◌∙◌, subst, append-nil, append_assoc, option_to_list, IfSome, option_map, list_all, and_parts, not-true, map-append, Bool, false, filter, length, bytes_eq, ltb, ◌<◌, is_some, false≢true, and_from, lt-ltb}
use Rattle.bt_lines.specs.declared.device.Source.{Ghosts as Source}
use Rattle.bt_lines.specs.calls.Output.{Output, FailsToAdd, Grown}
use Rattle.bt_lines.specs.calls.Reader.{lines_given}
use Rattle.bt_lines.specs.declared.fault.Fault.{Fault}
use Rattle.bt_bed.specs.calls.Batch.{Passes as PassesBatch}
use Rattle.bt_bed.specs.calls.CursorOf.{batch_cursor}
use Rattle.bt_bed.specs.calls.SortedReader.{are_in_order, fault_in}
use Rattle.bt_bed.specs.model.Feature.{Feature, interval_of, intervals_of, last_of}
use Rattle.bt_bed.specs.model.BedLine.{IsBedKind, fault_at_line}
use Rattle.bt_bed.specs.model.Good.{Member, bed_format, locus_at, Format}
use Rattle.bt_bed.specs.model.Sorted.{Locus, locus_of, falls_in, sorting_of}
use Rattle.bt_bed.specs.calls.Orders.{ArePlaced, IsUpTo, IsTotal}
use Rattle.bt_bed.specs.model.Order.{Order}
use Rattle.bt_bed.specs.calls.Reading.{ahead_in, first_from, state_behind, MemberReader, members_from}
use Rattle.bt_bed.specs.calls.Records.{below, buffered_in, order_in, view_of, FillsRecords}
use Rattle.bt_bed.specs.declared.read.batch.Batch.{Batch}
use Rattle.bt_bed.specs.declared.order.ChromOrder.{Ghosts}
use Rattle.bt_bed.specs.declared.read.records.Records.{Records}
use Rattle.bt_bed.proofs.lemmas.order.OrderLemmas.{sorted_up_to, grows_placed, last_of-push}
use Rattle.bt_sweep.specs.calls.Sweeping.{AdvancesOn, Settles, ComesNext, Sweeping, AdvancesSo, FailsAt, PutsEach, stage_after, AreDecided, CannotBeHeld, TakenEach, has_room, IsInOrder, MovesTo, StandsAt, phase_of, phase_is_over as is_done, want_in, want_of}
use Rattle.bt_bed.specs.calls.Stage.{given, Stage, with_first_ended, with_second_ended}
use Rattle.bt_sweep.specs.calls.SweepView.{state_of}
use Rattle.bt_sweep.specs.model.Hits.{decided, held_for, is_held}
use Rattle.bt_sweep.specs.declared.sweep.state.Phase.{Phase}
use Rattle.bt_sweep.proofs.lemmas.sweep.KeepLemmas.{decided_before, undecided_beside}
use Rattle.bt_tool.specs.inside.Pair.{item_ahead, JoinDef, Pair, SettlesPair, Comes, AsksFor, PairEnds}
use Rattle.bt_tool.specs.inside.Feed.{HasFaultBehind, HasTaken, ConsumesGiven, LacksMemory, member_items, PassesMembers, StopsAfter}
use Rattle.bt_tool.proofs.lemmas.running.pair.PairNear.{first_then, line_then}
use Rattle.bt_tool.proofs.lemmas.running.members.PassedLemmas.{last_up_to, is_filled, is_over, is_stopped, said_in_order}
use Rattle.bt_lines.specs.model.Fault.{FaultValue}
use Rattle.bt_lines.specs.calls.Faults.{no_memory}
use Rattle.bt_lines.specs.model.Lines.{TextLine}
use Rattle.bt_lines.specs.calls.Names.{fault_value}
use Rattle.bt_lines.proofs.lemmas.Writer.{grown_none}
use Rattle.bt_lines.specs.declared.fault.Input.TheVariants.{Second}
use Rattle.bt_lines.specs.declared.fault.Kind.{Kind}
use Rattle.bt_lines.specs.declared.fault.Kind.TheVariants.{TooManyHeld}
use Rattle.bt_bed.proofs.lemmas.parse.NameLemmas.{name_eq}
use Rattle.bt_bed.proofs.lemmas.read.batch.RecordsLemmas.{wrong_of_bed}
use Rattle.bt_sweep.specs.model.Lines.{intersect, lines_for}
use Rattle.bt_sweep.specs.declared.sweep.state.Phase.TheVariants.{SecondEnded}
use Rattle.bt_sweep.specs.declared.sweep.Want.TheVariants.{A as WantA, B as WantB, Nothing}
use Rattle.bt_sweep.proofs.lemmas.definitions.HitLemmas.{none_before, placed_back, front_placed}
use Rattle.bt_tool.specs.declared.loops.sweeping.SweepConfig.{SweepConfig}
use Rattle.bt_tool.specs.declared.loops.sweeping.SweepRun.{SweepRun}
use Rattle.bt_tool.proofs.lemmas.running.pair.PairTurns.{TakesFurther, settles_seen}
use Rattle.bt_tool.specs.inside.SweepLoop.{AreWithin, SweepComes, ReadsRest, Sweeps, config_of, records_pair, sweep_join, sweep_rounds}
use Rattle.bt_tool.proofs.lemmas.running.sweep.SweepFacts.{leaves_more, cuts_at, within_given, fits_each, open_last, settles_newly}
use Rattle.bt_tool.proofs.lemmas.running.members.MemberLemmas.{items_from, nothing_ahead}
use Rattle.bt_tool.proofs.lemmas.running.pair.PairStops as stop
use Rattle.bt_tool.proofs.lemmas.running.pair.PairTurns as turned

-- ---- the record ahead is in order after those that were passed

-- where the last of records is
state_last : (order : Order) (past before : List Feature) (last : Option Locus) → last ≡ option_map locus_of (last_of (intervals_of before))
    → state_behind (bed_format (sorting_of order)) last past ≡ option_map locus_of (last_of (intervals_of (before ++ past)))
state_last order [] before last e = e ∙ ap (λ (l : List Feature). option_map locus_of (last_of (intervals_of l))) (sym (append-nil before))
state_last order (r ∷ past) before last e =
    let pushed : intervals_of (before ++ r ∷ []) ≡ intervals_of before ++ interval_of r ∷ [] = map-append interval_of before (r ∷ []) in
    let next : Some (locus_at r) ≡ option_map locus_of (last_of (intervals_of (before ++ r ∷ []))) =
    ap (option_map locus_of) (sym (last_of-push (intervals_of before) (interval_of r))) ∙ ap (λ l. option_map locus_of (last_of l)) (sym pushed) in
    state_last order past (before ++ r ∷ []) (Some (locus_at r)) next ∙ ap (λ (l : List Feature). option_map locus_of (last_of (intervals_of l))) (append_assoc before (r ∷ []) past)

some_first : (line : ℕ) (items : List Feature) (m : Member Feature) → first_from line items ≡ Some m → (more : List Feature) × (items ≡ m.item ∷ more)
some_first line [] m e = absurd (let apart : None ≡ Some m = e in cc)
some_first line (x ∷ items) m e = let same : record { line = line; item = x } ≡ m = cc in (items, ap (λ (m : Member Feature). m.item ∷ items) same)

pub ahead_placed : {S O : Type 0} {g : Ghosts O} (now : Records S O g) (order : Order) → order_in now ≡ order → (past : List Feature) (m : Member Feature) → IsTotal order
    → (view_of now).state ≡ state_behind (bed_format (sorting_of order)) None past → ahead_in (view_of now) ≡ Some m → ArePlaced order (intervals_of past) → ArePlaced order (intervals_of (past ++ m.item ∷ []))
unfolding view_of order_in
ahead_placed now order is past m total state ahead placed =
    let some = some_first (suc (lines_given (below now))) (buffered_in now) m ahead in
    let fits = subst (λ (o : Order). are_in_order (sorting_of o) (view_of now).state (m.item ∷ some.0) ≡ true) is (ap (are_in_order (sorting_of (order_in now)) (view_of now).state) (sym some.1) ∙ now.placed.in_order) in
    let all = and_parts (order.knows m.item.chrom && not (falls_in (sorting_of order) (view_of now).state (locus_at m.item))) (are_in_order (sorting_of order) (Some (locus_at m.item)) some.0) fits in
    let here = and_parts (order.knows m.item.chrom) (not (falls_in (sorting_of order) (view_of now).state (locus_at m.item))) all.0 in
    let up = sorted_up_to order (view_of now).state (locus_at m.item) total (grind arith) here.0 (not-true (falls_in (sorting_of order) (view_of now).state (locus_at m.item)) here.1) in
    let last : (view_of now).state ≡ option_map locus_of (last_of (intervals_of past)) = state ∙ state_last order past [] None refl in
    let above = last_up_to (last_of (intervals_of past)) (λ place. IsUpTo order place (locus_at m.item)) (subst (λ (l : Option Locus). IfSome l (λ place. IsUpTo order place (locus_at m.item))) last up) in
    subst (ArePlaced order) (sym (map-append interval_of past (m.item ∷ []))) (grows_placed order (intervals_of past) (interval_of m.item) placed here.0 above)

-- the records that a sweep took of either batch
pub passed_both : {T : Type 0} (order : Order) (sweep : Sweeping) (firsts seconds : Batch) (out : Output) (result : Result T Fault) (swept : Sweeping) (last_firsts last_seconds : Batch) (grown : Output)
    → AdvancesOn batch_cursor batch_cursor order sweep firsts seconds out result swept last_firsts last_seconds grown
    → ((records : List Feature) × PassesBatch firsts records last_firsts) × ((records : List Feature) × PassesBatch seconds records last_seconds)
passed_both order sweep firsts seconds out result swept last_firsts last_seconds grown fails = search rules

-- records of both that were buffered are taken
pub record TakesBoth {A B O : Type 0} {g : Ghosts O} (source_a : Source A) (source_b : Source B) (first : Records A O g) (second : Records B O g) (firsts seconds : List Feature) (new_first : Records A O g) (new_second : Records B O g) : Type 0 where
  pub first_taken : HasTaken source_a (view_of first) firsts (view_of new_first)
  pub second_taken : HasTaken source_b (view_of second) seconds (view_of new_second)
  pub first_order : order_in new_first ≡ order_in first
  pub second_order : order_in new_second ≡ order_in second

-- what the sweep knows to come next is ahead
pub seen_then : {S O : Type 0} {g : Ghosts O} (device : Source S) (old new : Records S O g) (first last : Batch) → ConsumesGiven device old first last new → (order : Order) (phase : Phase) (newly seconds : List Feature) (next : Option Feature)
    → ComesNext batch_cursor last next → Settles order phase newly (seconds ++ option_to_list next) → Settles order phase newly (seconds ++ option_to_list (item_ahead (view_of new)))
seen_then device old new first last consumes order phase newly seconds next comes settles =
    grind (arith, decided_before, append-nil)

-- Lemmas on a sweep over two readers: how far it comes in a round, and how it stops.

-- ---- what is wanted tells what waits

pub wants_first : (w : Option Feature) (done : Bool) → want_of (is_some w) done ≡ WantA → (w ≡ None) × (done ≡ false) × (sweep_rounds (is_some w) done ≡ 1)
wants_first w done e = grind arith

pub wants_second : (w : Option Feature) (done : Bool) → want_of (is_some w) done ≡ WantB → (a : Feature) × (w ≡ Some a) × (sweep_rounds (is_some w) done ≡ 2)
wants_second w done e = grind arith

pub wants_nothing : (w : Option Feature) (done : Bool) → want_of (is_some w) done ≡ Nothing → (done ≡ true) × (sweep_rounds (is_some w) done ≡ 0)
wants_nothing w done e = grind arith

-- if nothing is buffered, none is ahead
none_is_ahead : {S State : Type 0} (reader : MemberReader S Feature State) → reader.buffered ≡ [] → item_ahead reader ≡ None
none_is_ahead reader none = grind arith

first_is : (a b : Bool) → phase_of a b ≡ SecondEnded → b ≡ true
first_is a b e = grind arith

says_bed : (order : Order) (format : Format Feature (Option Locus)) → format ≡ bed_format (sorting_of order) → (state : Option Locus) (line : TextLine) (kind : Kind) → format.says state line ≡ Err kind → IsBedKind order kind
says_bed order format is state line kind e = wrong_of_bed order state line.text kind (ap (λ (f : Format Feature (Option Locus)). f.says state line) (sym is) ∙ e)

-- a fault of some kinds is one of wider kinds
cause_wider : {S A State : Type 0} (device : Source S) (old : MemberReader S A State) (Narrow Wide : Kind → Type 0) → ((kind : Kind) → Narrow kind → Wide kind)
    → (bytes : List ℕ) (past : List (Member A)) (fault : FaultValue) (new : MemberReader S A State) → HasFaultBehind device old Narrow bytes past fault new ⊎ LacksMemory device old fault new → HasFaultBehind device old Wide bytes past fault new ⊎ LacksMemory device old fault new
cause_wider device old Narrow Wide wider bytes past fault new (inl (inl wrong)) =
    inl (inl (record { whole = wrong.whole; line = wrong.line; kind = wrong.kind; is = wrong.is; of_kind = wider wrong.kind wrong.of_kind; served = wrong.served; clear = wrong.clear; within = wrong.within }))
cause_wider device old Narrow Wide wider bytes past fault new (inl (inr unread)) = inl (inr unread)
cause_wider device old Narrow Wide wider bytes past fault new (inr lacks) = inr lacks

abbrev stops_wider : {S A State : Type 0} (device : Source S) (old : MemberReader S A State) (Narrow Wide : Kind → Type 0) → ((kind : Kind) → Narrow kind → Wide kind)
    → (past : List (Member A)) (fault : FaultValue) (new : MemberReader S A State) → StopsAfter device old Narrow past fault new → StopsAfter device old Wide past fault new
stops_wider device old Narrow Wide wider past fault new stops = record { bytes = stops.bytes; cause = cause_wider device old Narrow Wide wider stops.bytes.0 past fault new stops.cause }

-- the first of the same records
item_same : (m n : ℕ) (xs ys : List Feature) → xs ≡ ys → option_map (λ (m : Member Feature). m.item) (first_from m xs) ≡ option_map (λ m. m.item) (first_from n ys)
item_same m n xs ys e = (grind arith) ∙ ap (λ (l : List Feature). option_map (λ (m : Member Feature). m.item) (first_from n l)) e

module _ {A B O : Type 0} {g : Ghosts O} {source_a : Source A} {source_b : Source B} {start : SweepRun A B O g} {out : Output} {run : SweepRun A B O g} {grown : Output} (c : SweepComes source_a source_b start out run grown) where
  abbrev config : SweepConfig
  config = config_of (state_of start.sweep)

  abbrev old_first : Records A O g
  old_first = start.first

  abbrev old_second : Records B O g
  old_second = start.second

  abbrev order : Order
  order = order_in old_first

  abbrev join : JoinDef Feature Feature
  join = sweep_join order config

  abbrev pair : Pair A B Feature Feature (Option Locus) (Option Locus)
  pair = records_pair source_a source_b old_first old_second

  abbrev Going : Records A O g → Records B O g → Sweeping → Output → Type 0
  Going = Sweeps source_a source_b order config old_first old_second out

  abbrev Ends : Option FaultValue → Records A O g → Records B O g → Output → Type 0
  Ends fault first second grown = PairEnds join pair out fault (view_of first) (view_of second) grown

  wrong : (state : Option Locus) (line : TextLine) (kind : Kind) → (view_of old_first).format.says state line ≡ Err kind → IsBedKind order kind
  wrong = says_bed order (view_of old_first).format c.begun.is_bed

  wrong_bed : (state : Option Locus) (line : TextLine) (kind : Kind) → (view_of old_second).format.says state line ≡ Err kind → IsBedKind order kind
  wrong_bed state line kind e = subst (λ (o : Order). IsBedKind o kind) c.begun.same_order (says_bed (order_in old_second) (view_of old_second).format c.begun.is_bed_second state line kind e)

  wrong_second : (state : Option Locus) (line : TextLine) (kind : Kind) → (view_of old_second).format.says state line ≡ Err kind → join.second_kinds kind
  wrong_second state line kind e = inl (wrong_bed state line kind e)

  -- what was passed of either is in order
  first_placed : (past : List (Member Feature)) (now : MemberReader A Feature (Option Locus)) → PassesMembers source_a (view_of old_first) past now → ArePlaced order (intervals_of (member_items past))
  first_placed past now p = grind (arith, said_in_order)

  second_placed : (past : List (Member Feature)) (now : MemberReader B Feature (Option Locus)) → PassesMembers source_b (view_of old_second) past now → ArePlaced order (intervals_of (member_items past))
  second_placed past now p = grind (arith, said_in_order)

  -- with the member ahead too many would be held
  limit_case : {fault : FaultValue} (first_now : Records A O g) (second_now : Records B O g) → order_in second_now ≡ order → {later : Stage Feature Feature} {last : Feature} → later.waiting ≡ Some last → later.second_ended ≡ false
      → {past_first past_second : List (Member Feature)} {grown : Output}
      → (comes : Comes join pair out later past_first past_second (view_of first_now) (view_of second_now) grown) → (later.first_ended ≡ false → AsksFor join pair out comes.first_passes.bytes.0 comes.second_passes.bytes.0 past_first (view_of second_now))
      → (AreWithin order config.limit (given later) past_second) → {m : Member Feature} → ahead_in (view_of second_now) ≡ Some m → m.item.chrom ≡ last.chrom → m.item.start < last.stop → last.start < m.item.stop → order.knows last.chrom ≡ true
      → has_room config.limit (length (held_for (Some last) later.taken)) ≡ false → fault ≡ fault_at_line Second m.line TooManyHeld → Ends (Some fault) first_now second_now grown
  limit_case {fault} first_now second_now is_order {later} {last} waits going {past_second} comes asks fits {m} ahead on starts ends known full is =
      let placed = second_placed past_second (view_of second_now) comes.second_passes in
      let state : (view_of second_now).state ≡ state_behind (bed_format (sorting_of order)) None (member_items past_second) =
      comes.second_passes.state ∙ ap (λ (f : Format Feature (Option Locus)). state_behind f (view_of old_second).state (member_items past_second)) (c.begun.is_bed_second ∙ ap (λ (o : Order). bed_format (sorting_of o)) c.begun.same_order)
      ∙ ap (λ (s : Option Locus). state_behind (bed_format (sorting_of order)) s (member_items past_second)) c.begun.none_last_second in
      let with_m = ahead_placed second_now order is_order (member_items past_second) m c.begun.total state ahead placed in
      let items : member_items (past_second ++ m ∷ []) ≡ member_items past_second ++ m.item ∷ [] = map-append (λ m. m.item) past_second (m ∷ []) in
      let undecided : decided order last (member_items (past_second ++ m ∷ [])) ≡ false =
      ap (decided order last) items ∙ none_before order last (member_items past_second) m.item c.begun.total known with_m (undecided_beside order c.begun.total last m.item known on starts) in
      let parts : given later ≡ later.written ++ last ∷ [] = ap (λ (o : Option Feature). later.written ++ option_to_list o) waits in
      let held : is_held last m.item ≡ true = and_from (bytes_eq last.chrom m.item.chrom) (ltb last.start m.item.stop) (name_eq last.chrom m.item.chrom (sym on)) (lt-ltb last.start m.item.stop ends) in
      stop.passes_limit comes asks fits waits m ahead TooManyHeld (inr ((grind arith), refl)) fault is undecided (
      cuts_at order config.limit later.written last past_second m is (subst (λ (l : List Feature). AreWithin order config.limit l past_second) parts fits)
      (subst (λ (l : List Feature). list_all (λ x. decided order x l) later.written ≡ true) (sym items)
      ((comes.settles.whatever (member_items past_second ++ m.item ∷ []) (Some no_memory) with_m
      (record {
        begins = (
          [],
          sym (append-nil (member_items past_second ++ m.item ∷ [])) ∙ ap (λ (l : List Feature). (l ++ m.item ∷ []) ++ []) (sym comes.all_taken)
              ∙ ap (λ (o : Option (Member Feature)). (later.taken ++ option_to_list (option_map (λ m. m.item) o)) ++ []) (sym ahead),
        );
        all = λ e. absurd (false≢true (sym going ∙ e));
      })).0))
      undecided held (subst (λ (l : List Feature). has_room config.limit (length (filter (is_held last) l)) ≡ false) comes.all_taken full))

  abbrev s : Going run.first run.second (state_of run.sweep) grown
  s = c.sweeps

  abbrev first : Records A O g
  first = run.first

  abbrev second : Records B O g
  second = run.second

  abbrev sweep : Sweeping
  sweep = state_of run.sweep

  abbrev stage : Stage Feature Feature
  stage = s.stage

  placed_given : ArePlaced order (intervals_of (given stage))
  placed_given = subst (λ (l : List Feature). ArePlaced order (intervals_of l)) (sym s.comes.all_given) (grind (arith, said_in_order))

  placed_taken : ArePlaced order (intervals_of stage.taken)
  placed_taken = subst (λ (l : List Feature). ArePlaced order (intervals_of l)) (sym s.comes.all_taken) (second_placed s.past_second (view_of second) s.comes.second_passes)

  pub in_order : IsInOrder order stage
  in_order = record { first = placed_given; second = placed_taken }

  -- what it goes by is what it began with
  by_config : (P : SweepConfig → Type 0) → P (config_of sweep) → P config
  by_config P p = subst P s.config_is p

  moved : (swept : Sweeping) (next : Stage Feature Feature) → MovesTo order sweep next swept → config_of swept ≡ config
  moved swept next moves = (grind arith) ∙ s.config_is

  abbrev asked : join.Asks (given stage) stage.taken
  asked = s.stands.holds.reached

  asks_here : stage.first_ended ≡ false → AsksFor join pair out s.comes.first_passes.bytes.0 s.comes.second_passes.bytes.0 s.past_first (view_of second)
  asks_here going = stop.asks_now s.comes asked

  -- no more was taken, and the sweep is at another stage
  goes_on : (first_now : Records A O g) (second_now : Records B O g) (swept : Sweeping) (now : Output) (next : Stage Feature Feature) → StandsAt order next swept → config_of swept ≡ config
      → Comes join pair out next s.past_first s.past_second (view_of first_now) (view_of second_now) now → order_in first_now ≡ order_in first → order_in second_now ≡ order_in second
      → (AreWithin order config.limit (given next) s.past_second) → Going first_now second_now swept now
  goes_on first_now second_now swept now next stands config_is comes same same_second fits = grind arith

  -- ---- a record of the first input is wanted

  module _ (wants : want_in sweep ≡ WantA) where
    pub none_waits : stage.waiting ≡ None
    none_waits = sym s.stands.current_is ∙ (wants_first sweep.current (is_done sweep.phase) wants).0

    not_ended : stage.first_ended ≡ false
    not_ended = sym (grind arith) ∙ ap is_done (sym s.stands.phase_is) ∙ (wants_first sweep.current (is_done sweep.phase) wants).1

    pub fills_first : (first_now : Records A O g) → FillsRecords source_a first (Ok true) first_now → Going first_now second sweep grown
    fills_first first_now fills =
        goes_on first_now second sweep grown stage s.stands s.config_is
        (turned.fills_first s.comes none_waits not_ended (view_of first_now) (is_filled source_a first first_now fills))
        fills.order refl s.fits

    pub ends_first : (first_now : Records A O g) (swept : Sweeping) → FillsRecords source_a first (Ok false) first_now
        → MovesTo order sweep (with_first_ended stage) swept → Going first_now second swept grown
    ends_first first_now swept fills moves =
        goes_on first_now second swept grown (with_first_ended stage) moves.stands (moved swept (with_first_ended stage) moves)
        (turned.ends_first s.comes none_waits not_ended (view_of first_now) (is_over source_a first first_now fills))
        fills.order refl s.fits

    pub stops_first : (fault : Fault) (first_now : Records A O g) → FillsRecords source_a first (Err fault) first_now → Ends (Some (fault_value fault)) first_now second grown
    stops_first fault first_now fills =
        stop.stops_first s.comes asks_here s.fits wrong none_waits not_ended (fault_value fault) (view_of first_now)
        (is_stopped source_a first first_now fault fills)

  -- ---- one of the second is

  module _ (wants : want_in sweep ≡ WantB) where
    pub waiting : (a : Feature) × (stage.waiting ≡ Some a)
    waiting = let w = wants_second sweep.current (is_done sweep.phase) wants in (w.0, sym s.stands.current_is ∙ w.1)

    abbrev a : Feature
    a = waiting.0

    goes : stage.second_ended ≡ false
    goes = (s.stands.unended (ap is_some waiting.1)).1

    pub fills_second : (second_now : Records B O g) → FillsRecords source_b second (Ok true) second_now → Going first second_now sweep grown
    fills_second second_now fills =
        goes_on first second_now sweep grown stage s.stands s.config_is
        (turned.fills_second s.comes goes (view_of second_now) (is_filled source_b second second_now fills))
        refl fills.order s.fits

    pub ends_second : (second_now : Records B O g) (swept : Sweeping) (now : Output) → FillsRecords source_b second (Ok false) second_now
        → MovesTo order sweep (with_second_ended stage) swept → Grown grown (lines_for sweep.shape sweep.rule a stage.taken) now → Going first second_now swept now
    ends_second second_now swept now fills moves adds =
        goes_on first second_now swept now (with_second_ended stage) moves.stands (moved swept (with_second_ended stage) moves)
        (turned.ends_waiting s.comes goes (view_of second_now) (is_over source_b second second_now fills) a waiting.1 now
        (by_config (λ c. Grown grown (lines_for c.shape c.rule a stage.taken) now) adds))
        refl fills.order (subst (λ (gs : List Feature). AreWithin order config.limit gs s.past_second) (sym (append-nil (given stage))) s.fits)

    -- it is undecided where nothing more of the second is buffered
    opens : (view_of second).buffered ≡ [] → decided order a stage.taken ≡ false
    opens none =
        let seen = turned.seen_alone stage.taken (view_of second) none in
        let all = (s.comes.settles.whatever stage.taken (Some no_memory) placed_taken (record { begins = ([], sym (append-nil stage.taken) ∙ ap (λ (l : List Feature). l ++ []) (sym seen)); all = λ e. absurd (false≢true (sym goes ∙ e)) })).0 in
        grind (arith, waiting, open_last, placed_taken, placed_given)

    pub stops_second : (fault : Fault) (second_now : Records B O g) → FillsRecords source_b second (Err fault) second_now → Ends (Some (fault_value fault)) first second_now grown
    stops_second fault second_now fills =
        stop.stops_second s.comes asks_here s.fits waiting.1 wrong_second asked goes opens (fault_value fault) (view_of second_now) (is_stopped source_b second second_now fault fills)

    pub fails_at_end : (fault : FaultValue) (second_now : Records B O g) (now : Output) → FillsRecords source_b second (Ok false) second_now → FailsToAdd grown (lines_for sweep.shape sweep.rule a stage.taken) fault now
        → Ends (Some fault) first second_now now
    fails_at_end fault second_now now fills fails =
        stop.fails_at_end s.comes asks_here s.fits waiting.1 asked goes fault (view_of second_now) now
        (is_over source_b second second_now fills) (by_config (λ c. FailsToAdd grown (lines_for c.shape c.rule a stage.taken) fault now) fails)

  -- ---- what both have buffered was given

  module _ {first_now : Records A O g} {second_now : Records B O g} {fs ss : List Feature} (takes : TakesBoth source_a source_b first second fs ss first_now second_now) where
    abbrev more_first : List (Member Feature)
    more_first = members_from (suc (lines_given (below first))) fs

    abbrev more_second : List (Member Feature)
    more_second = members_from (suc (lines_given (below second))) ss

    further : TakesFurther source_a (view_of old_first) s.comes.first_passes.bytes.0 s.past_first more_first (view_of first) (view_of first_now)
    further = turned.takes_further source_a (view_of old_first) s.past_first (view_of first) s.comes.first_passes fs (view_of first_now) takes.first_taken

    further_second : TakesFurther source_b (view_of old_second) s.comes.second_passes.bytes.0 s.past_second more_second (view_of second) (view_of second_now)
    further_second = turned.takes_further source_b (view_of old_second) s.past_second (view_of second) s.comes.second_passes ss (view_of second_now) takes.second_taken

    items_first : member_items more_first ≡ fs
    items_first = items_from (suc (lines_given (below first))) fs

    items_second : member_items more_second ≡ ss
    items_second = items_from (suc (lines_given (below second))) ss

    given_then : given stage ++ fs ≡ member_items (s.past_first ++ more_first)
    given_then = ap (λ (l : List Feature). l ++ fs) s.comes.all_given ∙ ap (λ (l : List Feature). member_items s.past_first ++ l) (sym items_first) ∙ sym (map-append (λ m. m.item) s.past_first more_first)

    taken_then : stage.taken ++ ss ≡ member_items (s.past_second ++ more_second)
    taken_then = ap (λ (l : List Feature). l ++ ss) s.comes.all_taken ∙ ap (λ (l : List Feature). member_items s.past_second ++ l) (sym items_second) ∙ sym (map-append (λ m. m.item) s.past_second more_second)

    pub placed_first : ArePlaced order (intervals_of (given stage ++ fs))
    placed_first = subst (λ (l : List Feature). ArePlaced order (intervals_of l)) (sym given_then) (first_placed (s.past_first ++ more_first) (view_of first_now) further.passes)

    pub placed_second : ArePlaced order (intervals_of (stage.taken ++ ss))
    placed_second = subst (λ (l : List Feature). ArePlaced order (intervals_of l)) (sym taken_then) (second_placed (s.past_second ++ more_second) (view_of second_now) further_second.passes)

    ended_first : stage.first_ended ≡ true → (more_first ≡ []) × ((view_of first_now).buffered ≡ [])
    ended_first e =
        let none = turned.both_none fs (view_of first_now).buffered (sym takes.first_taken.takes.buffered ∙ (s.comes.first_all e).2) in
        (ap (members_from (suc (lines_given (below first)))) none.0, none.1)

    none_second : stage.second_ended ≡ true → (ss ≡ []) × ((view_of second_now).buffered ≡ [])
    none_second e = turned.both_none ss (view_of second_now).buffered (sym takes.second_taken.takes.buffered ∙ (s.comes.second_all e).1)

    ended_second : stage.second_ended ≡ true → (more_second ≡ []) × ((view_of second_now).buffered ≡ [])
    ended_second e = let none = none_second e in (ap (members_from (suc (lines_given (below second)))) none.0, none.1)

    not_ended_with : (m : Member Feature) → ahead_in (view_of second_now) ≡ Some m → (b : Bool) → stage.second_ended ≡ b → b ≡ false
    not_ended_with m ahead true e = absurd (nothing_ahead (view_of second_now) m (none_second e).1 ahead)
    not_ended_with m ahead false e = refl

    -- what is seen of the second input grows
    seen_by : (b : Bool) → stage.second_ended ≡ b → (xs : List Feature) → ss ≡ xs → SettlesPair join stage.written s.comes.bytes (stage.taken ++ option_to_list (item_ahead (view_of second))) b
        → SettlesPair join stage.written s.comes.bytes ((stage.taken ++ xs) ++ option_to_list (item_ahead (view_of second_now))) b
    seen_by true e xs is settles = grind (arith, none_second, append-nil)
    seen_by false e [] is settles = grind (arith, item_same, append-nil)
    seen_by false e (x ∷ xs) is settles =
        let rest = xs ++ option_to_list (item_ahead (view_of second_now)) in
        grind (arith, (append_assoc stage.taken (x ∷ []) rest), (append_assoc stage.taken (x ∷ xs) (option_to_list (item_ahead (view_of second_now)))), settles_seen)

    settled_seen : SettlesPair join stage.written s.comes.bytes ((stage.taken ++ ss) ++ option_to_list (item_ahead (view_of second_now))) stage.second_ended
    settled_seen = seen_by stage.second_ended refl ss refl s.comes.settles

    ends_then : sweep.phase ≡ SecondEnded → (stage.second_ended ≡ true) × (item_ahead (view_of second_now) ≡ None)
    ends_then first_is_left =
        let ended : stage.second_ended ≡ true = first_is stage.first_ended stage.second_ended (sym s.stands.phase_is ∙ first_is_left) in
        (ended, none_is_ahead (view_of second_now) (none_second ended).1)

    -- so far are the lines of some more settled
    settled_more : (written newly : List Feature) (bytes : List ℕ) → ArePlaced order (intervals_of newly) → Settles order sweep.phase newly (ss ++ option_to_list (item_ahead (view_of second_now)))
        → SettlesPair join written bytes ((stage.taken ++ ss) ++ option_to_list (item_ahead (view_of second_now))) stage.second_ended
        → SettlesPair join (written ++ newly) (bytes ++ intersect config.shape config.rule newly (stage.taken ++ ss)) ((stage.taken ++ ss) ++ option_to_list (item_ahead (view_of second_now))) stage.second_ended
    settled_more written newly bytes placed each settles =
        settles_newly c.begun.total config newly settles placed ends_then ss stage.taken refl each

    -- the limit lies as far
    decided_first : (b : Feature) (more : List Feature) → ss ≡ b ∷ more → AreDecided order stage.written (stage.taken ++ b ∷ [])
    decided_first b more is =
        let same : (view_of second).buffered ≡ b ∷ (more ++ (view_of second_now).buffered) = takes.second_taken.takes.buffered ∙ ap (λ (l : List Feature). l ++ (view_of second_now).buffered) is in
        let ahead : item_ahead (view_of second) ≡ Some b = item_same (suc (lines_given (below second))) 0 (view_of second).buffered (b ∷ (more ++ (view_of second_now).buffered)) same in
        let front = front_placed order (stage.taken ++ b ∷ []) more (subst (λ (l : List Feature). ArePlaced order (intervals_of l)) (ap (λ (l : List Feature). stage.taken ++ l) is ∙ sym (append_assoc stage.taken (b ∷ []) more)) placed_second) in
        (s.comes.settles.whatever (stage.taken ++ b ∷ []) (Some no_memory) front
        (record { begins = ([], sym (append-nil (stage.taken ++ b ∷ [])) ∙ ap (λ (o : Option Feature). (stage.taken ++ option_to_list o) ++ []) (sym ahead)); all = λ e. absurd (let none : b ∷ more ≡ [] = sym is ∙ (none_second e).0 in cc) })).0

    module _ (newly : List Feature) (w : Option Feature) (are : option_to_list sweep.current ++ fs ≡ newly ++ option_to_list w) where
      abbrev later : Stage Feature Feature
      later = stage_after stage newly w ss

      parts : option_to_list stage.waiting ++ fs ≡ newly ++ option_to_list w
      parts = ap (λ (o : Option Feature). option_to_list o ++ fs) (sym s.stands.current_is) ∙ are

      given_later : given later ≡ given stage ++ fs
      given_later = append_assoc stage.written newly (option_to_list w) ∙ ap (λ (l : List Feature). stage.written ++ l) (sym parts) ∙ sym (append_assoc stage.written (option_to_list stage.waiting) fs)

      newly_placed : ArePlaced order (intervals_of newly)
      newly_placed =
          placed_back order stage.written newly
          (front_placed order (stage.written ++ newly) (option_to_list w) (subst (λ (l : List Feature). ArePlaced order (intervals_of l)) (sym given_later) placed_first))

      fits_later : TakenEach order config.limit (option_to_list sweep.current ++ fs) stage.taken ss → AreWithin order config.limit (given later) (s.past_second ++ more_second)
      fits_later each =
          let whole : stage.written ++ (option_to_list stage.waiting ++ fs) ≡ given stage ++ fs = sym (append_assoc stage.written (option_to_list stage.waiting) fs) in
          subst (λ (l : List Feature). AreWithin order config.limit l (s.past_second ++ more_second)) (whole ∙ sym given_later)
          (fits_each c.begun.total config.limit stage.written (option_to_list stage.waiting ++ fs) (subst (λ (l : List Feature). ArePlaced order (intervals_of l)) (sym whole) placed_first) (suc (lines_given (below second))) ss s.past_second
          (sym s.comes.all_taken) placed_second decided_first (subst (λ (o : Option Feature). TakenEach order config.limit (option_to_list o ++ fs) stage.taken ss) s.stands.current_is each)
          (subst (λ (l : List Feature). AreWithin order config.limit l s.past_second) (sym whole) (within_given order config.limit (given stage) fs s.past_second s.fits)))

      -- the lines of some more, which are settled then, weren't all written
      cuts_later : TakenEach order config.limit (option_to_list sweep.current ++ fs) stage.taken ss → Settles order sweep.phase newly (ss ++ option_to_list (item_ahead (view_of second_now)))
          → (fault : FaultValue) (now : Output) → FailsToAdd grown (intersect config.shape config.rule newly (stage.taken ++ ss)) fault now → Ends (Some fault) first_now second_now now
      cuts_later each settles fault now fails =
          let items : given later ≡ given stage ++ member_items more_first = given_later ∙ ap (λ (l : List Feature). given stage ++ l) (sym items_first) in
          stop.fails_to_write s.comes asks_here s.fits more_first more_second further further_second (option_to_list w) items
          (subst (λ (l : List Feature). AreWithin order config.limit l (s.past_second ++ more_second)) items (fits_later each)) ended_second
          (subst (λ (l : List Feature). SettlesPair join (stage.written ++ newly) (s.comes.bytes ++ intersect config.shape config.rule newly (stage.taken ++ ss)) ((stage.taken ++ l) ++ option_to_list (item_ahead (view_of second_now))) stage.second_ended) (sym items_second)
          (settled_more stage.written newly s.comes.bytes newly_placed settles settled_seen)) (grown_none grown) fails

      module _ (each : Settles order sweep.phase newly (ss ++ option_to_list (item_ahead (view_of second_now)))) (now : Output) (puts : PutsEach order sweep fs ss newly grown now) where
        comes_later : Comes join pair out later (s.past_first ++ more_first) (s.past_second ++ more_second) (view_of first_now) (view_of second_now) now
        comes_later =
            turned.goes_on s.comes further further_second ended_first ended_second
            (record { given_is = given_later ∙ ap (λ (l : List Feature). given stage ++ l) (sym items_first); written_is = refl; taken_is = ap (λ (l : List Feature). stage.taken ++ l) (sym items_second); first_is = refl; second_is = refl })
            (intersect config.shape config.rule newly (stage.taken ++ ss)) now (settled_more stage.written newly s.comes.bytes newly_placed each settled_seen)
            (by_config (λ c. Grown grown (intersect c.shape c.rule newly (stage.taken ++ ss)) now) (puts stage s.stands placed_first placed_second))

        -- the second input is still wanted
        asks_later : later.first_ended ≡ false → AsksFor join pair out comes_later.first_passes.bytes.0 comes_later.second_passes.bytes.0 (s.past_first ++ more_first) (view_of second_now)
        unfolding comes_later
        asks_later going =
            subst (λ bytes. AsksFor join pair out comes_later.first_passes.bytes.0 bytes (s.past_first ++ more_first) (view_of second_now))
            (sym (turned.goes_bytes s.comes further further_second ended_first ended_second
            (record { given_is = given_later ∙ ap (λ (l : List Feature). given stage ++ l) (sym items_first); written_is = refl; taken_is = ap (λ (l : List Feature). stage.taken ++ l) (sym items_second); first_is = refl; second_is = refl })
            (intersect config.shape config.rule newly (stage.taken ++ ss)) now (settled_more stage.written newly s.comes.bytes newly_placed each settled_seen)
            (by_config (λ c. Grown grown (intersect c.shape c.rule newly (stage.taken ++ ss)) now) (puts stage s.stands placed_first placed_second))).1)
            (stop.asks_then s.comes asked (λ more asks. leaves_more order (given stage) more stage.taken asks) more_first more_second (view_of second_now) further_second)

  module _ {first_now : Records A O g} {second_now : Records B O g} {firsts seconds last_firsts last_seconds : Batch}
      (consumes : ConsumesGiven source_a first firsts last_firsts first_now) (consumes_second : ConsumesGiven source_b second seconds last_seconds second_now) where
    pub takes_both : (fs ss : List Feature) → PassesBatch firsts fs last_firsts → PassesBatch seconds ss last_seconds → TakesBoth source_a source_b first second fs ss first_now second_now
    takes_both fs ss passes passes_second =
        record { first_taken = consumes.takes fs passes; second_taken = consumes_second.takes ss passes_second; first_order = consumes.order; second_order = consumes_second.order }

    seen : (newly ss : List Feature) (next : Option Feature) → ComesNext batch_cursor last_seconds next → Settles order sweep.phase newly (ss ++ option_to_list next) → Settles order sweep.phase newly (ss ++ option_to_list (item_ahead (view_of second_now)))
    seen = seen_then source_b second second_now seconds last_seconds consumes_second order sweep.phase

    -- it went on
    pub goes_both : (swept : Sweeping) (now : Output) → AdvancesSo batch_cursor batch_cursor order sweep firsts seconds grown swept last_firsts last_seconds now → Going first_now second_now swept now
    goes_both swept now gives =
        let fs = gives.proceeds.firsts in
        let ss = gives.proceeds.seconds in
        let takes = takes_both fs ss gives.proceeds.gives_firsts gives.proceeds.gives_seconds in
        let placed = placed_first takes in
        let placed_taken = placed_second takes in
        let moves = gives.stands stage s.stands placed placed_taken in
        record {
          past_first = s.past_first ++ members_from (suc (lines_given (below first))) fs;
          past_second = s.past_second ++ members_from (suc (lines_given (below second))) ss;
          stage = stage_after stage gives.proceeds.newly swept.current ss;
          stands = moves.stands;
          config_is = moved swept (stage_after stage gives.proceeds.newly swept.current ss) moves;
          comes = comes_later takes gives.proceeds.newly swept.current gives.proceeds.are (seen gives.proceeds.newly ss gives.proceeds.next gives.proceeds.comes gives.proceeds.settles) now gives.puts;
          first_order = takes.first_order ∙ s.first_order;
          second_order = takes.second_order ∙ s.second_order;
          fits = fits_later takes gives.proceeds.newly swept.current gives.proceeds.are
              (by_config (λ c. TakenEach order c.limit (option_to_list sweep.current ++ fs) stage.taken ss) (gives.proceeds.each stage s.stands placed placed_taken));
        }

    -- it failed at one of the first
    pub fails_both : (fault : FaultValue) (now : Output) → FailsAt batch_cursor batch_cursor order sweep firsts seconds grown fault last_firsts last_seconds now → Ends (Some fault) first_now second_now now
    fails_both fault now fails =
        let fs = fails.proceeds.firsts in
        let ss = fails.proceeds.seconds in
        let takes = takes_both fs ss fails.proceeds.gives_firsts fails.proceeds.gives_seconds in
        let settles = seen fails.proceeds.newly ss fails.proceeds.next fails.proceeds.comes fails.proceeds.settles in
        let placed = placed_first takes in
        let placed_taken = placed_second takes in
        let each = by_config (λ c. TakenEach order c.limit (option_to_list sweep.current ++ fs) stage.taken ss) (fails.proceeds.each stage s.stands placed placed_taken) in
        let past_first = s.past_first ++ members_from (suc (lines_given (below first))) fs in
        let past_second = s.past_second ++ members_from (suc (lines_given (below second))) ss in
        elim fails.cause [
          | inl write ↦ cuts_later takes fails.proceeds.newly fails.waiting fails.proceeds.are each settles fault now
              (by_config (λ c. FailsToAdd grown (intersect c.shape c.rule fails.proceeds.newly (stage.taken ++ ss)) fault now) (write stage s.stands placed placed_taken))
          | inr others ↦ elim others [
            | inl lack ↦
                let last = lack.shares.last in
                let m : Member Feature = record { line = suc (lines_given (below second_now)); item = lack.shares.b } in
                let ahead = first_then source_b second second_now seconds last_seconds consumes_second lack.shares.b lack.shares.after lack.shares.gives in
                let are = fails.proceeds.are ∙ ap (λ (o : Option Feature). fails.proceeds.newly ++ option_to_list o) lack.shares.waits in
                let comes = comes_later takes fails.proceeds.newly (Some last) are settles now lack.puts in
                let asks = asks_later takes fails.proceeds.newly (Some last) are settles now lack.puts in
                let fits = fits_later takes fails.proceeds.newly (Some last) are each in
                let placed_last = placed_back order (stage.written ++ fails.proceeds.newly) (last ∷ []) (subst (λ (l : List Feature). ArePlaced order (intervals_of l)) (sym (given_later takes fails.proceeds.newly (Some last) are)) placed) in
                let lacks = subst (λ (n : ℕ). CannotBeHeld sweep.limit last (stage.taken ++ ss) n fault) (line_then source_b second second_now seconds last_seconds consumes_second lack.shares.b lack.shares.after lack.shares.gives) (lack.lacks stage s.stands placed placed_taken) in
                elim (by_config (λ c. CannotBeHeld c.limit last (stage.taken ++ ss) m.line fault) lacks) [
                  | inl full ↦
                      limit_case first_now second_now (takes.second_order ∙ s.second_order ∙ c.begun.same_order) refl
                      (not_ended_with takes m ahead stage.second_ended refl) comes asks fits ahead lack.shares.chrom lack.shares.starts lack.shares.ends placed_last.0 full.0 full.1
                  | inr ran ↦ stop.lacks_memory comes asks fits fault ran.1
                ]
            | inr keep ↦
                let are = fails.proceeds.are ∙ ap (λ (o : Option Feature). fails.proceeds.newly ++ option_to_list o) keep.waits in
                let fits = fits_later takes fails.proceeds.newly (Some keep.last) are each in
                let asks = asks_later takes fails.proceeds.newly (Some keep.last) are settles now keep.puts in
                stop.lacks_memory (comes_later takes fails.proceeds.newly (Some keep.last) are settles now keep.puts) asks fits fault keep.is
          ]
        ]

  -- ---- the first input has ended, and the second was read to its end

  module _ (wants : want_in sweep ≡ Nothing) where
    done : stage.first_ended ≡ true
    done = sym (grind arith) ∙ ap is_done (sym s.stands.phase_is) ∙ (wants_nothing sweep.current (is_done sweep.phase) wants).0

    pub finishes_both : {T : Type 0} (result : Result T Fault) (second_now : Records B O g) → ReadsRest source_b (IsBedKind (order_in second)) (view_of second) result (view_of second_now)
        → Ends (fault_in result) first second_now grown
    finishes_both {T} (Ok unit) second_now reads =
        let checks = subst (λ (o : Order). ReadsRest {T = T} source_b (IsBedKind o) (view_of second) (Ok unit) (view_of second_now)) (s.second_order ∙ c.begun.same_order) reads (view_of old_second) s.past_second s.comes.second_passes wrong_bed in
        stop.ends_rest s.comes asks_here s.fits done (view_of second_now) checks.1.bytes (record { later = checks.3; low = λ some. absurd (false≢true (ap is_some (sym checks.1.going) ∙ some)) }) (s.past_second ++ checks.0) None
        (inl (refl, checks.2, record { served = checks.1.served; clear = checks.1.clear; within = checks.1.kept.within checks.1.clear }, refl, checks.4))
    finishes_both {T} (Err fault) second_now reads =
        let checks = subst (λ (o : Order). ReadsRest {T = T} source_b (IsBedKind o) (view_of second) (Err fault) (view_of second_now)) (s.second_order ∙ c.begun.same_order) reads (view_of old_second) s.past_second s.comes.second_passes wrong_bed in
        stop.stops_rest s.comes asks_here s.fits done (view_of second_now) (s.past_second ++ checks.more) (fault_value fault)
        (stops_wider source_b (view_of old_second) (IsBedKind order) join.second_kinds (λ kind of_bed. inl of_bed) (s.past_second ++ checks.more) (fault_value fault) (view_of second_now) checks.stops)
        (record { later = checks.later; low = λ some. checks.low }) (λ e. checks.before_end (s.comes.second_all e).2) refl
