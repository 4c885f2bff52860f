-- Lemmas on the rounds of a sweep over two readers: how far each comes, what it reads, and how much is still wanted.
use Rattle.bt_lines.proofs.Std.{◌≡◌, ℕ, zero, suc, ◌+◌, ◌*◌, ◌≤◌, ◌<◌, Bool, true, false, length, length-append, Option, None, Some, Ok, Err, refl, sym, ap, ◌∙◌, subst, arith, inl, inr, option_to_list, [], ◌⊎◌, IsErrAnd, Result, is_some}
use Rattle.bt_lines.specs.calls.Output.{HoldsBlock, Output}
use Rattle.bt_sweep.specs.calls.Sweeping.{IsInOrder, MovesTo, StandsAt, AdvancesOn, AdvancesSo, HasWritten, StopsFor, EndsB, Sweeping, phase_is_over as is_done, want_in, want_of}
use Rattle.bt_bed.specs.calls.Stage.{at_start, Stage, with_first_ended}
use Rattle.bt_sweep.specs.calls.SweepView.{order_of as sweep_order, state_of}
use Rattle.bt_tool.specs.inside.Feed.{IsFresh, IsKeptBelow, ConsumesGiven}
use Rattle.bt_tool.specs.declared.loops.sweeping.SweepConfig.{SweepConfig}
use Rattle.bt_tool.specs.inside.SweepLoop.{sweep_join, ReadsRest, SweepComes, SweepIsOver, Sweeps, config_of, left_to_sweep, records_pair, sweep_rounds, sweep_run}
use Rattle.bt_tool.proofs.lemmas.running.members.MemberLemmas.{passes_start}
use Rattle.bt_tool.proofs.lemmas.running.pair.PairTurns.{comes_start, some_buffered}
use Rattle.bt_tool.proofs.lemmas.running.sweep.SweepFacts.{within_start}
use Rattle.bt_lines.specs.declared.device.Source.{Ghosts as Source}
use Rattle.bt_lines.specs.calls.Names.{fault_value}
use Rattle.bt_lines.specs.calls.Reader.{fault_kept as line_fault}
use Rattle.bt_lines.specs.declared.fault.Fault.{Fault}
use Rattle.bt_bed.specs.calls.CursorOf.{batch_cursor}
use Rattle.bt_bed.specs.calls.SortedReader.{fault_in}
use Rattle.bt_bed.specs.declared.read.batch.Batch.{Batch}
use Rattle.bt_bed.specs.model.Feature.{Feature}
use Rattle.bt_bed.specs.model.BedLine.{IsBedKind}
use Rattle.bt_bed.specs.model.Order.{Order}
use Rattle.bt_bed.specs.calls.Records.{FillsRecords, below, fault_kept, order_in, room, view_of}
use Rattle.bt_bed.proofs.lemmas.order.TableLemmas.{passed_on}
use Rattle.bt_bed.specs.declared.order.ChromOrder.{Ghosts}
use Rattle.bt_bed.specs.declared.read.records.Records.{Records}
use Rattle.bt_sweep.specs.declared.sweep.Want.{Want}
use Rattle.bt_sweep.specs.declared.sweep.Want.TheVariants.{A as WantA, B as WantB, Nothing}
use Rattle.bt_tool.specs.declared.loops.sweeping.SweepRun.{SweepRun}
use Rattle.bt_tool.specs.calls.Run.{AnswersNoRead, TellsNoRead}
use Rattle.bt_tool.specs.inside.Pair.{PairEnds}
use Rattle.bt_tool.specs.inside.Rounds.{IsBuffered, IsLessIfReady, IsLessOrReady, LeadsTo}
use Rattle.bt_tool.proofs.lemmas.running.sweep.SweptLemmas.{TakesBoth, ends_first, ends_second, fails_at_end, fails_both, fills_first, fills_second, finishes_both, goes_both, none_waits, placed_first, placed_second, in_order, stops_first, stops_second, takes_both, waiting, wants_first, wants_second}
use Rattle.bt_tool.proofs.lemmas.running.whole.OwnFailureLemmas.{none_below, none_tells, told_kept, told_none}

module _ {A B O : Type 0} {g : Ghosts O} (source_a : Source A) (source_b : Source B)
    (config : SweepConfig) (first : Records A O g) (second : Records B O g) (out : Output) where
  -- nothing was given yet
  pub sweeps_start : IsFresh source_a (view_of first) → IsFresh source_b (view_of second)
      → HoldsBlock out.took out.put → (sweep : Sweeping) → StandsAt (order_in first) at_start sweep → config_of sweep ≡ config
      → Sweeps source_a source_b (order_in first) config first second out first second sweep out
  sweeps_start fresh fresh_second block sweep stands config_is = record {
    past_first = [];
    past_second = [];
    stage = at_start;
    stands = stands;
    config_is = config_is;
    comes = comes_start (sweep_join (order_in first) config) (records_pair source_a source_b first second) out
        (passes_start source_a (view_of first) fresh)
        (passes_start source_b (view_of second) fresh_second) block;
    first_order = refl;
    second_order = refl;
    fits = within_start (order_in first) config.limit [];
  }

-- ---- how much is still wanted

rounds_most : (o : Option Feature) (done : Bool) → sweep_rounds (is_some o) done ≤ length (option_to_list o) + 1
rounds_most o done = grind arith

some_waits : (o : Option Feature) → is_some o ≡ true → length (option_to_list o) ≡ 1
some_waits o e = grind arith

none_of : (o : Option Feature) → o ≡ None → length (option_to_list o) ≡ 0
none_of o e = ap (λ (o : Option Feature). length (option_to_list o)) e

-- no more is wanted, if as many were taken as wait now
rounds_few : (o n : Option Feature) (done now : Bool) (k : ℕ) → now ≡ done → length (option_to_list n) ≤ length (option_to_list o) + k
    → sweep_rounds (is_some n) now ≤ sweep_rounds (is_some o) done + 2 * k
rounds_few o n done now k same few = grind arith

-- fewer rounds are left, by the room of both readers, what waits and whether the first input has ended
abbrev IsFewer : (o n : Option Feature) (done now : Bool) (old_room new_room : ℕ) → Type 0
IsFewer o n done now old_room new_room = 2 * new_room + sweep_rounds (is_some n) now < 2 * old_room + sweep_rounds (is_some o) done

-- none of the first was taken, though one was wanted and buffered
fewer_first : (w : Want) (o n : Option Feature) (done now : Bool) (newly old_room new_room rest : ℕ) → now ≡ done → want_of (is_some n) now ≡ w → want_of (is_some o) done ≡ WantA
    → length (option_to_list o) ≡ newly + length (option_to_list n) → new_room ≤ old_room → 0 < rest → (w ≡ WantA → rest ≡ 0) → IsFewer o n done now old_room new_room
fewer_first w o n done now newly old_room new_room rest same is wants counted rooms some ended = grind arith

-- none of the second was
fewer_second : (w : Want) (o n : Option Feature) (done now : Bool) (old_room new_room rest : ℕ) → want_of (is_some n) now ≡ w → want_of (is_some o) done ≡ WantB
    → new_room ≤ old_room → 0 < rest → (w ≡ WantB → rest ≡ 0) → IsFewer o n done now old_room new_room
fewer_second w o n done now old_room new_room rest is wants rooms some ended = grind arith

-- what is wanted was buffered, and some of it was taken, or none
fewer_taken : (want : Want) (o n : Option Feature) (done now : Bool) (firsts seconds newly old_room new_room la lb : ℕ) → want_of (is_some o) done ≡ want
    → length (option_to_list o) + firsts ≡ newly + length (option_to_list n) → new_room + firsts + seconds ≤ old_room → IsBuffered want la lb
    → (firsts ≡ 0 → want ≡ WantA → 0 < la → IsFewer o n done now old_room new_room) → (seconds ≡ 0 → want ≡ WantB → 0 < lb → IsFewer o n done now old_room new_room) → IsFewer o n done now old_room new_room
fewer_taken WantA o n done now zero seconds newly old_room new_room la lb wants counted rooms some none none_second = none refl refl some
fewer_taken WantA o n done now (suc k) seconds newly old_room new_room la lb wants counted rooms some none none_second = grind (arith, wants_first, (rounds_most n now))
fewer_taken WantB o n done now firsts zero newly old_room new_room la lb wants counted rooms some none none_second = none_second refl refl some
fewer_taken WantB o n done now firsts (suc k) newly old_room new_room la lb wants counted rooms some none none_second = grind (arith, (wants_second o done wants), (rounds_most n now))
fewer_taken Nothing o n done now firsts seconds newly old_room new_room la lb wants counted rooms some none none_second = absurd some

-- the one that waited was written
fewer_written : (o n : Option Feature) (done now : Bool) (old_room new_room : ℕ) → is_some o ≡ true → n ≡ None → new_room ≤ old_room → IsFewer o n done now old_room new_room
fewer_written o n done now old_room new_room some none rooms = grind arith

answers_none : {T : Type 0} (answer : Result T Fault) → TellsNoRead (fault_in answer) → AnswersNoRead answer
answers_none answer never = grind arith

number_cases : (n : ℕ) → (n ≡ 0) ⊎ (0 < n)
number_cases n = grind arith

module _ {A B O : Type 0} {g : Ghosts O} {source_a : Source A} {source_b : Source B} {start : SweepRun A B O g} {out : Output} {old : SweepRun A B O g} {grown : Output} (s : SweepComes source_a source_b start out old grown) where
  abbrev sweep : Sweeping
  sweep = state_of old.sweep

  abbrev order : Order
  order = sweep_order old.sweep

  abbrev Goes : SweepRun A B O g → Output → Type 0
  Goes = SweepComes source_a source_b start out

  abbrev Ends : Fault → SweepRun A B O g → Output → Type 0
  Ends fault = SweepIsOver source_a source_b start out (Some (fault_value fault))

  abbrev IsLess : SweepRun A B O g → Type 0
  IsLess new = left_to_sweep new < left_to_sweep old

  abbrev Filled : SweepRun A B O g → Type 0
  Filled = IsLessOrReady (sweep_run source_a source_b) old

  abbrev Given : SweepRun A B O g → Type 0
  Given = IsLessIfReady (sweep_run source_a source_b) old

  abbrev Leads : {T : Type 0} → (SweepRun A B O g → Type 0) → Result T Fault → SweepRun A B O g → Output → Type 0
  Leads = LeadsTo (sweep_run source_a source_b) start out

  -- it has come to these
  abbrev comes_to : (new : SweepRun A B O g) (later : Output) → Sweeps source_a source_b (order_in start.first) (config_of (state_of start.sweep)) start.first start.second out new.first new.second (state_of new.sweep) later
      → sweep_order new.sweep ≡ order → Goes new later
  comes_to new later sweeps same = record {
    begun = s.begun;
    sweeps = sweeps;
    order_is = same ∙ s.order_is;
  }

  -- it has ended with these
  abbrev ends_with : (fault : Fault) (new : SweepRun A B O g) (later : Output)
      → PairEnds (sweep_join (order_in start.first) (config_of (state_of start.sweep))) (records_pair source_a source_b start.first start.second) out (Some (fault_value fault)) (view_of new.first) (view_of new.second) later
      → (TellsNoRead (Some (fault_value fault)) → TellsNoRead (line_fault (below new.first)) × TellsNoRead (line_fault (below new.second)))
      → IsKeptBelow (view_of new.first) (below new.first) → IsKeptBelow (view_of new.second) (below new.second) → Ends fault new later
  ends_with fault new later ends none kept kept_second = record { finishes = ends; none_kept = none; kept_first = kept; kept_second = kept_second }

  none_first : fault_kept old.first ≡ None
  none_first = s.sweeps.comes.first_passes.going

  none_second : fault_kept old.second ≡ None
  none_second = s.sweeps.comes.second_passes.going

  clear_first : TellsNoRead (line_fault (below old.first))
  clear_first = none_tells (line_fault (below old.first)) s.sweeps.comes.first_passes.clear

  clear_second : TellsNoRead (line_fault (below old.second))
  clear_second = none_tells (line_fault (below old.second)) s.sweeps.comes.second_passes.clear

  kept_first : IsKeptBelow (view_of old.first) (below old.first)
  kept_first = none_below (view_of old.first) (below old.first) none_first

  kept_second : IsKeptBelow (view_of old.second) (below old.second)
  kept_second = none_below (view_of old.second) (below old.second) none_second

  -- ---- the first input is read on

  module _ (wants : want_in sweep ≡ WantA) (first_now : Records A O g) where
    abbrev with_first : SweepRun A B O g
    with_first = record old { first = first_now }

    pub first_filled : FillsRecords source_a old.first (Ok true) first_now → Goes with_first grown × Filled with_first
    first_filled fills = (
      comes_to with_first grown (fills_first s wants first_now fills) refl,
      inr (
        omega (arith, fills.answers.1.shrinks),
        subst (λ (w : Want). IsBuffered w (length (view_of first_now).buffered) (length (view_of old.second).buffered)) (sym wants)
            (some_buffered _ (view_of first_now).buffered _ fills.answers.1.ahead),
      ),
    )

    module _ (now : SweepRun A B O g) (same : now.first ≡ first_now) (same_second_now : now.second ≡ old.second) (same_order : sweep_order now.sweep ≡ order) where
      pub first_ended : FillsRecords source_a old.first (Ok false) first_now
          → ((stage : Stage Feature Feature) → StandsAt order stage sweep → MovesTo order sweep (with_first_ended stage) (state_of now.sweep)) → Goes now grown × Filled now
      first_ended fills ends =
          let moves : MovesTo (order_in start.first) sweep (with_first_ended s.sweeps.stage) (state_of now.sweep) =
          subst (λ (o : Order). (stage : Stage Feature Feature) → StandsAt o stage sweep → MovesTo o sweep (with_first_ended stage) (state_of now.sweep)) s.order_is ends s.sweeps.stage s.sweeps.stands in
          let none : (state_of now.sweep).current ≡ None = moves.stands.current_is ∙ none_waits s wants in
          let done : is_done (state_of now.sweep).phase ≡ true = ap is_done moves.stands.phase_is ∙ (grind arith) in (
            comes_to now grown (rw (same, same_second_now) (ends_first s wants first_now (state_of now.sweep) fills moves)) same_order,
            inl (rw (same, same_second_now) (omega (
              arith,
              fills.answers.shrinks,
              ap (λ (o : Option Feature). sweep_rounds (is_some o) (is_done (state_of now.sweep).phase)) none ∙ ap (sweep_rounds false) done,
              (wants_first sweep.current (is_done sweep.phase) wants).2,
            ))),
          )

    pub first_stopped : {T : Type 0} (fault : Fault) (result : Result T Fault) → IsErrAnd result (λ e. e ≡ fault) → FillsRecords source_a old.first (Err fault) first_now → Leads Filled result with_first grown
    first_stopped {T} fault result is fills =
        passed_on (λ (r : Result T Fault). Leads Filled r with_first grown) result fault is
        (ends_with fault with_first grown (stops_first s wants fault first_now fills)
        (λ never. (told_none none_first fills.answers never, clear_second)) (told_kept none_first fills.answers) kept_second)

  -- ---- the second is

  module _ (wants : want_in sweep ≡ WantB) (second_now : Records B O g) where
    abbrev with_second : SweepRun A B O g
    with_second = record old { second = second_now }

    pub second_filled : FillsRecords source_b old.second (Ok true) second_now → Goes with_second grown × Filled with_second
    second_filled fills = (
      comes_to with_second grown (fills_second s wants second_now fills) refl,
      inr (
        omega (arith, fills.answers.1.shrinks),
        subst (λ (w : Want). IsBuffered w (length (view_of old.first).buffered) (length (view_of second_now).buffered)) (sym wants)
            (some_buffered _ (view_of second_now).buffered _ fills.answers.1.ahead),
      ),
    )

    pub second_stopped : {T : Type 0} (fault : Fault) (result : Result T Fault) → IsErrAnd result (λ e. e ≡ fault) → FillsRecords source_b old.second (Err fault) second_now → Leads Filled result with_second grown
    second_stopped {T} fault result is fills =
        passed_on (λ (r : Result T Fault). Leads Filled r with_second grown) result fault is
        (ends_with fault with_second grown (stops_second s wants fault second_now fills)
        (λ never. (clear_first, told_none none_second fills.answers never)) kept_first (told_kept none_second fills.answers))

    module _ (fills : FillsRecords source_b old.second (Ok false) second_now) (now : SweepRun A B O g) (same_first_now : now.first ≡ old.first) (same : now.second ≡ second_now) (later : Output) where
      abbrev Ending : {T : Type 0} → Result T Fault → Type 0
      Ending answer = (stage : Stage Feature Feature) (a : Feature) → StandsAt order stage sweep → stage.waiting ≡ Some a → IsInOrder order stage → EndsB order stage a sweep grown answer (state_of now.sweep) later

      ending : {T : Type 0} (answer : Result T Fault) → Ending answer → EndsB (order_in start.first) s.sweeps.stage (waiting s wants).0 sweep grown answer (state_of now.sweep) later
      ending {T} answer ends =
          subst (λ (o : Order). EndsB o s.sweeps.stage (waiting s wants).0 sweep grown answer (state_of now.sweep) later) s.order_is
          (ends s.sweeps.stage (waiting s wants).0 (subst (λ (o : Order). StandsAt o s.sweeps.stage sweep) (sym s.order_is) s.sweeps.stands) (waiting s wants).1 (subst (λ (o : Order). IsInOrder o s.sweeps.stage) (sym s.order_is) (in_order s)))

      pub second_over : {T : Type 0} (answer : Result T Fault) → sweep_order now.sweep ≡ order → Ending answer → Leads Filled answer now later
      second_over (Ok done) same_order ends =
          let ended = ending (Ok done) ends in (
            comes_to now later (rw (same_first_now, same) (ends_second s wants second_now (state_of now.sweep) later fills ended.0 ended.1)) same_order,
            inl (rw (same_first_now, same) (omega (
              arith,
              fills.answers.shrinks,
              rounds_most (state_of now.sweep).current (is_done (state_of now.sweep).phase),
              none_of (state_of now.sweep).current ended.0.stands.current_is,
              (wants_second sweep.current (is_done sweep.phase) wants).2,
            ))),
          )
      second_over {T} (Err fault) same_order ends =
          ends_with fault now later (rw (same_first_now, same) (fails_at_end s wants (fault_value fault) second_now later fills (ending {T = T} (Err fault) ends).1))
          (λ never. (rw same_first_now clear_first, rw same (none_tells (line_fault (below second_now)) fills.answers.below_goes))) (rw same_first_now kept_first)
          (rw same (none_below (view_of second_now) (below second_now) fills.answers.goes))

  -- ---- what both have buffered was given

  module _ (new : SweepRun A B O g) (later : Output) {firsts seconds last_firsts last_seconds : Batch}
      (consumes : ConsumesGiven source_a old.first firsts last_firsts new.first) (consumes_second : ConsumesGiven source_b old.second seconds last_seconds new.second) where
    module _ (gives : AdvancesSo batch_cursor batch_cursor (order_in start.first) sweep firsts seconds grown (state_of new.sweep) last_firsts last_seconds later) where
      takes : TakesBoth source_a source_b old.first old.second gives.proceeds.firsts gives.proceeds.seconds new.first new.second
      takes = takes_both s consumes consumes_second gives.proceeds.firsts gives.proceeds.seconds gives.proceeds.gives_firsts gives.proceeds.gives_seconds

      abbrev swept : Sweeping
      swept = state_of new.sweep

      -- whether the first input has ended doesn't change
      same_done : is_done swept.phase ≡ is_done sweep.phase
      same_done = ap is_done ((gives.stands s.sweeps.stage s.sweeps.stands (placed_first s takes) (placed_second s takes)).stands.phase_is ∙ sym s.sweeps.stands.phase_is)

      abbrev waits : Sweeping → ℕ
      waits sweep = length (option_to_list sweep.current)

      counted : waits sweep + length gives.proceeds.firsts ≡ length gives.proceeds.newly + waits swept
      counted = sym (length-append (option_to_list sweep.current) gives.proceeds.firsts) ∙ ap length gives.proceeds.are ∙ length-append gives.proceeds.newly (option_to_list swept.current)

      first_left : length (view_of old.first).buffered ≡ length gives.proceeds.firsts + length (view_of new.first).buffered
      first_left = ap length takes.first_taken.takes.buffered ∙ length-append gives.proceeds.firsts (view_of new.first).buffered

      second_left : length (view_of old.second).buffered ≡ length gives.proceeds.seconds + length (view_of new.second).buffered
      second_left = ap length takes.second_taken.takes.buffered ∙ length-append gives.proceeds.seconds (view_of new.second).buffered

      rooms : room new.first + room new.second + length gives.proceeds.firsts + length gives.proceeds.seconds ≤ room old.first + room old.second
      rooms = omega (arith, takes.first_taken.takes.shrinks, takes.second_taken.takes.shrinks)

      few : left_to_sweep new ≤ left_to_sweep old
      few = omega (arith, rooms, rounds_few sweep.current swept.current (is_done sweep.phase) (is_done swept.phase) (length gives.proceeds.firsts) same_done (omega (arith, counted)))

      most : sweep_rounds (is_some swept.current) (is_done swept.phase) ≤ waits swept + 1
      most = rounds_most swept.current (is_done swept.phase)

      abbrev Stops : Want → Type 0
      Stops want = StopsFor batch_cursor batch_cursor want last_firsts last_seconds

      left_first : (w : Want) → Stops w → w ≡ WantA → length (view_of new.first).buffered ≡ 0
      left_first WantA ended e = ap length (consumes.left_is ∙ ended.none)
      left_first WantB ended e = absurd (let apart : WantB ≡ WantA = e in cc)
      left_first Nothing ended e = absurd (let apart : Nothing ≡ WantA = e in cc)

      left_second : (w : Want) → Stops w → w ≡ WantB → length (view_of new.second).buffered ≡ 0
      left_second WantB ended e = ap length (consumes_second.left_is ∙ ended.none)
      left_second WantA ended e = absurd (let apart : WantA ≡ WantB = e in cc)
      left_second Nothing ended e = absurd (let apart : Nothing ≡ WantB = e in cc)

      -- none of the first was taken, though one was buffered
      stopped_a : Stops (want_in swept) → length gives.proceeds.firsts ≡ 0 → want_in sweep ≡ WantA → 0 < length (view_of old.first).buffered → IsLess new
      stopped_a stops taken wants some =
          fewer_first (want_in swept) sweep.current swept.current (is_done sweep.phase) (is_done swept.phase) (length gives.proceeds.newly) (room old.first + room old.second) (room new.first + room new.second) (length (view_of new.first).buffered)
          same_done refl wants (omega (arith, counted, taken)) (omega (arith, rooms)) (omega (arith, first_left, taken, some)) (left_first (want_in swept) stops)

      stopped_b : Stops (want_in swept) → length gives.proceeds.seconds ≡ 0 → want_in sweep ≡ WantB → 0 < length (view_of old.second).buffered → IsLess new
      stopped_b stops taken wants some =
          fewer_second (want_in swept) sweep.current swept.current (is_done sweep.phase) (is_done swept.phase) (room old.first + room old.second) (room new.first + room new.second) (length (view_of new.second).buffered)
          refl wants (omega (arith, rooms)) (omega (arith, second_left, taken, some)) (left_second (want_in swept) stops)

      less : Stops (want_in swept) ⊎ HasWritten sweep swept → IsBuffered (want_in sweep) (length (view_of old.first).buffered) (length (view_of old.second).buffered) → IsLess new
      less (inl stops) ready =
          fewer_taken (want_in sweep) sweep.current swept.current (is_done sweep.phase) (is_done swept.phase) (length gives.proceeds.firsts) (length gives.proceeds.seconds) (length gives.proceeds.newly) (room old.first + room old.second) (room new.first + room new.second) (length (view_of old.first).buffered) (length (view_of old.second).buffered)
          refl counted rooms ready (stopped_a stops) (stopped_b stops)
      less (inr written) ready =
          fewer_written sweep.current swept.current (is_done sweep.phase) (is_done swept.phase) (room old.first + room old.second) (room new.first + room new.second) written.0 written.1 (omega (arith, rooms))

      came_further : Stops (want_in swept) ⊎ HasWritten sweep swept → sweep_order new.sweep ≡ order → Goes new later × Given new
      came_further stops same = (comes_to new later (goes_both s consumes consumes_second swept later gives) same, (few, less stops))

    gave : {T : Type 0} (answer : Result T Fault) → sweep_order new.sweep ≡ order
        → AdvancesOn batch_cursor batch_cursor (order_in start.first) sweep firsts seconds grown answer (state_of new.sweep) last_firsts last_seconds later → Leads Given answer new later
    gave (Ok done) same gives = came_further gives.0 gives.1 same
    gave (Err fault) same fails =
        let takes = takes_both s consumes consumes_second fails.proceeds.firsts fails.proceeds.seconds fails.proceeds.gives_firsts fails.proceeds.gives_seconds in
        ends_with fault new later (fails_both s consumes consumes_second (fault_value fault) later fails)
        (λ never. (none_tells (line_fault (below new.first)) (takes.first_taken.takes.below_stays ∙ s.sweeps.comes.first_passes.clear), none_tells (line_fault (below new.second)) (takes.second_taken.takes.below_stays ∙ s.sweeps.comes.second_passes.clear)))
        (none_below (view_of new.first) (below new.first) (takes.first_taken.takes.goes ∙ none_first))
        (none_below (view_of new.second) (below new.second) (takes.second_taken.takes.goes ∙ none_second))

  pub gave_both : {T : Type 0} (new : SweepRun A B O g) (later : Output) (answer : Result T Fault) → sweep_order new.sweep ≡ order
      → ((firsts : Batch) × (seconds : Batch) × (last_firsts : Batch) × (last_seconds : Batch) × ConsumesGiven source_a old.first firsts last_firsts new.first × ConsumesGiven source_b old.second seconds last_seconds new.second
      × AdvancesOn batch_cursor batch_cursor order sweep firsts seconds grown answer (state_of new.sweep) last_firsts last_seconds later) → Leads Given answer new later
  gave_both {T} new later answer same gives = grind (arith, gave)

  -- ---- the first input has ended

  pub finished : {T : Type 0} (answer : Result T Fault) → want_in sweep ≡ Nothing → (second_now : Records B O g) → ReadsRest source_b (IsBedKind (order_in old.second)) (view_of old.second) answer (view_of second_now)
      → (fault_kept old.second ≡ None → AnswersNoRead answer → TellsNoRead (line_fault (below second_now))) → (fault_kept old.second ≡ None → IsKeptBelow (view_of second_now) (below second_now))
      → SweepIsOver source_a source_b start out (fault_in answer) (record old { second = second_now }) grown
  finished {T} answer wants second_now reads none kept = record {
    finishes = finishes_both s wants {T = T} answer second_now reads;
    none_kept = λ never. (clear_first, none none_second (answers_none answer never));
    kept_first = kept_first;
    kept_second = kept none_second;
  }
