-- Lemmas on where a sweep is once records of both inputs were given and taken.
use Rattle.bt_lines.proofs.Std.{common_steps, rules}
use Rattle.bt_lines.proofs.Std.{◌≡◌, inl, inr, true, false, List, [], ◌∷◌, ◌++◌, Option, Some, None, Ok, Err, Result, refl, sym, ap, ◌∙◌, subst, append-nil, append_assoc, option_to_list, arith, IfSome, is_some}
use Rattle.bt_lines.specs.model.Fault.{FaultValue}
use Rattle.bt_lines.specs.declared.fault.Fault.{Fault}
use Rattle.bt_lines.specs.calls.Output.{Output}
use Rattle.bt_lines.proofs.lemmas.Writer.{grown_none}
use Rattle.bt_bed.specs.model.Feature.{Feature, intervals_of}
use Rattle.bt_bed.specs.calls.Orders.{ArePlaced, IsTotal}
use Rattle.bt_bed.specs.model.Order.{Order}
use Rattle.bt_bed.specs.calls.Bed.{GivesSingle, single_left}
use Rattle.bt_bed.specs.declared.read.cursor.Cursor.{Ghosts as Cursor}
use Rattle.bt_bed.specs.declared.read.cursor.Single.{Single}
use Rattle.bt_sweep.specs.calls.Sweeping.{AdvancesOn, AdvancesSo, AtEach, FailsAt, IsThis, Proceeded, PutsEach, Settles, StopsFor, stage_after, LeavesLast, SameConfig, MovesTo, StandsAt, Sweeping, phase_is_over, want_in, want_of, no_cursor}
use Rattle.bt_bed.specs.calls.Stage.{given, Stage}
use Rattle.bt_sweep.specs.model.Lines.{intersect}
use Rattle.bt_sweep.specs.inside.Joining.{GivenLast, Breaks, HoldsDue, JoinsSo, KeepsRules, JoinProceeded as Joined, WritesFor, KeepsOne, going_on, held_with}
use Rattle.bt_sweep.specs.declared.sweep.state.Phase.{Phase}
use Rattle.bt_sweep.specs.declared.sweep.state.Phase.TheVariants.{Both, SecondEnded, Over}
use Rattle.bt_sweep.specs.declared.sweep.Want.TheVariants.{A as WantA, B as WantB}
use Rattle.bt_sweep.proofs.lemmas.sweep.JoinLemmas.{leaves_none}
use Rattle.bt_sweep.proofs.lemmas.sweep.KeepLemmas.{keeps_first, same_as, with_no_pending}
use Rattle.bt_sweep.proofs.lemmas.definitions.HitLemmas.{front_placed}

-- both go on
still_both : (phase : Phase) → (phase ≡ SecondEnded → ⊥) → (phase ≡ Over → ⊥) → phase ≡ Both
still_both phase first over = grind arith

-- ---- where the next record of the first input comes from

-- `first` is the record that waited, or else comes first: these are given with it. It holds what it has to then.
pub record StartsAt (order : Order) (old mid : Sweeping) (first : Feature) (pre : List Feature) : Type 0 where
  pub pre_is : option_to_list old.current ++ pre ≡ first ∷ []
  pub holds : (stage : Stage Feature Feature) → StandsAt order stage old → ArePlaced order (intervals_of (stage.written ++ first ∷ [])) → HoldsDue order (stage.written ++ first ∷ []) stage.taken mid
  pub same : SameConfig old mid
  pub phase : mid.phase ≡ old.phase

-- none waits
pub starts_entered : {order : Order} {old mid : Sweeping} {first : Feature} → IsTotal order → old.current ≡ None → mid ≡ record old { held = held_with old.held first } → StartsAt order old mid first (first ∷ [])
starts_entered {order} {old} {mid} {first} total none is = rw is (record {
  pre_is = ap (λ (o : Option Feature). option_to_list o ++ first ∷ []) none;
  holds = λ stage st placed.
      let now : HoldsDue order (given stage) stage.taken old = record { holds = st.holds; within = st.within } in
      keeps_first first total placed (rw (ap (λ (o : Option Feature). stage.written ++ option_to_list o) (sym st.current_is ∙ none) ∙ append-nil stage.written) at now);
  same = same_as old (held_with old.held first);
  phase = refl;
})

-- one does
pub starts_current : {order : Order} {old mid : Sweeping} {first : Feature} → old.current ≡ Some first → mid ≡ record old { current = None } → StartsAt order old mid first []
starts_current some is = grind arith

-- ---- what is asked for

pub none_waits : (s : Sweeping) → want_in s ≡ WantA → s.current ≡ None
none_waits s e = grind arith

pub not_over : (s : Sweeping) → want_in s ≡ WantA → s.phase ≡ Over → ⊥
not_over s e = grind arith

pub one_waits : (s : Sweeping) → want_in s ≡ WantB → is_some s.current ≡ true
one_waits s e = grind arith

pub want_a : (s : Sweeping) → s.current ≡ None → (s.phase ≡ Over → ⊥) → want_in s ≡ WantA
want_a s none going = grind arith

pub want_b : (s : Sweeping) (a : Feature) → s.current ≡ Some a → want_in s ≡ WantB
want_b s a some = ap (λ (o : Option Feature). want_of (is_some o) (phase_is_over s.phase)) some

-- ---- from there on

module _ {order : Order} {old mid : Sweeping} {first : Feature} {pre : List Feature} (start : StartsAt order old mid first pre) where
  given_more : (stage : Stage Feature Feature) → StandsAt order stage old → (firsts : List Feature) → given stage ++ (pre ++ firsts) ≡ stage.written ++ first ∷ firsts
  given_more stage st firsts = grind (arith, append_assoc)

  each_given : (firsts : List Feature) → option_to_list old.current ++ (pre ++ firsts) ≡ first ∷ firsts
  each_given firsts = sym (append_assoc (option_to_list old.current) pre firsts) ∙ ap (λ (l : List Feature). l ++ firsts) start.pre_is

  abbrev place_at : (firsts seconds : List Feature) → AtEach order old (pre ++ firsts) seconds (λ stage. GivenLast (IsThis order) first firsts seconds mid)
  place_at firsts seconds stage st pg pt =
      let placed = rw (given_more stage st firsts) at pg in
      let front = front_placed order (stage.written ++ first ∷ []) firsts (rw (append_assoc stage.written (first ∷ []) firsts) placed) in
      record { order = order; before = stage.written; taken = stage.taken; is_for = refl; holds = start.holds stage st front; placed = placed; placed_taken = pt }

  puts_each : {firsts seconds : List Feature} (newly : List Feature) {out grown : Output} → WritesFor (IsThis order) first firsts seconds mid newly [] out [] grown → PutsEach order old (pre ++ firsts) seconds newly out grown
  puts_each {firsts} {seconds} newly {out} {grown} writes stage st pg pt =
      rw (← start.same.shape_is, ← start.same.rule_is) (with_no_pending out grown (intersect mid.shape mid.rule newly (stage.taken ++ seconds)) (writes (place_at firsts seconds stage st pg pt)))

  abbrev IsOpen : Option Feature → Type 0
  IsOpen waiting = is_some waiting ≡ true → (stage : Stage Feature Feature) → StandsAt order stage old → (stage.first_ended ≡ false) × (stage.second_ended ≡ false)

  stands_from : {stage : Stage Feature Feature} {firsts : List Feature} (seconds newly : List Feature) {waiting : Option Feature} {new final : Sweeping} → StandsAt order stage old
      → KeepsRules order (stage.written ++ first ∷ firsts) (stage.taken ++ seconds) mid new → first ∷ firsts ≡ newly ++ option_to_list waiting → new.phase ≡ old.phase → final ≡ record new { current = waiting } → IsOpen waiting
      → MovesTo order old (stage_after stage newly final.current seconds) final
  stands_from seconds newly st k are phase is goes_on = grind (arith, append_assoc)

  module _ {A B U R S Q : Type 0} {cursor_a : Cursor A R} {cursor_b : Cursor B S} {cursor_u : Cursor U Q} {from_u to_u : U} {from_a to_a : A} {from_b to_b : B} where
    abbrev proceeds_from : (waiting now : Option Feature) (p : Joined cursor_a (going_on mid.phase cursor_b) (IsThis order) (Settles order mid.phase) mid first from_a from_b waiting to_a to_b)
        → cursor_u.gives from_u (pre ++ p.firsts) to_u → waiting ≡ now → Proceeded cursor_u cursor_b order old from_u from_b now to_u to_b
    proceeds_from waiting now p gives w = record {
      firsts = pre ++ p.firsts;
      seconds = p.seconds;
      newly = p.newly;
      gives_firsts = gives;
      gives_seconds = p.gives_seconds;
      are = each_given p.firsts ∙ p.are ∙ ap (λ (o : Option Feature). p.newly ++ option_to_list o) w;
      next = p.next;
      comes = p.comes;
      settles = rw start.phase at p.settles;
      each = λ stage st pg pt. rw (each_given p.firsts, ← start.same.limit_is) (p.each (place_at p.firsts p.seconds stage st pg pt));
    }

    pub advances_from : {out grown : Output} (waiting : Option Feature) {new : Sweeping} (final : Sweeping) (j : JoinsSo cursor_a (going_on mid.phase cursor_b) (IsThis order) (Settles order mid.phase) mid first from_a from_b [] out waiting new to_a to_b [] grown)
        → cursor_u.gives from_u (pre ++ j.proceeds.firsts) to_u → new.phase ≡ old.phase → final ≡ record new { current = waiting } → IsOpen waiting → IfSome waiting (LeavesLast order j.proceeds.seconds) → AdvancesSo cursor_u cursor_b order old from_u from_b out final to_u to_b grown
    advances_from waiting {new} final j gives same is goes_on leaves = record {
      proceeds = proceeds_from waiting final.current j.proceeds gives (ap (λ (n : Sweeping). n.current) (sym is));
      leaves = rw is leaves;
      stands = λ stage st pg pt.
          stands_from j.proceeds.seconds j.proceeds.newly st (j.goes (place_at j.proceeds.firsts j.proceeds.seconds stage st pg pt)) j.proceeds.are same is goes_on;
      puts = puts_each j.proceeds.newly j.writes;
    }

    -- it failed at one of them
    pub fails_from : {out grown : Output} {fault : FaultValue} (b : Breaks cursor_a (going_on mid.phase cursor_b) (IsThis order) (Settles order mid.phase) mid first from_a from_b [] out fault to_a to_b [] grown)
        → cursor_u.gives from_u (pre ++ b.proceeds.firsts) to_u → FailsAt cursor_u cursor_b order old from_u from_b out fault to_u to_b grown
    fails_from b gives = record {
      proceeds = proceeds_from b.waiting b.waiting b.proceeds gives refl;
      waiting = b.waiting;
      cause = elim b.cause [
        | inl cut ↦ inl (λ stage st pg pt. rw (← start.same.shape_is, ← start.same.rule_is) (cut (place_at b.proceeds.firsts b.proceeds.seconds stage st pg pt)))
        | inr lack ↦ inr (inl (record {
          shares = lack.shares;
          puts = puts_each b.proceeds.newly lack.writes;
          lacks = λ stage st pg pt. rw (← start.same.limit_is) (lack.lacks (place_at b.proceeds.firsts b.proceeds.seconds stage st pg pt));
        }))
      ];
    }

  module _ {A B U R S Q : Type 0} {cursor_a : Cursor A R} {cursor_b : Cursor B S} (cursor_u : Cursor U Q) {from_u to_u : U} {from_a to_a : A} {from_b to_b : B} {out grown : Output} where
    -- the one that waits is kept, or can't be
    pub kept_or_not : {T : Type 0} {a : Feature} {new : Sweeping} (j : JoinsSo cursor_a (going_on mid.phase cursor_b) (IsThis order) (Settles order mid.phase) mid first from_a from_b [] out (Some a) new to_a to_b [] grown) → old.current ≡ None
        → cursor_b.has_ended to_b → (mid.phase ≡ SecondEnded → ⊥) → cursor_u.gives from_u (pre ++ j.proceeds.firsts) to_u → new.phase ≡ old.phase → (old.phase ≡ Over → ⊥) → LeavesLast order j.proceeds.seconds a → (result : Result T Fault) (final : Sweeping)
        → KeepsOne new a result final → AdvancesOn cursor_u cursor_b order old from_u from_b out result final to_u to_b grown
    kept_or_not {a} j none ended not_first gives same not_over leaves (Ok t) final is = (
      advances_from (Some a) final j gives same is (λ w stage st. grind arith) leaves,
      inl (rw (want_b final a (ap (λ (s : Sweeping). s.current) is)) ended),
    )
    kept_or_not {a} j none ended not_first gives same not_over leaves (Err fault) final is = record {
      proceeds = proceeds_from (Some a) (Some a) j.proceeds gives refl;
      waiting = Some a;
      cause = inr (inr (record { last = a; waits = refl; is = is.1; long = is.2; none = none; both = still_both old.phase (λ e. not_first (start.phase ∙ e)) not_over; ended = ended; puts = puts_each j.proceeds.newly j.writes }));
    }

-- ---- where nothing is given or taken

pub advances_none : {A B R S : Type 0} {cursor_a : Cursor A R} {cursor_b : Cursor B S} {order : Order} {old : Sweeping} {from_a : A} {from_b : B} {out : Output} → cursor_a.gives from_a [] from_a → cursor_b.gives from_b [] from_b → AdvancesSo cursor_a cursor_b order old from_a from_b out old from_a from_b out
advances_none {order = order} {old = old} {out = out} a_none b_none = record {
  proceeds = record {
    firsts = [];
    seconds = [];
    newly = [];
    gives_firsts = a_none;
    gives_seconds = b_none;
    are = append-nil (option_to_list old.current);
    next = None;
    comes = tt;
    settles = inr refl;
    each = λ stage st pg pt. tt;
  };
  leaves = grind (arith, leaves_none);
  stands = λ stage st pg pt. search rules;
  puts = λ stage st pg pt. grown_none out;
}

-- ---- one record, or none

no_more : (fs left : List Feature) → [] ≡ fs ++ left → fs ≡ []
no_more [] left e = refl
no_more (f ∷ fs) left e = absurd (let apart : [] ≡ f ∷ (fs ++ left) = e in cc)

pub single_none : (old new : Single) (fs : List Feature) → single_left old ≡ [] → GivesSingle old fs new → fs ≡ []
single_none old new fs none gives = no_more fs (single_left new) (sym none ∙ gives.left)

pub only_first : (first w : Feature) (newly : List Feature) → first ∷ [] ≡ newly ++ w ∷ [] → first ≡ w
only_first first w newly e = grind (arith, common_steps)

-- Lemmas on what an advance is where one waits, and where none does.

module _ {A B R S : Type 0} (cursor_a : Cursor A R) (cursor_b : Cursor B S) (order : Order) (old : Sweeping) (from_a : A) (from_v to_v : B) (out grown : Output) (a_none : cursor_a.gives from_a [] from_a) where
  abbrev lifts_so : (waiting : Option Feature) → Proceeded no_cursor cursor_b order old tt from_v waiting tt to_v → Proceeded cursor_a cursor_b order old from_a from_v waiting from_a to_v
  lifts_so waiting p = record {
    firsts = p.firsts;
    seconds = p.seconds;
    newly = p.newly;
    gives_firsts = subst (λ (fs : List Feature). cursor_a.gives from_a fs from_a) (sym p.gives_firsts) a_none;
    gives_seconds = p.gives_seconds;
    are = p.are;
    next = p.next;
    comes = p.comes;
    settles = p.settles;
    each = p.each;
  }

  pub lifts_current : {T : Type 0} (result : Result T Fault) (new : Sweeping) → is_some old.current ≡ true → AdvancesOn no_cursor cursor_b order old tt from_v out result new tt to_v grown
      → AdvancesOn cursor_a cursor_b order old from_a from_v out result new from_a to_v grown
  lifts_current (Ok t) new some d = (
    record { proceeds = lifts_so new.current d.0.proceeds; leaves = d.0.leaves; stands = d.0.stands; puts = d.0.puts },
    elim d.1 [
      | inl stops ↦ grind arith
      | inr written ↦ inr written
    ],
  )
  lifts_current (Err fault) new some b = record { proceeds = lifts_so b.waiting b.proceeds; waiting = b.waiting; cause = b.cause }

-- while none waits, an end isn't asked for that could still come
module _ {B S : Type 0} (cursor_b : Cursor B S) (to_b : B) where
  pub stops_none : (new : Sweeping) → new.current ≡ None → StopsFor no_cursor cursor_b (want_in new) tt to_b
  stops_none new none = rw none (grind arith)
