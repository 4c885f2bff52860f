-- Lemmas on records of both inputs that are joined.
use Rattle.bt_lines.proofs.Std.{common_steps, ◌≡◌, ◌<◌, ◌⊎◌, inl, inr, ℕ, true, false, List, [], ◌∷◌, ◌++◌, Option, Some, None, Ok, Err, Result, refl, sym, ap, ◌∙◌, subst, append-nil, append_assoc, option_to_list, bytes_eq, length, ltb, arith, All, and_parts, ltb-true, list_any-append}
use Rattle.bt_lines.specs.model.Fault.{FaultValue}
use Rattle.bt_lines.specs.calls.Names.{fault_value}
use Rattle.bt_lines.specs.calls.Output.{Output, FailsToAdd, Grown}
use Rattle.bt_lines.specs.declared.fault.Fault.{Fault}
use Rattle.bt_bed.specs.model.Feature.{Feature}
use Rattle.bt_bed.specs.declared.read.cursor.Cursor.{Ghosts as Cursor}
use Rattle.bt_bed.specs.model.Order.{Order}
use Rattle.bt_bed.specs.calls.Orders.{IsTotal}
use Rattle.bt_sweep.specs.model.Hits.{decides}
use Rattle.bt_sweep.specs.calls.Held.{CanHit}
use Rattle.bt_sweep.specs.model.Lines.{intersect}
use Rattle.bt_sweep.specs.calls.Sweeping.{AreDecided, CannotBeHeld, CannotHold, GivesKnown, LeavesLast, TakenEach, TakenFor, has_room, held_for, is_held, Sweeping}
use Rattle.bt_sweep.specs.inside.Joining.{AreDecidedOn, GivenLast, Breaks, BreaksOff, EndUpTo, HoldsDue, Joins, JoinsSo, KeepsRules, LeavesOn, LieOn, JoinProceeded, WritesSo, has_room_in, holding_second, stands}
use Rattle.bt_sweep.proofs.lemmas.definitions.HitLemmas.{placed_back, front_placed}
use Rattle.bt_sweep.proofs.lemmas.sweep.KeepLemmas.{cut_both, decided_before, decided_behind, decided_both, keeps_held, keeps_taken, lines_both, lines_stay_so, undecided_beside, fails_again, with_none, with_rest, with_rest_cut, fewer_firsts, fewer_seconds, goes_none, same_as, same_rules, split_last, split_more, writes_first}

-- the chromosome of the next record is known
pub known_head : {B R : Type 0} (order : Order) (cursor : Cursor B R) (from : B) (b : Feature) (after : B) (name : List ℕ) → GivesKnown cursor order from → cursor.gives from (b ∷ []) after → b.chrom ≡ name → order.knows name ≡ true
known_head order cursor from b after name known given on = grind arith

pub lie_more : (name : List ℕ) (bs : List Feature) (b : Feature) → LieOn name bs → b.chrom ≡ name → LieOn name (bs ++ b ∷ [])
lie_more name [] b on is = (is, tt)
lie_more name (x ∷ bs) b on is = (on.0, lie_more name bs b on.1 is)

-- ---- the record of the second input that was taken last

no_last : (before : List Feature) (b : Feature) → [] ≡ before ++ b ∷ [] → ⊥
no_last [] b e = cc
no_last (x ∷ before) b e = cc

pub leaves_none : (order : Order) (seconds : List Feature) (a : Feature) → seconds ≡ [] → LeavesLast order seconds a
leaves_none order seconds a none before b e = absurd (no_last before b (sym none ∙ e))

-- ---- the records of the second input, each taken for one of the first

each_wider : (order : Order) (limit : Option ℕ) (as_given more taken seconds : List Feature) → TakenEach order limit as_given taken seconds → TakenEach order limit (as_given ++ more) taken seconds
each_wider order limit as_given more taken [] each = tt
each_wider order limit as_given more taken (b ∷ seconds) each = ((grind (arith, append_assoc)), each_wider order limit as_given more (taken ++ b ∷ []) seconds each.1)

each_push : (order : Order) (limit : Option ℕ) (as_given : List Feature) (b : Feature) (taken seconds : List Feature) → TakenEach order limit as_given taken seconds → TakenFor order limit as_given (taken ++ seconds) b
    → TakenEach order limit as_given taken (seconds ++ b ∷ [])
each_push order limit as_given b taken [] each last = (subst (λ (l : List Feature). TakenFor order limit as_given l b) (append-nil taken) last, tt)
each_push order limit as_given b taken (x ∷ seconds) each last =
    (each.0, each_push order limit as_given b (taken ++ x ∷ []) seconds each.1 (subst (λ (l : List Feature). TakenFor order limit as_given l b) (sym (append_assoc taken (x ∷ []) seconds)) last))

are_both : {first : Feature} {firsts : List Feature} (newly : List Feature) (cur : Feature) {firsts2 : List Feature} (newly2 rest : List Feature) → first ∷ firsts ≡ newly ++ cur ∷ [] → cur ∷ firsts2 ≡ newly2 ++ rest → first ∷ (firsts ++ firsts2) ≡ (newly ++ newly2) ++ rest
are_both newly cur {firsts2} newly2 rest are more =
    ap (λ (l : List Feature). l ++ firsts2) are ∙ append_assoc newly (cur ∷ []) firsts2 ∙ ap (λ (l : List Feature). newly ++ l) more ∙ sym (append_assoc newly newly2 rest)

-- ---- what is decided on one chromosome

ends_decided : (order : Order) (name : List ℕ) (b : Feature) (bs newly : List Feature) → IsTotal order → order.knows name ≡ true → b.chrom ≡ name → EndUpTo name b.start newly → AreDecided order newly (bs ++ b ∷ [])
ends_decided order name b bs [] total known on end = refl
ends_decided order name b bs (a ∷ newly) total known on end = grind (arith, (ends_decided order name b bs newly total known on end.2), list_any-append)

module _ {A B R S : Type 0} {cursor_a : Cursor A R} {cursor_b : Cursor B S} {old : Sweeping} {first : Feature} {from_a : A} {from_b : B} {pending : List ℕ} {out : Output} where
  pub joins_first : ((x : A) → cursor_a.gives x [] x) → ((x : B) → cursor_b.gives x [] x) → {For : Order → Type 0} {Settles : List Feature → List Feature → Type 0} (Leaves : List Feature → Feature → Type 0)
      → Settles [] [] → Leaves [] first → All (CanHit first) old.held
      → (j : JoinsSo cursor_a cursor_b For Settles old first from_a from_b pending out (Some first) old from_a from_b pending out) × (j.proceeds.next ≡ None) × Leaves j.proceeds.seconds first
  joins_first a_none b_none Leaves settles leaves hits = (
    record {
      proceeds = record {
        firsts = [];
        seconds = [];
        newly = [];
        gives_firsts = a_none from_a;
        gives_seconds = b_none from_b;
        are = refl;
        next = None;
        comes = tt;
        settles = settles;
        each = λ at. tt;
      };
      waits = (refl, hits);
      goes = goes_none;
      writes = λ at. with_none pending out;
    },
    refl,
    leaves,
  )

  -- ---- the lines that are left pending are put at last

  module _ {to_a : A} {to_b : B} {left : List ℕ} {grown now : Output} where
    -- it had failed before
    breaks_rest : {fault : FaultValue} → Breaks cursor_a cursor_b IsTotal (AreDecidedOn first.chrom) old first from_a from_b pending out fault to_a to_b left grown → Grown grown left now → Breaks cursor_a cursor_b IsTotal (AreDecidedOn first.chrom) old first from_a from_b pending out fault to_a to_b [] now
    breaks_rest b puts = record {
      proceeds = b.proceeds;
      waiting = b.waiting;
      cause = elim b.cause [
        | inl cut ↦ inl (λ at. fails_again {T = Unit {0}} left (Ok tt) (cut at) puts)
        | inr lack ↦ inr (record { shares = lack.shares; writes = λ at. with_rest (lack.writes at) puts; lacks = lack.lacks })
      ];
    }

    breaks_cut : {fault : FaultValue} (failed : Fault) → Breaks cursor_a cursor_b IsTotal (AreDecidedOn first.chrom) old first from_a from_b pending out fault to_a to_b left grown → FailsToAdd grown left (fault_value failed) now → Breaks cursor_a cursor_b IsTotal (AreDecidedOn first.chrom) old first from_a from_b pending out (fault_value failed) to_a to_b [] now
    breaks_cut failed b fails = record {
      proceeds = b.proceeds;
      waiting = b.waiting;
      cause = inl (λ at. elim b.cause [
        | inl cut ↦ let again = fails_again {T = Unit {0}} left (Err failed) (cut at) fails in rw (fails.puts.is ∙ sym again.puts.is) again
        | inr lack ↦ with_rest_cut (lack.writes at) fails
      ]);
    }

    -- it hadn't
    stops_cut : {waiting : Option Feature} {s : Sweeping} {fault : FaultValue} → JoinsSo cursor_a cursor_b IsTotal (AreDecidedOn first.chrom) old first from_a from_b pending out waiting s to_a to_b left grown → FailsToAdd grown left fault now → Breaks cursor_a cursor_b IsTotal (AreDecidedOn first.chrom) old first from_a from_b pending out fault to_a to_b [] now
    stops_cut {waiting} j fails = record { proceeds = j.proceeds; waiting = waiting; cause = inl (λ at. with_rest_cut (j.writes at) fails) }

  module _ {cur : Feature} {s : Sweeping} {to_a : A} {to_b : B} {left : List ℕ} {grown : Output} (j : JoinsSo cursor_a cursor_b IsTotal (AreDecidedOn first.chrom) old first from_a from_b pending out (Some cur) s to_a to_b left grown) {b : Feature} {after : B} (gives_b : cursor_b.gives to_b (b ∷ []) after) (on : b.chrom ≡ first.chrom) where
    -- where it is once the records before the one that waits were given and taken
    holds_so : (at : GivenLast IsTotal first j.proceeds.firsts j.proceeds.seconds old) → HoldsDue at.order ((at.before ++ j.proceeds.newly) ++ cur ∷ []) (at.taken ++ j.proceeds.seconds) s
    holds_so at = rw (← split_last at.before j.proceeds.newly cur j.proceeds.are) (j.goes at).holds

    module _ (a_more : (old mid new : A) (xs ys : List Feature) → cursor_a.gives old xs mid → cursor_a.gives mid ys new → cursor_a.gives old (xs ++ ys) new) (front : j.proceeds.next ≡ None) where
      settled : AreDecidedOn first.chrom j.proceeds.newly j.proceeds.seconds
      settled = rw (front, append-nil j.proceeds.seconds) at j.proceeds.settles

      both_settled : (newly2 : List Feature) → EndUpTo cur.chrom b.start newly2 → AreDecidedOn first.chrom (j.proceeds.newly ++ newly2) (j.proceeds.seconds ++ b ∷ [])
      both_settled newly2 end order total known = grind (arith, decided_both, decided_before, settled, ends_decided)

      -- the same place, and that of the one that waits
      module _ (firsts2 : List Feature) (at : GivenLast IsTotal first (j.proceeds.firsts ++ firsts2) j.proceeds.seconds old) where
        abbrev here : GivenLast IsTotal first j.proceeds.firsts j.proceeds.seconds old
        here = fewer_firsts j.proceeds.firsts firsts2 at

        abbrev there : GivenLast IsTotal cur firsts2 [] s
        there = record {
          order = at.order;
          before = at.before ++ j.proceeds.newly;
          taken = at.taken ++ j.proceeds.seconds;
          is_for = at.is_for;
          holds = holds_so here;
          placed = rw (split_more at.before j.proceeds.newly cur j.proceeds.are firsts2) at at.placed;
          placed_taken = rw (append-nil (at.taken ++ j.proceeds.seconds)) at.placed_taken;
        }

      abbrev proceeds_on : (firsts2 newly2 : List Feature) (waiting : Option Feature) (to_a2 : A) → cursor_a.gives to_a firsts2 to_a2 → cur ∷ firsts2 ≡ newly2 ++ option_to_list waiting → EndUpTo cur.chrom b.start newly2
          → JoinProceeded cursor_a cursor_b IsTotal (AreDecidedOn first.chrom) old first from_a from_b waiting to_a2 to_b
      proceeds_on firsts2 newly2 waiting to_a2 given are end = record {
        firsts = j.proceeds.firsts ++ firsts2;
        seconds = j.proceeds.seconds;
        newly = j.proceeds.newly ++ newly2;
        gives_firsts = a_more from_a to_a to_a2 j.proceeds.firsts firsts2 j.proceeds.gives_firsts given;
        gives_seconds = j.proceeds.gives_seconds;
        are = are_both j.proceeds.newly cur newly2 (option_to_list waiting) j.proceeds.are are;
        next = Some b;
        comes = (after, gives_b);
        settles = both_settled newly2 end;
        each = λ at. each_wider at.order old.limit (first ∷ j.proceeds.firsts) firsts2 at.taken j.proceeds.seconds (j.proceeds.each (here firsts2 at));
      }

      -- records that it decides were written
      pub joins_write : {s2 : Sweeping} {to_a2 : A} {rest : List ℕ} {now : Output} {waiting : Option Feature} → WritesSo cursor_a b.start s cur to_a left grown waiting s2 to_a2 rest now
          → (k : JoinsSo cursor_a cursor_b IsTotal (AreDecidedOn first.chrom) old first from_a from_b pending out waiting s2 to_a2 to_b rest now) × (k.proceeds.next ≡ Some b)
      joins_write {s2} {to_a2} {rest} {now} {waiting} w = (
        record {
          proceeds = proceeds_on w.firsts w.newly waiting to_a2 w.given w.are w.end;
          waits = grind arith;
          goes = λ at.
              let k = w.goes (there w.firsts at) in
              rw (split_more at.before j.proceeds.newly cur j.proceeds.are w.firsts)
              (record { same = same_rules (j.goes (here w.firsts at)).same k.same; holds = rw (append-nil (at.taken ++ j.proceeds.seconds)) at k.holds });
          writes = λ at.
              let lines = rw (append-nil (at.taken ++ j.proceeds.seconds)) at (w.writes (there w.firsts at)) in
              lines_both old.shape old.rule (at.taken ++ j.proceeds.seconds) j.proceeds.newly (j.writes (here w.firsts at)) w.newly
              (rw (← (j.goes (here w.firsts at)).same.shape_is, ← (j.goes (here w.firsts at)).same.rule_is) lines);
        },
        refl,
      )

      -- they were, or it decides none
      pub joins_past : ((x : A) → cursor_a.gives x [] x) → (s2 : Sweeping) (to_a2 : A) (rest : List ℕ) (now : Output) (cur2 : Feature)
          → WritesSo cursor_a b.start s cur to_a left grown (Some cur2) s2 to_a2 rest now ⊎ ((s2 ≡ s) × (to_a2 ≡ to_a) × (rest ≡ left) × (now ≡ grown) × (cur2 ≡ cur))
          → (k : JoinsSo cursor_a cursor_b IsTotal (AreDecidedOn first.chrom) old first from_a from_b pending out (Some cur2) s2 to_a2 to_b rest now) × (k.proceeds.next ≡ Some b)
      joins_past a_none s2 to_a2 rest now cur2 (inl w) = joins_write w
      joins_past a_none s2 to_a2 rest now cur2 (inr same) = rw (same.0, same.1, same.2, same.3, same.4) (joins_write (writes_first a_none j.waits.1))

      -- they couldn't all be
      pub breaks_write : {to_a2 : A} (rest : List ℕ) {now : Output} {fault : FaultValue} → BreaksOff cursor_a b.start s cur to_a left grown fault to_a2 now → Breaks cursor_a cursor_b IsTotal (AreDecidedOn first.chrom) old first from_a from_b pending out fault to_a2 to_b rest now
      breaks_write {to_a2} rest cut = record {
        proceeds = proceeds_on cut.firsts cut.newly cut.waiting to_a2 cut.given cut.are cut.end;
        waiting = cut.waiting;
        cause = inl (λ at.
            let lines = rw (append-nil (at.taken ++ j.proceeds.seconds)) at (cut.cuts (there cut.firsts at)) in
            cut_both old.shape old.rule (at.taken ++ j.proceeds.seconds) j.proceeds.newly (j.writes (here cut.firsts at)) cut.newly
            (rw (← (j.goes (here cut.firsts at)).same.shape_is, ← (j.goes (here cut.firsts at)).same.rule_is) lines));
      }

    module _ (next : j.proceeds.next ≡ Some b) (before_end : b.start < cur.stop) where
      settled_by : AreDecidedOn first.chrom j.proceeds.newly (j.proceeds.seconds ++ b ∷ [])
      settled_by = rw next at j.proceeds.settles

      module _ (new : Sweeping) (is : new ≡ holding_second s cur b) (room : is_held cur b ≡ true → has_room_in s ≡ true) (at : GivenLast IsTotal first j.proceeds.firsts (j.proceeds.seconds ++ b ∷ []) old) where
        abbrev fewer : GivenLast IsTotal first j.proceeds.firsts j.proceeds.seconds old
        fewer = fewer_seconds j.proceeds.seconds (b ∷ []) at

        both : at.taken ++ (j.proceeds.seconds ++ b ∷ []) ≡ (at.taken ++ j.proceeds.seconds) ++ b ∷ []
        both = sym (append_assoc at.taken j.proceeds.seconds (b ∷ []))

        known : at.order.knows first.chrom ≡ true
        known = (placed_back at.order at.before (first ∷ j.proceeds.firsts) at.placed).0

        undecided : decides at.order cur b ≡ false
        undecided = undecided_beside at.order at.is_for cur b (rw j.waits.0 known) (on ∙ sym j.waits.0) before_end

        decided_now : AreDecided at.order j.proceeds.newly ((at.taken ++ j.proceeds.seconds) ++ b ∷ [])
        decided_now = rw both at (decided_behind at.order j.proceeds.newly at.taken (j.proceeds.seconds ++ b ∷ []) (settled_by at.order at.is_for known))

        holds_now : HoldsDue at.order ((at.before ++ j.proceeds.newly) ++ cur ∷ []) ((at.taken ++ j.proceeds.seconds) ++ b ∷ []) (holding_second s cur b)
        holds_now = keeps_taken (at.before ++ j.proceeds.newly) cur (holds_so fewer) b undecided room

        taken_for : TakenFor at.order old.limit (first ∷ j.proceeds.firsts) (at.taken ++ j.proceeds.seconds) b
        taken_for = record {
          before = j.proceeds.newly;
          a = cur;
          after = [];
          parts = j.proceeds.are;
          settled = decided_now;
          undecided = undecided;
          within = rw (← (j.goes fewer).same.limit_is, ← keeps_held (at.before ++ j.proceeds.newly) cur holds_now) holds_now.within;
        }

        keeps_now : KeepsRules at.order (at.before ++ first ∷ j.proceeds.firsts) (at.taken ++ (j.proceeds.seconds ++ b ∷ [])) old new
        keeps_now = rw (is, split_last at.before j.proceeds.newly cur j.proceeds.are, both) (record { same = same_rules (j.goes fewer).same (same_as s (holding_second s cur b).held); holds = holds_now })

        same_lines : intersect old.shape old.rule j.proceeds.newly (at.taken ++ (j.proceeds.seconds ++ b ∷ [])) ≡ intersect old.shape old.rule j.proceeds.newly (at.taken ++ j.proceeds.seconds)
        same_lines =
            let all = placed_back at.order at.before j.proceeds.newly (front_placed at.order (at.before ++ j.proceeds.newly) (cur ∷ []) (rw (split_last at.before j.proceeds.newly cur j.proceeds.are) at at.placed)) in
            grind (arith, both, lines_stay_so, decided_now)

      -- b was taken
      pub joins_take : ((old mid new : B) (xs ys : List Feature) → cursor_b.gives old xs mid → cursor_b.gives mid ys new → cursor_b.gives old (xs ++ ys) new) → (new : Sweeping) → new ≡ holding_second s cur b → (is_held cur b ≡ true → has_room_in s ≡ true)
          → All (CanHit cur) new.held → (k : JoinsSo cursor_a cursor_b IsTotal (AreDecidedOn first.chrom) old first from_a from_b pending out (Some cur) new to_a after left grown) × (k.proceeds.next ≡ None) × LeavesOn k.proceeds.seconds cur
      joins_take b_more new is room hits = (
        record {
          proceeds = record {
            firsts = j.proceeds.firsts;
            seconds = j.proceeds.seconds ++ b ∷ [];
            newly = j.proceeds.newly;
            gives_firsts = j.proceeds.gives_firsts;
            gives_seconds = b_more from_b to_b after j.proceeds.seconds (b ∷ []) j.proceeds.gives_seconds gives_b;
            are = j.proceeds.are;
            next = None;
            comes = tt;
            settles = rw (append-nil (j.proceeds.seconds ++ b ∷ [])) settled_by;
            each = λ at. each_push at.order old.limit (first ∷ j.proceeds.firsts) b at.taken j.proceeds.seconds (j.proceeds.each (fewer new is room at)) (taken_for new is room at);
          };
          waits = (j.waits.0, hits);
          goes = keeps_now new is room;
          writes = λ at. rw (same_lines new is room at) (j.writes (fewer new is room at));
        },
        refl,
        grind (arith, common_steps),
      )

      cannot : (fault : Fault) (line : ℕ) (limit : Option ℕ) (taken : List Feature) → has_room limit (length (held_for (Some cur) taken)) ≡ has_room_in s → CannotHold (has_room_in s) line (fault_value fault) → CannotBeHeld limit cur taken line (fault_value fault)
      cannot fault line limit taken room lacks = grind arith

      -- b has to be held, and can't be
      pub breaks_take : (fault : Fault) → is_held cur b ≡ true → CannotHold (has_room_in s) (cursor_b.line after) (fault_value fault) → Breaks cursor_a cursor_b IsTotal (AreDecidedOn first.chrom) old first from_a from_b pending out (fault_value fault) to_a to_b left grown
      breaks_take fault held lacks = record {
        proceeds = j.proceeds;
        waiting = Some cur;
        cause = inr (record {
          shares = record {
            last = cur;
            waits = refl;
            b = b;
            after = after;
            gives = gives_b;
            chrom = on ∙ sym j.waits.0;
            starts = before_end;
            ends = ltb-true cur.start b.stop (and_parts (bytes_eq cur.chrom b.chrom) (ltb cur.start b.stop) held).1;
          };
          writes = j.writes;
          lacks = λ at.
              cannot fault (cursor_b.line after) old.limit (at.taken ++ j.proceeds.seconds)
              (rw (← keeps_held (at.before ++ j.proceeds.newly) cur (holds_so at), ← (j.goes at).same.limit_is) refl) lacks;
        });
      }

-- the lines that were left pending were put after a join, or couldn't all be
module _ {A B R S : Type 0} (cursor_a : Cursor A R) (cursor_b : Cursor B S) (feature : R → Feature) (old : Sweeping) (first : Feature) (from_a : A) (from_b : B) (pending : List ℕ) (out : Output)
    (s : Sweeping) (to_a : A) (to_b : B) (left : List ℕ) (grown now : Output) where
  abbrev Answers : Result (Option R) Fault → List ℕ → Output → Type 0
  Answers result rest put = Joins cursor_a cursor_b IsTotal (AreDecidedOn first.chrom) LeavesOn feature first (stands old (from_a, from_b) pending out) result (stands s (to_a, to_b) rest put)

  pub joins_rest : (result : Result (Option R) Fault) → Answers result left grown → Grown grown left now → Answers result [] now
  joins_rest (Ok waiting) (j, stops, leaves) puts = (record { proceeds = j.proceeds; waits = j.waits; goes = j.goes; writes = λ at. with_rest (j.writes at) puts }, stops, leaves)
  joins_rest (Err fault) b puts = breaks_rest b puts

  pub joins_cut : (result : Result (Option R) Fault) (failed : Fault) → Answers result left grown → FailsToAdd grown left (fault_value failed) now
      → Breaks cursor_a cursor_b IsTotal (AreDecidedOn first.chrom) old first from_a from_b pending out (fault_value failed) to_a to_b [] now
  joins_cut (Ok waiting) failed (j, stops, leaves) fails = stops_cut j fails
  joins_cut (Err fault) failed b fails = breaks_cut failed b fails
