-- Lemmas on calls with one record: they are calls with cursors over one record, or over none.
use Rattle.bt_lines.proofs.Std.{common_steps, rules}
use Rattle.bt_lines.proofs.Std.{◌≡◌, ◌⊎◌, inl, inr, ℕ, Bool, true, false, cond, List, [], ◌∷◌, ◌++◌, Option, Some, None, Ok, Err, Result, refl, sym, ap, ◌∙◌, subst, append-nil, option_to_list, bytes_eq, ltb, ◌<◌, arith, OnErr, and_from, false≢true, lt-ltb}
use Rattle.bt_lines.specs.model.Fault.{FaultValue}
use Rattle.bt_lines.specs.calls.Names.{fault_value}
use Rattle.bt_lines.specs.calls.Output.{Output, FailsToAdd, Grown}
use Rattle.bt_lines.specs.declared.fault.Fault.{Fault}
use Rattle.bt_bed.specs.model.Feature.{Feature, intervals_of}
use Rattle.bt_bed.specs.calls.Orders.{ArePlaced, IsTotal}
use Rattle.bt_bed.specs.model.Order.{Order}
use Rattle.bt_bed.specs.calls.Bed.{single_left, single_line}
use Rattle.bt_bed.specs.calls.CursorOf.{single_cursor}
use Rattle.bt_bed.specs.declared.read.cursor.Single.{Single}
use Rattle.bt_bed.proofs.lemmas.parse.NameLemmas.{name_eq}
use Rattle.bt_sweep.specs.calls.Sweeping.{AdvancesOn, AdvancesSo, FailsAt, HasWritten, IsThis, Settles, StopsFor, Proceeded, TakesB, WritesA, stage_after, SameConfig, IsInOrder, MovesTo, StandsAt, with_a, EndsB, FailsToHold, FailsToKeepA, FailsToWriteA, GivesA, Sweeping, want_in}
use Rattle.bt_bed.specs.calls.Stage.{given, Stage, with_second}
use Rattle.bt_sweep.specs.model.Hits.{decides}
use Rattle.bt_sweep.specs.model.Lines.{intersect, lines_for}
use Rattle.bt_sweep.specs.inside.Joining.{GivenLast, Breaks, HoldsDue, JoinsSo, LacksNext, going_on}
use Rattle.bt_sweep.specs.declared.hits.hit_rule.HitRule.{HitRule}
use Rattle.bt_sweep.specs.declared.sweep.state.Phase.TheVariants.{SecondEnded}
use Rattle.bt_sweep.specs.declared.output.shape.Shape.{Shape}
use Rattle.bt_sweep.specs.declared.sweep.Want.TheVariants.{A as WantA, Nothing}
use Rattle.bt_sweep.proofs.lemmas.definitions.HitLemmas.{before_lines, front_placed}
use Rattle.bt_sweep.proofs.lemmas.sweep.KeepLemmas.{undecided_beside, with_no_pending}
use Rattle.bt_sweep.proofs.lemmas.sweep.StandLemmas.{none_waits, single_none}

-- ---- what such a cursor gives

heads : (a b : Feature) (xs ys : List Feature) → a ∷ xs ≡ b ∷ ys → (a ≡ b) × (xs ≡ ys)
heads a b xs ys e = (let same : a ≡ b = cc in same, let rest : xs ≡ ys = cc in rest)

nothing_left : (fs left : List Feature) → [] ≡ fs ++ left → (fs ≡ []) × (left ≡ [])
nothing_left [] left e = (refl, sym e)
nothing_left (f ∷ fs) left e = absurd (let apart : [] ≡ f ∷ (fs ++ left) = e in cc)

-- one record lies among the first of them or among the others
one_of : (fs left : List Feature) (a : Feature) → a ∷ [] ≡ fs ++ left → ((fs ≡ []) × (left ≡ a ∷ [])) ⊎ ((fs ≡ a ∷ []) × (left ≡ []))
one_of [] left a e = inl (refl, sym e)
one_of (f ∷ fs) left a e = grind (arith, nothing_left)

-- it is written or waits
one_written : (newly : List Feature) (o : Option Feature) (a : Feature) → a ∷ [] ≡ newly ++ option_to_list o → ((newly ≡ []) × (o ≡ Some a)) ⊎ ((newly ≡ a ∷ []) × (o ≡ None))
one_written newly o a e = grind (arith, one_of)

pub same_some : (a b : Feature) → Some a ≡ Some b → a ≡ b
same_some a b e = cc

-- ---- by the stage that a sweep is at

-- the lines of one record
module _ (shape : Shape) (rule : HitRule) (a : Feature) where
  one_line : (newly taken now : List Feature) → newly ≡ a ∷ [] → now ≡ taken → intersect shape rule newly now ≡ lines_for shape rule a taken
  one_line newly taken now n t = grind (arith, append-nil)

no_lines : (shape : Shape) (rule : HitRule) (newly now : List Feature) → newly ≡ [] → intersect shape rule newly now ≡ []
no_lines shape rule newly now n = ap (λ (l : List Feature). intersect shape rule l now) n

same_output : (shape : Shape) (rule : HitRule) (newly now : List Feature) (out grown : Output) → newly ≡ [] → Grown out (intersect shape rule newly now) grown → grown ≡ out
same_output shape rule newly now out grown n puts = puts.nothing (no_lines shape rule newly now n)

-- the stage that it comes to, said otherwise
moves_as : {order : Order} {old new : Sweeping} {written taken : List Feature} {waiting : Option Feature} (stage : Stage Feature Feature) (newly seconds : List Feature) → stage.written ++ newly ≡ written → new.current ≡ waiting → stage.taken ++ seconds ≡ taken
    → MovesTo order old (stage_after stage newly new.current seconds) new → MovesTo order old (record stage { written = written; waiting = waiting; taken = taken }) new
moves_as {order} {old} {new} {written} {taken} {waiting} stage newly seconds w o t moves = grind (arith)

module _ {order : Order} {stage : Stage Feature Feature} {old : Sweeping} (st : StandsAt order stage old) (from_a from_b : Single) where
  -- ---- a record of the first input

  module _ (a : Feature) (wants : want_in old ≡ WantA) (ordered : IsInOrder order (with_a stage a)) (one : single_left from_a ≡ a ∷ []) (empty : single_left from_b ≡ []) where
    none : old.current ≡ None
    none = none_waits old wants

    abbrev at : Bool → Stage Feature Feature
    at b = cond b (record stage { written = stage.written ++ a ∷ [] }) (record stage { waiting = Some a })

    given_at : (b : Bool) → given (at b) ≡ stage.written ++ a ∷ []
    given_at b = search rules

    taken_at : (b : Bool) → (at b).taken ≡ stage.taken
    taken_at b = grind arith

    placed : ArePlaced order (intervals_of (stage.written ++ a ∷ []))
    placed = rw (given_at stage.second_ended) at ordered.first

    -- the lines that are written once it is given
    abbrev lines : List ℕ
    lines = cond stage.second_ended (lines_for old.shape old.rule a stage.taken) []

    module _ {waiting : Option Feature} {to_a to_b : Single} (p : Proceeded single_cursor single_cursor order old from_a from_b waiting to_a to_b) where
      firsts_are : ((p.firsts ≡ []) × (single_left to_a ≡ a ∷ [])) ⊎ ((p.firsts ≡ a ∷ []) × (single_left to_a ≡ []))
      firsts_are = one_of p.firsts (single_left to_a) a (sym one ∙ p.gives_firsts.left)

      none_taken : (p.seconds ≡ []) × (single_left to_b ≡ [])
      none_taken = nothing_left p.seconds (single_left to_b) (sym empty ∙ p.gives_seconds.left)

      same_taken : stage.taken ++ p.seconds ≡ stage.taken
      same_taken = ap (λ (l : List Feature). stage.taken ++ l) none_taken.0 ∙ append-nil stage.taken

      given_placed : ArePlaced order (intervals_of (given stage ++ p.firsts))
      given_placed = grind (arith, firsts_are, append-nil, front_placed, placed)

      taken_placed : ArePlaced order (intervals_of (stage.taken ++ p.seconds))
      taken_placed = rw (same_taken, ← taken_at stage.second_ended) ordered.second

      all_are : p.firsts ≡ p.newly ++ option_to_list waiting
      all_are = rw none at p.are

      -- it is written only if the second input has ended
      ended : p.newly ≡ a ∷ [] → stage.second_ended ≡ true
      ended n = grind (arith, none_taken)

      -- it is written or waits, if it was given
      newly_are : ((p.newly ≡ []) × ((p.firsts ≡ []) ⊎ (waiting ≡ Some a))) ⊎ ((p.newly ≡ a ∷ []) × (waiting ≡ None))
      newly_are = grind (arith, firsts_are, nothing_left, one_written)

      lines_are : p.newly ≡ a ∷ [] → intersect old.shape old.rule p.newly (stage.taken ++ p.seconds) ≡ lines
      lines_are n = one_line old.shape old.rule a p.newly stage.taken (stage.taken ++ p.seconds) n same_taken ∙ ap (λ (c : Bool). cond c (lines_for old.shape old.rule a stage.taken) []) (sym (ended n))

    module _ (out : Output) (new : Sweeping) (to_a to_b : Single) (grown : Output) where
      module _ (d : AdvancesSo single_cursor single_cursor order old from_a from_b out new to_a to_b grown) where
        stands_now : MovesTo order old (stage_after stage d.proceeds.newly new.current d.proceeds.seconds) new
        stands_now = d.stands stage st (given_placed d.proceeds) (taken_placed d.proceeds)

        puts_now : Grown out (intersect old.shape old.rule d.proceeds.newly (stage.taken ++ d.proceeds.seconds)) grown
        puts_now = d.puts stage st (given_placed d.proceeds) (taken_placed d.proceeds)

        -- it was given
        was_given : StopsFor single_cursor single_cursor (want_in new) to_a to_b ⊎ HasWritten old new → d.proceeds.firsts ≡ a ∷ []
        was_given stops = grind (arith, common_steps, stands_now)

        gives_written : d.proceeds.newly ≡ a ∷ [] → new.current ≡ None → MovesTo order old (with_a stage a) new × Grown out lines grown
        gives_written n w = grind (arith, (ended d.proceeds n), (same_taken d.proceeds), stands_now, (lines_are d.proceeds n), puts_now)

        gives_waiting : d.proceeds.newly ≡ [] → new.current ≡ Some a → MovesTo order old (with_a stage a) new × Grown out lines grown
        gives_waiting n w = grind (arith, common_steps)

      done_a : (d : AdvancesSo single_cursor single_cursor order old from_a from_b out new to_a to_b grown) → StopsFor single_cursor single_cursor (want_in new) to_a to_b ⊎ HasWritten old new
          → MovesTo order old (with_a stage a) new × Grown out lines grown
      done_a d stops = elim (one_written d.proceeds.newly new.current a (sym (was_given d stops) ∙ all_are d.proceeds)) [
        | inl waits ↦ gives_waiting d waits.0 waits.1
        | inr gone ↦ gives_written d gone.0 gone.1
      ]

      fails_a : {fault : FaultValue} → FailsAt single_cursor single_cursor order old from_a from_b out fault to_a to_b grown → FailsToAdd out lines fault grown ⊎ FailsToKeepA stage a fault out grown
      fails_a b = elim b.cause [
        | inl cut ↦
            let fails = cut stage st (given_placed b.proceeds) (taken_placed b.proceeds) in
            elim (newly_are b.proceeds) [
              | inl kept ↦ absurd (fails.some (no_lines old.shape old.rule b.proceeds.newly (stage.taken ++ b.proceeds.seconds) kept.0))
              | inr gone ↦ inl (rw (lines_are b.proceeds gone.0) at fails)
            ]
        | inr rest ↦ grind (arith, (none_taken b.proceeds), (newly_are b.proceeds), (given_placed b.proceeds), (taken_placed b.proceeds))
      ]

    pub gives_a : {T : Type 0} (out : Output) (result : Result T Fault) (new : Sweeping) (to_a to_b : Single) (grown : Output) → OnErr result (want_in new ≡ Nothing)
        → AdvancesOn single_cursor single_cursor order old from_a from_b out result new to_a to_b grown → GivesA order stage a old out result new grown
    gives_a out (Ok done) new to_a to_b grown stops d = done_a out new to_a to_b grown d.0 d.1
    gives_a out (Err fault) new to_a to_b grown stops b = (stops, fails_a out new to_a to_b grown b)

  -- ---- a record of the second input

  module _ (total : IsTotal order) {a b : Feature} (waits : stage.waiting ≡ Some a) (known : order.knows a.chrom ≡ true) (ordered : IsInOrder order (with_second stage b)) (empty : single_left from_a ≡ []) (one : single_left from_b ≡ b ∷ []) where
    some : old.current ≡ Some a
    some = st.current_is ∙ waits

    module _ {waiting : Option Feature} {to_a to_b : Single} (p : Proceeded single_cursor single_cursor order old from_a from_b waiting to_a to_b) where
      none_given : p.firsts ≡ []
      none_given = single_none from_a to_a p.firsts empty p.gives_firsts

      seconds_are : ((p.seconds ≡ []) × (single_left to_b ≡ b ∷ [])) ⊎ ((p.seconds ≡ b ∷ []) × (single_left to_b ≡ []))
      seconds_are = one_of p.seconds (single_left to_b) b (sym one ∙ p.gives_seconds.left)

      given_placed_b : ArePlaced order (intervals_of (given stage ++ p.firsts))
      given_placed_b = rw (none_given, append-nil (given stage)) ordered.first

      taken_placed_b : ArePlaced order (intervals_of (stage.taken ++ p.seconds))
      taken_placed_b = grind (arith, seconds_are, append-nil, front_placed)

      parts : ((p.newly ≡ []) × (waiting ≡ Some a)) ⊎ ((p.newly ≡ a ∷ []) × (waiting ≡ None))
      parts = one_written p.newly waiting a (rw (some, none_given) at p.are)

      -- it was taken, so it leaves that one undecided
      undecided_by : p.seconds ≡ b ∷ [] → decides order a b ≡ false
      undecided_by s = grind (arith, none_given, given_placed_b, one_of)

      -- if that one is written, it decides it
      decided_by : p.newly ≡ a ∷ [] → decides order a b ≡ true
      decided_by n = grind (arith, seconds_are)

      lines_by : p.newly ≡ a ∷ [] → p.seconds ≡ [] → intersect old.shape old.rule p.newly (stage.taken ++ p.seconds) ≡ lines_for old.shape old.rule a stage.taken
      lines_by n s = one_line old.shape old.rule a p.newly stage.taken (stage.taken ++ p.seconds) n (ap (λ (l : List Feature). stage.taken ++ l) s ∙ append-nil stage.taken)

    module _ {out : Output} {to_a to_b : Single} {grown : Output} (line : ℕ) where
      pub takes_b : {new : Sweeping} → AdvancesSo single_cursor single_cursor order old from_a from_b out new to_a to_b grown → single_left to_b ≡ [] → TakesB order stage a b line old out new grown
      takes_b {new} d gone = elim (seconds_are d.proceeds) [
        | inl kept ↦ absurd (let apart : [] ≡ b ∷ [] = sym gone ∙ kept.1 in cc)
        | inr came ↦ grind (arith, (parts d.proceeds), (undecided_by d.proceeds came.0), append-nil)
      ]

      -- it is still there, so it decides that one
      pub decides_a : {new : Sweeping} (d : AdvancesSo single_cursor single_cursor order old from_a from_b out new to_a to_b grown) → StopsFor single_cursor single_cursor (want_in new) to_a to_b ⊎ HasWritten old new → {r : Feature} → single_left to_b ≡ r ∷ []
          → WritesA order stage a b line old out new grown
      decides_a {new} d stops {r} still = elim (parts d.proceeds) [
        | inl left ↦ grind arith
        | inr written ↦ elim (seconds_are d.proceeds) [
          | inr came ↦ absurd (let apart : [] ≡ r ∷ [] = sym came.1 ∙ still in cc)
          | inl kept ↦
              let told = decided_by d.proceeds written.0 in
              record {
                decides = told;
                stands = moves_as stage d.proceeds.newly d.proceeds.seconds (ap (λ (l : List Feature). stage.written ++ l) written.0 ∙ sym (ap (λ (o : Option Feature). stage.written ++ option_to_list o) waits)) written.1
                    (ap (λ (l : List Feature). stage.taken ++ l) kept.0 ∙ append-nil stage.taken) (d.stands stage st (given_placed_b d.proceeds) (taken_placed_b d.proceeds));
                puts = rw (lines_by d.proceeds written.0 kept.0) at (d.puts stage st (given_placed_b d.proceeds) (taken_placed_b d.proceeds));
                settled = before_lines order old.shape old.rule a b stage.taken total known told;
              }
        ]
      ]

      pub fails_b : {fault : FaultValue} → single_line from_b ≡ line → FailsAt single_cursor single_cursor order old from_a from_b out fault to_a to_b grown
          → FailsToWriteA order stage a b line old out fault grown ⊎ FailsToHold order stage a b line old out fault grown
      fails_b {fault} at_line f = elim f.cause [
        | inl cut ↦
            let fails = cut stage st (given_placed_b f.proceeds) (taken_placed_b f.proceeds) in
            elim (parts f.proceeds) [
              | inl still ↦ absurd (fails.some (no_lines old.shape old.rule f.proceeds.newly (stage.taken ++ f.proceeds.seconds) still.0))
              | inr written ↦
                  let told = decided_by f.proceeds written.0 in
                  elim (seconds_are f.proceeds) [
                    | inr came ↦ absurd (false≢true (sym (undecided_by f.proceeds came.0) ∙ told))
                    | inl kept ↦ inl (record { decides = told; fails = rw (lines_by f.proceeds written.0 kept.0) at fails })
                  ]
            ]
        | inr rest ↦ elim rest [
          | inr lost ↦ absurd (let apart : None ≡ Some a = sym lost.none ∙ some in cc)
          | inl lack ↦ elim (parts f.proceeds) [
            | inr written ↦ absurd (let apart : None ≡ Some lack.shares.last = sym written.1 ∙ lack.shares.waits in cc)
            | inl still ↦ elim (seconds_are f.proceeds) [
              | inr came ↦ absurd (let apart : [] ≡ lack.shares.b ∷ single_left lack.shares.after = sym came.1 ∙ lack.shares.gives.left in cc)
              | inl kept ↦
                  let is_a : lack.shares.last ≡ a = same_some lack.shares.last a (sym lack.shares.waits ∙ still.1) in
                  let is_b : lack.shares.b ≡ b = sym (heads b lack.shares.b [] (single_left lack.shares.after) (sym kept.1 ∙ lack.shares.gives.left)).0 in
                  let chrom : b.chrom ≡ a.chrom = rw (is_a, is_b) at lack.shares.chrom in
                  let ends : a.start < b.stop = rw (is_a, is_b) at lack.shares.ends in
                  let lacks = lack.lacks stage st (given_placed_b f.proceeds) (taken_placed_b f.proceeds) in
                  inr (record {
                    undecided = undecided_beside order total a b known chrom (rw (is_a, is_b) at lack.shares.starts);
                    to_hold = and_from (bytes_eq a.chrom b.chrom) (ltb a.start b.stop) (name_eq a.chrom b.chrom (sym chrom)) (lt-ltb a.start b.stop ends);
                    lacks = rw (is_a, lack.shares.gives.line ∙ f.proceeds.gives_seconds.line ∙ at_line, kept.0, append-nil stage.taken) at lacks;
                    same_output = same_output old.shape old.rule f.proceeds.newly (stage.taken ++ f.proceeds.seconds) out grown still.0 (lack.puts stage st (given_placed_b f.proceeds) (taken_placed_b f.proceeds));
                  })
            ]
          ]
        ]
      ]

-- ---- the end of the second input

module _ {order : Order} {stage : Stage Feature Feature} {a : Feature} {old : Sweeping} (st : StandsAt order stage old) (waits : stage.waiting ≡ Some a) (ordered : IsInOrder order stage)
    {mid : Sweeping} (mid_is : mid ≡ record old { current = None; phase = SecondEnded }) (from_a from_b : Single) (empty_a : single_left from_a ≡ []) (empty_b : single_left from_b ≡ []) (out : Output) where
  given_last : given stage ≡ stage.written ++ a ∷ []
  given_last = ap (λ (o : Option Feature). stage.written ++ option_to_list o) waits

  holds_last : HoldsDue order (stage.written ++ a ∷ []) stage.taken mid
  holds_last = rw mid_is (record { holds = rw given_last at st.holds; within = st.within })

  last_placed : (firsts : List Feature) → firsts ≡ [] → ArePlaced order (intervals_of (stage.written ++ a ∷ firsts))
  last_placed firsts e = subst (λ (l : List Feature). ArePlaced order (intervals_of l)) (given_last ∙ ap (λ (l : List Feature). stage.written ++ a ∷ l) (sym e)) ordered.first

  all_placed : (seconds : List Feature) → seconds ≡ [] → ArePlaced order (intervals_of (stage.taken ++ seconds))
  all_placed seconds e = subst (λ (l : List Feature). ArePlaced order (intervals_of l)) (sym (append-nil stage.taken) ∙ ap (λ (l : List Feature). stage.taken ++ l) (sym e)) ordered.second

  same_seconds : (seconds : List Feature) → seconds ≡ [] → stage.taken ++ seconds ≡ stage.taken
  same_seconds seconds e = ap (λ (l : List Feature). stage.taken ++ l) e ∙ append-nil stage.taken

  same : SameConfig old mid
  same = rw mid_is (record { shape_is = refl; rule_is = refl; limit_is = refl })

  -- where it is, if nothing more is given or taken
  abbrev place : (firsts seconds : List Feature) → firsts ≡ [] → seconds ≡ [] → GivenLast (IsThis order) a firsts seconds mid
  place firsts seconds none none_taken = record {
    order = order;
    before = stage.written;
    taken = stage.taken;
    is_for = refl;
    holds = holds_last;
    placed = last_placed firsts none;
    placed_taken = all_placed seconds none_taken;
  }

  module _ {to_a to_b : Single} {grown : Output} where
    pub ends_b : {final : Sweeping} {waiting : Option Feature} (j : JoinsSo single_cursor (going_on mid.phase single_cursor) (IsThis order) (Settles order mid.phase) mid a from_a from_b [] out waiting final to_a to_b [] grown)
        → LacksNext single_cursor (going_on mid.phase single_cursor) waiting to_a to_b → final.current ≡ None → final.phase ≡ mid.phase → EndsB {A = Unit {0}} order stage a old out (Ok tt) final grown
    ends_b j stops gone phase =
        let no_seconds = single_none from_b to_b j.proceeds.seconds empty_b j.proceeds.gives_seconds in
        let at = place j.proceeds.firsts j.proceeds.seconds (single_none from_a to_a j.proceeds.firsts empty_a j.proceeds.gives_firsts) no_seconds in
        let k = j.goes at in
        let puts = with_no_pending out grown (intersect mid.shape mid.rule j.proceeds.newly (stage.taken ++ j.proceeds.seconds)) (j.writes at) in
        grind (arith, append-nil)

    pub stops_end : (final : Sweeping) (fault : Fault) → Breaks single_cursor (going_on mid.phase single_cursor) (IsThis order) (Settles order mid.phase) mid a from_a from_b [] out (fault_value fault) to_a to_b [] grown → want_in final ≡ Nothing
        → EndsB {A = Unit {0}} order stage a old out (Err fault) final grown
    stops_end final fault b stops =
        let no_firsts = single_none from_a to_a b.proceeds.firsts empty_a b.proceeds.gives_firsts in
        let none_taken = nothing_left b.proceeds.seconds (single_left to_b) (sym empty_b ∙ b.proceeds.gives_seconds.left) in (
          stops,
          elim b.cause [
            | inr lack ↦ absurd (let apart : [] ≡ lack.shares.b ∷ single_left lack.shares.after = sym none_taken.1 ∙ lack.shares.gives.left in cc)
            | inl cut ↦
                let lines = cut (place b.proceeds.firsts b.proceeds.seconds no_firsts none_taken.0) in
                elim (one_written b.proceeds.newly b.waiting a (ap (λ (l : List Feature). a ∷ l) (sym no_firsts) ∙ b.proceeds.are)) [
                  | inl still ↦ absurd (lines.some (no_lines mid.shape mid.rule b.proceeds.newly (stage.taken ++ b.proceeds.seconds) still.0))
                  | inr written ↦ rw (← one_line old.shape old.rule a b.proceeds.newly stage.taken (stage.taken ++ b.proceeds.seconds) written.0 (same_seconds b.proceeds.seconds none_taken.0), ← same.shape_is, ← same.rule_is) lines
                ]
          ],
        )
