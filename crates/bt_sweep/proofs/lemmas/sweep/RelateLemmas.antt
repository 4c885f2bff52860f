-- Lemmas on records of the second input on one chromosome beside those of the first on one.
use Rattle.bt_lines.proofs.Std.{◌≡◌, inl, inr, ℕ, Bool, true, false, not, ◌&&◌, cond, List, [], ◌∷◌, ◌++◌, Option, Some, None, Ok, Err, Result, refl, sym, ap, ◌∙◌, subst, append-nil, append_assoc, arith, filter, ltb, option_to_list, All, filter-append, list_all-append, list_any-append}
use Rattle.std.specs.declared.cmp.Ordering.{Ordering}
use Rattle.std.specs.declared.cmp.Ordering.TheVariants.{Less, Greater}
use Rattle.bt_lines.specs.model.Lines.{max_number}
use Rattle.bt_lines.specs.calls.Output.{Output}
use Rattle.bt_lines.specs.declared.fault.Fault.{Fault}
use Rattle.bt_bed.specs.model.Feature.{Feature}
use Rattle.bt_bed.specs.declared.read.cursor.Cursor.{Ghosts as Cursor}
use Rattle.bt_bed.specs.model.Sorted.{comes_first}
use Rattle.bt_bed.specs.model.Order.{Order}
use Rattle.bt_bed.specs.calls.Orders.{IsTotal}
use Rattle.bt_bed.proofs.lemmas.parse.NameLemmas.{name_ne}
use Rattle.bt_sweep.specs.calls.Sweeping.{IsThis, Settles, AreDecided, ComesNext, LeavesLast, TakenEach, HoldsFor, is_held, Sweeping}
use Rattle.bt_sweep.specs.model.Hits.{decides}
use Rattle.bt_sweep.specs.calls.Held.{CanHit}
use Rattle.bt_sweep.specs.inside.Joining.{AreDecidedOn, GivenLast, EndUpTo, HoldsDue, Joins, KeepsRules, LeavesOn, LieOn, JoinProceeded, SkipsAll, WritesUpTo, Compares, Relates, going_on, stands}
use Rattle.bt_sweep.specs.declared.sweep.state.Phase.TheVariants.{SecondEnded}
use Rattle.bt_sweep.specs.declared.sweep.relation.Relation.TheVariants.{After}
use Rattle.bt_sweep.proofs.lemmas.sweep.JoinLemmas.{joins_first, leaves_none}
use Rattle.bt_sweep.proofs.lemmas.sweep.KeepLemmas.{keeps_held, same_as, with_none}
use Rattle.bt_sweep.proofs.lemmas.definitions.HitLemmas.{last_given-push}

lie_last : (name : List ℕ) (before : List Feature) (b : Feature) → LieOn name (before ++ b ∷ []) → b.chrom ≡ name
lie_last name [] b on = on.0
lie_last name (x ∷ before) b on = lie_last name before b on.1

-- ---- on a chromosome before theirs

module _ (order : Order) (total : IsTotal order) (a : Feature) (known : order.knows a.chrom ≡ true) (name : List ℕ) (compared : order.compare name a.chrom ≡ Less) where
  undecided_before : (b : Feature) → b.chrom ≡ name → decides order a b ≡ false
  undecided_before b on = ap (λ (c : Ordering). not (comes_first c (ltb b.start a.stop))) (ap (λ (c : List ℕ). order.compare c a.chrom) on ∙ compared)

  none_kept : (b : Feature) → b.chrom ≡ name → filter (is_held a) (b ∷ []) ≡ []
  none_kept b on = ap (λ (c : Bool). cond (c && ltb a.start b.stop) (b ∷ []) []) (name_ne a.chrom b.chrom (grind arith))

  -- taken, they change nothing
  holds_before : (gs taken held seconds : List Feature) → LieOn name seconds → HoldsFor order (gs ++ a ∷ []) taken held → HoldsFor order (gs ++ a ∷ []) (taken ++ seconds) held
  holds_before gs taken held [] on holds = subst (λ (t : List Feature). HoldsFor order (gs ++ a ∷ []) t held) (sym (append-nil taken)) holds
  holds_before gs taken held (b ∷ seconds) on holds =
      let one = subst (λ (h : List Feature). HoldsFor order (gs ++ a ∷ []) (taken ++ b ∷ []) h) (ap (λ (l : List Feature). held ++ l) (none_kept b on.0) ∙ append-nil held)
      (grind (arith, last_given-push, filter-append, list_all-append, list_any-append)) in
      subst (λ (t : List Feature). HoldsFor order (gs ++ a ∷ []) t held) (append_assoc taken (b ∷ []) seconds) (holds_before gs (taken ++ b ∷ []) held seconds on.1 one)

  -- each was taken for the first
  each_before : {old : Sweeping} (before : List Feature) {taken : List Feature} (seconds : List Feature) → LieOn name seconds → HoldsDue order (before ++ a ∷ []) taken old → TakenEach order old.limit (a ∷ []) taken seconds
  each_before before [] on kept = tt
  each_before {old} before {taken} (b ∷ seconds) on kept =
      let next : HoldsDue order (before ++ a ∷ []) (taken ++ b ∷ []) old = record { holds = holds_before before taken old.held (b ∷ []) (on.0, tt) kept.holds; within = kept.within } in (
        record { before = []; a = a; after = []; parts = refl; settled = refl; undecided = undecided_before b on.0; within = rw (← keeps_held before a next) next.within },
        each_before before seconds on.1 next,
      )

-- ---- on one after it

after_decided : (order : Order) (b : Feature) (name : List ℕ) (newly : List Feature) (place : ℕ) → IsTotal order → order.knows name ≡ true → order.compare b.chrom name ≡ Greater → EndUpTo name place newly → AreDecided order newly (b ∷ [])
after_decided order b name [] place total known compared end = refl
after_decided order b name (a ∷ newly) place total known compared end = grind (arith, (after_decided order b name newly place total known compared end.2))

-- ---- in this order, which is total

abbrev to_total : {order : Order} {first : Feature} {firsts seconds : List Feature} {old : Sweeping} → IsTotal order → GivenLast (IsThis order) first firsts seconds old → GivenLast IsTotal first firsts seconds old
to_total total at = record { order = at.order; before = at.before; taken = at.taken; is_for = rw at.is_for total; holds = at.holds; placed = at.placed; placed_taken = at.placed_taken }

module _ {A B R S : Type 0} (cursor_a : Cursor A R) (cursor_b : Cursor B S) (feature : R → Feature) (order : Order) (total : IsTotal order) (old : Sweeping) (r : R) (from_a : A) (from_b : B) (out : Output)
    (known : order.knows (feature r).chrom ≡ true) (hits : All (CanHit (feature r)) old.held) where
  abbrev first : Feature
  first = feature r

  abbrev Decides : Result (Option R) Fault → Sweeping → A → B → Output → Type 0
  Decides result new to_a to_b grown = Joins cursor_a (going_on old.phase cursor_b) (IsThis order) (Settles order old.phase) (LeavesLast order) feature first (stands old (from_a, from_b) [] out) result (stands new (to_a, to_b) [] grown)

  -- none of the second input was there
  pub decides_none : ((x : A) → cursor_a.gives x [] x) → ((x : B) → cursor_b.gives x [] x) → cursor_b.has_ended from_b × (old.phase ≡ SecondEnded → ⊥) → Decides (Ok (Some r)) old from_a from_b out
  decides_none a_none b_none ended = let j = joins_first {cursor_b = going_on old.phase cursor_b} a_none b_none (LeavesLast order) (inr refl) (leaves_none order [] first refl) hits in (j.0, ended, j.2)

  module _ (name : List ℕ) (compared : order.compare name first.chrom ≡ Less) (seconds : List Feature) (on : LieOn name seconds) (at : GivenLast (IsThis order) first [] seconds old) where
    each_at : TakenEach at.order old.limit (first ∷ []) at.taken seconds
    each_at = each_before at.order (rw at.is_for total) first (rw at.is_for known) name (rw at.is_for compared) at.before seconds on at.holds

    keeps_at : KeepsRules at.order (at.before ++ first ∷ []) (at.taken ++ seconds) old old
    keeps_at = record {
      same = same_as old old.held;
      holds = record { holds = holds_before at.order (rw at.is_for total) first (rw at.is_for known) name (rw at.is_for compared) at.before at.taken old.held seconds on at.holds.holds; within = at.holds.within };
    }

  -- they lie before
  pub decides_before : ((x : A) → cursor_a.gives x [] x) → (to_b : B) → Compares cursor_b order old.phase first.chrom from_b Less → SkipsAll cursor_b from_b to_b → Decides (Ok (Some r)) old from_a to_b out
  decides_before a_none to_b lies skip = (
    record {
      proceeds = record {
        firsts = [];
        seconds = skip.seconds;
        newly = [];
        gives_firsts = a_none from_a;
        gives_seconds = skip.given;
        are = refl;
        next = None;
        comes = tt;
        settles = inr refl;
        each = each_at (cursor_b.name from_b) lies.compared skip.seconds skip.on;
      };
      waits = (refl, hits);
      goes = keeps_at (cursor_b.name from_b) lies.compared skip.seconds skip.on;
      writes = λ at. with_none [] out;
    },
    (skip.ended, lies.going),
    λ before b e. undecided_before order total first known (cursor_b.name from_b) lies.compared b (lie_last (cursor_b.name from_b) before b (subst (LieOn (cursor_b.name from_b)) e skip.on)),
  )

  abbrev proceeds_beside : {waiting : Option Feature} {to_a : A} {to_b : B} → JoinProceeded cursor_a cursor_b IsTotal (AreDecidedOn first.chrom) old first from_a from_b waiting to_a to_b
      → JoinProceeded cursor_a (going_on old.phase cursor_b) (IsThis order) (Settles order old.phase) old first from_a from_b waiting to_a to_b
  proceeds_beside p = record {
    firsts = p.firsts;
    seconds = p.seconds;
    newly = p.newly;
    gives_firsts = p.gives_firsts;
    gives_seconds = p.gives_seconds;
    are = p.are;
    next = p.next;
    comes = p.comes;
    settles = inr (p.settles order total known);
    each = λ at. p.each (to_total total at);
  }

  -- they lie beside
  pub decides_beside : (result : Result (Option R) Fault) (new : Sweeping) (to_a : A) (to_b : B) (grown : Output) → (old.phase ≡ SecondEnded → ⊥)
      → Joins cursor_a cursor_b IsTotal (AreDecidedOn first.chrom) LeavesOn feature first (stands old (from_a, from_b) [] out) result (stands new (to_a, to_b) [] grown) → Decides result new to_a to_b grown
  decides_beside (Ok waiting) new to_a to_b grown going (j, stops, leaves) = (
    record { proceeds = proceeds_beside j.proceeds; waits = j.waits; goes = λ at. j.goes (to_total total at); writes = λ at. j.writes (to_total total at) },
    grind arith,
    grind arith,
  )
  decides_beside (Err fault) new to_a to_b grown going b = record {
    proceeds = proceeds_beside b.proceeds;
    waiting = b.waiting;
    cause = elim b.cause [
      | inl cut ↦ inl (λ at. cut (to_total total at))
      | inr lack ↦ inr (record { shares = lack.shares; writes = λ at. lack.writes (to_total total at); lacks = λ at. lack.lacks (to_total total at) })
    ];
  }

  -- they lie after it, or the input has ended: what comes next then, and that it decides each
  abbrev IsBehind : Type 0
  IsBehind = Relates cursor_b order old.phase first.chrom from_b After

  abbrev next_of : IsBehind → Option Feature
  next_of (inl ended) = None
  next_of (inr lies) = Some lies.b

  comes_of : (behind : IsBehind) → ComesNext cursor_b from_b (next_of behind)
  comes_of behind = grind arith

  settles_of : (behind : IsBehind) (newly : List Feature) → EndUpTo first.chrom max_number newly → Settles order old.phase newly ([] ++ option_to_list (next_of behind))
  settles_of behind newly end = grind (arith, after_decided)

  abbrev proceeds_after : (firsts newly : List Feature) (waiting : Option Feature) (to_a : A) → ((x : B) → cursor_b.gives x [] x) → IsBehind → cursor_a.gives from_a firsts to_a → first ∷ firsts ≡ newly ++ option_to_list waiting
      → EndUpTo first.chrom max_number newly → JoinProceeded cursor_a (going_on old.phase cursor_b) (IsThis order) (Settles order old.phase) old first from_a from_b waiting to_a from_b
  proceeds_after firsts newly waiting to_a b_none behind given are end = record {
    firsts = firsts;
    seconds = [];
    newly = newly;
    gives_firsts = given;
    gives_seconds = b_none from_b;
    are = are;
    next = next_of behind;
    comes = comes_of behind;
    settles = settles_of behind newly end;
    each = λ at. tt;
  }

  -- each is written
  pub decides_after : ((x : B) → cursor_b.gives x [] x) → (result : Result (Option R) Fault) (new : Sweeping) (to_a : A) (grown : Output) → IsBehind → WritesUpTo cursor_a feature max_number first (stands old from_a [] out) result (stands new to_a [] grown)
      → Decides result new to_a from_b grown
  decides_after b_none (Ok (Some a)) new to_a grown behind w = absurd (omega (arith, w.1.0, w.1.1))
  decides_after b_none (Ok None) new to_a grown behind (w, ended) = (
    record { proceeds = proceeds_after w.firsts w.newly None to_a b_none behind w.given w.are w.end; waits = tt; goes = λ at. w.goes (to_total total at); writes = λ at. w.writes (to_total total at) },
    ended,
    tt,
  )
  decides_after b_none (Err fault) new to_a grown behind cut =
      record { proceeds = proceeds_after cut.firsts cut.newly cut.waiting to_a b_none behind cut.given cut.are cut.end; waiting = cut.waiting; cause = inl (λ at. cut.cuts (to_total total at)) }
