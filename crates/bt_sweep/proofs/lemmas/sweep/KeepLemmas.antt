-- What is held is all that the lines of a record come from.
use Rattle.bt_lines.proofs.Std.{common_steps, ◌≡◌, true, List, ap, ltb, arith, filter, and_from, ◌<◌, ℕ, Bool, cond, [], ◌∷◌, length, Option, Some, None, refl, sym, ◌∙◌, All, IfSome, slice_index_or, AllByRecursion, false≢true, All-filter, All-from_recursion, recursion_from_All, ◌⊎◌, false, ◌++◌, Ok, Err, Result, subst, append-nil, append_assoc, decimal, OnOk, is_ok, decimal_digit, ◌≤◌, not, list_all, and_parts, flat_map-append, list_any-append, list_all-append, ◌&&◌}
use Rattle.bt_bed.specs.model.Feature.{Feature, intervals_of}
use Rattle.bt_bed.specs.model.BedLine.{bed_text}
use Rattle.bt_sweep.specs.model.Hits.{is_hit, decided, decides}
use Rattle.bt_sweep.specs.model.Lines.{lines_of, lines_for, line_with, intersect}
use Rattle.bt_sweep.specs.calls.Sweeping.{is_held, Sweeping, AreDecided, HoldsFor, SameConfig, held_for, last_given, GivesKnown}
use Rattle.bt_sweep.specs.declared.hits.hit_rule.HitRule.{HitRule}
use Rattle.bt_sweep.specs.declared.output.shape.Shape.{Shape}
use Rattle.bt_sweep.proofs.lemmas.Active.{filter-wider}
use Rattle.bt_sweep.proofs.lemmas.definitions.HitLemmas.{hit_overlaps, before_lines, stay_lines, filter_less, held_less, within_less, within_more, last_given-push, front_placed}
use Rattle.bt_bed.proofs.lemmas.parse.NameLemmas.{same_name, name_eq}
use Rattle.bt_sweep.specs.calls.Held.{AreReady, AreOnOne, CanHit, CanHitAt, AreRising}
use Rattle.bt_sweep.specs.inside.Joining.{are_on, GrownWith, PutsOr, NeedsHit, GivenLast, GoesToFor, HoldsDue, has_room_in, held_with, holding_second, BreaksOff, EndUpTo, WritesFor, WritesSo}
use Rattle.bt_lines.specs.model.Fault.{FaultValue}
use Rattle.bt_lines.specs.calls.Faults.{write_failed}
use Rattle.bt_lines.specs.calls.Names.{fault_value}
use Rattle.bt_lines.specs.calls.Output.{Output, Adds, FailsToAdd, Grown, Puts}
use Rattle.bt_lines.specs.declared.fault.Fault.{Fault}
use Rattle.bt_lines.proofs.lemmas.Writer.{cut_off, fails_then, grown_more, grown_none}
use Rattle.bt_sweep.specs.declared.output.shape.Shape.TheVariants.{Missing, Pieces, Whole}
use Rattle.bt_sweep.proofs.lemmas.definitions.PieceLemmas.{walked_alone, rising_held}
use Rattle.bt_sweep.proofs.lemmas.Output.{line_adds, open_kept}
use Rattle.bt_bed.specs.model.Sorted.{Locus, Sorting, falls_in, sorting_of}
use Rattle.bt_bed.specs.calls.Orders.{ArePlaced, IsTotal}
use Rattle.bt_bed.specs.model.Order.{Order}
use Rattle.bt_sweep.proofs.lemmas.sweep.HoldLemmas.{held_behind, held_is_behind, holds_a, holds_b}
use Rattle.bt_bed.specs.calls.Batch.{left as records_left}
use Rattle.bt_bed.specs.calls.SortedReader.{are_in_order, view_with}
use Rattle.bt_bed.specs.model.Good.{locus_at}
use Rattle.bt_bed.specs.calls.Records.{Lends, buffered_in, order_in, view_of}
use Rattle.bt_bed.specs.calls.Bed.{single_left}
use Rattle.bt_bed.specs.calls.CursorOf.{batch_cursor, single_cursor}
use Rattle.bt_bed.specs.declared.read.cursor.Cursor.{Ghosts as Cursor}
use Rattle.bt_bed.specs.declared.read.batch.Batch.{Batch}
use Rattle.bt_bed.specs.declared.read.cursor.Single.{Single}
use Rattle.bt_bed.specs.declared.order.ChromOrder.{Ghosts}
use Rattle.bt_bed.specs.declared.read.records.Records.{Records}

pub held_lines : (shape : Shape) (rule : HitRule) (a : Feature) (taken : List Feature) → lines_for shape rule a (filter (is_held a) taken) ≡ lines_for shape rule a taken
unfolding lines_for
held_lines shape rule a taken = ap (lines_of shape a) (filter-wider (is_hit rule a) (is_held a) (grind (arith, hit_overlaps)) taken)

-- Lemmas on what a sweep keeps.

-- if none waits
pub ready_none : (current : Option Feature) (held : List Feature) → current ≡ None → AreOnOne held → AreReady current held
ready_none current held none on_one = record { on_one = on_one; hits = λ x e. absurd (let apart : None ≡ Some x = sym none ∙ e in cc) }

pub hits_of : (current : Option Feature) (held : List Feature) → AreReady current held → IfSome current (λ a. All (CanHit a) held)
hits_of None held ready = tt
hits_of (Some a) held ready = ready.hits a refl

pub on_one_filter : (p : Feature → Bool) (held : List Feature) → AreOnOne held → AreOnOne (filter p held)
on_one_filter p held on =
    All-filter p (λ (b : Feature). (b.start < b.stop) × All (λ (r : Feature). r.chrom ≡ b.chrom) (filter p held)) held
    (λ k d h. ((on k d h).0, All-filter p (λ (r : Feature). r.chrom ≡ (slice_index_or held k d).chrom) held (on k d h).1))

module _ (name : List ℕ) (start : ℕ) where
  kept_at : (b : Feature) (bs : List Feature) (c : Bool) → ltb start b.stop ≡ c → (b.chrom ≡ name) × (b.start < b.stop) → AllByRecursion (CanHitAt name start) (filter (λ b. ltb start b.stop) bs)
      → AllByRecursion (CanHitAt name start) (cond c (b ∷ filter (λ b. ltb start b.stop) bs) (filter (λ b. ltb start b.stop) bs))
  kept_at b bs c e one rest = grind arith

  kept_rec : (bs : List Feature) → AllByRecursion (λ b. (b.chrom ≡ name) × (b.start < b.stop)) bs → AllByRecursion (CanHitAt name start) (filter (λ b. ltb start b.stop) bs)
  kept_rec [] all = tt
  kept_rec (b ∷ bs) all = kept_at b bs (ltb start b.stop) refl all.0 (kept_rec bs all.1)

  -- those that end after the start, if the first lies on the chromosome
  pub hits_kept : (held : List Feature) → AreOnOne held → are_on held name ≡ true → All (CanHitAt name start) (filter (λ b. ltb start b.stop) held)
  hits_kept [] on e = absurd (false≢true e)
  hits_kept (b ∷ more) on e =
      let first = (on 0 b (let some : 0 < length (b ∷ more) = omega arith in some)).1 in
      All-from_recursion (CanHitAt name start) (filter (λ r. ltb start r.stop) (b ∷ more))
      (kept_rec (b ∷ more) (recursion_from_All (λ (r : Feature). (r.chrom ≡ name) × (r.start < r.stop)) (b ∷ more)
      (λ k d h. ((first k d h) ∙ same_name b.chrom name e, (on k d h).0))))

-- a record beside which nothing is held is one that nothing hits
pub none_against : (shape : Shape) (rule : HitRule) (a : Feature) (held : List Feature) → length held ≡ 0 → lines_of shape a [] ≡ lines_for shape rule a held
unfolding lines_for
none_against shape rule a [] none = refl
none_against shape rule a (b ∷ held) none = absurd (omega arith)

-- Lemmas on lines that are pending.

-- ---- a record that nothing hits

pub unmatched_itself : (shape : Shape) (a : Feature) → (shape ≡ Missing) ⊎ ((shape ≡ Pieces) ⊎ (shape ≡ Whole)) → a.start < a.stop → lines_of shape a [] ≡ line_with (bed_text a ∷ [])
unmatched_itself shape a is filled = grind (arith, (walked_alone a))

module _ {T : Type 0} (a : Feature) (lines : List ℕ) (out grown : Output) (r : Result T Fault) where
  pub itself_adds : lines ≡ line_with (bed_text a ∷ []) → Puts out (bed_text a ++ 10 ∷ []) r grown → Adds out lines r grown
  itself_adds is puts = subst (λ (l : List ℕ). Adds out l r grown) (sym is) (line_adds (bed_text a ∷ []) out grown r puts)

  pub counted_adds : lines ≡ line_with (bed_text a ∷ decimal 0 ∷ []) → Puts out (bed_text a ++ 9 ∷ 48 ∷ 10 ∷ []) r grown → Adds out lines r grown
  counted_adds is puts =
      subst (λ (l : List ℕ). Adds out l r grown) (sym is)
      (line_adds (bed_text a ∷ decimal 0 ∷ []) out grown r
      (subst (λ (d : List ℕ). Puts out (line_with (bed_text a ∷ d ∷ [])) r grown) (sym (decimal_digit 0 (omega arith)))
      (subst (λ (l : List ℕ). Puts out l r grown) (sym (append_assoc (bed_text a) (9 ∷ []) (48 ∷ 10 ∷ []))) puts)))

-- ---- lines after lines that are pending

pub with_none : (pending : List ℕ) (out : Output) → GrownWith pending out [] pending out
with_none pending out = record { bytes = []; parts = append-nil pending; puts = grown_none out }

-- none was pending, and none is
pub with_no_pending : (out grown : Output) (lines : List ℕ) → GrownWith [] out lines [] grown → Grown out lines grown
with_no_pending out grown lines w = subst (λ (l : List ℕ). Grown out l grown) (sym (w.parts ∙ append-nil w.bytes)) w.puts

module _ {pending xs left : List ℕ} {out mid : Output} (first : GrownWith pending out xs left mid) where
  parts_more : (ys : List ℕ) → pending ++ (xs ++ ys) ≡ first.bytes ++ (left ++ ys)
  parts_more ys = sym (append_assoc pending xs ys) ∙ ap (λ (l : List ℕ). l ++ ys) first.parts ∙ append_assoc first.bytes left ys

  pub with_more : {ys rest : List ℕ} {grown : Output} → GrownWith left mid ys rest grown → GrownWith pending out (xs ++ ys) rest grown
  with_more {ys} {rest} {grown} second = record {
    bytes = first.bytes ++ second.bytes;
    parts = parts_more ys ∙ ap (λ (l : List ℕ). first.bytes ++ l) second.parts ∙ sym (append_assoc first.bytes second.bytes rest);
    puts = grown_more out mid grown first.bytes second.bytes first.puts second.puts;
  }

  pub with_cut : (ys : List ℕ) {fault : FaultValue} {grown : Output} → FailsToAdd mid (left ++ ys) fault grown → FailsToAdd out (pending ++ (xs ++ ys)) fault grown
  with_cut ys {fault} {grown} fails = rw (parts_more ys) (fails_then out mid grown first.bytes (left ++ ys) fault first.puts fails)

  -- those that were left pending were put, or couldn't all be
  pub with_rest : {grown : Output} → Grown mid left grown → GrownWith pending out xs [] grown
  with_rest {grown} puts = record {
    bytes = first.bytes ++ left;
    parts = first.parts ∙ sym (append-nil (first.bytes ++ left));
    puts = grown_more out mid grown first.bytes left first.puts puts;
  }

  pub with_rest_cut : {fault : FaultValue} {grown : Output} → FailsToAdd mid left fault grown → FailsToAdd out (pending ++ xs) fault grown
  with_rest_cut {fault} {grown} fails = rw first.parts (fails_then out mid grown first.bytes left fault first.puts fails)

-- an output that failed stays as it is, whatever is put then
pub fails_again : {T : Type 0} {mid now : Output} {lines : List ℕ} {fault : FaultValue} {out : Output} (left : List ℕ) (r : Result T Fault) → FailsToAdd out lines fault mid → Adds mid left r now → FailsToAdd out lines fault now
fails_again left r fails adds = grind arith

-- ---- lines and then those of a record

module _ {T : Type 0} (out half : Output) (xs : List ℕ) (r : Result T Fault) (adds : Adds out xs r half) where
  not_put : (ys : List ℕ) (r : Result T Fault) → is_ok r ≡ false → Adds out xs r half → FailsToAdd out (xs ++ ys) write_failed half
  not_put ys (Ok t) e adds = absurd (false≢true (sym e))
  not_put ys (Err f) e adds = subst (λ (f : FaultValue). FailsToAdd out (xs ++ ys) f half) adds.puts.is (cut_off out half xs ys (fault_value f) adds)

  pub puts_not : (ys : List ℕ) (b : Bool) → b ≡ is_ok r → b ≡ false → PutsOr b out (xs ++ ys) half
  puts_not ys b is none = subst (λ (c : Bool). PutsOr c out (xs ++ ys) half) (sym none) (not_put ys r (sym is ∙ none) adds)

  put_both : {U : Type 0} (ys : List ℕ) (now : Output) (r : Result T Fault) (p : Result U Fault) → is_ok r ≡ true → Adds out xs r half → Adds half ys p now → PutsOr (is_ok p) out (xs ++ ys) now
  put_both ys now (Err f) p could first second = absurd (false≢true could)
  put_both ys now (Ok t) (Ok u) could first second = grown_more out half now xs ys first second
  put_both ys now (Ok t) (Err f) could first second = subst (λ (f : FaultValue). FailsToAdd out (xs ++ ys) f now) second.puts.is (fails_then out half now xs ys (fault_value f) first second)

  pub puts_then : {U : Type 0} (ys : List ℕ) (now : Output) (p : Result U Fault) (b : Bool) → is_ok r ≡ true → b ≡ is_ok p → Adds half ys p now → PutsOr b out (xs ++ ys) now
  puts_then ys now p b could is second = subst (λ (c : Bool). PutsOr c out (xs ++ ys) now) (sym is) (put_both ys now r p could adds second)

pub same_if_put : {T : Type 0} {P : Type 0} (r : Result T Fault) → is_ok r ≡ true → OnOk r P → P
same_if_put r e h = grind arith

-- ---- a record whose lines are put or left pending

module _ (inside now : Sweeping) (same : inside ≡ now) (a : Feature) (pending left : List ℕ) (out : Output) where
  pub nothing_in : (NeedsHit now.shape → pending ≡ []) → left ≡ [] → NeedsHit inside.shape → length inside.held ≡ 0 → GrownWith pending out (lines_for now.shape now.rule a now.held) left out
  nothing_in quiet none needs empty = grind (arith, common_steps, none_against)

  pub left_in : (line raw : List ℕ) → left ≡ pending ++ line → line ≡ raw → raw ≡ bed_text a ++ 10 ∷ [] → lines_of inside.shape a [] ≡ line_with (bed_text a ∷ []) → length inside.held ≡ 0 → GrownWith pending out (lines_for now.shape now.rule a now.held) left out
  left_in line raw is on canonical alone empty = grind (arith, none_against, (grown_none out))

-- Lemmas on what a sweep keeps as records are given and taken.

module _ {order : Order} (gs : List Feature) (a : Feature) {taken : List Feature} {s : Sweeping} (kept : HoldsDue order (gs ++ a ∷ []) taken s) where
  pub keeps_held : s.held ≡ filter (is_held a) taken
  keeps_held = kept.holds.held_is ∙ ap (λ (o : Option Feature). held_for o taken) (last_given-push gs a)

  keeps_rising : IsTotal order → ArePlaced order (intervals_of taken) → AreRising s.held
  keeps_rising total placed = subst AreRising (sym keeps_held) (rising_held order a taken total placed)

  keeps_lines : {old : Sweeping} → SameConfig old s → lines_for s.shape s.rule a s.held ≡ lines_for old.shape old.rule a taken
  keeps_lines {old} same = grind (arith, keeps_held, held_lines)

  -- one more of the first input on its chromosome
  keeps_next : (r : Feature) → IsTotal order → ArePlaced order (intervals_of ((gs ++ a ∷ []) ++ r ∷ [])) → a.chrom ≡ r.chrom
      → HoldsDue order ((gs ++ a ∷ []) ++ r ∷ []) taken (record s { held = filter (λ b. ltb r.start b.stop) s.held })
  keeps_next r total placed same =
      let is : held_behind (last_given (gs ++ a ∷ [])) s.held r ≡ filter (λ b. ltb r.start b.stop) s.held =
      ap (λ (o : Option Feature). held_behind o s.held r) (last_given-push gs a)
      ∙ ap (λ (c : Bool). cond c (filter (λ b. ltb r.start b.stop) s.held) []) (name_eq a.chrom r.chrom same) in
      record {
        holds = subst (HoldsFor order ((gs ++ a ∷ []) ++ r ∷ []) taken) is (holds_a order (gs ++ a ∷ []) taken s.held r total placed kept.holds);
        within = within_less s.limit (length s.held) (length (filter (λ b. ltb r.start b.stop) s.held)) (filter_less (λ b. ltb r.start b.stop) s.held) kept.within;
      }

  -- one more of the second, which leaves it undecided
  pub keeps_taken : (b : Feature) → decides order a b ≡ false → (is_held a b ≡ true → has_room_in s ≡ true) → HoldsDue order (gs ++ a ∷ []) (taken ++ b ∷ []) (holding_second s a b)
  keeps_taken b undecided room = record { holds = holds_b order gs taken s.held a b kept.holds undecided; within = within_more s.limit a b s.held room kept.within }

-- the first of the first input on a chromosome
pub keeps_first : {order : Order} {gs : List Feature} (a : Feature) {taken : List Feature} {s : Sweeping} → IsTotal order → ArePlaced order (intervals_of (gs ++ a ∷ [])) → HoldsDue order gs taken s
    → HoldsDue order (gs ++ a ∷ []) taken (record s { held = held_with s.held a })
keeps_first {order} {gs} a {taken} {s} total placed kept = record {
  holds = rw (held_is_behind order gs taken s.held a kept.holds) (holds_a order gs taken s.held a total placed kept.holds);
  within = within_less s.limit (length s.held) (length (held_with s.held a)) (held_less s.held a) kept.within;
}

-- the rules stay the same
pub same_rules : {old mid new : Sweeping} → SameConfig old mid → SameConfig mid new → SameConfig old new
same_rules first more = record { shape_is = more.shape_is ∙ first.shape_is; rule_is = more.rule_is ∙ first.rule_is; limit_is = more.limit_is ∙ first.limit_is }

pub same_as : (s : Sweeping) (held : List Feature) → SameConfig s (record s { held = held })
same_as s held = record { shape_is = refl; rule_is = refl; limit_is = refl }

-- ---- what decides a record on one chromosome

module _ (order : Order) (total : IsTotal order) (a b : Feature) (known : order.knows a.chrom ≡ true) (same : b.chrom ≡ a.chrom) where
  pub undecided_beside : b.start < a.stop → decides order a b ≡ false
  undecided_beside before = grind arith

-- ---- the lines of what is decided stay

module _ (order : Order) (total : IsTotal order) (shape : Shape) (rule : HitRule) (taken : List Feature) (b : Feature) (more : List Feature) (placed : ArePlaced order (intervals_of (taken ++ b ∷ more))) where
  pub lines_stay_so : (newly : List Feature) → ArePlaced order (intervals_of newly) → AreDecided order newly (taken ++ b ∷ []) → intersect shape rule newly (taken ++ b ∷ more) ≡ intersect shape rule newly taken
  lines_stay_so [] known all = refl
  lines_stay_so (a ∷ newly) known all =
      let parts = and_parts (decided order a (taken ++ b ∷ [])) (list_all (λ x. decided order x (taken ++ b ∷ [])) newly) all in
      grind (arith, (lines_stay_so newly known.2 parts.1), stay_lines, before_lines, list_any-append)

-- decided by these, after others too
pub decided_behind : (order : Order) (newly taken bs : List Feature) → AreDecided order newly bs → AreDecided order newly (taken ++ bs)
decided_behind order [] taken bs all = refl
decided_behind order (a ∷ newly) taken bs all =
    grind (arith, (decided_behind order newly taken bs (and_parts (decided order a bs) (list_all (λ x. decided order x bs) newly) all).1), list_any-append)

-- and before others
pub decided_before : (order : Order) (newly bs more : List Feature) → AreDecided order newly bs → AreDecided order newly (bs ++ more)
decided_before order [] bs more all = refl
decided_before order (a ∷ newly) bs more all =
    grind (arith, (decided_before order newly bs more (and_parts (decided order a bs) (list_all (λ x. decided order x bs) newly) all).1), list_any-append)

pub decided_both : (order : Order) (xs ys bs : List Feature) → AreDecided order xs bs → AreDecided order ys bs → AreDecided order (xs ++ ys) bs
decided_both order xs ys bs first second = grind (arith, list_all-append)

-- ---- lines of one list of records after another

module _ (shape : Shape) (rule : HitRule) (taken xs : List Feature) {pending left : List ℕ} {old mid : Output} (first : GrownWith pending old (intersect shape rule xs taken) left mid) where
  pub lines_both : (ys : List Feature) {rest : List ℕ} {new : Output} → GrownWith left mid (intersect shape rule ys taken) rest new → GrownWith pending old (intersect shape rule (xs ++ ys) taken) rest new
  lines_both ys second = rw (flat_map-append (λ a. lines_for shape rule a taken) xs ys) (with_more first second)

  pub cut_both : (ys : List Feature) {fault : FaultValue} {new : Output} → FailsToAdd mid (left ++ intersect shape rule ys taken) fault new → FailsToAdd old (pending ++ intersect shape rule (xs ++ ys) taken) fault new
  cut_both ys fails = rw (flat_map-append (λ a. lines_for shape rule a taken) xs ys) (with_cut first (intersect shape rule ys taken) fails)

-- Lemmas on records of the first input that are written one after another.

-- ---- where a sweep is, with fewer records that come

module _ {For : Order → Type 0} {first : Feature} {old : Sweeping} where
  abbrev pub fewer_firsts : (firsts more : List Feature) {seconds : List Feature} → GivenLast For first (firsts ++ more) seconds old → GivenLast For first firsts seconds old
  fewer_firsts firsts more at = record {
    order = at.order;
    before = at.before;
    taken = at.taken;
    is_for = at.is_for;
    holds = at.holds;
    placed = front_placed at.order (at.before ++ first ∷ firsts) more (rw (append_assoc at.before (first ∷ firsts) more) at.placed);
    placed_taken = at.placed_taken;
  }

  abbrev pub fewer_seconds : {firsts : List Feature} (seconds more : List Feature) → GivenLast For first firsts (seconds ++ more) old → GivenLast For first firsts seconds old
  fewer_seconds seconds more at = record {
    order = at.order;
    before = at.before;
    taken = at.taken;
    is_for = at.is_for;
    holds = at.holds;
    placed = at.placed;
    placed_taken = front_placed at.order (at.taken ++ seconds) more (rw (append_assoc at.taken seconds more) at.placed_taken);
  }

  -- no record comes
  pub goes_none : GoesToFor For first [] [] old old
  goes_none at = record { same = same_as old old.held; holds = rw (append-nil at.taken) at.holds }

-- ---- lists, after others

module _ (before : List Feature) {first : Feature} {firsts : List Feature} (newly : List Feature) (cur : Feature) (are : first ∷ firsts ≡ newly ++ cur ∷ []) where
  pub split_last : before ++ first ∷ firsts ≡ (before ++ newly) ++ cur ∷ []
  split_last = ap (λ (l : List Feature). before ++ l) are ∙ sym (append_assoc before newly (cur ∷ []))

  pub split_more : (firsts2 : List Feature) → before ++ first ∷ (firsts ++ firsts2) ≡ (before ++ newly) ++ cur ∷ firsts2
  split_more firsts2 = grind (arith, (append_assoc before (first ∷ firsts) firsts2), split_last, (append_assoc (before ++ newly) (cur ∷ []) firsts2))

end_more : (name : List ℕ) (place : ℕ) (newly : List Feature) (a : Feature) → EndUpTo name place newly → a.chrom ≡ name → a.stop ≤ place → EndUpTo name place (newly ++ a ∷ [])
end_more name place [] a end on up = (on, up, tt)
end_more name place (x ∷ newly) a end on up = (end.0, end.1, end_more name place newly a end.2 on up)

module _ {A R : Type 0} {cursor : Cursor A R} {place : ℕ} {old : Sweeping} {first : Feature} {from : A} {pending : List ℕ} {out : Output} where
  pub writes_first : ((x : A) → cursor.gives x [] x) → All (CanHit first) old.held → WritesSo cursor place old first from pending out (Some first) old from pending out
  writes_first gives_none hits = record {
    firsts = [];
    newly = [];
    given = gives_none from;
    are = refl;
    end = tt;
    waits = (refl, hits);
    goes = goes_none;
    writes = λ at. with_none pending out;
  }

  module _ {waiting : Option Feature} {s : Sweeping} {to : A} {left : List ℕ} {grown now : Output} (so : WritesSo cursor place old first from pending out waiting s to left grown) where
    -- those that are left pending were put too
    pub writes_rest : Grown grown left now → WritesSo cursor place old first from pending out waiting s to [] now
    writes_rest puts = grind (arith, with_rest)

    -- or couldn't all be
    pub cuts_rest : {fault : FaultValue} → FailsToAdd grown left fault now → BreaksOff cursor place old first from pending out fault to now
    cuts_rest fails = record {
      firsts = so.firsts;
      newly = so.newly;
      waiting = waiting;
      given = so.given;
      are = so.are;
      end = so.end;
      cuts = λ at. with_rest_cut (so.writes at) fails;
    }

  module _ {cur : Feature} {s : Sweeping} {to : A} {left : List ℕ} {grown : Output} (so : WritesSo cursor place old first from pending out (Some cur) s to left grown) where
    -- what is kept, by the one that waits
    holds_so : (at : GivenLast IsTotal first so.firsts [] old) → HoldsDue at.order ((at.before ++ so.newly) ++ cur ∷ []) (at.taken ++ []) s
    holds_so at = rw (← split_last at.before so.newly cur so.are) (so.goes at).holds

    module _ {rest : List ℕ} {now : Output} (adds : AreRising s.held → GrownWith left grown (lines_for s.shape s.rule cur s.held) rest now) where
      written_one : WritesFor IsTotal first so.firsts [] old (so.newly ++ cur ∷ []) pending out rest now
      written_one at =
          let k = holds_so at in
          lines_both old.shape old.rule (at.taken ++ []) so.newly (so.writes at) (cur ∷ [])
          (rw (append-nil (lines_for old.shape old.rule cur (at.taken ++ [])), ← keeps_lines (at.before ++ so.newly) cur k (so.goes at).same)
          (adds (keeps_rising (at.before ++ so.newly) cur k at.is_for at.placed_taken)))

      -- its lines were written, and there is no other
      pub writes_last : cur.stop ≤ place → WritesSo cursor place old first from pending out None s to rest now
      writes_last up = grind (arith, append-nil, end_more, written_one)

      -- its lines were written, and the next one waits
      pub writes_more : ((old mid new : A) (xs ys : List Feature) → cursor.gives old xs mid → cursor.gives mid ys new → cursor.gives old (xs ++ ys) new) → (r : Feature) (new : Sweeping) (to' : A) → cur.stop ≤ place
          → cursor.gives to (r ∷ []) to' → r.chrom ≡ first.chrom → new ≡ record s { held = filter (λ b. ltb r.start b.stop) s.held } → WritesSo cursor place old first from pending out (Some r) new to' rest now
      writes_more gives_more r new to' up given on is = record {
        firsts = so.firsts ++ r ∷ [];
        newly = so.newly ++ cur ∷ [];
        given = gives_more from to to' so.firsts (r ∷ []) so.given given;
        are = ap (λ (l : List Feature). l ++ r ∷ []) so.are;
        end = end_more first.chrom place so.newly cur so.end so.waits.0 up;
        waits = (on, rw is (open_kept cur r s.held (so.waits.0 ∙ sym on) so.waits.1));
        goes = λ at.
            let front = fewer_firsts so.firsts (r ∷ []) at in
            let whole : at.before ++ first ∷ (so.firsts ++ r ∷ []) ≡ ((at.before ++ so.newly) ++ cur ∷ []) ++ r ∷ [] =
            split_more at.before so.newly cur so.are (r ∷ []) ∙ sym (append_assoc (at.before ++ so.newly) (cur ∷ []) (r ∷ [])) in
            rw (is, whole) (record {
              same = same_rules (so.goes front).same (same_as s (filter (λ b. ltb r.start b.stop) s.held));
              holds = keeps_next (at.before ++ so.newly) cur (holds_so front) r at.is_for (rw whole at at.placed) (so.waits.0 ∙ sym on);
            });
        writes = λ at. written_one (fewer_firsts so.firsts (r ∷ []) at);
      }

    -- its lines couldn't be written
    pub cuts_off : {fault : FaultValue} {now : Output} → cur.stop ≤ place → (AreRising s.held → FailsToAdd grown (left ++ lines_for s.shape s.rule cur s.held) fault now) → BreaksOff cursor place old first from pending out fault to now
    cuts_off up fails = record {
      firsts = so.firsts;
      newly = so.newly ++ cur ∷ [];
      waiting = None;
      given = so.given;
      are = so.are ∙ sym (append-nil (so.newly ++ cur ∷ []));
      end = end_more first.chrom place so.newly cur so.end so.waits.0 up;
      cuts = λ at.
          let k = holds_so at in
          cut_both old.shape old.rule (at.taken ++ []) so.newly (so.writes at) (cur ∷ [])
          (rw (append-nil (lines_for old.shape old.rule cur (at.taken ++ [])), ← keeps_lines (at.before ++ so.newly) cur k (so.goes at).same)
          (fails (keeps_rising (at.before ++ so.newly) cur k at.is_for at.placed_taken)));
    }

-- Lemmas on cursors that give records on known chromosomes.

-- after some of them
pub known_later : {A R : Type 0} (cursor : Cursor A R) {order now : Order} {from mid : A} (fs : List Feature) → ((old mid new : A) (xs ys : List Feature) → cursor.gives old xs mid → cursor.gives mid ys new → cursor.gives old (xs ++ ys) new)
    → now ≡ order → GivesKnown cursor order from → cursor.gives from fs mid → GivesKnown cursor now mid
known_later cursor {order = order} {from = from} {mid = mid} fs gives_more same known given records to more =
    let knows = λ (r : Feature). order.knows r.chrom in
    rw same (and_parts (list_all knows fs) (list_all knows records) (sym (list_all-append knows fs records) ∙ known (fs ++ records) to (gives_more from mid to fs records given more))).1

known_front : (order : Order) (r : Feature) (records left : List Feature) → order.knows r.chrom ≡ true → r ∷ [] ≡ records ++ left → list_all (λ (x : Feature). order.knows x.chrom) records ≡ true
known_front order r [] left known e = refl
known_front order r (x ∷ []) left known e = let same : r ≡ x = cc in and_from (order.knows x.chrom) true (subst (λ (f : Feature). order.knows f.chrom ≡ true) same known) refl
known_front order r (x ∷ y ∷ records) left known e = absurd (let apart : [] ≡ y ∷ (records ++ left) = cc in cc)

pub known_single : (order : Order) (one : Single) (r : Feature) → single_left one ≡ r ∷ [] → order.knows r.chrom ≡ true → GivesKnown single_cursor order one
known_single order one r is known records to gives = known_front order r records (single_left to) known (sym is ∙ gives.left)

pub known_none : (order : Order) (one : Single) → single_left one ≡ [] → GivesKnown single_cursor order one
known_none order one empty [] to gives = refl
known_none order one empty (r ∷ records) to gives = absurd (let apart : [] ≡ r ∷ (records ++ single_left to) = sym empty ∙ gives.left in cc)

-- records in order lie on known chromosomes
known_in : (sorting : Sorting) (last : Option Locus) (records more : List Feature) → are_in_order sorting last (records ++ more) ≡ true → list_all (λ r. sorting.knows r.chrom) records ≡ true
known_in sorting last [] more e = refl
known_in sorting last (r ∷ records) more e =
    let all = and_parts (sorting.knows r.chrom && not (falls_in sorting last (locus_at r))) (are_in_order sorting (Some (locus_at r)) (records ++ more)) e in
    grind (arith, (known_in sorting (Some (locus_at r)) records more all.1))

module _ {S O : Type 0} {g : Ghosts O} (now : Records S O g) (batch : Batch) (lends : Lends now batch) where
  lent_is : records_left batch ≡ buffered_in now
  unfolding view_of view_with
  lent_is = lends.left_is

  in_order : are_in_order (sorting_of (order_in now)) (view_of now).state (buffered_in now) ≡ true
  unfolding view_of order_in
  in_order = now.placed.in_order

  -- those that a reader gives do
  pub known_batch : (order : Order) → order ≡ order_in now → GivesKnown batch_cursor order batch
  known_batch order same records to passes = grind (arith, known_in, lent_is, in_order)
