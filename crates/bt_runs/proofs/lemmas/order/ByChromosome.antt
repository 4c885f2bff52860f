-- Items that come chromosome by chromosome, and are settled by the last record. Settled are those of the chromosomes before its own, and of its own those that are over by its start. Here it is proved, once for all engines, that what is settled stays, that it begins the whole, and what one more record adds.
--
-- An engine says two things of one chromosome, in a `Form`. These are what its items are by the records on it (`part`), and which of them are over by the last record (`pick`).
-- For its code it also says what it keeps while some aren't (`fresh`, `left`, `step`, `after`). A relation `At` says how the items are divided by the last start on the chromosome: those that are done, and what is kept. Then it owes three lemmas, the last fields of `Owes`:
-- 1. `none`: a chromosome without records has its known items (`bare`), and nothing is done on it.
-- 2. `next`: one more record on it, at or after the last start, adds to what is done what the step settles, and leaves what the step keeps.
-- 3. `divides`: the items are those that are done and those that are left; by the last start all of the first are over, and none of the others.
-- The other fields are a line each: a record elsewhere changes no item. On the chromosomes before the last record's all items are over, and on those after it none. `Written` and `Ordered` say that the definitions of the whole and of what is settled go by these parts, in an order of chromosomes.
--
-- It is given what one more record settles and what is kept then, on the same chromosome or a later one (`goes_first`, `goes_on`, `goes_to`). That is what `feed` has to do. It is also given what is left for `finish` (`whole_left`), and `SettlesMore` (`settling`), from which settled items stay and begin the whole (`Standing`).
-- The engines' forms are in `SettledRuns` (merge), `GapRuleLemmas` (complement) and `DepthSteps` (coverage); the last two take `Walks` from here.
use Rattle.bt_lines.proofs.Std.{common_steps, ◌≡◌, ◌⊎◌, ℕ, ◌<◌, ◌≤◌, inl, inr, List, [], ◌∷◌, ◌++◌, append_assoc, append-nil, refl, sym, ap, ap₂, ◌∙◌, subst, arith, length, length-append, map, flat_map, true, false, bytes_eq, Some, ⊤, or_parts, flat_map-append, map-append, take_at, Contains-push, zero, suc, ◌+◌, ◌-◌, length-drop, drop, option_map, slice_range, min, Option, Result, Ok, Err, slice_get, cond-true, cond-false, take_at_read, get_or-drop, drop-drop, get_or-append_seam, take-add}
use Rattle.std.specs.declared.cmp.Ordering.TheVariants.{Less, Greater}
use Rattle.bt_bed.specs.model.Feature.{Feature, interval_of, intervals_of, Interval, last_of}
use Rattle.bt_bed.specs.calls.Orders.{AreNonEmpty, ArePlaced, AreDistinct}
use Rattle.bt_bed.specs.model.Sorted.{has_records}
use Rattle.bt_bed.specs.model.Order.{is_among, rank_order, rank_of}
use Rattle.bt_bed.proofs.lemmas.parse.NameLemmas.{name_ne-sym, name_eq}
use Rattle.bt_bed.proofs.lemmas.order.OrderLemmas.{placed_prefix}
use Rattle.bt_runs.specs.calls.Engine.{SettlesMore}
use Rattle.bt_runs.proofs.lemmas.definitions.Standing.{AllCompare, all_after, all_before, Arrives, GoesTo, NoneOn, Stand, begins_at, elsewhere_of, goes, last_rank, none_at_first, stand_at, Found, found}
use Rattle.bt_bed.specs.model.Genome.{Entry, genome_names}
use Rattle.bt_runs.specs.calls.Complementing.{length_in}
use Rattle.bt_runs.specs.inside.Walk.{IsRanked, entry_at, Place, begun as names_begun, left_before, left_of}
use Rattle.bt_lines.specs.calls.Output.{Output, Adds, Grown}
use Rattle.bt_lines.specs.declared.fault.Fault.{Fault}
use Rattle.bt_lines.specs.calls.Names.{fault_value}
use Rattle.bt_lines.proofs.lemmas.Writer.{adds_more, cut_off}

-- what an engine says of its items: K are the chromosomes, T the items, and S is what is open on a chromosome
pub record Form (K T S : Type 0) : Type 0 where
  -- a chromosome's name, and its items after the records
  pub name : K → List ℕ
  pub part : K → List Feature → List T
  -- of items in their order, those that are over if this is the last record
  pub pick : Interval → List T → List T
  -- the items of all chromosomes, and those that are settled
  pub whole : List Feature → List T
  pub settled : List Feature → List T
  -- the items of a chromosome without records, and what is open before its first
  pub bare : K → List T
  pub fresh : S
  -- the items that aren't done while this is open
  pub left : K → S → List T
  -- the items that one more record settles of what is open, and what is open then
  pub step : K → S → Feature → List T
  pub after : K → S → Feature → S

-- what is picked of two lists: if all of the first is picked, that and what is picked of the second; if nothing is of either, nothing
pub record Picks {T : Type 0} (pick : List T → List T) : Type 0 where
  pub nothing : pick [] ≡ []
  pub all : (xs ys : List T) → pick xs ≡ xs → pick (xs ++ ys) ≡ xs ++ pick ys
  pub none : (xs ys : List T) → pick xs ≡ [] → pick ys ≡ [] → pick (xs ++ ys) ≡ []

module _ {K T S : Type 0} (f : Form K T S) where
  -- the items of the chromosomes, concatenated
  abbrev pub parts : List Feature → List K → List T
  parts past keys = flat_map (λ k. f.part k past) keys

  -- those of chromosomes without records
  abbrev pub bares : List K → List T
  bares keys = flat_map f.bare keys

pub intervals_next : (past : List Feature) (r : Feature) → intervals_of (past ++ r ∷ []) ≡ intervals_of past ++ interval_of r ∷ []
intervals_next past r = map-append interval_of past (r ∷ [])

-- the first records of non-empty ones, and the last
pub full_front : (past more : List Feature) → AreNonEmpty (intervals_of (past ++ more)) → AreNonEmpty (intervals_of past)
full_front past more full = grind (arith, common_steps, (take_at (intervals_of past) (intervals_of more) (length (intervals_of past)) refl), (map-append interval_of past more))

pub full_last : (past : List Feature) (r : Feature) → AreNonEmpty (intervals_of (past ++ r ∷ [])) → r.start < r.stop
full_last past r full =
    grind (arith, intervals_next, (Contains-push (intervals_of past) (interval_of r)))

-- records in an order of chromosomes, each with a base
pub record InOrder (names : List (List ℕ)) (past : List Feature) : Type 0 where
  pub placed : ArePlaced (rank_order names) (intervals_of past)
  pub full : AreNonEmpty (intervals_of past)

pub order_front : (names : List (List ℕ)) (past more : List Feature) → InOrder names (past ++ more) → InOrder names past
order_front names past more o = grind (arith, (placed_prefix (rank_order names) (intervals_of past) (intervals_of more) (rw (← (map-append interval_of past more)) o.placed)), (full_front past more o.full))

module _ {K T S : Type 0} (f : Form K T S) (At : K → List Feature → ℕ → List T → S → Type 0) where
  pub record NoRecords (k : K) (past : List Feature) : Type 0 where
    pub part_is : f.part k past ≡ f.bare k
    pub begins : At k past 0 [] f.fresh

  pub record Divides (k : K) (past : List Feature) (last : Interval) (done : List T) (state : S) : Type 0 where
    pub all : f.part k past ≡ done ++ f.left k state
    pub done_over : f.pick last done ≡ done
    pub left_open : f.pick last (f.left k state) ≡ []

  -- what an engine proves
  pub record Owes (names : List (List ℕ)) : Type 0 where
    -- before any record nothing is settled, and a record elsewhere changes no chromosome's items
    pub nothing : f.settled [] ≡ []
    pub picks : (last : Interval) → Picks (f.pick last)
    pub elsewhere : (k : K) (past : List Feature) (r : Feature) → bytes_eq r.chrom (f.name k) ≡ false → f.part k (past ++ r ∷ []) ≡ f.part k past
    -- the items of a chromosome before the last record's are over, and none of one after it
    pub is_before : (last : Interval) (k : K) (past : List Feature) → (rank_order names).compare (f.name k) last.chrom ≡ Less → f.pick last (f.part k past) ≡ f.part k past
    pub is_behind : (last : Interval) (k : K) (past : List Feature) → (rank_order names).compare (f.name k) last.chrom ≡ Greater → has_records (f.name k) (intervals_of past) ≡ false → f.pick last (f.part k past) ≡ []
    -- the three lemmas
    pub none : (k : K) (past : List Feature) → has_records (f.name k) (intervals_of past) ≡ false → NoRecords k past
    pub next : (k : K) (past : List Feature) (start : ℕ) (done : List T) (state : S) (r : Feature) → At k past start done state → f.name k ≡ r.chrom → start ≤ r.start → r.start < r.stop
        → At k (past ++ r ∷ []) r.start (done ++ f.step k state r) (f.after k state r)
    pub divides : (k : K) (past : List Feature) (last : Interval) (done : List T) (state : S) → At k past last.start done state → f.name k ≡ last.chrom → has_records (f.name k) (intervals_of past) ≡ true → Divides k past last done state

  module _ (keys : List K) where
    -- its output is written in the order of these chromosomes
    pub record Written (past : List Feature) : Type 0 where
      pub whole_is : f.whole past ≡ parts f past keys
      pub settled_is : (last : Interval) → last_of (intervals_of past) ≡ Some last → f.settled past ≡ f.pick last (parts f past keys)

    -- the records reach this chromosome, and this is open on it
    pub record Standing (past : List Feature) (before : List K) (key : K) (after : List K) (state : S) : Type 0 where
      pub last : Interval
      pub done : List T
      pub stand : Stand f.name keys (intervals_of past) last before key after
      pub at : At key past last.start done state

    pub record Somewhere (past : List Feature) : Type 0 where
      pub before : List K
      pub key : K
      pub after : List K
      pub state : S
      pub here : Standing past before key after state

    -- they reach one, if there are records
    abbrev pub Begun : List Feature → Type 0
    Begun [] = ⊤
    Begun (q ∷ qs) = Somewhere (q ∷ qs)

    -- one more record settles these items, and this is open then
    pub record Moves (past : List Feature) (r : Feature) (items : List T) (before : List K) (key : K) (after : List K) (state : S) : Type 0 where
      pub settles : Written past → Written (past ++ r ∷ []) → f.settled (past ++ r ∷ []) ≡ f.settled past ++ items
      pub here : Standing (past ++ r ∷ []) before key after state

    record Turn (past : List Feature) (r : Feature) : Type 0 where
      items : List T
      before : List K
      key : K
      after : List K
      state : S
      moves : Moves past r items before key after state

    module _ (owes : Owes (map f.name keys)) (distinct : AreDistinct (map f.name keys)) where
      parts_other : (past : List Feature) (r : Feature) (ks : List K) → is_among (map f.name ks) r.chrom ≡ false → parts f (past ++ r ∷ []) ks ≡ parts f past ks
      parts_other past r [] away = refl
      parts_other past r (k ∷ ks) away =
          let tests = or_parts (bytes_eq (f.name k) r.chrom) (is_among (map f.name ks) r.chrom) away in
          ap₂ (λ (xs ys : List T). xs ++ ys) (owes.elsewhere k past r (name_ne-sym (f.name k) r.chrom tests.0)) (parts_other past r ks tests.1)

      pub parts_none : (past : List Feature) (ks : List K) → NoneOn f.name (intervals_of past) ks → parts f past ks ≡ bares f ks
      parts_none past [] none = refl
      parts_none past (k ∷ ks) none = ap₂ (λ (xs ys : List T). xs ++ ys) (owes.none k past none.0).part_is (parts_none past ks none.1)

      parts_before : (last : Interval) (past : List Feature) (ks : List K) → AllCompare f.name (map f.name keys) last.chrom Less ks → f.pick last (parts f past ks) ≡ parts f past ks
      parts_before last past [] all = (owes.picks last).nothing
      parts_before last past (k ∷ ks) all =
          (owes.picks last).all (f.part k past) (parts f past ks) (owes.is_before last k past all.0)
          ∙ ap (λ l. f.part k past ++ l) (parts_before last past ks all.1)

      parts_behind : (last : Interval) (past : List Feature) (ks : List K) → AllCompare f.name (map f.name keys) last.chrom Greater ks → NoneOn f.name (intervals_of past) ks → f.pick last (parts f past ks) ≡ []
      parts_behind last past [] all none = (owes.picks last).nothing
      parts_behind last past (k ∷ ks) all none =
          (owes.picks last).none (f.part k past) (parts f past ks) (owes.is_behind last k past all.0 none.0) (parts_behind last past ks all.1 none.1)

      -- the items fall into three: those of the chromosomes before and those done, those left, and those of the chromosomes after
      module _ (past : List Feature) (before : List K) (key : K) (after : List K) (state : S) (s : Standing past before key after state) where
        parts_to : (middle : List K) → NoneOn f.name (intervals_of past) middle → parts f past (before ++ key ∷ middle) ≡ (parts f past before ++ s.done) ++ (f.left key state ++ bares f middle)
        parts_to middle none = grind (arith, flat_map-append, parts_none, append_assoc)

        picked : f.pick s.last (parts f past keys) ≡ parts f past before ++ s.done
        picked =
            let ranked = last_rank f.name keys distinct (intervals_of past) s.last before key after s.stand in
            let less = all_before f.name keys distinct s.last.chrom (length before) ranked [] before (key ∷ after) s.stand.split (omega arith) in
            let split_after : keys ≡ (before ++ key ∷ []) ++ (after ++ []) = s.stand.split ∙ sym (append_assoc before (key ∷ []) after) ∙ ap (λ l. (before ++ key ∷ []) ++ l) (sym (append-nil after)) in
            grind (arith, length-append, all_after, flat_map-append, parts_before, append_assoc, parts_behind, append-nil)

        settled_here : Written past → f.settled past ≡ parts f past before ++ s.done
        settled_here w = w.settled_is s.last s.stand.last_is ∙ picked

        -- what is left at the end
        pub whole_left : Written past → f.whole past ≡ f.settled past ++ (f.left key state ++ bares f after)
        whole_left w = w.whole_is ∙ ap (parts f past) s.stand.split ∙ parts_to after s.stand.none_after ∙ ap (λ l. l ++ (f.left key state ++ bares f after)) (sym (settled_here w))

      -- a record arrives on a chromosome, of which this is open
      module _ {past : List Feature} {r : Feature} {before : List K} {key : K} {after : List K} (a : Arrives f.name keys (intervals_of past) (interval_of r) before key after)
          {start : ℕ} {done : List T} {state : S} (at : At key past start done state) (up : start ≤ r.start) (full : r.start < r.stop) where
        arrived : (items : List T) → (Written past → parts f past before ++ done ≡ f.settled past ++ items) → Moves past r (items ++ f.step key state r) before key after (f.after key state r)
        arrived items was =
            let here : Standing (past ++ r ∷ []) before key after (f.after key state r) = record {
              last = interval_of r;
              done = done ++ f.step key state r;
              stand = rw (intervals_next past r) (stand_at f.name keys distinct (intervals_of past) (interval_of r) before key after a);
              at = owes.next key past start done state r at a.is up full;
            } in
            record {
              settles = λ w_past w.
                  settled_here (past ++ r ∷ []) before key after (f.after key state r) here w
                  ∙ ap (λ l. l ++ (done ++ f.step key state r)) (parts_other past r before (elsewhere_of f.name keys distinct (intervals_of past) (interval_of r) before key after a).0)
                  ∙ sym (append_assoc (parts f past before) done (f.step key state r))
                  ∙ ap (λ l. l ++ f.step key state r) (was w_past)
                  ∙ append_assoc (f.settled past) items (f.step key state r);
              here = here;
            }

      -- the first record
      pub goes_first : (r : Feature) (before : List K) (key : K) (after : List K) → Arrives f.name keys [] (interval_of r) before key after → r.start < r.stop
          → Moves [] r (bares f before ++ f.step key f.fresh r) before key after (f.after key f.fresh r)
      goes_first r before key after a full =
          arrived a (owes.none key [] refl).begins (omega arith) full (bares f before)
          (λ w. append-nil (parts f [] before) ∙ parts_none [] before (none_at_first f.name before) ∙ ap (λ l. l ++ bares f before) (sym owes.nothing))

      module _ {past : List Feature} (r : Feature) {before : List K} {key : K} {after : List K} {state : S} (s : Standing past before key after state) where
        -- one on the chromosome of the last
        pub goes_on : r.chrom ≡ s.last.chrom → s.last.start ≤ r.start → r.start < r.stop → Moves past r (f.step key state r) before key after (f.after key state r)
        goes_on same up full =
            arrived (record { split = s.stand.split; is = s.stand.is ∙ sym same; none_after = s.stand.none_after }) s.at up full []
            (λ w. sym (settled_here past before key after state s w) ∙ sym (append-nil (f.settled past)))

        -- one on a later chromosome
        pub goes_to : (g : GoesTo f.name keys (intervals_of past) (interval_of r) before key after) → r.start < r.stop
            → Moves past r ((f.left key state ++ bares f g.middle) ++ f.step g.next f.fresh r) (before ++ key ∷ g.middle) g.next g.behind (f.after g.next f.fresh r)
        goes_to g full =
            let front = before ++ key ∷ g.middle in
            let more = f.left key state ++ bares f g.middle in
            arrived g.arrives (owes.none g.next past g.none_here).begins (omega arith) full more
            (λ w. append-nil (parts f past front) ∙ parts_to past before key after state s g.middle g.none_between ∙ ap (λ l. l ++ more) (sym (settled_here past before key after state s w)))

        -- it is the one or the other
        pub goes_next : InOrder (map f.name keys) (past ++ r ∷ []) → ((r.chrom ≡ s.last.chrom) × (s.last.start ≤ r.start)) ⊎ GoesTo f.name keys (intervals_of past) (interval_of r) before key after
        goes_next o = goes f.name keys distinct (intervals_of past) (interval_of r) s.last before key after s.stand (rw (← (intervals_next past r)) o.placed)

      turn : (past : List Feature) (r : Feature) → InOrder (map f.name keys) (past ++ r ∷ []) → Begun past → Turn past r
      turn [] r o b =
          let first = begins_at f.name keys distinct (interval_of r) o.placed in
          record { items = _; before = first.1.before; key = first.1.key; after = first.1.after; state = _; moves = goes_first r first.1.before first.1.key first.1.after first.3 (full_last [] r o.full) }
      turn (q ∷ qs) r o b =
          let past = q ∷ qs in
          let full = full_last past r o.full in
          elim (goes_next r b.here o) [
            | inl same ↦ record { items = _; before = b.before; key = b.key; after = b.after; state = _; moves = goes_on r b.here same.0 same.1 full }
            | inr g ↦ record { items = _; before = b.before ++ b.key ∷ g.middle; key = g.next; after = g.behind; state = _; moves = goes_to r b.here g full }
          ]

      -- so records in order reach some chromosome
      has_begun : (past : List Feature) → Somewhere past → Begun past
      has_begun past s = grind arith

      begun_more : (past more : List Feature) → InOrder (map f.name keys) (past ++ more) → Begun past → Begun (past ++ more)
      begun_more past [] o b = subst Begun (sym (append-nil past)) b
      begun_more past (r ∷ rs) o b =
          let grown : (past ++ r ∷ []) ++ rs ≡ past ++ r ∷ rs = append_assoc past (r ∷ []) rs in
          let o_grown = rw (← grown) at o in
          let t = turn past r (order_front (map f.name keys) (past ++ r ∷ []) rs o_grown) b in
          let next = has_begun (past ++ r ∷ []) (record { before = t.before; key = t.key; after = t.after; state = t.state; here = t.moves.here }) in
          subst Begun grown (begun_more (past ++ r ∷ []) rs o_grown next)

      pub begun : (past : List Feature) → InOrder (map f.name keys) past → Begun past
      begun past o = begun_more [] past o tt

      -- each next one settles some items, and some are left at the end
      settles_some : (past : List Feature) (r : Feature) → InOrder (map f.name keys) (past ++ r ∷ []) → Written past → Written (past ++ r ∷ []) → (items : List T) × (f.settled (past ++ r ∷ []) ≡ f.settled past ++ items)
      settles_some past r o w_past w = grind (arith, (turn past r o (begun past (order_front (map f.name keys) past (r ∷ []) o))))

      leaves_some : (past : List Feature) → Written past → Begun past → (items : List T) × (f.whole past ≡ f.settled past ++ items)
      leaves_some [] w b = (f.whole [], ap (λ l. l ++ f.whole []) (sym owes.nothing))
      leaves_some (q ∷ qs) w b = (f.left b.key b.state ++ bares f b.after, whole_left (q ∷ qs) b.before b.key b.after b.state b.here w)

  -- how all of some records are written: in an order of chromosomes in which they come, and their first ones in the same order
  pub record Ordered (all : List Feature) : Type 0 where
    pub keys : List K
    pub owes : Owes (map f.name keys)
    pub distinct : AreDistinct (map f.name keys)
    pub in_order : InOrder (map f.name keys) all
    pub written : (past more : List Feature) → past ++ more ≡ all → Written keys past

  -- if all that it may take is ordered, what is settled begins what is settled later, and the whole
  pub settling : (Taken : List Feature → Type 0) → ((past more : List Feature) → Taken (past ++ more) → Taken past) → ((all : List Feature) → Taken all → Ordered all) → SettlesMore f.settled f.whole Taken
  settling Taken front ordered = record {
    prefix = front;
    next = λ past r t.
        let o = ordered (past ++ r ∷ []) t in
        settles_some o.keys o.owes o.distinct past r o.in_order (o.written past (r ∷ []) refl) (o.written (past ++ r ∷ []) [] (append-nil (past ++ r ∷ [])));
    begins = λ past t.
        let o = ordered past t in
        leaves_some o.keys o.owes o.distinct past (o.written past [] (append-nil past)) (begun o.keys o.owes o.distinct past o.in_order);
  }

-- The chromosomes of a genome file by their ranks, and what is written of those of some ranks, whatever the line of an item is.

-- the name of a chromosome
abbrev pub name_at : Entry → List ℕ
name_at entry = entry.name

-- the chromosome of a rank
pub entry_there : (before : List Entry) (e : Entry) (after : List Entry) (rank : ℕ) → length before ≡ rank → entry_at (before ++ e ∷ after) rank ≡ e
entry_there before e after rank at = rw (← at) (get_or-append_seam before e after (record { name = []; length = 0 }))

pub found_entry : (entries : List Entry) (name : List ℕ) (rank : ℕ) → (f : Found name_at entries name rank) → entry_at entries rank ≡ f.key
found_entry entries name rank f = ap (λ l. entry_at l rank) f.split ∙ entry_there f.before f.key f.after rank f.at

-- the chromosome that a look-up finds is the one of its name
pub found_at : (entries : List Entry) (name : List ℕ) (rank : ℕ) → rank_of (genome_names entries) name ≡ Some rank → IsRanked entries rank
found_at entries name rank is =
    grind (arith, length-append, (found_entry entries name rank (found name_at entries name rank is)))

-- the length of a chromosome, by its name
pub size_there : (before : List Entry) (e : Entry) (after : List Entry) (name : List ℕ) → e.name ≡ name → is_among (genome_names before) name ≡ false → length_in (before ++ e ∷ after) name ≡ e.length
size_there [] e after name is first = cond-true (bytes_eq e.name name) e.length (length_in after name) (name_eq e.name name is)
size_there (b ∷ bs) e after name is first =
    let parts = or_parts (bytes_eq b.name name) (is_among (genome_names bs) name) first in
    cond-false (bytes_eq b.name name) b.length (length_in (bs ++ e ∷ after) name) parts.0 ∙ size_there bs e after name is parts.1

-- and by its rank
pub size_ranked : (entries : List Entry) (name : List ℕ) (rank : ℕ)
    → rank_of (genome_names entries) name ≡ Some rank
    → length_in entries name ≡ (entry_at entries rank).length
size_ranked entries name rank is = grind (arith, size_there, (found_entry entries name rank (found name_at entries name rank is)))

-- what a look-up in the names, or in the lengths, gives of the chromosome
pub name_read : (entries : List Entry) (rank : ℕ) (name : List ℕ) → slice_get (genome_names entries) rank ≡ Some name → (entry_at entries rank).name ≡ name
name_read [] rank name e = cc
name_read (x ∷ xs) zero name e = cc
name_read (x ∷ xs) (suc rank) name e = name_read xs rank name e

pub length_read : (entries : List Entry) (rank size : ℕ) → option_map (λ (e : Entry). e.length) (slice_get entries rank) ≡ Some size → (entry_at entries rank).length ≡ size
length_read [] rank size e = cc
length_read (x ∷ xs) zero size e = cc
length_read (x ∷ xs) (suc rank) size e = length_read xs rank size e

-- one more chromosome
pub slice_more : (entries : List Entry) (first rank : ℕ) → first ≤ rank → rank < length entries → slice_range entries first (rank + 1) ≡ slice_range entries first rank ++ entry_at entries rank ∷ []
slice_more entries first rank low high =
    let none : Entry = record { name = []; length = 0 } in
    grind (arith, (take_at_read (drop first entries) (rank - first) none (let l = length-drop first entries in omega arith)), (get_or-drop first entries (rank - first) none))

-- the chromosomes from one rank to another, by way of a third
slice_split : (entries : List Entry) (first rank stop : ℕ) → first ≤ rank → rank ≤ stop → slice_range entries first stop ≡ slice_range entries first rank ++ slice_range entries rank stop
slice_split entries first rank stop low high = grind (arith, (take-add (rank - first) (stop - rank) (drop first entries)), (drop-drop (rank - first) first entries))

module _ {T : Type 0} (bare : Entry → List T) (entries : List Entry) where
  -- the items of the chromosomes of some ranks, which have no records
  abbrev pub bares_from : ℕ → ℕ → List T
  bares_from first stop = flat_map bare (slice_range entries first stop)

  bares_split : (first rank stop : ℕ) → first ≤ rank → rank ≤ stop → bares_from first stop ≡ bares_from first rank ++ bares_from rank stop
  bares_split first rank stop low high = grind (arith, (slice_split entries first rank stop low high), (flat_map-append bare (slice_range entries first rank) (slice_range entries rank stop)))

  -- what is left before a chromosome, and none lie between if the current one isn't before it
  pub before_from : {S : Type 0} (left : Entry → S → List T) (current : Option (Place S)) (first stop : ℕ) → first ≡ min (names_begun current) stop → left_before left bare entries current stop ≡ left_of left entries current ++ bares_from first stop
  before_from left current first stop is = grind arith

  -- one after another is written, up to one that can't be
  module _ (line : T → List ℕ) {first rank : ℕ} (low : first ≤ rank) (high : rank < length entries) {old mid : Output} (new : Output) (grown : Grown old (flat_map line (bares_from first rank)) mid) where
    one_more : {A : Type 0} (result : Result A Fault) → Adds mid (flat_map line (bare (entry_at entries rank))) result new → Adds old (flat_map line (bares_from first (rank + 1))) result new
    one_more result p = grind (arith, flat_map-append, adds_more, slice_more, append-nil)

    pub one_bare : Grown mid (flat_map line (bare (entry_at entries rank))) new → Grown old (flat_map line (bares_from first (rank + 1))) new
    one_bare p = one_more {A = Unit {0}} (Ok tt) p

    pub bare_cut : (stop : ℕ) (fault : Fault) → rank < stop → Adds {A = Unit {0}} mid (flat_map line (bare (entry_at entries rank))) (Err fault) new → Adds {A = Unit {0}} old (flat_map line (bares_from first stop)) (Err fault) new
    bare_cut stop fault below p =
        let rest = bares_from (rank + 1) stop in
        rw (bares_split first (rank + 1) stop (omega arith) (omega arith), flat_map-append line (bares_from first (rank + 1)) rest)
        (cut_off old new (flat_map line (bares_from first (rank + 1))) (flat_map line rest) (fault_value fault) (one_more {A = Unit {0}} (Err fault) p))
