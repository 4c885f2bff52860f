-- The settled runs of several strands and the kept ones, and what one more record does to them.
use Rattle.bt_lines.proofs.Std.{AllByRecursion, any-filter_same, common_steps, ◌≡◌, ℕ, ◌≤◌, List, [], ◌∷◌, ◌++◌, append_assoc, append-nil, refl, sym, ap, ◌∙◌, subst, arith, drop, filter, get_or, length, map, set, Bool, true, false, not, ◌||◌, nat_lt, Option, Some, None, list_any, take_while, ⊤, is_some, and_left, cond-true, cond-false, false≢true, drop_all, drop_at, length-map, take-append-drop, length-prefix_len, take_while-cons, ◌<◌, ◌-◌, suc, ◌⊎◌, Result, Ok, Err, length-append, slice_get, set-get_or, get_or_from_slice_get, slice_get_read}
use Rattle.std.proofs.Math.Seq.{map-set_same}
use Rattle.bt_bed.specs.model.Feature.{Feature, interval_of, intervals_of, Interval, last_of, is_same_strand}
use Rattle.bt_bed.specs.model.BedLine.{interval_line}
use Rattle.bt_bed.proofs.lemmas.order.OrderLemmas.{last_of-push}
use Rattle.bt_runs.specs.model.Merged.{is_closed, merged_runs, passed_by, runs_of_strand, StrandRun, closed_prefix, settled_strand_runs, strand_runs}
use Rattle.bt_runs.specs.calls.MergedRuns.{AreMergeable, kept_strand_runs, settled_runs}
use Rattle.bt_runs.specs.declared.merge.merge_strand.MergeStrand.TheVariants.{One}
use Rattle.bt_runs.specs.calls.Engine.{SettledBegins, SettledStays, SettlesMore}
use Rattle.bt_runs.specs.inside.merge.StrandStep.{added_at, left_unsettled, settled_prefix, last_place, place_among, with_added, count_up_to, counts_up_to_last, place_of, slot_of, lengthened, with_joined, left_runs, passed_runs, placed_run, placed_runs}
use Rattle.bt_runs.proofs.lemmas.order.ByChromosome.{intervals_next}
use Rattle.bt_runs.proofs.lemmas.definitions.Standing.{not_passed, begins, stays}
use Rattle.bt_runs.proofs.lemmas.Lists.{all_both, all_front, all_map, all_so, all_unfilter, all_zip, map_leaves, none_each}
use Rattle.bt_runs.proofs.lemmas.merge.StrandListing.{Unreached, grown, grown_behind, joined_to, on_strand, parted, reaches, join_not, settled_passed, strand_self, Listed, are_listed, listing_next}
use Rattle.bt_runs.proofs.lemmas.merge.SettledRuns.{taken_front}
use Rattle.bt_lines.proofs.lemmas.Writer.{adds_more, adds_some, cut_off, grown_none}
use Rattle.bt_bed.specs.declared.record.strand.Strand.{Strand}
use Rattle.bt_bed.specs.declared.record.strand.Strand.TheVariants.{Plus, Minus, Dot}
use Rattle.bt_runs.specs.declared.merge.pending_runs.PendingRun.{PendingRun}
use Rattle.bt_lines.specs.calls.Output.{Output, Adds, Grown, Puts}
use Rattle.bt_lines.specs.calls.Names.{fault_value}
use Rattle.bt_lines.specs.declared.fault.Fault.{Fault}
use Rattle.bt_runs.specs.calls.Stranding.{strand_lines}

-- the longest prefix that passes a test
module _ {A : Type 0} (test : A → Bool) where
  abbrev pub Stops : List A → Type 0
  Stops [] = ⊤
  Stops (x ∷ xs) = test x ≡ false

  pub take_goes : (x : A) (xs : List A) → test x ≡ true → take_while test (x ∷ xs) ≡ x ∷ take_while test xs
  take_goes x xs t = take_while-cons test x xs ∙ cond-true (test x) (x ∷ take_while test xs) [] t

  pub front_is : (xs ys : List A) → AllByRecursion (λ x. test x ≡ true) xs → Stops ys → take_while test (xs ++ ys) ≡ xs
  front_is [] [] e s = refl
  front_is [] (y ∷ ys) e s = take_while-cons test y ys ∙ cond-false (test y) (y ∷ take_while test ys) [] s
  front_is (x ∷ xs) ys e s = take_goes x (xs ++ ys) e.0 ∙ ap (λ l. x ∷ l) (front_is xs ys e.1 s)

  pub front_passes : (xs : List A) → AllByRecursion (λ x. test x ≡ true) (take_while test xs)
  front_passes [] = tt
  front_passes (x ∷ xs) = grind (arith, (front_passes xs), take_goes)

  pub behind_stops : (xs : List A) → Stops (drop (length (take_while test xs)) xs)
  behind_stops [] = tt
  behind_stops (x ∷ xs) = grind (arith, (behind_stops xs), take_goes)

  pub front_and_behind : (xs : List A) → xs ≡ take_while test xs ++ drop (length (take_while test xs)) xs
  front_and_behind xs = grind (arith, length-prefix_len, take-append-drop)

-- whether an element passes, and the place of the last that does
place_some : {A : Type 0} (test : A → Bool) (xs : List A) → is_some (last_place test xs) ≡ list_any test xs
place_some test [] = refl
place_some test (x ∷ xs) = grind (arith, (place_some test xs))

module _ (gap : ℕ) (r : Feature) where
  abbrev on_its : StrandRun → Bool
  on_its item = is_same_strand item.strand r.strand

  -- of the runs of the record's strand it may reach the last one alone
  abbrev pub OnlyLast : List StrandRun → Type 0
  OnlyLast [] = ⊤
  OnlyLast (x ∷ xs) = (list_any on_its xs ≡ true → reaches gap r x ≡ false) × OnlyLast xs

  only_behind : (xs ys : List StrandRun) → OnlyLast (xs ++ ys) → OnlyLast ys
  only_behind [] ys o = o
  only_behind (x ∷ xs) ys o = only_behind xs ys o.1

  not_reached : (item : StrandRun) → on_its item ≡ false → reaches gap r item ≡ false
  not_reached item f = and_left (is_same_strand item.strand r.strand) (not (is_closed gap (interval_of r) item.run)) f

  -- so it is if it is so of those of its strand alone
  pub only_filter : (xs : List StrandRun) → OnlyLast (filter on_its xs) → OnlyLast xs
  only_filter [] o = tt
  only_filter (x ∷ xs) o = grind (arith, (only_filter xs), (any-filter_same on_its on_its true (λ item e. e) xs), not_reached)

  -- and if it reaches none but one at the end
  pub only_one : (done kept : List StrandRun) → Unreached gap r done → length kept ≤ 1 → OnlyLast (done ++ kept)
  only_one [] [] e few = tt
  only_one [] (k ∷ []) e few = (λ some. absurd (false≢true some), tt)
  only_one [] (k ∷ l ∷ ls) e few = absurd (omega arith)
  only_one (d ∷ ds) kept e few = (λ some. e.0, only_one ds kept e.1 few)

  added_later : (x : StrandRun) (xs : List StrandRun) (place : Option ℕ) → is_some place ≡ true → added_at gap (x ∷ xs) r (place_among (on_its x) place) ≡ x ∷ added_at gap xs r place
  added_later x xs place some = grind arith

  added_here : (x : StrandRun) (xs : List StrandRun) → list_any on_its xs ≡ false → added_at gap (x ∷ xs) r (place_among (on_its x) None) ≡ grown gap r (x ∷ xs)
  added_here x xs none =
      let others = all_so (λ item. on_its item ≡ false) (λ item. reaches gap r item ≡ false) xs (λ item f. not_reached item f) (none_each on_its xs none) in
      grind (arith, append-nil, (grown_behind gap r xs [] others), (grown_behind gap r (x ∷ xs) []), (map_leaves (joined_to gap r) xs (all_so (λ item. reaches gap r item ≡ false) (λ item. joined_to gap r item ≡ item) xs (join_not gap r) others)))

  pub added_is : (xs : List StrandRun) → OnlyLast xs → with_added gap xs r ≡ grown gap r xs
  added_is [] o = refl
  added_is (x ∷ xs) o = grind (arith, (added_is xs o.1), added_later, place_some, added_here)

-- what is so of the listed runs of each strand is so of all
all_strands : (P : StrandRun → Type 0) (items : List StrandRun) → ((strand : Strand) → AllByRecursion (λ item. is_same_strand item.strand strand ≡ true → P item) items) → AllByRecursion P items
all_strands P [] each = tt
all_strands P (x ∷ xs) each = ((each x.strand).0 (strand_self x.strand), all_strands P xs (λ strand. (each strand).1))

module _ (gap : ℕ) where
  -- whether a record closes a run
  abbrev passes : Interval → StrandRun → Bool
  passes last item = is_closed gap last item.run

  -- the settled runs and the kept ones are all
  pub strand_runs_are_all : (past : List Feature) → strand_runs gap past ≡ settled_strand_runs gap past ++ kept_strand_runs gap past
  unfolding settled_strand_runs kept_strand_runs
  strand_runs_are_all past = grind (arith, front_and_behind)

  -- before any record
  pub no_strand_runs : kept_strand_runs gap [] ≡ []
  unfolding settled_strand_runs kept_strand_runs strand_runs
  no_strand_runs = refl

  pub no_strand_settled : settled_strand_runs gap [] ≡ []
  unfolding settled_strand_runs
  no_strand_settled = refl

  module _ (past : List Feature) (r : Feature) (taken : AreMergeable (past ++ r ∷ [])) where
    listed : Listed gap past
    listed = are_listed gap past (taken_front past (r ∷ []) taken)

    -- a run that was closed by the last record is closed by the next one
    closed_still : (last : Interval) → last_of (intervals_of past) ≡ Some last → (strand : Strand) → AllByRecursion (λ item. passes last item ≡ true → passes (interval_of r) item ≡ true) (runs_of_strand gap past strand)
    unfolding settled_runs
    closed_still last is strand =
        let runs = merged_runs gap (One strand) past in
        let P : Interval → Type 0 = λ run. is_closed gap (interval_of r) run ≡ true in
        all_map (λ item. passes last item ≡ true → passes (interval_of r) item ≡ true) (on_strand strand) runs
        (all_unfilter P (is_closed gap last) runs (subst (λ o. AllByRecursion P (passed_by gap runs o)) is (settled_passed gap past r taken (One strand))))

    settled_still : (last : Option Interval) → last_of (intervals_of past) ≡ last → AllByRecursion (λ item. passes (interval_of r) item ≡ true) (closed_prefix gap (strand_runs gap past) last)
    settled_still None is = tt
    settled_still (Some last) is =
        let items = strand_runs gap past in
        let front = closed_prefix gap items (Some last) in
        let Still : StrandRun → Type 0 = λ item. passes last item ≡ true → passes (interval_of r) item ≡ true in
        let still = all_strands Still items (λ strand. all_unfilter Still (λ item. is_same_strand item.strand strand) items (rw (listed.split strand) (closed_still last is strand))) in
        all_zip (λ item. passes last item ≡ true) Still (λ item. passes (interval_of r) item ≡ true) front (λ item t so. so t) (front_passes (passes last) items)
        (all_front Still front (drop (length front) items) (rw (← (front_and_behind (passes last) items)) still))

    only : OnlyLast gap r (strand_runs gap past)
    only =
        let p = parted gap past r taken in
        only_filter gap r (strand_runs gap past) (rw (listed.split r.strand, p.all) (only_one gap r p.done (map (on_strand r.strand) p.kept) p.unreached (rw length-map p.few)))

    stops_added : (items : List StrandRun) → Stops (passes (interval_of r)) items → Stops (passes (interval_of r)) (grown gap r items)
    stops_added items s = grind (arith, common_steps, not_passed)

    pub record Divided : Type 0 where
      pub settled : settled_strand_runs gap (past ++ r ∷ []) ≡ settled_strand_runs gap past ++ settled_prefix gap (kept_strand_runs gap past) r
      pub kept : kept_strand_runs gap (past ++ r ∷ []) ≡ with_added gap (left_unsettled gap (kept_strand_runs gap past) r) r

    -- what one more record settles, and what is kept with it
    pub strand_next : Divided
    unfolding settled_strand_runs kept_strand_runs
    strand_next =
        let x = interval_of r in
        let done = settled_strand_runs gap past in
        let kept = kept_strand_runs gap past in
        let more = settled_prefix gap kept r in
        let rest = left_unsettled gap kept r in
        let front = done ++ more in
        let whole : strand_runs gap past ≡ front ++ rest = strand_runs_are_all past ∙ ap (λ l. done ++ l) (front_and_behind (passes x) kept) ∙ sym (append_assoc done more rest) in
        let passed = all_both (λ item. passes x item ≡ true) done more (settled_still (last_of (intervals_of past)) refl) (front_passes (passes x) kept) in
        let stop = behind_stops (passes x) kept in
        let unreached = all_so (λ item. passes x item ≡ true) (λ item. reaches gap r item ≡ false) front (λ item t. grind arith) passed in
        let added = added_is gap r rest (only_behind gap r front rest (rw (← whole) only)) in
        grind (arith, stops_added, listing_next, listed, (grown_behind gap r front rest unreached), intervals_next, last_of-push, front_is, drop_at)

  settles_strands : SettlesMore (settled_strand_runs gap) (strand_runs gap) AreMergeable
  settles_strands = record {
    prefix = taken_front;
    next = λ past r t. (settled_prefix gap (kept_strand_runs gap past) r, (strand_next past r t).settled);
    begins = λ past t. (kept_strand_runs gap past, strand_runs_are_all past);
  }

-- so the laws
pub stay : (gap : ℕ) → SettledStays (settled_strand_runs gap) AreMergeable
stay gap = stays (settled_strand_runs gap) (strand_runs gap) AreMergeable (settles_strands gap)

pub begin : (gap : ℕ) → SettledBegins (settled_strand_runs gap) (strand_runs gap) AreMergeable
begin gap = begins (settled_strand_runs gap) (strand_runs gap) AreMergeable (settles_strands gap)

-- The place of each strand's last run, as runs are added, joined and taken off, and what is written of those that a record closes.

-- the place of the last element that passes, with one more element
module _ {A : Type 0} (test : A → Bool) where
  pub last_place_pushed : (xs : List A) (y : A) → test y ≡ true → last_place test (xs ++ y ∷ []) ≡ Some (length xs)
  last_place_pushed [] y t = rw t refl
  last_place_pushed (x ∷ xs) y t = ap (place_among (test x)) (last_place_pushed xs y t)

  pub last_place_other : (xs : List A) (y : A) → test y ≡ false → last_place test (xs ++ y ∷ []) ≡ last_place test xs
  last_place_other [] y f = rw f refl
  last_place_other (x ∷ xs) y f = ap (place_among (test x)) (last_place_other xs y f)

  pub last_place_within : (xs : List A) (i : ℕ) → last_place test xs ≡ Some i → i < length xs
  last_place_within [] i e = absurd (cc)
  last_place_within (x ∷ xs) i e = grind (arith, (last_place_within xs))

-- and among mapped elements
pub last_place_map : {A B : Type 0} (test : B → Bool) (f : A → B) (xs : List A) → last_place test (map f xs) ≡ last_place (λ x. test (f x)) xs
last_place_map test f [] = refl
last_place_map test f (x ∷ xs) = ap (place_among (test (f x))) (last_place_map test f xs)

-- the place of the last run of a strand, from the count in its slot
counted_place : (place : Option ℕ) (p : ℕ) → 1 ≤ count_up_to place → p ≡ count_up_to place - 1 → place ≡ Some p
counted_place place p some is = grind arith

pub place_counted : (strand : Strand) (runs : List PendingRun) (p : ℕ) → 1 ≤ get_or (counts_up_to_last runs) (slot_of strand) 0 → p ≡ get_or (counts_up_to_last runs) (slot_of strand) 0 - 1 → place_of strand runs ≡ Some p
place_counted Plus runs p some is = counted_place (place_of Plus runs) p some is
place_counted Minus runs p some is = counted_place (place_of Minus runs) p some is
place_counted Dot runs p some is = counted_place (place_of Dot runs) p some is

-- the counts with one more run
pub added_counts : (runs : List PendingRun) (run : PendingRun) (strand : Strand) → run.strand ≡ strand → set (counts_up_to_last runs) (slot_of strand) (suc (length runs)) ≡ counts_up_to_last (runs ++ run ∷ [])
added_counts runs run strand e = grind (arith, last_place_pushed, last_place_other)

-- a record that is joined to the run at a place, or isn't
pub joined_not : (runs : List PendingRun) (place reach stop : ℕ) (run : PendingRun) → place < length runs → run ≡ get_or runs place run → run.stop < reach
    → (false, set runs place run) ≡ with_joined reach stop runs (Some place)
joined_not runs place reach stop run within is low = grind (arith, set-get_or, slice_get_read)

pub joined_so : (runs : List PendingRun) (place reach stop : ℕ) (run : PendingRun) → place < length runs → run ≡ get_or runs place run → reach ≤ run.stop
    → (true, set runs place (lengthened stop run)) ≡ with_joined reach stop runs (Some place)
joined_so runs place reach stop run within is near = grind (arith, slice_get_read)

-- the counts stay
set_counts : (runs : List PendingRun) (place stop : ℕ) (run : PendingRun) → slice_get runs place ≡ Some run → counts_up_to_last (set runs place (lengthened stop run)) ≡ counts_up_to_last runs
set_counts runs place stop run got =
    let strand_in : PendingRun → Strand = λ w. w.strand in
    let same = map-set_same strand_in runs place (lengthened stop run) run (ap strand_in (sym (get_or_from_slice_get runs place run run got))) in
    let stays = λ (s : Strand). ap count_up_to (sym (last_place_map (λ t. is_same_strand t s) strand_in (set runs place (lengthened stop run))) ∙ ap (last_place (λ t. is_same_strand t s)) same ∙ last_place_map (λ t. is_same_strand t s) strand_in runs) in
    rw (stays Plus, stays Minus, stays Dot) refl

pub joined_counts : (reach stop : ℕ) (runs new : List PendingRun) (place : ℕ) (joined : Bool) → (joined, new) ≡ with_joined reach stop runs (Some place) → counts_up_to_last new ≡ counts_up_to_last runs
joined_counts reach stop runs new place joined is = grind (arith, set_counts)

-- no line is empty
pub line_some : (run : Interval) → interval_line run ≡ [] → ⊥
line_some run e = let many = ap length e in absurd (omega (arith, length-append {A = ℕ}))

module _ (here : Bool) (reach : ℕ) where
  abbrev pub is_over : PendingRun → Bool
  is_over w = not here || nat_lt w.stop reach

  pub over_so : (w : PendingRun) → (here ≡ false) ⊎ (w.stop < reach) → is_over w ≡ true
  over_so w p1 = grind arith

  module _ (now : List PendingRun) (w : PendingRun) (is : slice_get now 0 ≡ Some w) where
    front_next : is_over w ≡ true → passed_runs here reach now ≡ w ∷ passed_runs here reach (drop 1 now)
    front_next t = grind arith

    behind_next : is_over w ≡ true → left_runs here reach now ≡ left_runs here reach (drop 1 now)
    behind_next t = grind arith

    -- none more is over
    pub none_over : here ≡ true → reach ≤ w.stop → (passed_runs here reach now ≡ []) × (left_runs here reach now ≡ now)
    none_over t near = grind arith

  module _ (chrom : List ℕ) where
    -- the lines of the runs that are over
    abbrev pub over_lines : List PendingRun → List ℕ
    over_lines runs = strand_lines (placed_runs chrom (passed_runs here reach runs))

    -- some of the runs were written, and these are left: what puts the lines of those of them that are over has put those of all
    pub record Written (old : Output) (runs : List PendingRun) (mid : Output) (now : List PendingRun) : Type 0 where
      pub puts : (result : Result (Unit {0}) Fault) (new : Output) → Adds mid (over_lines now) result new → Adds old (over_lines runs) result new
      pub behind : left_runs here reach runs ≡ left_runs here reach now

    module _ {old : Output} {runs : List PendingRun} {mid : Output} {now : List PendingRun} (p : Written old runs mid now) where
      pub all_written : passed_runs here reach now ≡ [] → Grown old (over_lines runs) mid
      all_written none = p.puts (Ok tt) mid (rw none (grown_none mid))

      module _ {w : PendingRun} (is : slice_get now 0 ≡ Some w) (over : (here ≡ false) ⊎ (w.stop < reach)) (new : Output) where
        abbrev pub line : List ℕ
        line = interval_line (placed_run chrom w).run

        lines_next : over_lines now ≡ line ++ over_lines (drop 1 now)
        lines_next = ap (λ l. strand_lines (placed_runs chrom l)) (front_next now w is (over_so w over))

        -- the first of them was written, or cut off
        pub next_written : Puts {A = Unit {0}} mid line (Ok tt) new → Written old runs new (drop 1 now)
        next_written q = record {
          puts = λ result later more. p.puts result later (rw lines_next (adds_more mid new later line (over_lines (drop 1 now)) result (adds_some {A = Unit {0}} mid new line (Ok tt) (line_some (placed_run chrom w).run) q) more));
          behind = p.behind ∙ behind_next now w is (over_so w over);
        }

        pub line_cut : (fault : Fault) → Puts {A = Unit {0}} mid line (Err fault) new → Adds {A = Unit {0}} old (over_lines runs) (Err fault) new
        line_cut fault q = p.puts (Err fault) new (rw lines_next (cut_off mid new line (over_lines (drop 1 now)) (fault_value fault) (adds_some {A = Unit {0}} mid new line (Err fault) (line_some (placed_run chrom w).run) q)))

-- if the record lies elsewhere, all are over, and none is left
pub passed_every : (reach : ℕ) (runs : List PendingRun) → passed_runs false reach runs ≡ runs
passed_every reach [] = refl
passed_every reach (w ∷ ws) = take_goes (is_over false reach) w ws refl ∙ ap (λ l. w ∷ l) (passed_every reach ws)

pub left_none : (reach : ℕ) (runs : List PendingRun) → left_runs false reach runs ≡ []
left_none reach runs = grind (arith, (passed_every reach runs), drop_all)
