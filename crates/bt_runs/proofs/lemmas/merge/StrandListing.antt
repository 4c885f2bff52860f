-- The runs of several strands, listed by their first records: what one more record does to the list.
use Rattle.bt_lines.proofs.Std.{AllByRecursion, rules, ◌≡◌, ℕ, ◌≤◌, inl, inr, List, [], ◌∷◌, ◌++◌, append-nil, refl, sym, ap, ◌∙◌, subst, arith, cond, filter, length, map, Bool, true, false, not, ◌&&◌, list_any, cases_Bool, cond-true, cond-false, false≢true, map-append, ◌+◌, ◌<◌, ◌⊎◌, append_assoc, false_from_ne_true, filter-append, recursion_from_All, any-filter_same}
use Rattle.bt_bed.specs.model.Feature.{Feature, interval_of, intervals_of, Interval, last_of, is_same_strand}
use Rattle.bt_bed.specs.model.Sorted.{has_records}
use Rattle.bt_bed.specs.calls.Orders.{AreContiguous}
use Rattle.bt_bed.specs.declared.record.strand.Strand.{Strand}
use Rattle.bt_bed.proofs.lemmas.order.OrderLemmas.{last_of-push}
use Rattle.bt_runs.specs.model.Merged.{merged, is_closed, merged_runs, StrandRun, runs_of_strand, begun_by, is_in, listed_after, strand_runs}
use Rattle.bt_runs.specs.calls.MergedRuns.{AreMergeable, kept_runs, settled_runs}
use Rattle.bt_runs.specs.inside.merge.UnstrandedStep.{runs_left_by, settled_by, runs_with}
use Rattle.bt_runs.specs.inside.merge.StrandStep.{run_from, run_with}
use Rattle.bt_runs.specs.declared.merge.merge_strand.MergeStrand.{MergeStrand}
use Rattle.bt_runs.specs.declared.merge.merge_strand.MergeStrand.TheVariants.{One}
use Rattle.bt_runs.proofs.lemmas.order.ByChromosome.{intervals_next, full_front, full_last}
use Rattle.bt_runs.proofs.lemmas.definitions.Standing.{has_records-here, counted-append}
use Rattle.bt_runs.proofs.lemmas.Lists.{Some_of, all_and, all_any, all_both, all_filter, all_front, all_map, all_so, all_back, all_unmap, all_zip, any_from, any_same, any_some, filter_changed, filter_none, filter_passes, none_each, none_from, some_each, some_left, some_map, some_right, some_with, some_weaker}
use Rattle.bt_runs.proofs.lemmas.merge.SettledRuns.{next_taken, taken_front, whole_taken}

-- strands that are one
pub strand_self : (s : Strand) → is_same_strand s s ≡ true
strand_self s = grind arith

-- contiguous records: one before the next on its chromosome doesn't start after it
not_gone : (x r : Interval) (xs : List Interval) → x.chrom ≡ r.chrom → has_records x.chrom (xs ++ r ∷ []) ≡ false → ⊥
not_gone x r xs e gone = false≢true (sym gone ∙ has_records-here x.chrom xs r (sym e))

pub up_to : (xs : List Interval) (r : Interval) → AreContiguous (xs ++ r ∷ []) → AllByRecursion (λ p. p.chrom ≡ r.chrom → p.start ≤ r.start) xs
up_to [] r t = tt
up_to (x ∷ []) r t = (λ e. elim t.0 [ inl s ↦ s.1 | inr gone ↦ absurd (not_gone x r [] e gone) ], tt)
up_to (x ∷ y ∷ ys) r t = grind (arith, (up_to (y ∷ ys) r t.1), not_gone)

-- a record is joined to a run of its strand that it doesn't close
abbrev pub reaches : ℕ → Feature → StrandRun → Bool
reaches gap r item = is_same_strand item.strand r.strand && not (is_closed gap (interval_of r) item.run)

abbrev pub joined_to : ℕ → Feature → StrandRun → StrandRun
joined_to gap r item = cond (reaches gap r item) (run_with r item) item

-- and else it is a run of its own
abbrev pub new_run : Bool → Feature → List StrandRun
new_run reached r = cond reached [] (run_from r ∷ [])

-- a run of the strand
abbrev pub on_strand : Strand → Interval → StrandRun
on_strand strand run = record { strand = strand; run = run }

-- the runs with the record
abbrev pub grown : ℕ → Feature → List StrandRun → List StrandRun
grown gap r items = map (joined_to gap r) items ++ new_run (list_any (reaches gap r) items) r

module _ (gap : ℕ) (r : Feature) where
  abbrev pub Unreached : List StrandRun → Type 0
  Unreached items = AllByRecursion (λ item. reaches gap r item ≡ false) items

  -- the first ones stay as they are if it reaches none of them
  pub grown_behind : (front items : List StrandRun) → Unreached front → grown gap r (front ++ items) ≡ front ++ grown gap r items
  grown_behind [] items e = refl
  grown_behind (f ∷ fs) items e = rw (e.0) (ap (λ l. f ∷ l) (grown_behind fs items e.1))

  -- and a run of its strand is joined or closed
  one_grown : (kept : List Interval) → length kept ≤ 1
      → map (on_strand r.strand) (settled_by gap kept (interval_of r) ++ runs_with (runs_left_by gap kept (interval_of r)) (interval_of r)) ≡ grown gap r (map (on_strand r.strand) kept)
  one_grown [] few = refl
  one_grown (k ∷ []) few = elim (cases_Bool (is_closed gap (interval_of r) k)) [ inl t ↦ rw (strand_self r.strand, t) refl | inr f ↦ rw (strand_self r.strand, f) refl ]
  one_grown (k ∷ l ∷ ls) few = absurd (omega arith)

module _ (gap : ℕ) (past : List Feature) (r : Feature) (taken : AreMergeable (past ++ r ∷ [])) where
  -- what is settled of a strand's runs is closed by the record
  pub settled_passed : (strand : MergeStrand) → AllByRecursion (λ run. is_closed gap (interval_of r) run ≡ true) (settled_runs gap strand past)
  unfolding settled_runs
  settled_passed strand =
      let x = interval_of r in
      let last = ap last_of (intervals_next past r) ∙ last_of-push (intervals_of past) x in
      grind (arith, all_front, (next_taken gap strand past r taken), (filter_passes (is_closed gap x) (merged_runs gap strand (past ++ r ∷ []))))

  -- a strand's runs: those that the record doesn't reach, and one more at most
  pub record Parted : Type 0 where
    pub done : List StrandRun
    pub kept : List Interval
    pub all : runs_of_strand gap past r.strand ≡ done ++ map (on_strand r.strand) kept
    pub unreached : Unreached gap r done
    pub few : length kept ≤ 1
    pub next : runs_of_strand gap (past ++ r ∷ []) r.strand ≡ done ++ map (on_strand r.strand) (settled_by gap kept (interval_of r) ++ runs_with (runs_left_by gap kept (interval_of r)) (interval_of r))

  pub parted : Parted
  parted =
      let strand = One r.strand in
      let whole = whole_taken gap strand past (taken_front past (r ∷ []) taken) in
      let more = whole_taken gap strand (past ++ r ∷ []) taken in
      let step = next_taken gap strand past r taken in
      record {
        done = map (on_strand r.strand) (settled_runs gap strand past);
        kept = kept_runs gap strand past;
        all = grind (arith, map-append);
        unreached = grind (arith, all_map, all_so, (settled_passed strand));
        few = whole.few;
        next = grind (arith, map-append, append_assoc, strand_self);
      }

  -- so one more record is joined to a run of its strand, or is a new one after them
  pub same_next : runs_of_strand gap (past ++ r ∷ []) r.strand ≡ grown gap r (runs_of_strand gap past r.strand)
  same_next =
      let p = parted in
      grind (arith, (one_grown gap r p.kept p.few), (grown_behind gap r p.done (map (on_strand r.strand) p.kept) p.unreached))

-- The runs of several strands, listed by their first records: what one more record does to the list.

-- a record of a run
pub record Lies (item : StrandRun) (p : Feature) : Type 0 where
  pub same : item.strand ≡ p.strand
  pub on : item.run.chrom ≡ p.chrom
  pub from : item.run.start ≤ p.start
  pub to : p.stop ≤ item.run.stop

pub lies_true : (item : StrandRun) (p : Feature) → Lies item p → is_in item p ≡ true
lies_true item p l = search rules

true_lies : (item : StrandRun) (p : Feature) → is_in item p ≡ true → Lies item p
true_lies item p t = search rules

-- a record of a run's strand doesn't reach past the run, or starts beyond the gap
abbrev pub IsWithinOrFar : ℕ → StrandRun → Feature → Type 0
IsWithinOrFar gap item p = item.strand ≡ p.strand → item.run.chrom ≡ p.chrom → (p.stop ≤ item.run.stop) ⊎ (item.run.stop + gap < p.start)

-- what is known of the listed runs of some records
pub record Listed (gap : ℕ) (past : List Feature) : Type 0 where
  pub lies : AllByRecursion (λ p. Some_of (λ item. Lies item p) (strand_runs gap past)) past
  pub has : AllByRecursion (λ item. Some_of (λ p. Lies item p) past) (strand_runs gap past)
  pub apart : AllByRecursion (λ item. AllByRecursion (λ p. IsWithinOrFar gap item p) past) (strand_runs gap past)
  pub split : (strand : Strand) → filter (λ item. is_same_strand item.strand strand) (strand_runs gap past) ≡ runs_of_strand gap past strand

pub listed_append : (runs : Strand → List StrandRun) (before xs ys : List Feature) → listed_after runs before (xs ++ ys) ≡ listed_after runs before xs ++ listed_after runs (before ++ xs) ys
listed_append runs before [] ys = ap (λ l. listed_after runs l ys) (sym (append-nil before))
listed_append runs before (x ∷ xs) ys = grind (arith, (listed_append runs (before ++ x ∷ []) xs ys), append_assoc)

module _ (gap : ℕ) (r : Feature) where
  -- a run that the record reaches, and one that it doesn't
  pub record Reached (item : StrandRun) : Type 0 where
    pub same : item.strand ≡ r.strand
    pub on : item.run.chrom ≡ r.chrom
    pub near : r.start ≤ item.run.stop + gap

  pub reached : (item : StrandRun) → reaches gap r item ≡ true → Reached item
  reached item t = search rules

  pub unreached : (item : StrandRun) → reaches gap r item ≡ false → item.strand ≡ r.strand → item.run.chrom ≡ r.chrom → item.run.stop + gap < r.start
  unreached item f same on = search rules

  pub join_is : (item : StrandRun) → reaches gap r item ≡ true → joined_to gap r item ≡ run_with r item
  join_is item t = cond-true (reaches gap r item) (run_with r item) item t

  pub join_not : (item : StrandRun) → reaches gap r item ≡ false → joined_to gap r item ≡ item
  join_not item f = cond-false (reaches gap r item) (run_with r item) item f

  lies_joined : (item : StrandRun) (p : Feature) → Lies item p → Lies (joined_to gap r item) p
  lies_joined item p l = grind arith

  -- no record of before comes to lie in a run that the record makes longer
  pub same_in : (item : StrandRun) (p : Feature) → IsWithinOrFar gap item p → (p.chrom ≡ r.chrom → p.start ≤ r.start) → is_in (joined_to gap r item) p ≡ is_in item p
  same_in item p apart up = search rules

  -- those of a new run's strand end before it
  before_new : (items : List StrandRun) → AllByRecursion (λ item. reaches gap r item ≡ false) items → (p : Feature) → Some_of (λ item. Lies item p) items → r.strand ≡ p.strand → r.chrom ≡ p.chrom → p.stop < r.start
  before_new items none p some same on = some_with (λ item. Lies item p) (λ item. reaches gap r item ≡ false) (p.stop < r.start) (λ item l f. let far = unreached item f (l.same ∙ sym same) (l.on ∙ sym on) in let h = l.to in omega arith) items some none

  -- and so none lies in it
  pub not_in_new : (items : List StrandRun) → AllByRecursion (λ item. reaches gap r item ≡ false) items → (p : Feature) → Some_of (λ item. Lies item p) items → p.start < p.stop → is_in (run_from r) p ≡ false
  not_in_new items none p some full = false_from_ne_true (is_in (run_from r) p) (λ i.
      let l = true_lies (run_from r) p i in
      let h = before_new items none p some l.same l.on in let g = l.from in absurd (omega arith))

module _ (gap : ℕ) (past : List Feature) (r : Feature) (taken : AreMergeable (past ++ r ∷ [])) (listed : Listed gap past) where
  -- whether the record is joined to a run
  abbrev pub some_reached : Bool
  some_reached = list_any (reaches gap r) (strand_runs gap past)

  abbrev Up : Feature → Type 0
  Up p = p.chrom ≡ r.chrom → p.start ≤ r.start

  pub up : AllByRecursion (λ p. p.chrom ≡ r.chrom → p.start ≤ r.start) past
  up = grind (arith, all_unmap, up_to, intervals_next)

  pub some_base : AllByRecursion (λ p. p.start < p.stop) past
  some_base = all_unmap (λ p. p.start < p.stop) interval_of past (recursion_from_All (λ p. p.start < p.stop) (intervals_of past) (full_front past (r ∷ []) taken.full))

  full : r.start < r.stop
  full = full_last past r taken.full

  reached_split : list_any (reaches gap r) (runs_of_strand gap past r.strand) ≡ some_reached
  reached_split = rw (← (listed.split r.strand)) (any-filter_same (reaches gap r) (λ item. is_same_strand item.strand r.strand) true (λ item t. grind arith) (strand_runs gap past))

  -- the runs of each strand, with the record
  leaves_other : (strand : Strand) (runs : List Interval) → is_same_strand strand r.strand ≡ false → map (joined_to gap r) (map (on_strand strand) runs) ≡ map (on_strand strand) runs
  leaves_other strand [] other = refl
  leaves_other strand (run ∷ runs) other = grind (arith, (leaves_other strand runs other))

  runs_next : (strand : Strand) → runs_of_strand gap (past ++ r ∷ []) strand ≡ map (joined_to gap r) (runs_of_strand gap past strand) ++ cond (is_same_strand strand r.strand) (new_run some_reached r) []
  runs_next strand = grind (arith, same_next, reached_split, leaves_other, append-nil, counted-append)

  -- what is so of each listed run is so of each run of a strand
  of_strand : (P : StrandRun → Type 0) → AllByRecursion P (strand_runs gap past) → (strand : Strand) → AllByRecursion P (runs_of_strand gap past strand)
  of_strand P each strand = rw (← (listed.split strand)) (all_filter P (λ item. is_same_strand item.strand strand) (strand_runs gap past) each)

  abbrev Same : StrandRun → Feature → Type 0
  Same item p = is_in (joined_to gap r item) p ≡ is_in item p

  -- the record changes nothing about where others lie
  record Stays (others : List Feature) : Type 0 where
    same : (strand : Strand) → AllByRecursion (λ item. AllByRecursion (Same item) others) (runs_of_strand gap past strand)
    not_new : some_reached ≡ false → AllByRecursion (λ p. is_in (run_from r) p ≡ false) others

  stays : Stays past
  stays = record {
    same = of_strand (λ item. AllByRecursion (Same item) past)
        (all_so (λ item. AllByRecursion (λ p. IsWithinOrFar gap item p) past) (λ item. AllByRecursion (Same item) past) (strand_runs gap past) (λ item apart. all_zip (λ p. IsWithinOrFar gap item p) Up (Same item) past (same_in gap r item) apart up) listed.apart);
    not_new = λ f. all_zip (λ p. Some_of (λ item. Lies item p) (strand_runs gap past)) (λ p. p.start < p.stop) (λ p. is_in (run_from r) p ≡ false) past (not_in_new gap r (strand_runs gap past) (none_each (reaches gap r) (strand_runs gap past) f)) listed.lies some_base;
  }

  -- a record of before begins the run that it began
  begun_same : (before : List Feature) (q : Feature) (rest : List Feature) → Stays (before ++ q ∷ rest)
      → begun_by (runs_of_strand gap (past ++ r ∷ []) q.strand) before q ≡ map (joined_to gap r) (begun_by (runs_of_strand gap past q.strand) before q)
  begun_same before q rest s =
      let Test : StrandRun → Bool = λ item. is_in item q && not (list_any (is_in item) before) in
      let alike = all_so (λ item. AllByRecursion (Same item) (before ++ q ∷ rest)) (λ item. Test (joined_to gap r item) ≡ Test item) (runs_of_strand gap past q.strand) (λ item e. grind (arith, (all_back (Same item) before (q ∷ rest) e), (all_front (Same item) before (q ∷ rest) e), any_same)) (s.same q.strand) in
      let apart : some_reached ≡ false → is_in (run_from r) q ≡ false = λ f. (all_back (λ p. is_in (run_from r) p ≡ false) before (q ∷ rest) (s.not_new f)).0 in
      grind (arith, runs_next, filter-append, filter_changed, append-nil)

  front_same : (before rest : List Feature) → Stays (before ++ rest)
      → listed_after (runs_of_strand gap (past ++ r ∷ [])) before rest ≡ map (joined_to gap r) (listed_after (runs_of_strand gap past) before rest)
  front_same before [] s = refl
  front_same before (q ∷ qs) s = grind (arith, (front_same (before ++ q ∷ []) qs (subst Stays (sym (append_assoc before (q ∷ []) qs)) s)), (begun_same before q qs s), map-append)

  own_lies : Lies (run_from r) r
  own_lies = record { same = refl; on = refl; from = omega arith; to = omega arith }

  -- the record itself begins a run if it reaches none
  abbrev begins : StrandRun → Bool
  begins item = is_in item r && not (list_any (is_in item) past)

  begins_no_old : (item : StrandRun) → Some_of (λ p. Lies item p) past → begins (joined_to gap r item) ≡ false
  begins_no_old item has = grind (arith, any_from, some_weaker, lies_true)

  last_begun : begun_by (runs_of_strand gap (past ++ r ∷ []) r.strand) past r ≡ new_run some_reached r
  last_begun =
      let runs = runs_of_strand gap past r.strand in
      let none = filter_none begins (map (joined_to gap r) runs) (all_map (λ item. begins item ≡ false) (joined_to gap r) runs
      (of_strand (λ item. begins (joined_to gap r item) ≡ false) (all_so (λ item. Some_of (λ p. Lies item p) past) (λ item. begins (joined_to gap r item) ≡ false) (strand_runs gap past) begins_no_old listed.has) r.strand)) in
      let here = lies_true (run_from r) r own_lies in
      let no_other : some_reached ≡ false → list_any (is_in (run_from r)) past ≡ false = λ f. none_from (is_in (run_from r)) past (stays.not_new f) in
      grind (arith, runs_next, filter-append)

  -- so the list with the record: it is joined to a run that it reaches, or comes last
  pub listing_next : strand_runs gap (past ++ r ∷ []) ≡ map (joined_to gap r) (strand_runs gap past) ++ new_run some_reached r
  unfolding strand_runs
  listing_next = grind (arith, listed_append, (front_same [] past stays), last_begun)

  -- what is so of each listed run is so of each with the record
  each_next : (P Q : StrandRun → Type 0) → ((item : StrandRun) → P item → Q (joined_to gap r item)) → (some_reached ≡ false → Q (run_from r)) → AllByRecursion P (strand_runs gap past) → AllByRecursion Q (strand_runs gap (past ++ r ∷ []))
  each_next P Q old new each =
      let newest : AllByRecursion Q (new_run some_reached r) = grind arith in
      rw listing_next (all_both Q (map (joined_to gap r) (strand_runs gap past)) (new_run some_reached r) (all_map Q (joined_to gap r) (strand_runs gap past) (all_so P (λ item. Q (joined_to gap r item)) (strand_runs gap past) old each)) newest)

  next_lies : AllByRecursion (λ p. Some_of (λ item. Lies item p) (strand_runs gap (past ++ r ∷ []))) (past ++ r ∷ [])
  next_lies =
      let old = strand_runs gap past in
      let In : Feature → List StrandRun → Type 0 = λ p items. Some_of (λ item. Lies item p) items in
      let before = all_so (λ p. In p old) (λ p. In p (map (joined_to gap r) old ++ new_run some_reached r)) past (λ p some. some_left (λ item. Lies item p) (map (joined_to gap r) old) (new_run some_reached r)
      (some_map (λ item. Lies item p) (joined_to gap r) old (some_weaker (λ item. Lies item p) (λ item. Lies (joined_to gap r item) p) (λ item. lies_joined gap r item p) old some))) listed.lies in
      let last : In r (map (joined_to gap r) old ++ new_run some_reached r) = elim (cases_Bool some_reached) [
        | inl t ↦ some_left (λ item. Lies item r) (map (joined_to gap r) old) (new_run some_reached r) (some_map (λ item. Lies item r) (joined_to gap r) old
            (some_each (λ item. reaches gap r item ≡ true) (λ item. Some_of (λ p. Lies item p) past) (λ item. Lies (joined_to gap r item) r) (λ item reach has.
            let now = reached gap r item reach in
            some_with (λ p. Lies item p) Up (Lies (joined_to gap r item) r) (λ p l low.
            let h = low (sym l.on ∙ now.on) in
            let from = l.from in
            rw (join_is gap r item reach) (record { same = now.same; on = now.on; from = omega arith; to = omega arith })) past has up)
            old (any_some (reaches gap r) old t) listed.has))
        | inr f ↦ grind (arith, some_right)
      ] in
      rw listing_next (all_both (λ p. In p (map (joined_to gap r) old ++ new_run some_reached r)) past (r ∷ []) before (last, tt))

  next_has : AllByRecursion (λ item. Some_of (λ p. Lies item p) (past ++ r ∷ [])) (strand_runs gap (past ++ r ∷ []))
  next_has =
      each_next (λ item. Some_of (λ p. Lies item p) past) (λ item. Some_of (λ p. Lies item p) (past ++ r ∷ []))
      (λ item has. some_left (λ p. Lies (joined_to gap r item) p) past (r ∷ []) (some_weaker (λ p. Lies item p) (λ p. Lies (joined_to gap r item) p) (lies_joined gap r item) past has))
      (λ f. some_right (λ p. Lies (run_from r) p) past (r ∷ []) (inl own_lies)) listed.has

  -- a run that was listed before
  apart_old : (item : StrandRun) → AllByRecursion (λ p. IsWithinOrFar gap item p) past → AllByRecursion (λ p. IsWithinOrFar gap (joined_to gap r item) p) (past ++ r ∷ [])
  apart_old item each = grind (arith, (reached gap r item), (unreached gap r item), all_both, all_so, (all_and (λ p. IsWithinOrFar gap item p) Up past each up))

  apart_new : some_reached ≡ false → AllByRecursion (λ p. IsWithinOrFar gap (run_from r) p) (past ++ r ∷ [])
  apart_new f =
      let none = none_each (reaches gap r) (strand_runs gap past) f in
      all_both (λ p. IsWithinOrFar gap (run_from r) p) past (r ∷ [])
      (all_so (λ p. Some_of (λ item. Lies item p) (strand_runs gap past)) (λ p. IsWithinOrFar gap (run_from r) p) past (λ p some same on. let h = before_new gap r (strand_runs gap past) none p some same on in let g = full in inl (omega arith)) listed.lies)
      (λ same on. inl (omega arith), tt)

  pub listed_next : Listed gap (past ++ r ∷ [])
  listed_next = record { lies = next_lies; has = next_has; apart = each_next (λ item. AllByRecursion (λ p. IsWithinOrFar gap item p) past) (λ item. AllByRecursion (λ p. IsWithinOrFar gap item p) (past ++ r ∷ [])) apart_old apart_new listed.apart; split = grind (arith, listing_next, filter-append, filter_changed, all_any, runs_next) }

-- so it is of all records
listed_none : (gap : ℕ) → Listed gap []
unfolding strand_runs merged
listed_none gap = record { lies = tt; has = tt; apart = tt; split = λ strand. refl }

listed_more : (gap : ℕ) (past more : List Feature) → AreMergeable (past ++ more) → Listed gap past → Listed gap (past ++ more)
listed_more gap past [] t l = rw (append-nil past) l
listed_more gap past (r ∷ rs) t l =
    let grown : (past ++ r ∷ []) ++ rs ≡ past ++ r ∷ rs = append_assoc past (r ∷ []) rs in
    let t_grown = subst AreMergeable (sym grown) t in
    rw (← grown) (listed_more gap (past ++ r ∷ []) rs t_grown (listed_next gap past r (taken_front (past ++ r ∷ []) rs t_grown) l))

pub are_listed : (gap : ℕ) (past : List Feature) → AreMergeable past → Listed gap past
are_listed gap past t = listed_more gap [] past t (listed_none gap)
