-- What a merge that keeps the strands apart does with one more record is what the definitions say, whatever the past.
use Rattle.bt_lines.proofs.Std.{length, ◌≡◌, ℕ, ◌+◌, ◌-◌, ◌≤◌, List, [], ◌∷◌, ◌++◌, append-nil, length-append, inr, not, cond, ◌||◌, map, Bool, true, false, bytes_eq, nat_lt, Option, None, Some, Result, Ok, Err, refl, sym, ap, ◌∙◌, arith, prefix_len, slice_get, slice_get-map, option_map, is_err, OnOk, flat_map-append, drop-map, length-map, map-append, map-set, take-map}
use Rattle.bt_lines.specs.calls.Faults.{no_memory}
use Rattle.bt_lines.specs.calls.Names.{fault_value}
use Rattle.bt_lines.specs.calls.Output.{Output, Adds, FailsToAdd, Grown}
use Rattle.bt_lines.specs.declared.fault.Fault.{Fault}
use Rattle.bt_bed.specs.model.Feature.{Feature, Interval, interval_of, is_same_strand}
use Rattle.bt_bed.specs.model.BedLine.{interval_line, interval_lines}
use Rattle.bt_bed.proofs.lemmas.parse.NameLemmas.{name_eq, other_name}
use Rattle.bt_runs.specs.calls.Engine.{AfterEach, fault_of}
use Rattle.bt_runs.specs.model.Merged.{StrandRun, is_closed, places_of, settled_strand_runs}
use Rattle.bt_runs.specs.calls.MergedRuns.{kept_strand_runs}
use Rattle.bt_runs.specs.inside.merge.StrandStep.{joined_at, joined_here, lengthened, left_runs, passed_runs, place_of, placed_run, placed_runs, with_joined, added_at, left_unsettled, settled_prefix, run_from, run_with, with_added, TakesAmong, lines_by, strand_rule, stranding}
use Rattle.bt_runs.specs.inside.Walk.{Does, EnterAnswers, FitsPast, PutsRestAtEnd}
use Rattle.bt_runs.specs.calls.Stranding.{Stranding, held_count, settled_lines, strand_lines}
use Rattle.bt_runs.specs.declared.engine.failure.Failure.{Failure}
use Rattle.bt_runs.specs.declared.merge.pending_runs.PendingRun.{PendingRun}
use Rattle.bt_runs.proofs.lemmas.merge.StrandSettling.{last_place_map, left_none, passed_every, strand_next, strand_runs_are_all}
use Rattle.bt_runs.proofs.lemmas.Engine.{enters, enters_cut, enters_short, none_more}
use Rattle.bt_runs.proofs.lemmas.merge.UnstrandedLemmas.{last_is}

-- a record as a run
abbrev pub pending_from : Feature → PendingRun
pending_from r = record { strand = r.strand; start = r.start; stop = r.stop }

-- what is done with a record
abbrev pub TakesNext : Stranding → Feature → Output → Result (Unit {0}) Fault → Stranding → Output → Type 0
TakesNext = Does strand_rule

prefix_map : {A B : Type 0} (test : B → Bool) (f : A → B) (xs : List A) → prefix_len test (map f xs) ≡ prefix_len (λ x. test (f x)) xs
prefix_map test f [] = refl
prefix_map test f (x ∷ xs) = ap (λ n. cond (test (f x)) (1 + n) 0) (prefix_map test f xs)

-- a new element is added to mapped ones as to those themselves
abbrev added : {A : Type 0} → Bool × List A → List A → A → List A
added joined xs x = cond joined.0 joined.1 (xs ++ x ∷ [])

module _ {A B : Type 0} (f : A → B) (over : A → Bool) (longer : A → A) (over_there : B → Bool) (longer_there : B → B) (o : (x : A) → over_there (f x) ≡ over x) (l : (x : A) → longer_there (f x) ≡ f (longer x)) (xs : List A) where
  added_there : (y : A) (place : ℕ) (found : Option A) → added (joined_here over_there longer_there (map f xs) place (option_map f found)) (map f xs) (f y) ≡ map f (added (joined_here over longer xs place found) xs y)
  added_there y place None = sym (map-append f xs (y ∷ []))
  added_there y place (Some x) = grind (arith, (o x), (l x), map-set, map-append)

  added_map : (y : A) (place : Option ℕ) → added (joined_at over_there longer_there (map f xs) place) (map f xs) (f y) ≡ map f (added (joined_at over longer xs place) xs y)
  added_map y None = sym (map-append f xs (y ∷ []))
  added_map y (Some place) = rw (slice_get-map f xs place) (added_there y place (slice_get xs place))

module _ (gap : ℕ) (chrom : List ℕ) (r : Feature) where
  abbrev here : Bool
  here = bytes_eq chrom r.chrom

  abbrev reach : ℕ
  reach = r.start - gap

  -- the runs that the record settles, and those that stay
  pub front_placed : (runs : List PendingRun) → settled_prefix gap (placed_runs chrom runs) r ≡ placed_runs chrom (passed_runs here reach runs)
  front_placed runs = grind (arith, prefix_map, (take-map (placed_run chrom) (prefix_len (λ (w : PendingRun). not here || nat_lt w.stop reach) runs) runs))

  over_placed : chrom ≡ r.chrom → (w : PendingRun) → is_closed gap (interval_of r) (placed_run chrom w).run ≡ nat_lt w.stop reach
  over_placed on w = grind (arith, (name_eq chrom r.chrom on))

  -- a record on their chromosome is added as to those without it
  pub added_placed : chrom ≡ r.chrom → (rest : List PendingRun) → with_added gap (placed_runs chrom rest) r ≡ placed_runs chrom (added (with_joined reach r.stop rest (place_of r.strand rest)) rest (pending_from r))
  added_placed on rest =
      ap (added_at gap (placed_runs chrom rest) r) (last_place_map (λ item. is_same_strand item.strand r.strand) (placed_run chrom) rest)
      ∙ ap (λ name. added (joined_at (λ item. is_closed gap (interval_of r) item.run) (run_with r) (placed_runs chrom rest) (place_of r.strand rest)) (placed_runs chrom rest) (placed_run name (pending_from r))) (sym on)
      ∙ added_map (placed_run chrom) (λ (w : PendingRun). nat_lt w.stop reach) (lengthened r.stop) (λ item. is_closed gap (interval_of r) item.run) (run_with r) (over_placed on) (λ w. refl) rest (pending_from r) (place_of r.strand rest)

-- what is done with a record on the chromosome of the runs
module _ (old : Stranding) (r : Feature) (out : Output) (runs : List PendingRun) (kept_is : old.kept ≡ placed_runs old.chrom runs) (on : old.chrom ≡ r.chrom) where
  abbrev near : ℕ
  near = r.start - old.gap

  abbrev left : List PendingRun
  left = left_runs true near runs

  here_is : bytes_eq old.chrom r.chrom ≡ true
  here_is = name_eq old.chrom r.chrom on

  behind_is : left_unsettled old.gap old.kept r ≡ placed_runs old.chrom left
  behind_is = grind (arith, here_is, front_placed, length-map, drop-map)

  lines_is : strand_lines (placed_runs old.chrom (passed_runs true near runs)) ≡ lines_by old r
  lines_is = ap strand_lines (sym (grind (arith, front_placed, here_is)))

  pub takes_among : {now : List PendingRun} {new : Stranding} {grown : Output} → TakesAmong near runs (pending_from r) old.chrom out {A = Unit {0}} (Ok tt) now grown → new.gap ≡ old.gap → new.chrom ≡ old.chrom → new.kept ≡ placed_runs old.chrom now → TakesNext old r out (Ok tt) new grown
  takes_among p gap chrom kept = grind (arith, behind_is, lines_is, (added_placed old.gap old.chrom r on left))

  pub fails_among : (failure : Failure) (fault : Fault) (now : List PendingRun) (new : Stranding) {grown : Output} → fault_value fault ≡ fault_of failure → TakesAmong near runs (pending_from r) old.chrom out {A = Unit {0}} (Err failure) now grown → TakesNext old r out (Err fault) new grown
  fails_among failure fault now new is p = grind (arith, behind_is, (added_placed old.gap old.chrom r on left), lines_is, map-append)

-- what was put, if that didn't fail
pub put_well : (out grown : Output) (bytes : List ℕ) (result : Result (Unit {0}) Fault) → is_err result ≡ false → Adds out bytes result grown → Grown out bytes grown
put_well out grown bytes result f p = grind arith

pub went_well : {P : Type 0} (result : Result (Unit {0}) Fault) → is_err result ≡ false → OnOk result P → P
went_well result f p = grind arith

-- no run is the first
pub none_first : (runs : List PendingRun) → slice_get runs 0 ≡ None → runs ≡ []
none_first [] e = refl
none_first (w ∷ ws) e = absurd (cc)

places-append : (xs ys : List StrandRun) → strand_lines (xs ++ ys) ≡ strand_lines xs ++ strand_lines ys
places-append xs ys = ap interval_lines (map-append (λ (item : StrandRun). item.run) xs ys) ∙ flat_map-append interval_line (places_of xs) (places_of ys)

no_lines : (runs : List Interval) → interval_lines runs ≡ [] → runs ≡ []
no_lines [] e = refl
no_lines (run ∷ runs) e = let many = ap length e in absurd (omega (arith, length-append {A = ℕ}))

module _ (merge : Stranding) (r : Feature) where
  next : AfterEach stranding merge r (λ first past. settled_lines first (past ++ r ∷ []) ≡ settled_lines first past ++ lines_by merge r)
  next first past stands taken = grind (arith, (strand_next first.gap past r taken), (places-append (settled_strand_runs first.gap past) (settled_prefix first.gap (kept_strand_runs first.gap past) r)))

  keeps : AfterEach stranding merge r (λ first past. kept_strand_runs first.gap (past ++ r ∷ []) ≡ with_added merge.gap (left_unsettled merge.gap merge.kept r) r)
  keeps first past stands taken = rw (stands.same_gap, stands.kept) (strand_next first.gap past r taken).kept

  -- if a run has to be opened and none was settled, the record isn't quiet
  loud : with_added merge.gap (left_unsettled merge.gap merge.kept r) r ≡ left_unsettled merge.gap merge.kept r ++ run_from r ∷ [] → lines_by merge r ≡ [] → AfterEach stranding merge r (λ first past. held_count first (past ++ r ∷ []) ≤ held_count first past → ⊥)
  loud opens none = grind (arith, no_lines, keeps, length-append)

  -- what is done with a record exactly is done after every past
  pub fits : FitsPast strand_rule merge r
  fits = grind (arith, next, last_is, keeps, none_more, loud)

-- the kept runs' lines are those that are left
pub finishes_kept : {A : Type 0} (merge : Stranding) (out : Output) (result : Result A Fault) (grown : Output) → Adds out (strand_lines merge.kept) result grown
    → PutsRestAtEnd strand_rule merge out result grown
finishes_kept merge out result grown p = grind (arith, strand_runs_are_all, places-append)

abbrev pub Enters : Stranding → List ℕ → Output → Result (Unit {0}) Fault → Stranding → Output → Type 0
Enters = EnterAnswers strand_rule

-- another chromosome is entered
module _ (old : Stranding) (out : Output) (runs : List PendingRun) (kept_is : old.kept ≡ placed_runs old.chrom runs) (chrom : List ℕ) (other : bytes_eq old.chrom chrom ≡ false) where
  not_on : (r : Feature) → r.chrom ≡ chrom → old.chrom ≡ r.chrom → ⊥
  not_on r at on = other_name old.chrom chrom other (on ∙ at)

  all_lines : (r : Feature) → r.chrom ≡ chrom → lines_by old r ≡ strand_lines old.kept
  all_lines r at = grind (arith, front_placed, passed_every)

  none_behind : (r : Feature) → r.chrom ≡ chrom → left_unsettled old.gap old.kept r ≡ []
  none_behind r at = grind (arith, left_none, front_placed, length-map, drop-map)

  pub enter_fails : (fault : Fault) (new : Stranding) (grown : Output) → FailsToAdd out (strand_lines old.kept) (fault_value fault) grown → Enters old chrom out (Err fault) new grown
  enter_fails fault new grown p = enters_cut (fits old) (strand_lines old.kept) fault new grown p (λ r at. ([], all_lines r at ∙ sym (append-nil (strand_lines old.kept))))

  pub enter_runs_out : (fault : Fault) (new : Stranding) (grown : Output) → fault_value fault ≡ no_memory → Grown out (strand_lines old.kept) grown → Enters old chrom out (Err fault) new grown
  enter_runs_out fault new grown is p = enters_short (fits old) (strand_lines old.kept) fault new grown is p (λ r at. (inr (not_on r at), all_lines r at))

  pub entered : (mid : Stranding) (through : Output) → mid.gap ≡ old.gap → mid.kept ≡ [] → Grown out (strand_lines old.kept) through → Enters old chrom out (Ok tt) mid through
  entered mid through gap none closed = enters (fits old) (strand_lines old.kept) {mid = mid} closed
      (λ r at. grind (arith, append-nil, (all_lines r at))) (λ r at new p. grind (arith, (none_behind r at)))
      (λ r at wanted. inr (not_on r at))
