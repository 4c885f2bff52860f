-- The records that are open at a position and at later ones, how many of them cover a position, and their ends, counted by every test of an end.
use Rattle.bt_lines.proofs.Std.{common_steps, ◌≡◌, ℕ, ◌+◌, ◌<◌, ◌≤◌, inl, inr, List, [], ◌∷◌, ◌++◌, refl, sym, ap, ◌∙◌, arith, All, filter, length, nat_le, not, false, cond, ◌&&◌, nat_lt, slice_index_or, subst, Bool, MatchBool, true, IfSome, IsSome, Option, Some, None, cases_Bool, cases_lt, lt-ltb, le-ltb, le-leb, map-append, length-filter_both, All-filter, All-head, All-nil, All-tail, All-weaker, All-push, filter-append, filter_agree, filter_passes, IsUpperBound, PopsGreatest, IsPermutation, nat_cmp, IsPermutation-map, sum_by-IsPermutation, length-filter, ap₂, length-append, map, bytes_eq, or_parts, ◌-◌, append_assoc, append-nil, zero, suc}
use Rattle.bt_bed.specs.model.Feature.{Span, Feature, intervals_of, covers}
use Rattle.bt_bed.specs.model.Levels.{Level}
use Rattle.bt_bed.specs.calls.LevelScan.{Begun, begun_after, ended_after, level_ended_at, begun_at, goes_on_with, levels_from}
use Rattle.bt_runs.specs.model.Depth.{depth_at, counted_on, depth_of, reported, levels_of}
use Rattle.bt_runs.specs.calls.Covering.{cut_at, spans_open_at, begun_across}
use Rattle.bt_runs.specs.inside.Coverage.{still_open, CountsFrom, IsLeastFirst, StartsBelow, ends_of, KeepsEnds, Known, known_by, levels_by, levels_left}
use Rattle.std.specs.declared.cmp.Reverse.{Reverse}
use Rattle.bt_bed.specs.model.Sorted.{has_records}
use Rattle.bt_bed.specs.declared.record.strand.Strand.{Strand}
use Rattle.bt_runs.proofs.lemmas.order.FileOrder.{spans_on-append}
use Rattle.bt_runs.proofs.lemmas.coverage.LevelLemmas.{AreSame, StopIn, scan_run, scan_same, scan_split, ended_after-stop, stop_wider, BeginsBelow, BeginsFrom, begun_after-below, stop_both}
use Rattle.bt_bed.proofs.lemmas.LevelScans.{levels_more}

-- what a filter keeps
module _ {X : Type 0} (p : X → Bool) where
  filter_stays : (xs : List X) → All (λ x. p x ≡ true) xs → filter p xs ≡ xs
  filter_stays [] all = refl
  filter_stays (x ∷ xs) all = rw (All-head (λ x. p x ≡ true) x xs all) (ap (λ l. x ∷ l) (filter_stays xs (All-tail (λ x. p x ≡ true) x xs all)))

  filter_few : (xs : List X) → length (filter p xs) ≤ length xs
  filter_few xs = let all = length-filter_both p (λ x. not (p x)) (λ x. refl) xs in omega arith

  -- where there are no more than are kept, all are
  filter_full : (xs : List X) → length xs ≤ length (filter p xs) → filter p xs ≡ xs
  filter_full [] many = refl
  filter_full (x ∷ xs) many = elim (cases_Bool (p x)) [
    | inl t ↦
        let many : length (x ∷ xs) ≤ length (x ∷ filter p xs) = rw t at many in
        rw t (ap (λ l. x ∷ l) (filter_full xs (omega arith)))
    | inr f ↦ grind (arith, filter_few)
  ]

  -- the elements that pass two tests
  filter_both : (q : X → Bool) (xs : List X) → filter (λ x. p x && q x) xs ≡ filter q (filter p xs)
  filter_both q [] = refl
  filter_both q (x ∷ xs) = grind (arith, (filter_both q xs))

all_from : {X : Type 0} (end : X → ℕ) (position : ℕ) (xs : List X) → All (λ x. position ≤ end x) xs → filter (λ x. nat_le position (end x)) xs ≡ xs
all_from end position xs all =
    filter_stays (λ x. nat_le position (end x)) xs (All-weaker (λ x. position ≤ end x) (λ x. nat_le position (end x) ≡ true) (λ x low. le-leb position (end x) low) xs all)

pub open_after : (first later : ℕ) (spans : List Span) → first ≤ later → still_open later (still_open first spans) ≡ still_open later spans
open_after first later spans up =
    sym (filter_both (λ (s : Span). nat_le first s.stop) (λ s. nat_le later s.stop) spans)
    ∙ filter_agree (λ (s : Span). nat_le first s.stop && nat_le later s.stop) (λ s. nat_le later s.stop) (λ s. grind arith) spans

-- those that are the same at a position are at a later one
pub same_later : (first later : ℕ) (xs ys : List Span) → first ≤ later → still_open first xs ≡ still_open first ys → still_open later xs ≡ still_open later ys
same_later first later xs ys up same = sym (open_after first later xs up) ∙ ap (still_open later) same ∙ open_after first later ys up

-- none of them ends before
pub all_open : (position : ℕ) (spans : List Span) → All (λ s. position ≤ s.stop) (still_open position spans)
all_open position spans = grind (arith, filter_passes)

-- those that all end at a position or past it stay
pub stay_open : (position next : ℕ) (spans : List Span) → position ≤ next → All (λ s. next ≤ s.stop) spans → still_open position spans ≡ spans
stay_open position next spans up all = all_from (λ (s : Span). s.stop) position spans (All-weaker (λ s. next ≤ s.stop) (λ s. position ≤ s.stop) (λ s low. omega arith) spans all)

pub depth_started : (at p : ℕ) (spans : List Span) → at ≤ p → All (λ s. s.start ≤ at) spans → depth_at spans p ≡ length (still_open (p + 1) spans)
depth_started at p [] up all = refl
depth_started at p (s ∷ ss) up all = grind (arith, (depth_started at p ss up (All-tail (λ s. s.start ≤ at) s ss all)), All-head)

pub depth_open : (at p : ℕ) (spans : List Span) → at ≤ p → depth_at (still_open at spans) p ≡ depth_at spans p
depth_open at p [] up = refl
depth_open at p (s ∷ ss) up = grind (arith, common_steps, (depth_open at p ss up))

-- the walk over the positions: the records that it began with, and those that are open now
module _ (at position : ℕ) (first now : List Span) (low : at ≤ position) (same : still_open position now ≡ still_open position first) where
  pub walk_depth : (next q : ℕ) → All (λ s. s.start ≤ at) now → All (λ s. next ≤ s.stop) (still_open (position + 1) now) → position ≤ q → q < next → depth_at first q ≡ length (still_open (position + 1) now)
  walk_depth next q started ends lower higher =
      sym (depth_open position q first lower)
      ∙ ap (λ l. depth_at l q) (sym same)
      ∙ depth_open position q now lower
      ∙ depth_started at q now (omega arith) started
      ∙ ap length (sym (open_after (position + 1) (q + 1) now (omega arith)) ∙ stay_open (q + 1) next (still_open (position + 1) now) (omega arith) ends)

-- where there are no more than are still open, all of them are
pub all_stay : (position : ℕ) (spans : List Span) → length spans ≤ length (still_open position spans) → still_open position spans ≡ spans
all_stay position spans many = filter_full (λ (s : Span). nat_le position s.stop) spans many

all_pass : {X : Type 0} (xs : List X) → filter (λ x. true) xs ≡ xs
all_pass [] = refl
all_pass (x ∷ xs) = ap (λ l. x ∷ l) (all_pass xs)

module _ (ends : List ℕ) (spans : List Span) (counts : (test : ℕ → Bool) → length (filter test ends) ≡ length (filter (λ s. test s.stop) spans)) where
  -- there are as many
  pub as_many : length ends ≡ length spans
  as_many = ap length (sym (all_pass ends)) ∙ counts (λ e. true) ∙ ap length (all_pass spans)

  -- where no end lies before a position, no record ends before it
  pub ends_left : (position : ℕ) → All (λ e. position ≤ e) ends → All (λ s. position ≤ s.stop) spans
  ends_left position all =
      let same : length spans ≡ length (still_open position spans) = sym as_many ∙ ap length (sym (all_from (λ e. e) position ends all)) ∙ counts (λ e. nat_le position e) in
      rw (← (all_stay position spans (omega arith))) (all_open position spans)

  pub left_ends : (position : ℕ) → All (λ s. position ≤ s.stop) spans → All (λ e. position ≤ e) ends
  left_ends position all =
      let same : length ends ≡ length (filter (λ e. nat_le position e) ends) = as_many ∙ ap length (sym (all_from (λ (s : Span). s.stop) position spans all)) ∙ sym (counts (λ e. nat_le position e)) in
      rw (← (filter_full (λ e. nat_le position e) ends (omega arith))) (grind (arith, filter_passes))

-- an order of the ends doesn't matter
pub same_count : (test : ℕ → Bool) (xs ys : List ℕ) → IsPermutation xs ys → length (filter test ys) ≡ length (filter test xs)
same_count test xs ys moved = length-filter test ys ∙ sum_by-IsPermutation (λ x. cond (test x) 1 0) xs ys moved ∙ sym (length-filter test xs)

pub ends_permuted : (xs ys : List (Reverse ℕ)) → IsPermutation xs ys → IsPermutation (ends_of xs) (ends_of ys)
ends_permuted xs ys moved = IsPermutation-map (λ (e : Reverse ℕ). e.0) xs ys moved

-- an end before the position is taken out
pub counts_less : (position e : ℕ) (old ends new : List ℕ) → e < position → CountsFrom position old ends → IsPermutation ends (e ∷ new) → CountsFrom position old new
counts_less position e old ends new ended counts moved test = grind (arith, (same_count (λ e. nat_le position e && test e) ends (e ∷ new) moved))

-- what is kept at a later position, once the ends before it are out
module _ (first position : ℕ) (spans : List Span) (old new : List (Reverse ℕ)) (kept : KeepsEnds first spans old) (up : first ≤ position) where
  ends_later : CountsFrom position (ends_of old) (ends_of new) → All (λ e. position ≤ e) (ends_of new) → (test : ℕ → Bool) → length (filter test (ends_of new)) ≡ length (filter (λ s. test s.stop) (still_open position spans))
  ends_later from all test =
      sym (ap length (filter_both (λ e. nat_le position e) test (ends_of new) ∙ ap (filter test) (all_from (λ e. e) position (ends_of new) all)))
      ∙ from test
      ∙ kept.counts (λ e. nat_le position e && test e)
      ∙ ap length (filter_both (λ (s : Span). nat_le position s.stop) (λ s. test s.stop) (still_open first spans))
      ∙ ap (λ l. length (filter (λ (s : Span). test s.stop) l)) (open_after first position spans up)

  pub keeps_later : IsLeastFirst new → CountsFrom position (ends_of old) (ends_of new) → All (λ e. position ≤ e) (ends_of new) → KeepsEnds position spans new
  keeps_later order from all = record {
    started = All-weaker (λ s. s.start ≤ first) (λ s. s.start ≤ position) (λ s low. omega arith) spans kept.started;
    order = order;
    counts = ends_later from all;
  }

-- those that are open start at the position or before it
pub open_started : (at : ℕ) (spans : List Span) (ends : List (Reverse ℕ)) → KeepsEnds at spans ends → All (λ s. s.start ≤ at) (still_open at spans)
open_started at spans ends kept = All-filter (λ (s : Span). nat_le at s.stop) (λ s. s.start ≤ at) spans kept.started

-- what is kept with one more
pub keeps_more : (at : ℕ) (spans : List Span) (x : Reverse ℕ) (old new : List (Reverse ℕ)) → KeepsEnds at spans old → at ≤ x.0 → IsLeastFirst new → IsPermutation (x ∷ old) new → KeepsEnds at (spans ++ record { start = at; stop = x.0 } ∷ []) new
keeps_more at spans x old new kept up order moved = record {
  started = All-push (λ (s : Span). s.start ≤ at) spans _ kept.started (omega arith);
  order = order;
  counts = λ test. same_count test (x.0 ∷ ends_of old) (ends_of new) (ends_permuted _ new moved) ∙ grind (arith, filter-append, length-append, (kept.counts test));
}

-- the top of a heap whose least is the first
pub top_least : (xs : List (Reverse ℕ)) (x : Reverse ℕ) → IsUpperBound (λ x y. nat_cmp y.0 x.0) x xs → All (λ e. x.0 ≤ e) (ends_of xs)
top_least [] x h = All-nil (λ e. x.0 ≤ e)
top_least (y ∷ ys) x h = grind (arith, (top_least ys x h.1))

pub top_in : (at : ℕ) (xs : List (Reverse ℕ)) (x : Reverse ℕ) → 0 < length xs → x ≡ slice_index_or xs 0 x → All (λ e. at ≤ e) (ends_of xs) → at ≤ x.0
top_in at xs x some is all = grind (arith, common_steps)

-- whether it lies before a position
pub top_before : (position : ℕ) (xs : List (Reverse ℕ)) (x : Reverse ℕ) → 0 < length xs → x ≡ slice_index_or xs 0 x → IsUpperBound (λ x y. nat_cmp y.0 x.0) x xs
    → MatchBool (nat_lt x.0 position) (StartsBelow position (ends_of xs)) (All (λ e. position ≤ e) (ends_of xs))
top_before position xs x some is h = grind (arith, common_steps, top_least)

pub some_before : (position : ℕ) (xs : List (Reverse ℕ)) → StartsBelow position (ends_of xs) → 0 < length xs
some_before position [] below = absurd below
some_before position (y ∷ ys) below = omega arith

-- the top is taken out where it lies before the position
top_below : (position : ℕ) (xs : List (Reverse ℕ)) (x : Reverse ℕ) → StartsBelow position (ends_of xs) → x ≡ slice_index_or xs 0 x → x.0 < position
top_below position [] x below is = absurd below
top_below position (y ∷ ys) x below is = rw is below

module _ (position : ℕ) (first : List ℕ) (old new : List (Reverse ℕ)) (below : StartsBelow position (ends_of old)) (order : IsLeastFirst old) (counts : CountsFrom position first (ends_of old)) where
  pub popped_order : (r : Option (Reverse ℕ)) → IsSome r → IfSome r (λ x. PopsGreatest (λ x y. nat_cmp y.0 x.0) old x new) → IsLeastFirst new
  popped_order r some pops = grind arith

  pub popped_counts : (r : Option (Reverse ℕ)) → IsSome r → IfSome r (λ x. x ≡ slice_index_or old 0 x) → IfSome r (λ x. IsPermutation old (x ∷ new)) → CountsFrom position first (ends_of new)
  popped_counts None some top moved = let none : false ≡ true = some in cc
  popped_counts (Some x) some top moved = counts_less position x.0 first (ends_of old) (ends_of new) (top_below position old x below top) counts (ends_permuted old (x ∷ new) moved)

-- The depth of the positions past the last start: that of the records that are open there.

depth_append : (xs ys : List Span) (p : ℕ) → depth_at (xs ++ ys) p ≡ depth_at xs p + depth_at ys p
depth_append xs ys p = ap length (filter-append (covers p) xs ys) ∙ length-append (filter (covers p) xs) (filter (covers p) ys)

pub depth_of-push : (zeros : Bool) (xs : List Span) (s : Span) (p : ℕ) → p < s.start → depth_of zeros (xs ++ s ∷ []) p ≡ depth_of zeros xs p
unfolding depth_of
depth_of-push zeros xs s p h = ap (reported zeros) (grind (arith, depth_append))

depth_cut : (size p : ℕ) (spans : List Span) → p < size → depth_at (map (cut_at size) (filter (λ s. nat_lt s.start size) spans)) p ≡ depth_at spans p
depth_cut size p [] high = refl
depth_cut size p (s ∷ ss) high = grind (arith, common_steps, (depth_cut size p ss high))

pub depth_of-open : (zeros : Bool) (size start p : ℕ) (spans : List Span) → start ≤ p → p < size → depth_of zeros (spans_open_at size start spans) p ≡ depth_of zeros spans p
unfolding depth_of
depth_of-open zeros size start p spans low high = ap (reported zeros) (depth_open start p (map (cut_at size) (filter (λ s. nat_lt s.start size) spans)) low ∙ depth_cut size p spans high)

-- past the length none is open
pub none_open : (size start : ℕ) (spans : List Span) → size < start → spans_open_at size start spans ≡ []
none_open size start [] h = refl
none_open size start (s ∷ ss) h = grind (arith, (none_open size start ss h))

-- those that are open at a later start are open at this one
pub open_later : (size start later : ℕ) (spans : List Span) → start ≤ later → spans_open_at size later spans ≡ still_open later (spans_open_at size start spans)
open_later size start later spans h = sym (open_after start later (map (cut_at size) (filter (λ s. nat_lt s.start size) spans)) h)

-- the counted records on a chromosome, one list after another
pub counted_append : (strand : Option Strand) (name : List ℕ) (past more : List Feature) → counted_on strand name (past ++ more) ≡ counted_on strand name past ++ counted_on strand name more
counted_append strand name past more = grind (arith, filter-append, map-append, spans_on-append)

pub counted_elsewhere : (strand : Option Strand) (name : List ℕ) (r : Feature) → bytes_eq r.chrom name ≡ false → counted_on strand name (r ∷ []) ≡ []
counted_elsewhere strand name r other = grind arith

pub counted_none : (strand : Option Strand) (name : List ℕ) (past : List Feature) → has_records name (intervals_of past) ≡ false → counted_on strand name past ≡ []
counted_none strand name [] none = refl
counted_none strand name (r ∷ rs) none =
    let tests = or_parts (bytes_eq r.chrom name) (has_records name (intervals_of rs)) none in
    counted_append strand name (r ∷ []) rs ∙ ap₂ (λ (xs ys : List Span). xs ++ ys) (counted_elsewhere strand name r tests.0) (counted_none strand name rs tests.1)

-- The depths of one chromosome whose starts don't fall: those that are settled by the last start, what is known for the rest, and which interval is unfinished there.

-- what is known of a chromosome after these records, by the last start
abbrev pub known_at : Bool → ℕ → List Span → ℕ → Known
known_at zeros size spans start = cond (nat_lt size start) (record { to = size; begun = None; held = [] })
    (record { to = start; begun = begun_after (depth_of zeros spans) 0 start None; held = spans_open_at size start spans })

-- the intervals that are settled
abbrev pub settled_at : Bool → ℕ → List Span → ℕ → List Level
settled_at zeros size spans start = cond (nat_lt size start) (levels_of (depth_of zeros spans) size) (ended_after (depth_of zeros spans) 0 start None)

-- the record is one of the counted ones, or not
abbrev pub with_counted : Bool → List Span → ℕ → ℕ → List Span
with_counted counted spans start stop = spans ++ cond counted (record { start = start; stop = stop } ∷ []) []

module _ (zeros : Bool) (size : ℕ) (spans : List Span) (start : ℕ) where
  -- the open records have the depths from the start on
  held_same : (stop : ℕ) → stop ≤ size → AreSame (depth_of zeros (spans_open_at size start spans)) (depth_of zeros spans) start (stop - start)
  held_same stop within q low high = depth_of-open zeros size start q spans low (omega arith)

  -- the rest of a scan
  rest_of : (stop : ℕ) → start ≤ stop → stop ≤ size → start ≤ size → (begun_after (depth_of zeros spans) 0 stop None ≡ begun_after (depth_of zeros (spans_open_at size start spans)) start (stop - start) (begun_after (depth_of zeros spans) 0 start None))
      × (ended_after (depth_of zeros spans) 0 stop None ≡ ended_after (depth_of zeros spans) 0 start None ++ ended_after (depth_of zeros (spans_open_at size start spans)) start (stop - start) (begun_after (depth_of zeros spans) 0 start None))
  rest_of stop up within below =
      let v = depth_of zeros spans in
      grind (arith, (scan_split v start (stop - start) 0 None), (scan_same (depth_of zeros (spans_open_at size start spans)) v (stop - start) start (begun_after v 0 start None) (held_same stop within)))

  -- past the length nothing is left
  none_left : levels_left zeros size (record { to = size; begun = None; held = [] }) ≡ []
  unfolding begun_after ended_after
  none_left = let none : size - size ≡ 0 = omega arith in rw none refl

  -- what is settled and what is left are all
  pub settled_and_left : levels_of (depth_of zeros spans) size ≡ settled_at zeros size spans start ++ levels_left zeros size (known_at zeros size spans start)
  settled_and_left = grind (arith, none_left, rest_of, append_assoc)

  -- those that are settled end below the start, and those that are left don't
  pub settled_end : StopIn 0 start (settled_at zeros size spans start)
  settled_end = grind (arith, stop_wider, stop_both, ended_after-stop)

  pub left_end : StopIn start (size + 1) (levels_left zeros size (known_at zeros size spans start))
  left_end = elim (cases_lt size start) [
    | inl past ↦ grind (arith, none_left)
    | inr within ↦ grind (arith, stop_both, stop_wider, ended_after-stop)
  ]

-- one more record
module _ (zeros counted : Bool) (size : ℕ) (spans : List Span) (start : ℕ) (r : Span) (up : start ≤ r.start) (full : r.start < r.stop) where
  abbrev more : List Span
  more = with_counted counted spans r.start r.stop

  same_scan : (n : ℕ) → n ≤ r.start → (begun_after (depth_of zeros (with_counted counted spans r.start r.stop)) 0 n None ≡ begun_after (depth_of zeros spans) 0 n None)
      × (ended_after (depth_of zeros (with_counted counted spans r.start r.stop)) 0 n None ≡ ended_after (depth_of zeros spans) 0 n None)
  same_scan n h = scan_same (depth_of zeros (with_counted counted spans r.start r.stop)) (depth_of zeros spans) n 0 None (grind (arith, depth_of-push, append-nil))

  pub settled_next : settled_at zeros size (with_counted counted spans r.start r.stop) r.start ≡ settled_at zeros size spans start ++ levels_by zeros size (known_at zeros size spans start) r.start
  settled_next = elim (cases_lt size r.start) [
    | inl past ↦ grind (arith, same_scan, none_left, rest_of, append_assoc)
    | inr within ↦ grind (arith, (same_scan r.start (omega arith)), (rest_of zeros size spans start r.start up within (omega arith)))
  ]

  pub known_next : known_at zeros size (with_counted counted spans r.start r.stop) r.start ≡ known_by zeros counted size (known_at zeros size spans start) r.start r.stop
  known_next = grind (arith, same_scan, rest_of, open_later, filter-append, map-append)

-- a chromosome without records has one depth
depth_none : (zeros : Bool) (p : ℕ) → depth_of zeros [] p ≡ reported zeros 0
unfolding depth_of
depth_none zeros p = refl

abbrev pub bare_level : Bool → ℕ → List Level
bare_level zeros size = cond (zeros && nat_lt 0 size) (record { start = 0; stop = size; value = 0 } ∷ []) []

bare_zero : (zeros : Bool) → levels_of (depth_of zeros []) 0 ≡ bare_level zeros 0
unfolding begun_after ended_after
bare_zero zeros = grind arith

pub bare_levels : (zeros : Bool) (size : ℕ) → levels_of (depth_of zeros []) size ≡ bare_level zeros size
bare_levels zeros size = elim (cases_lt 0 size) [
  | inl some ↦ grind (arith, (scan_run (depth_of zeros []) (reported zeros 0) size 0 None some (λ q low high. depth_none zeros q)))
  | inr none ↦ let is : size ≡ 0 = omega arith in rw is (bare_zero zeros)
]

-- before any record
pub known_first : (zeros : Bool) (size : ℕ) → known_at zeros size [] 0 ≡ record { to = 0; begun = None; held = [] }
unfolding begun_after
known_first zeros size = let within : 0 ≤ size = omega arith in rw (le-ltb size 0 within) refl

pub settled_first : (zeros : Bool) (size : ℕ) → settled_at zeros size [] 0 ≡ []
unfolding ended_after
settled_first zeros size = let within : 0 ≤ size = omega arith in rw (le-ltb size 0 within) refl

across_ended : (p : ℕ) (xs ys : List Level) → StopIn 0 p xs → begun_across p (xs ++ ys) ≡ begun_across p ys
across_ended p [] ys s = refl
across_ended p (x ∷ xs) ys s = (grind arith) ∙ across_ended p xs ys s.2

across_none : (p : ℕ) (xs : List Level) → StopIn 0 p xs → begun_across p xs ≡ None
across_none p [] s = refl
across_none p (x ∷ xs) s = (grind arith) ∙ across_none p xs s.2

module _ (value : ℕ → Option ℕ) (p : ℕ) where
  -- what begins at the start or past it isn't it
  across_from : (n q : ℕ) (g : Option Begun) → p ≤ q → BeginsFrom p g → begun_across p (levels_from value q n g) ≡ None
  unfolding begun_after ended_after
  across_from zero q None h b = refl
  across_from zero q (Some begun) h b = rw (le-ltb begun.start p b) refl
  across_from (suc n) q g h b =
      ap (begun_across p) (levels_more value q n g)
      ∙ elim (cases_Bool (goes_on_with g (value q))) [
        | inl t ↦ rw t (across_from n (q + 1) g (omega arith) b)
        | inr f ↦ rw f ((grind arith) ∙ across_from n (q + 1) (begun_at q (value q)) (omega arith) (grind arith))
      ]

  -- what has begun below it and reaches it is
  across_it : (begun : Begun) (q : ℕ) (rest : List Level) → begun.start < p → p ≤ q → begun_across p (level_ended_at (Some begun) q ++ rest) ≡ Some begun
  across_it begun q rest low high = rw (lt-ltb begun.start p low, le-leb p q high) refl

  across_on : (n q : ℕ) (begun : Begun) → p ≤ q → begun.start < p → begun_across p (levels_from value q n (Some begun)) ≡ Some begun
  unfolding begun_after ended_after
  across_on zero q begun h b = let here : p ≤ q + 0 = omega arith in across_it begun (q + 0) [] b here
  across_on (suc n) q begun h b = grind (arith, (across_on n (q + 1) begun (omega arith) b))

  across_all : (n : ℕ) (g : Option Begun) → BeginsBelow p g → begun_across p (levels_from value p n g) ≡ g
  across_all n g b = grind (arith, across_from, across_on)

pub across_known : (zeros : Bool) (size : ℕ) (spans : List Span) (start : ℕ) → begun_across start (levels_of (depth_of zeros spans) size) ≡ (known_at zeros size spans start).begun
across_known zeros size spans start =
    let v = depth_of zeros spans in
    elim (cases_lt size start) [
      | inl past ↦ rw (lt-ltb size start past) (across_none start (levels_of v size) (stop_wider 0 (0 + size + 1) 0 start (levels_of v size) (omega arith) (omega arith) (grind (arith, stop_both, stop_wider, ended_after-stop))))
      | inr within ↦
          let parts : start + (size - start) ≡ size = omega arith in
          let from : 0 + start ≡ start = omega arith in
          let begun = begun_after v 0 start None in
          rw (le-ltb size start within)
          (ap (λ n. begun_across start (levels_of v n)) (sym parts)
          ∙ ap (begun_across start) (grind (arith, scan_split, append_assoc))
          ∙ across_ended start (ended_after v 0 start None) (levels_from v (0 + start) (size - start) begun) (stop_wider 0 (0 + start) 0 start (ended_after v 0 start None) (omega arith) (omega arith) (ended_after-stop v start 0 None))
          ∙ ap (λ n. begun_across start (levels_from v n (size - start) begun)) from
          ∙ across_all v start (size - start) begun (subst (λ n. BeginsBelow n begun) from (begun_after-below v start 0 None tt)))
    ]
