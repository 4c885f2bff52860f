-- What a merge says of one chromosome, and what it owes of it: the runs that are done by the last start, and the one that it keeps.
use Rattle.bt_lines.proofs.Std.{◌≡◌, ℕ, ◌+◌, ◌<◌, ◌≤◌, ◌⊎◌, inl, inr, List, [], ◌∷◌, ◌++◌, append_assoc, append-nil, refl, sym, ap, ap₂, ◌∙◌, arith, length, map, filter, false, bytes_eq, cases_Bool, cases_lt, lt-ltb, le-ltb, max, nat_lt, map-append, filter-append, subst, cond, drop, drop_at}
use Rattle.bt_bed.specs.model.Feature.{Feature, interval_of, intervals_of, Interval, Span, placed_on, span_of, spans_on}
use Rattle.bt_bed.specs.model.Sorted.{has_records}
use Rattle.bt_bed.specs.calls.Orders.{ArePlaced, AreContiguous, AreDistinct}
use Rattle.bt_bed.proofs.lemmas.parse.NameLemmas.{name_eq, name_ne}
use Rattle.bt_runs.specs.model.Merged.{is_counted, counted, runs_of, runs_on, is_closed, merged_runs, chromosomes, merged}
use Rattle.bt_runs.specs.calls.MergedRuns.{settled_runs, kept_runs, AreMergeable}
use Rattle.bt_runs.specs.inside.merge.UnstrandedStep.{kept_by, runs_left_by, settled_by, runs_with}
use Rattle.bt_runs.specs.declared.merge.merge_strand.MergeStrand.{MergeStrand}
use Rattle.bt_runs.proofs.lemmas.order.ByChromosome.{Divides, Form, NoRecords, Owes, Begun, InOrder, Moves, Ordered, Standing, Written, bares, begun, full_front, full_last, goes_first, goes_next, goes_on, goes_to, order_front, settling, whole_left}
use Rattle.bt_runs.proofs.lemmas.order.FileOrder.{runs_on-push_elsewhere, spans_on-none, spans_on-push_here, runs_of-nil, runs_on-none, in_file_order, distinct_chromosomes, placed_own}
use Rattle.bt_runs.proofs.lemmas.definitions.Standing.{counted_absent, counted_next, passed_before, placed_elsewhere, not_less, stays, begins, begins_at, counted-append}
use Rattle.bt_runs.proofs.lemmas.merge.Bridging.{OneOpen, join_open, longer, next_open, open_runs}
use Rattle.bt_bed.specs.model.Order.{rank_order}
use Rattle.bt_bed.proofs.lemmas.order.OrderLemmas.{placed_prefix, contiguous_prefix}
use Rattle.bt_runs.specs.calls.Engine.{SettledBegins, SettledStays, SettlesMore}

-- no record was merged on the chromosome
pub record Unopened (spans : List Span) (done kept : List Interval) : Type 0 where
  pub none : spans ≡ []
  pub done_is : done ≡ []
  pub kept_is : kept ≡ []

-- the last run holds the last merged start
pub record Last (gap : ℕ) (spans : List Span) (start : ℕ) : Type 0 where
  pub before : List Span
  pub run : Span
  pub at : ℕ
  pub up : at ≤ start
  pub one : OneOpen gap spans at before run

-- it is done if the last start is beyond the gap, and else it is kept
module _ (gap : ℕ) (name : List ℕ) (run : Span) (start : ℕ) where
  abbrev pub if_done : List Interval
  if_done = cond (nat_lt (run.stop + gap) start) (placed_on name run ∷ []) []

  abbrev pub if_kept : List Interval
  if_kept = cond (nat_lt (run.stop + gap) start) [] (placed_on name run ∷ [])

  done_and_kept : if_done ++ if_kept ≡ placed_on name run ∷ []
  done_and_kept = grind arith

pub record Opened (gap : ℕ) (name : List ℕ) (spans : List Span) (start : ℕ) (done kept : List Interval) : Type 0 where
  pub last : Last gap spans start
  pub done_is : done ≡ map (placed_on name) last.before ++ if_done gap name last.run start
  pub kept_is : kept ≡ if_kept gap name last.run start

-- the runs of a chromosome by the last start on it
abbrev pub Runs : ℕ → List ℕ → List Span → ℕ → List Interval → List Interval → Type 0
Runs gap name spans start done kept = Unopened spans done kept ⊎ Opened gap name spans start done kept

abbrev pub At : ℕ → MergeStrand → List ℕ → List Feature → ℕ → List Interval → List Interval → Type 0
At gap strand name past start done kept = Runs gap name (spans_on name (counted strand past)) start done kept

abbrev later : (gap : ℕ) (spans : List Span) (start more : ℕ) → start ≤ more → Last gap spans start → Last gap spans more
later gap spans start more up last = record { before = last.before; run = last.run; at = last.at; up = let h = last.up in omega arith; one = last.one }

module _ (gap : ℕ) (name : List ℕ) (run : Span) (x : Interval) (is : name ≡ x.chrom) where
  -- a later start settles the last run if it closes it
  moves_on : (start : ℕ) → start ≤ x.start → (if_done gap name run start ++ settled_by gap (if_kept gap name run start) x ≡ if_done gap name run x.start) × (runs_left_by gap (if_kept gap name run start) x ≡ if_kept gap name run x.start)
  moves_on start up = grind (arith, (name_eq name x.chrom is))

  -- it is over if it is done, and isn't if it is kept
  is_over : (filter (is_closed gap x) (if_done gap name run x.start) ≡ if_done gap name run x.start) × (filter (is_closed gap x) (if_kept gap name run x.start) ≡ [])
  is_over = grind (arith, (name_eq name x.chrom is))

module _ (gap : ℕ) (name : List ℕ) (spans : List Span) where
  passes : (start : ℕ) (done kept : List Interval) (x : Interval) → name ≡ x.chrom → start ≤ x.start → Runs gap name spans start done kept → Runs gap name spans x.start (done ++ settled_by gap kept x) (runs_left_by gap kept x)
  passes start done kept x is up (inl u) = inl (record { none = u.none; done_is = rw (u.done_is, u.kept_is) refl; kept_is = rw u.kept_is refl })
  passes start done kept x is up (inr o) = inr (record {
    last = later gap spans start x.start up o.last;
    done_is = grind (arith, append_assoc, (moves_on gap name o.last.run x is start up));
    kept_is = ap (λ runs. runs_left_by gap runs x) o.kept_is ∙ (moves_on gap name o.last.run x is start up).1;
  })

  -- a record at the last start is joined to the run that is kept, or opens one
  adds : (done kept : List Interval) (x : Interval) → name ≡ x.chrom → x.start < x.stop → Runs gap name spans x.start done kept → Runs gap name (spans ++ span_of x ∷ []) x.start done (runs_with kept x)
  adds done kept x is full (inl u) =
      let short : nat_lt (x.stop + gap) x.start ≡ false = le-ltb (x.stop + gap) x.start (omega arith) in
      inr (record {
        last = record { before = []; run = span_of x; at = x.start; up = omega arith; one = rw u.none (grind arith) };
        done_is = rw (u.done_is, short) refl;
        kept_is = rw (u.kept_is, short, is) refl;
      })
  adds done kept x is full (inr o) =
      let short : nat_lt (x.stop + gap) x.start ≡ false = le-ltb (x.stop + gap) x.start (omega arith) in
      elim (cases_lt (o.last.run.stop + gap) x.start) [
        | inl far ↦
            let was = lt-ltb (o.last.run.stop + gap) x.start far in
            inr (record {
              last = record { before = o.last.before ++ o.last.run ∷ []; run = span_of x; at = x.start; up = omega arith; one = next_open gap spans o.last.at o.last.before o.last.run (span_of x) o.last.one full far };
              done_is = rw (o.done_is, was, short, map-append) (sym (append-nil (map (placed_on name) o.last.before ++ placed_on name o.last.run ∷ [])));
              kept_is = rw (o.kept_is, was, short, is) refl;
            })
        | inr near ↦
            let was = le-ltb (o.last.run.stop + gap) x.start near in
            let now : nat_lt (max o.last.run.stop x.stop + gap) x.start ≡ false = le-ltb (max o.last.run.stop x.stop + gap) x.start (omega arith) in
            inr (record {
              last = record { before = o.last.before; run = longer o.last.run (span_of x); at = x.start; up = omega arith; one = join_open gap spans o.last.at o.last.before o.last.run (span_of x) o.last.one o.last.up full near };
              done_is = rw (o.done_is, was, now) refl;
              kept_is = rw (o.kept_is, was, now) refl;
            })
      ]

  -- a record elsewhere closes all
  pub gone : (start : ℕ) (done kept : List Interval) (x : Interval) → bytes_eq name x.chrom ≡ false → Runs gap name spans start done kept → (settled_by gap kept x ≡ kept) × (runs_left_by gap kept x ≡ [])
  gone start done kept x other p1 = grind arith

  -- one run at most is kept
  pub few : (start : ℕ) (done kept : List Interval) → Runs gap name spans start done kept → length kept ≤ 1
  few start done kept p1 = grind arith

module _ (gap : ℕ) (strand : MergeStrand) where
  abbrev pub form : Form (List ℕ) Interval (List Interval)
  form = record {
    name = λ name. name;
    part = λ name past. runs_on name gap (counted strand past);
    pick = λ last runs. filter (is_closed gap last) runs;
    whole = merged_runs gap strand;
    settled = settled_runs gap strand;
    bare = λ name. [];
    fresh = [];
    left = λ name kept. kept;
    step = λ name kept r. settled_by gap kept (interval_of r);
    after = λ name kept r. kept_by gap strand kept r;
  }

  elsewhere : (name : List ℕ) (past : List Feature) (r : Feature) → bytes_eq r.chrom name ≡ false → runs_on name gap (counted strand (past ++ r ∷ [])) ≡ runs_on name gap (counted strand past)
  elsewhere name past r other = grind (arith, counted_next, runs_on-push_elsewhere, counted-append, append-nil)

  none_on : (name : List ℕ) (past : List Feature) → has_records name (intervals_of past) ≡ false → NoRecords form (At gap strand) name past
  none_on name past none = grind (arith, counted_absent, runs_on-none, spans_on-none)

  next_on : (name : List ℕ) (past : List Feature) (start : ℕ) (done kept : List Interval) (r : Feature) → At gap strand name past start done kept → name ≡ r.chrom → start ≤ r.start → r.start < r.stop
      → At gap strand name (past ++ r ∷ []) r.start (done ++ settled_by gap kept (interval_of r)) (kept_by gap strand kept r)
  next_on name past start done kept r at is up full =
      let x = interval_of r in
      let left = runs_left_by gap kept x in
      let spans = spans_on name (counted strand past) in
      let passed = passes gap name spans start done kept x is up at in
      elim (cases_Bool (is_counted strand r.strand)) [
        | inl t ↦
            let added = adds gap name spans (done ++ settled_by gap kept x) left x is full passed in
            grind (arith, counted_next, spans_on-push_here)
        | inr n ↦ grind (arith, counted-append, append-nil)
      ]

  divides_on : (name : List ℕ) (past : List Feature) (last : Interval) (done kept : List Interval) → At gap strand name past last.start done kept → name ≡ last.chrom → Divides form (At gap strand) name past last done kept
  divides_on name past last done kept (inl u) is = grind (arith, runs_of-nil)
  divides_on name past last done kept (inr o) is =
      let run = o.last.run in
      let before = map (placed_on name) o.last.before in
      let one = o.last.one in
      record {
        all = ap (map (placed_on name)) (sym (open_runs gap (spans_on name (counted strand past)) o.last.at o.last.before run one)) ∙ map-append (placed_on name) o.last.before (run ∷ []) ∙ (grind (arith, append_assoc, (done_and_kept gap name run last.start)));
        done_over = rw (o.done_is, filter-append (is_closed gap last) before (if_done gap name run last.start))
            (ap₂ (λ (xs ys : List Interval). xs ++ ys) (passed_before gap 0 last name o.last.before run one.joined.apart (let h = o.last.up in let g = one.began in omega arith)) (is_over gap name run last is).0);
        left_open = rw o.kept_is (is_over gap name run last is).1;
      }

  nothing_settled : settled_runs gap strand [] ≡ []
  unfolding settled_runs
  nothing_settled = refl

  pub owes : (names : List (List ℕ)) → Owes form (At gap strand) names
  owes names = record {
    nothing = nothing_settled;
    picks = λ last. grind (arith, filter-append);
    elsewhere = elsewhere;
    is_before = λ last name past less. placed_elsewhere gap last name (runs_of gap (spans_on name (counted strand past))) (name_ne name last.chrom (λ e. not_less names name last.chrom e less));
    is_behind = λ last name past greater none. ap (filter (is_closed gap last)) (none_on name past none).part_is;
    none = none_on;
    next = next_on;
    divides = λ name past last done kept at is some. divides_on name past last done kept at is;
  }

-- The settled runs and the kept ones, and what one more record does to them.

-- names are their own names
same_names : (names : List (List ℕ)) → map (λ name. name) names ≡ names
same_names [] = refl
same_names (n ∷ ns) = ap (λ ms. n ∷ ms) (same_names ns)

-- the first records of those that may be taken
pub taken_front : (past more : List Feature) → AreMergeable (past ++ more) → AreMergeable past
taken_front past more t = grind (arith, (contiguous_prefix (intervals_of past) (intervals_of more) (subst AreContiguous (map-append interval_of past more) t.contiguous)), (full_front past more t.full))

module _ (gap : ℕ) (strand : MergeStrand) where
  -- the runs come in each order in which the records do
  written : (names : List (List ℕ)) (past : List Feature) → AreDistinct names → ArePlaced (rank_order names) (intervals_of past) → Written (form gap strand) (At gap strand) names past
  unfolding settled_runs merged
  written names past distinct placed = grind (arith, (in_file_order names gap strand past distinct placed))

  ordered : (all : List Feature) → AreMergeable all → Ordered (form gap strand) (At gap strand) all
  ordered all t =
      let names = chromosomes (intervals_of all) in
      let distinct = distinct_chromosomes (intervals_of all) in
      grind (arith, (placed_own (intervals_of all) t.contiguous), (same_names names), (owes gap strand (map (λ name. name) names)), written, placed_prefix, map-append)

  -- what is settled begins what is settled later
  settled_more : SettlesMore (settled_runs gap strand) (merged_runs gap strand) AreMergeable
  settled_more = settling (form gap strand) (At gap strand) AreMergeable taken_front ordered

  none_bare : (names : List (List ℕ)) → bares (form gap strand) names ≡ []
  none_bare [] = refl
  none_bare (n ∷ ns) = none_bare ns

  -- before any record
  pub none_kept : kept_runs gap strand [] ≡ []
  unfolding kept_runs settled_runs merged
  none_kept = refl

  -- what is open on the last chromosome is what is kept
  module _ (names : List (List ℕ)) (distinct : AreDistinct (map (λ name. name) names)) (past : List Feature) (before : List (List ℕ)) (key : List ℕ) (after : List (List ℕ)) (kept : List Interval)
      (s : Standing (form gap strand) (At gap strand) names past before key after kept) (w : Written (form gap strand) (At gap strand) names past) where
    all_runs : merged_runs gap strand past ≡ settled_runs gap strand past ++ kept
    all_runs = grind (arith, (whole_left (form gap strand) (At gap strand) names (owes gap strand (map (λ name. name) names)) distinct past before key after kept s w), (none_bare after))

    kept_is : kept_runs gap strand past ≡ kept
    unfolding kept_runs
    kept_is = ap (drop (length (settled_runs gap strand past))) all_runs ∙ drop_at (settled_runs gap strand past) kept (length (settled_runs gap strand past)) refl

-- what one more record does
pub record Next (gap : ℕ) (strand : MergeStrand) (past : List Feature) (r : Feature) : Type 0 where
  pub settles : settled_runs gap strand (past ++ r ∷ []) ≡ settled_runs gap strand past ++ settled_by gap (kept_runs gap strand past) (interval_of r)
  pub keeps : kept_runs gap strand (past ++ r ∷ []) ≡ kept_by gap strand (kept_runs gap strand past) r

-- the settled runs and the kept one are all
pub record Whole (gap : ℕ) (strand : MergeStrand) (past : List Feature) : Type 0 where
  pub all : merged_runs gap strand past ≡ settled_runs gap strand past ++ kept_runs gap strand past
  pub few : length (kept_runs gap strand past) ≤ 1

module _ (gap : ℕ) (strand : MergeStrand) where
  -- from what was open before the record, and what is open with it
  next_by : {names : List (List ℕ)} (distinct : AreDistinct (map (λ name. name) names)) {past : List Feature} {r : Feature} {kept : List Interval} → kept_runs gap strand past ≡ kept
      → {items : List Interval} {before : List (List ℕ)} {key : List ℕ} {after : List (List ℕ)} {now : List Interval} → Written (form gap strand) (At gap strand) names past → Written (form gap strand) (At gap strand) names (past ++ r ∷ [])
      → Moves (form gap strand) (At gap strand) names past r items before key after now → items ≡ settled_by gap kept (interval_of r) → now ≡ kept_by gap strand kept r → Next gap strand past r
  next_by {names} distinct {past} {r} was {before} {key} {after} {now} w_past w m settles keeps = grind (arith, (m.settles w_past w), (kept_is gap strand names distinct (past ++ r ∷ []) before key after now m.here w))

  module _ (names : List (List ℕ)) (distinct : AreDistinct (map (λ name. name) names)) where
    next_from : (past : List Feature) (r : Feature) → InOrder (map (λ name. name) names) (past ++ r ∷ []) → Written (form gap strand) (At gap strand) names past → Written (form gap strand) (At gap strand) names (past ++ r ∷ [])
        → Begun (form gap strand) (At gap strand) names past → Next gap strand past r
    next_from [] r o was w b =
        let first = begins_at (λ name. name) names distinct (interval_of r) o.placed in
        let f = first.1 in
        next_by distinct (none_kept gap strand) was w
        (goes_first (form gap strand) (At gap strand) names (owes gap strand (map (λ name. name) names)) distinct r f.before f.key f.after first.3 (full_last [] r o.full))
        (ap (λ runs. runs ++ []) (none_bare gap strand f.before)) refl
    next_from (q ∷ qs) r o was w b =
        let past = q ∷ qs in
        let x = interval_of r in
        let s = b.here in
        let debts = owes gap strand (map (λ name. name) names) in
        let full = full_last past r o.full in
        let held = kept_is gap strand names distinct past b.before b.key b.after b.state s was in
        elim (goes_next (form gap strand) (At gap strand) names debts distinct r s o) [
          | inl same ↦
              next_by distinct held was w (goes_on (form gap strand) (At gap strand) names debts distinct r s same.0 same.1 full) refl refl
          | inr g ↦
              let passed = gone gap b.key _ s.last.start s.done b.state x g.other s.at in
              next_by distinct held was w (goes_to (form gap strand) (At gap strand) names debts distinct r s g full)
              (grind (arith, append-nil, (none_bare gap strand g.middle))) (grind arith)
        ]

  pub next_taken : (past : List Feature) (r : Feature) → AreMergeable (past ++ r ∷ []) → Next gap strand past r
  next_taken past r t =
      let all = past ++ r ∷ [] in
      let o = ordered gap strand all t in
      let names = map (λ name. name) o.keys in
      next_from o.keys o.distinct past r o.in_order (o.written past (r ∷ []) refl) (o.written all [] (append-nil all))
      (begun (form gap strand) (At gap strand) o.keys (owes gap strand names) o.distinct past (order_front names past (r ∷ []) o.in_order))

  whole_from : (names : List (List ℕ)) (distinct : AreDistinct (map (λ name. name) names)) (past : List Feature) → Written (form gap strand) (At gap strand) names past → Begun (form gap strand) (At gap strand) names past → Whole gap strand past
  unfolding kept_runs settled_runs merged
  whole_from names distinct [] w b = record { all = refl; few = omega arith }
  whole_from names distinct (q ∷ qs) w b =
      let past = q ∷ qs in
      let s = b.here in
      let is = kept_is gap strand names distinct past b.before b.key b.after b.state s w in
      grind (arith, (all_runs gap strand names distinct past b.before b.key b.after b.state s w), (few gap b.key _ s.last.start s.done b.state s.at))

  pub whole_taken : (past : List Feature) → AreMergeable past → Whole gap strand past
  whole_taken past t = grind (arith, whole_from, (append-nil past), begun, (owes gap strand (map (λ name. name) (ordered gap strand past t).keys)))

pub runs_stay : (gap : ℕ) (strand : MergeStrand) → SettledStays (settled_runs gap strand) AreMergeable
runs_stay gap strand = stays (settled_runs gap strand) (merged_runs gap strand) AreMergeable (settled_more gap strand)

pub runs_begin : (gap : ℕ) (strand : MergeStrand) → SettledBegins (settled_runs gap strand) (merged_runs gap strand) AreMergeable
runs_begin gap strand = begins (settled_runs gap strand) (merged_runs gap strand) AreMergeable (settled_more gap strand)
