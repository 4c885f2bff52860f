-- The runs of several strands come in the order of their first records.
use Rattle.bt_lines.proofs.Std.{AllByRecursion, rules, ◌≡◌, ℕ, zero, suc, ◌<◌, ◌≤◌, inl, inr, refl, sym, ap, ap₂, ◌∙◌, arith, subst, List, [], ◌∷◌, ◌++◌, append_assoc, append-nil, length, map, Bool, true, false, Some, IsTrue, find, list_any, position_or_len, IsStrictlyIncreasing, cases_Bool, map-append, or_parts, bytes_eq}
use Rattle.bt_bed.specs.model.Feature.{Feature, interval_of, intervals_of, Interval}
use Rattle.bt_bed.specs.model.Sorted.{Locus, locus_of}
use Rattle.bt_bed.specs.calls.Orders.{ArePlaced, IsPlacedBefore, IsUpTo, IsTotal, AreDistinct}
use Rattle.bt_bed.specs.model.Order.{Order, is_among, rank_order}
use Rattle.bt_bed.proofs.lemmas.order.OrderLemmas.{placed_contiguous}
use Rattle.bt_runs.specs.model.Merged.{StrandRun, is_in, places_of, strand_runs, ordered_names as runs_in_order, put_in_order}
use Rattle.bt_runs.specs.calls.MergedRuns.{AreMergeable}
use Rattle.bt_laws.specs.Merges.{first_place, first_start, strand_runs_come_in_order, strand_runs_come_in_turn, strand_runs_start_with_records}
use Rattle.bt_runs.specs.inside.merge.StrandStep.{run_from}
use Rattle.bt_runs.proofs.lemmas.Lists.{Some_of, all_and, all_both, all_map, all_so, none_each, some_weaker, map_same, map_map}
use Rattle.bt_runs.proofs.lemmas.order.FileOrder.{skips, in_file_order, ordered_come}
use Rattle.bt_runs.proofs.lemmas.merge.StrandListing.{joined_to, new_run, reaches, IsWithinOrFar, Lies, Listed, are_listed, lies_true, listing_next, not_in_new, same_in, some_base, up}
use Rattle.bt_runs.proofs.lemmas.merge.SettledRuns.{taken_front}
use Rattle.bt_laws.specs.Runs.{AreSortedNames, AreKnown, names_come_in_order, file_runs_are_ordered}
use Rattle.bt_bed.specs.inside.RankTotal.{ranks_total}

-- the first element that passes
module _ {A : Type 0} where
  -- it stays the first if more come after it, also by a test that agrees
  found_same : (test other : A → Bool) (xs ys : List A) → AllByRecursion (λ x. test x ≡ other x) xs
      → Some_of (λ x. other x ≡ true) xs
      → (find test (xs ++ ys) ≡ find other xs)
      × (position_or_len test (xs ++ ys) ≡ position_or_len other xs)
  found_same test other [] ys e some = absurd some
  found_same test other (x ∷ xs) ys e some = grind (arith, (found_same test other xs ys e.1))

  -- or the last is the first that passes
  found_last : (test : A → Bool) (xs : List A) (y : A) → AllByRecursion (λ x. test x ≡ false) xs
      → test y ≡ true
      → (find test (xs ++ y ∷ []) ≡ Some y) × (position_or_len test (xs ++ y ∷ []) ≡ length xs)
  found_last test [] y e t = grind (arith, position_or_len)
  found_last test (x ∷ xs) y e t = grind (arith, (found_last test xs y e.1 t))

  found_below : (test : A → Bool) (xs : List A) → Some_of (λ x. test x ≡ true) xs
      → position_or_len test xs < length xs
  found_below test [] some = absurd some
  found_below test (x ∷ xs) some = grind (arith, (found_below test xs))

-- numbers that rise, in a list that grows at its end
abbrev Rise : List ℕ → Type 0
Rise [] = Unit {0}
Rise (n ∷ ns) = AllByRecursion (λ m. n < m) ns × Rise ns

rise_more : (ns : List ℕ) (n : ℕ) → Rise ns → AllByRecursion (λ m. m < n) ns → Rise (ns ++ n ∷ [])
rise_more [] n r e = (tt, tt)
rise_more (m ∷ ms) n r e = grind (arith, (rise_more ms n r.1 e.1), all_both)

rise_increases : (ns : List ℕ) → Rise ns → IsStrictlyIncreasing ns
rise_increases [] r k h = absurd (omega arith)
rise_increases (n ∷ []) r k h = absurd (omega arith)
rise_increases (n ∷ m ∷ ms) r zero h = r.0.0
rise_increases (n ∷ m ∷ ms) r (suc k) h = grind (arith, (rise_increases (m ∷ ms) r.1 k (omega arith)))

-- a run keeps its start with a record that is joined to it
same_start : (gap : ℕ) (r : Feature) (item : StrandRun)
    → locus_of (joined_to gap r item).run ≡ locus_of item.run
same_start gap r item = grind arith

-- what is known of the first records of the runs
record Firsts (gap : ℕ) (past : List Feature) : Type 0 where
  rise : Rise (map (first_place past) (strand_runs gap past))
  start : AllByRecursion (λ item. first_start past item ≡ Some (locus_of item.run)) (strand_runs gap past)

module _ (gap : ℕ) (past : List Feature) (r : Feature)
    (taken : AreMergeable (past ++ r ∷ [])) (listed : Listed gap past) where
  abbrev old : List StrandRun
  old = strand_runs gap past

  -- a run that was listed before has the first record that it had
  record Same (item : StrandRun) : Type 0 where
    place : first_place (past ++ r ∷ []) (joined_to gap r item) ≡ first_place past item
    start : first_start (past ++ r ∷ []) (joined_to gap r item) ≡ first_start past item
    below : first_place past item < length past

  same_first : (item : StrandRun) → AllByRecursion (λ p. IsWithinOrFar gap item p) past
      → Some_of (λ p. Lies item p) past → Same item
  same_first item apart has =
      let new = is_in (joined_to gap r item) in
      let Up : Feature → Type 0 = λ p. p.chrom ≡ r.chrom → p.start ≤ r.start in
      let alike = all_so (λ p. IsWithinOrFar gap item p × Up p) (λ p. new p ≡ is_in item p) past (λ p both. same_in gap r item p both.0 both.1)
      (all_and (λ p. IsWithinOrFar gap item p) Up past apart (up gap past r taken listed)) in
      let some = some_weaker (λ p. Lies item p) (λ p. is_in item p ≡ true)
      (λ p l. lies_true item p l) past has in
      grind (arith, (found_same new (is_in item) past (r ∷ []) alike some), found_below)

  all_same : AllByRecursion Same old
  all_same =
      let Apart : StrandRun → Type 0 = λ item. AllByRecursion (λ p. IsWithinOrFar gap item p) past in
      let Has : StrandRun → Type 0 = λ item. Some_of (λ p. Lies item p) past in
      grind (arith, (all_so (λ item. Apart item × Has item) Same old (λ item both. same_first item both.0 both.1) (all_and Apart Has old listed.apart listed.has)))

  -- a new one has the record
  record New : Type 0 where
    place : first_place (past ++ r ∷ []) (run_from r) ≡ length past
    start : first_start (past ++ r ∷ []) (run_from r) ≡ Some (locus_of (interval_of r))

  is_new : list_any (reaches gap r) old ≡ false → New
  is_new f =
      let Full : Feature → Type 0 = λ p. p.start < p.stop in
      let In : Feature → Type 0 = λ p. Some_of (λ item. Lies item p) old in
      let out = all_so (λ p. In p × Full p) (λ p. is_in (run_from r) p ≡ false) past (λ p both. not_in_new gap r old (none_each (reaches gap r) old f) p both.0 both.1)
      (all_and In Full past listed.lies (some_base gap past r taken listed)) in
      let here = lies_true (run_from r) r
      (record { same = refl; on = refl; from = omega arith; to = omega arith }) in
      grind (arith, (found_last (is_in (run_from r)) past r out here))

  places_old : map (first_place (past ++ r ∷ [])) (map (joined_to gap r) old)
      ≡ map (first_place past) old
  places_old = grind (arith, map_map, all_so, all_same)

  starts_old : AllByRecursion (λ item. first_start past item ≡ Some (locus_of item.run)) old
      → AllByRecursion (λ item. first_start (past ++ r ∷ []) item ≡ Some (locus_of item.run))
      (map (joined_to gap r) old)
  starts_old start = grind (arith, all_map, all_so, same_start, (all_and Same (λ item. first_start past item ≡ Some (locus_of item.run)) old all_same start))

  firsts_next : Firsts gap past → Firsts gap (past ++ r ∷ [])
  firsts_next firsts =
      let next = past ++ r ∷ [] in
      let joined = map (joined_to gap r) old in
      let more = listing_next gap past r taken listed in
      elim (cases_Bool (list_any (reaches gap r) old)) [
        | inl t ↦
            let is : strand_runs gap next ≡ joined =
            more ∙ ap (λ b. joined ++ new_run b r) t ∙ append-nil joined in
            record {
              rise = subst (λ l. Rise l) (sym (ap (map (first_place next)) is ∙ (grind (arith, map_map, all_so, all_same))))
                  firsts.rise;
              start = rw is (starts_old firsts.start);
            }
        | inr f ↦
            let is : strand_runs gap next ≡ joined ++ run_from r ∷ [] =
            more ∙ ap (λ b. joined ++ new_run b r) f in
            let new = is_new f in
            let before = map (first_place past) old in
            let places :
            map (first_place next) (strand_runs gap next) ≡ before ++ length past ∷ [] =
            ap (map (first_place next)) is ∙ map-append (first_place next) joined (run_from r ∷ [])
            ∙ ap₂ (λ (a : List ℕ) (n : ℕ). a ++ n ∷ []) places_old new.place in
            record {
              rise = rw places (rise_more before (length past) firsts.rise (grind (arith, all_map, all_so, all_same)));
              start = rw is (all_both (λ item. first_start next item ≡ Some (locus_of item.run))
                  joined (run_from r ∷ []) (starts_old firsts.start) (new.start, tt));
            }
      ]

  -- if the runs come before records in order, so do they with the first of those
  module _ (order : Order) (total : IsTotal order) where
    before_same : (items : List StrandRun) (rest : List Interval) (a b : Interval)
        → locus_of a ≡ locus_of b
        → IsPlacedBefore order a (places_of items ++ rest)
        → IsPlacedBefore order b (places_of (map (joined_to gap r) items) ++ rest)
    before_same [] [] a b e p = tt
    before_same [] (s ∷ ss) a b e p = subst (λ (l : Locus). IsUpTo order l (locus_of s)) e p
    before_same (x ∷ xs) rest a b e p = grind arith

    placed_same : (items : List StrandRun) (rest : List Interval)
        → ArePlaced order (places_of items ++ rest)
        → ArePlaced order (places_of (map (joined_to gap r) items) ++ rest)
    placed_same [] rest p = p
    placed_same (x ∷ xs) rest p = grind (arith, (before_same xs rest x.run (joined_to gap r x).run (sym (same_start gap r x)) p.1), (placed_same xs rest p.2))

    placed_without : (xs : List Interval) (y : Interval) (rest : List Interval)
        → ArePlaced order (xs ++ y ∷ rest) → ArePlaced order (xs ++ rest)
    placed_without [] y rest p = p.2
    placed_without (x ∷ []) y rest p = skips order x y rest total p
    placed_without (x ∷ w ∷ ws) y rest p = (p.0, p.1, placed_without (w ∷ ws) y rest p.2)

    placed_next : (rest : List Interval) → ArePlaced order (places_of old ++ interval_of r ∷ rest)
        → ArePlaced order (places_of (strand_runs gap (past ++ r ∷ [])) ++ rest)
    placed_next rest p = grind (arith, listing_next, placed_same, placed_without, map-append, append_assoc)

-- so it is of all records
firsts_none : (gap : ℕ) → Firsts gap []
unfolding strand_runs
firsts_none gap = record { rise = tt; start = tt }

module _ (gap : ℕ) where
  firsts_more : (past more : List Feature) → AreMergeable (past ++ more) → Firsts gap past
      → Firsts gap (past ++ more)
  firsts_more past [] t f = subst (Firsts gap) (sym (append-nil past)) f
  firsts_more past (r ∷ rs) t f =
      let grown : (past ++ r ∷ []) ++ rs ≡ past ++ r ∷ rs = append_assoc past (r ∷ []) rs in
      let all = subst AreMergeable (sym grown) t in
      let next = taken_front (past ++ r ∷ []) rs all in
      grind (arith, (firsts_more (past ++ r ∷ []) rs all (firsts_next gap past r next (are_listed gap past (taken_front past (r ∷ []) next)) f)))

  firsts : (records : List Feature) → AreMergeable records → Firsts gap records
  firsts records t = firsts_more [] records t (firsts_none gap)

  abbrev AreRunsPlaced : Order → List Feature → Type 0
  AreRunsPlaced order records = ArePlaced order (places_of (strand_runs gap records))

  placed_more : (order : Order) (total : IsTotal order) (past more : List Feature)
      → AreMergeable (past ++ more)
      → ArePlaced order (places_of (strand_runs gap past) ++ intervals_of more)
      → AreRunsPlaced order (past ++ more)
  placed_more order total past [] t p = grind (arith, append-nil)
  placed_more order total past (r ∷ rs) t p =
      let grown : (past ++ r ∷ []) ++ rs ≡ past ++ r ∷ rs = append_assoc past (r ∷ []) rs in
      let all = subst AreMergeable (sym grown) t in
      let next = taken_front (past ++ r ∷ []) rs all in
      let listed = are_listed gap past (taken_front past (r ∷ []) next) in
      grind (arith, (placed_more order total (past ++ r ∷ []) rs all (placed_next gap past r next listed order total (intervals_of rs) p)))

no_runs : (gap : ℕ) → strand_runs gap [] ≡ []
unfolding strand_runs
no_runs gap = refl

-- the laws
pub in_turn : strand_runs_come_in_turn
in_turn gap records taken = grind (arith, (rise_increases (map (first_place records) (strand_runs gap records)) (firsts gap records taken).rise))

pub start_with_records : strand_runs_start_with_records
start_with_records gap records taken = grind (arith, (map_same (first_start records) (λ item. Some (locus_of item.run)) (strand_runs gap records) (firsts gap records taken).start))

pub in_order : strand_runs_come_in_order
in_order order gap records total placed full =
    let contiguous = placed_contiguous order (intervals_of records) total placed in
    placed_more gap order total [] records (record { contiguous = contiguous; full = full })
    (subst (λ (l : List StrandRun). ArePlaced order (places_of l ++ intervals_of records))
    (sym (no_runs gap)) placed)

-- Names that are put in order: each comes before the next, and none is lost.

put_all : (P : List ℕ → Type 0) (order : Order) (name : List ℕ) (names : List (List ℕ)) → P name → AllByRecursion P names → AllByRecursion P (put_in_order order name names)
put_all P order name [] one all = (one, tt)
put_all P order name (n ∷ ns) one all = grind (arith, (put_all P order name ns one all.1))

pub ordered_all : (P : List ℕ → Type 0) (order : Order) (names : List (List ℕ)) → AllByRecursion P names → AllByRecursion P (runs_in_order order names)
ordered_all P order [] all = tt
ordered_all P order (n ∷ ns) all = grind (arith, put_all, (ordered_all P order ns all.1))

module _ (order : Order) where
  among_put : (name x : List ℕ) (ns : List (List ℕ)) → is_among (put_in_order order name ns) x ≡ is_among (name ∷ ns) x
  among_put name x [] = refl
  among_put name x (n ∷ ns) = grind (arith, (among_put name x ns))

  among_order : (x : List ℕ) (ns : List (List ℕ)) → is_among (runs_in_order order ns) x ≡ is_among ns x
  among_order x [] = refl
  among_order x (n ∷ ns) = grind (arith, among_put, (among_order x ns))

  ascending_put : IsTotal order → (name : List ℕ) (ns : List (List ℕ)) → IsTrue (order.knows name) → AreKnown order ns
      → is_among ns name ≡ false → AreSortedNames order ns → AreSortedNames order (put_in_order order name ns)
  ascending_put total name [] one known none old = (tt, tt)
  ascending_put total name (n ∷ ns) one known none old = grind (arith, (ascending_put total name ns one known.1 (or_parts (bytes_eq n name) (is_among ns name) none).1 old.1), rules)

  ascending_order : IsTotal order → (ns : List (List ℕ)) → AreKnown order ns → AreDistinct ns → AreSortedNames order (runs_in_order order ns)
  ascending_order total [] known distinct = tt
  ascending_order total (n ∷ ns) known distinct = grind (arith, (ascending_order total ns known.1 distinct.1), ascending_put, (ordered_all (λ name. IsTrue (order.knows name)) order ns known.1), among_order)

pub names_in_order : names_come_in_order
names_in_order order names total known distinct = grind (arith, ascending_order, among_order)

pub file_ordered : file_runs_are_ordered
file_ordered names gap strand records distinct placed = grind (arith, (in_file_order names gap strand records distinct placed), (ordered_come (rank_order names) gap strand records (ranks_total names) placed))
