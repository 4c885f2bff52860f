-- The records of one chromosome, and the names of the chromosomes that have some, in a past that grows at its end.
use Rattle.bt_lines.proofs.Std.{◌≡◌, ℕ, inl, inr, List, [], ◌∷◌, ◌++◌, append-nil, refl, sym, ap, ◌∙◌, map, false, not, ◌||◌, bytes_eq, cond-true, cond-false, or_parts, not_from_true, not_from_false, suc, ◌<◌, ◌≤◌, ◌⊎◌, subst, arith, filter, Bool, true, Option, Some, option_map, or_from, is_some}
use Rattle.bt_bed.specs.model.Feature.{Interval, span_of, placed_on, spans_on, Feature, interval_of, intervals_of}
use Rattle.bt_bed.specs.calls.Stretches.{stretches_from}
use Rattle.bt_bed.specs.model.Order.{is_among, Order, rank_of, compare_ranks, rank_order}
use Rattle.bt_bed.specs.calls.Orders.{IsTotal, AreDistinct, IsPlacedBefore, ArePlaced, AreContiguous}
use Rattle.bt_bed.specs.model.Sorted.{has_records}
use Rattle.bt_bed.proofs.lemmas.parse.NameLemmas.{name_eq, name_ne, other_name, cases_name, name_ne-sym}
use Rattle.bt_runs.specs.model.Merged.{runs_of, runs_on, without, chromosomes, is_counted, counted, merged, merged_runs, ordered_names, ordered_runs}
use Rattle.std.specs.declared.cmp.Ordering.TheVariants.{Less}
use Rattle.bt_bed.specs.inside.RankTotal.{ranks_total}
use Rattle.bt_runs.specs.declared.merge.merge_strand.MergeStrand.{MergeStrand}
use Rattle.bt_runs.proofs.lemmas.definitions.Standing.{known_rank, later_rank}
use Rattle.bt_runs.proofs.lemmas.Lists.{all_any, filter_none}
use Rattle.bt_bed.proofs.lemmas.order.OrderLemmas.{placed_contiguous}

-- the records of one chromosome
pub spans_on-here : (name : List ℕ) (r : Interval) (rs : List Interval) → r.chrom ≡ name → spans_on name (r ∷ rs) ≡ span_of r ∷ spans_on name rs
spans_on-here name r rs e = cond-true (bytes_eq r.chrom name) (span_of r ∷ spans_on name rs) (spans_on name rs) (name_eq r.chrom name e)

pub spans_on-elsewhere : (name : List ℕ) (r : Interval) (rs : List Interval) → bytes_eq r.chrom name ≡ false → spans_on name (r ∷ rs) ≡ spans_on name rs
spans_on-elsewhere name r rs f = cond-false (bytes_eq r.chrom name) (span_of r ∷ spans_on name rs) (spans_on name rs) f

pub spans_on-append : (name : List ℕ) (xs ys : List Interval) → spans_on name (xs ++ ys) ≡ spans_on name xs ++ spans_on name ys
spans_on-append name [] ys = refl
spans_on-append name (x ∷ xs) ys = grind (arith, (spans_on-append name xs ys))

pub spans_on-push_here : (name : List ℕ) (past : List Interval) (r : Interval) → r.chrom ≡ name → spans_on name (past ++ r ∷ []) ≡ spans_on name past ++ span_of r ∷ []
spans_on-push_here name past r e = spans_on-append name past (r ∷ []) ∙ ap (λ zs. spans_on name past ++ zs) (spans_on-here name r [] e)

pub spans_on-push_elsewhere : (name : List ℕ) (past : List Interval) (r : Interval) → bytes_eq r.chrom name ≡ false → spans_on name (past ++ r ∷ []) ≡ spans_on name past
spans_on-push_elsewhere name past r f = spans_on-append name past (r ∷ []) ∙ ap (λ zs. spans_on name past ++ zs) (spans_on-elsewhere name r [] f) ∙ append-nil (spans_on name past)

pub spans_on-none : (name : List ℕ) (records : List Interval) → has_records name records ≡ false → spans_on name records ≡ []
spans_on-none name [] f = refl
spans_on-none name (r ∷ rs) f =
    let parts = or_parts (bytes_eq r.chrom name) (has_records name rs) f in
    spans_on-elsewhere name r rs parts.0 ∙ spans_on-none name rs parts.1

-- the names of the chromosomes that have records
pub without-here : (name : List ℕ) (n : List ℕ) (ns : List (List ℕ)) → n ≡ name → without name (n ∷ ns) ≡ without name ns
without-here name n ns e = cond-false (not (bytes_eq n name)) (n ∷ without name ns) (without name ns) (not_from_true (bytes_eq n name) (name_eq n name e))

pub without-other : (name : List ℕ) (n : List ℕ) (ns : List (List ℕ)) → bytes_eq n name ≡ false → without name (n ∷ ns) ≡ n ∷ without name ns
without-other name n ns f = cond-true (not (bytes_eq n name)) (n ∷ without name ns) (without name ns) (not_from_false (bytes_eq n name) f)

pub among_without : (name other : List ℕ) (names : List (List ℕ)) → bytes_eq other name ≡ false → is_among (without other names) name ≡ is_among names name
among_without name other [] f = refl
among_without name other (n ∷ ns) f = grind (arith, (among_without name other ns f), name_ne, other_name, without-other)

pub among_chromosomes : (name : List ℕ) (past : List Interval) → is_among (chromosomes past) name ≡ has_records name past
among_chromosomes name [] = refl
among_chromosomes name (q ∷ qs) = grind (arith, (among_chromosomes name qs), among_without)

-- records elsewhere change no run
pub runs_on-push_elsewhere : (name : List ℕ) (gap : ℕ) (past : List Interval) (r : Interval) → bytes_eq r.chrom name ≡ false → runs_on name gap (past ++ r ∷ []) ≡ runs_on name gap past
runs_on-push_elsewhere name gap past r f = ap (λ spans. map (placed_on name) (runs_of gap spans)) (spans_on-push_elsewhere name past r f)

-- Records in the order of a genome file: their chromosomes come in that order, each once.

-- the next is left out
pub skips : (order : Order) (p q : Interval) (rest : List Interval) → IsTotal order → ArePlaced order (p ∷ q ∷ rest) → ArePlaced order (p ∷ rest)
skips order p q rest total t = grind arith

module _ (order : Order) (total : IsTotal order) (keep : Feature → Bool) where
  some_next : (p : Interval) (records : List Feature) → ArePlaced order (p ∷ intervals_of records) → IsPlacedBefore order p (intervals_of (filter keep records))
  some_next p [] t = tt
  some_next p (r ∷ rs) t = grind (arith, (some_next p rs (skips order p (interval_of r) (intervals_of rs) total t)))

  -- some of the records are in order if all are
  pub some_placed : (records : List Feature) → ArePlaced order (intervals_of records) → ArePlaced order (intervals_of (filter keep records))
  some_placed [] t = tt
  some_placed (r ∷ rs) t = grind (arith, (some_next (interval_of r) rs t), (some_placed rs t.2))

-- ranks
pub rank_of-here : (n name : List ℕ) (ns : List (List ℕ)) → n ≡ name → rank_of (n ∷ ns) name ≡ Some 0
rank_of-here n name ns e = cond-true (bytes_eq n name) (Some 0) (option_map (λ rank. suc rank) (rank_of ns name)) (name_eq n name e)

pub rank_of-later : (n name : List ℕ) (ns : List (List ℕ)) → bytes_eq n name ≡ false → rank_of (n ∷ ns) name ≡ option_map (λ rank. suc rank) (rank_of ns name)
rank_of-later n name ns f = cond-false (bytes_eq n name) (Some 0) (option_map (λ rank. suc rank) (rank_of ns name)) f

-- the ranks of a record's chromosome and of the next one's
record RanksUpTo (names : List (List ℕ)) (r s : Interval) : Type 0 where
  rank : ℕ
  next_rank : ℕ
  rank_is : rank_of names r.chrom ≡ Some rank
  next_rank_is : rank_of names s.chrom ≡ Some next_rank
  up_to : (rank < next_rank) ⊎ (r.chrom ≡ s.chrom)

ranks_up_to : (names : List (List ℕ)) (r s : Interval) (ss : List Interval) → ArePlaced (rank_order names) (r ∷ s ∷ ss) → RanksUpTo names r s
ranks_up_to names r s ss placed = grind arith

same_ranks : (names : List (List ℕ)) (a b : List ℕ) (i j : ℕ) → a ≡ b → rank_of names a ≡ Some i → rank_of names b ≡ Some j → i ≡ j
same_ranks names a b i j e p q = let h = ap (λ c. rank_of names c) e in cc

-- a chromosome of lower rank than the first record's has no records
lower_is_absent : (names : List (List ℕ)) (name : List ℕ) (i j : ℕ) (s : Interval) (ss : List Interval) → ArePlaced (rank_order names) (s ∷ ss) → rank_of names name ≡ Some i → rank_of names s.chrom ≡ Some j → i < j → has_records name (s ∷ ss) ≡ false
lower_is_absent names name i j s [] placed p q l = grind (arith, name_ne)
lower_is_absent names name i j s (t ∷ ts) placed p q l =
    let next = ranks_up_to names s t ts placed in
    let one = same_ranks names s.chrom s.chrom next.rank j refl next.rank_is q in
    let higher : i < next.next_rank = elim next.up_to [ inl h ↦ omega arith | inr e ↦ let same = same_ranks names s.chrom t.chrom j next.next_rank e q next.next_rank_is in omega arith ] in
    grind (arith, (lower_is_absent names name i next.next_rank t ts placed.2 p next.next_rank_is higher), name_ne)

-- the test, or that the name is c, picks c if it is among names that come before all others that pass
pick_absent : (c : List ℕ) (q : List ℕ → Bool) (names : List (List ℕ)) → is_among names c ≡ false → filter (λ n. bytes_eq c n || q n) names ≡ filter q names
pick_absent c q [] f = refl
pick_absent c q (n ∷ ns) f = grind (arith, (pick_absent c q ns (or_parts (bytes_eq n c) (is_among ns c) f).1), (name_ne-sym n c (or_parts (bytes_eq n c) (is_among ns c) f).0))

pick_first : (names : List (List ℕ)) (c : List ℕ) (i : ℕ) (q : List ℕ → Bool) → AreDistinct names → rank_of names c ≡ Some i → ((n : List ℕ) (j : ℕ) → rank_of names n ≡ Some j → j ≤ i → q n ≡ false) → filter (λ n. bytes_eq c n || q n) names ≡ c ∷ filter q names
pick_first [] c i q distinct r low = absurd (cc)
pick_first (n ∷ ns) c i q distinct r low =
    let p : List ℕ → Bool = λ m. bytes_eq c m || q m in
    let absent : q n ≡ false = low n 0 (rank_of-here n n ns refl) (omega arith) in
    elim (cases_name n c) [
      | inl e ↦ grind (arith, name_eq, pick_absent)
      | inr f ↦
          let past = later_rank (rank_of ns c) i (sym (rank_of-later n c ns f) ∙ r) in
          let here : p n ≡ false = or_from (bytes_eq c n) (q n) (name_ne-sym n c f) absent in
          let rest = pick_first ns c past.0 q distinct.1 past.1 (λ m j h l. elim (cases_name n m) [
            | inl e ↦ rw (← e) absent
            | inr g ↦ low m (suc j) (rank_of-later n m ns g ∙ ap (λ o. option_map (λ rank. suc rank) o) h) (omega (arith, past.2))
          ]) in
          cond-false (p n) (n ∷ filter p ns) (filter p ns) here ∙ rest ∙ ap (λ ms. c ∷ ms) (sym (cond-false (q n) (n ∷ filter q ns) (filter q ns) absent))
    ]

pub without_absent : (name : List ℕ) (names : List (List ℕ)) → is_among names name ≡ false → without name names ≡ names
without_absent name [] f = refl
without_absent name (n ∷ ns) f =
    let parts = or_parts (bytes_eq n name) (is_among ns name) f in
    without-other name n ns parts.0 ∙ ap (λ ms. n ∷ ms) (without_absent name ns parts.1)

without_twice : (name : List ℕ) (names : List (List ℕ)) → without name (without name names) ≡ without name names
without_twice name [] = refl
without_twice name (n ∷ ns) = grind (arith, (without_twice name ns))

-- a record on the chromosome of the next adds no name
pub same_chromosome : (r s : Interval) (ss : List Interval) → r.chrom ≡ s.chrom → chromosomes (r ∷ s ∷ ss) ≡ chromosomes (s ∷ ss)
same_chromosome r s ss e = grind (arith, without-here, without_twice)

-- the names that have records, in the order of the names, are those in the order of first records
names_in_order : (names : List (List ℕ)) (records : List Interval) → AreDistinct names → ArePlaced (rank_order names) records → filter (λ n. has_records n records) names ≡ chromosomes records
names_in_order names [] distinct placed = filter_none (λ n. false) names (all_any (λ n. false ≡ false) names (λ n. refl))
names_in_order names (r ∷ []) distinct placed =
    let rank = known_rank (rank_of names r.chrom) placed.0 in
    pick_first names r.chrom rank.0 (λ n. false) distinct rank.1 (λ n j h l. refl) ∙ ap (λ ns. r.chrom ∷ ns) (filter_none (λ n. false) names (all_any (λ n. false ≡ false) names (λ n. refl)))
names_in_order names (r ∷ s ∷ ss) distinct placed =
    let next = ranks_up_to names r s ss placed in
    let rest = names_in_order names (s ∷ ss) distinct placed.2 in
    let has : List ℕ → Bool = λ n. has_records n (s ∷ ss) in
    elim next.up_to [
      | inl lower ↦
          let absent = lower_is_absent names r.chrom next.rank next.next_rank s ss placed.2 next.rank_is next.next_rank_is lower in
          let picked = pick_first names r.chrom next.rank has distinct next.rank_is (λ n j h l. lower_is_absent names n j next.next_rank s ss placed.2 h next.next_rank_is (omega arith)) in
          picked ∙ ap (λ ns. r.chrom ∷ ns) (rest ∙ sym (without_absent r.chrom (chromosomes (s ∷ ss)) (among_chromosomes r.chrom (s ∷ ss) ∙ absent)))
      | inr e ↦ grind (arith, same_chromosome)
    ]

-- names without records give no runs
pub runs_of-nil : (gap : ℕ) → runs_of gap [] ≡ []
unfolding runs_of stretches_from
runs_of-nil gap = refl

pub runs_on-none : (name : List ℕ) (gap : ℕ) (records : List Interval) → has_records name records ≡ false → runs_on name gap records ≡ []
runs_on-none name gap records f = ap (λ spans. map (placed_on name) (runs_of gap spans)) (spans_on-none name records f) ∙ ap (λ runs. map (placed_on name) runs) (runs_of-nil gap)

merged-filter : (names : List (List ℕ)) (gap : ℕ) (records : List Interval) → merged (filter (λ n. has_records n records) names) gap records ≡ merged names gap records
unfolding merged
merged-filter [] gap records = refl
merged-filter (n ∷ ns) gap records = grind (arith, (merged-filter ns gap records), runs_on-none)

-- the merged runs by the names of the file, and by the names in the order in which they come
pub by_chromosomes : (names : List (List ℕ)) (gap : ℕ) (records : List Interval) → AreDistinct names → ArePlaced (rank_order names) records → merged names gap records ≡ merged (chromosomes records) gap records
by_chromosomes names gap records distinct placed = sym (merged-filter names gap records) ∙ ap (λ ns. merged ns gap records) (names_in_order names records distinct placed)

pub in_file_order : (names : List (List ℕ)) (gap : ℕ) (strand : MergeStrand) (records : List Feature) → AreDistinct names → ArePlaced (rank_order names) (intervals_of records)
    → merged names gap (counted strand records) ≡ merged_runs gap strand records
in_file_order names gap strand records distinct placed =
    by_chromosomes names gap (counted strand records) distinct (some_placed (rank_order names) (ranks_total names) (λ r. is_counted strand r.strand) records placed)

-- Records in a total order: the names of their chromosomes come in that order.

module _ (order : Order) (total : IsTotal order) where
  -- a chromosome doesn't come again after a later one
  gone : (r s : Interval) (ss : List Interval) → ArePlaced order (r ∷ s ∷ ss)
      → order.compare r.chrom s.chrom ≡ Less → has_records r.chrom (s ∷ ss) ≡ false
  gone r s ss placed less = grind (arith, (placed_contiguous order (r ∷ s ∷ ss) total placed))

  names_placed : (records : List Interval) → ArePlaced order records
      → ordered_names order (chromosomes records) ≡ chromosomes records
  names_placed [] placed = refl
  names_placed (r ∷ []) placed = refl
  names_placed (r ∷ s ∷ ss) placed = grind (arith, (names_placed (s ∷ ss) placed.2), without_absent, (among_chromosomes r.chrom (s ∷ ss)), gone, same_chromosome)

pub ordered_come : (order : Order) (gap : ℕ) (strand : MergeStrand) (records : List Feature) → IsTotal order → ArePlaced order (intervals_of records)
    → ordered_runs order gap strand records ≡ merged_runs gap strand records
unfolding ordered_runs
ordered_come order gap strand records total placed =
    ap (λ names. merged names gap (counted strand records))
    (names_placed order total (counted strand records)
    (some_placed order total (λ r. is_counted strand r.strand) records placed))

-- Contiguous records are in the order in which their chromosomes come.

-- a name that was left out isn't among the others
absent_without : (name : List ℕ) (names : List (List ℕ)) → is_among (without name names) name ≡ false
absent_without name [] = refl
absent_without name (n ∷ ns) = grind (arith, (absent_without name ns))

distinct_without : (name : List ℕ) (names : List (List ℕ)) → AreDistinct names → AreDistinct (without name names)
distinct_without name [] d = tt
distinct_without name (n ∷ ns) d = grind (arith, (distinct_without name ns d.1), among_without, name_ne-sym)

pub distinct_chromosomes : (records : List Interval) → AreDistinct (chromosomes records)
distinct_chromosomes [] = tt
distinct_chromosomes (r ∷ rs) = (absent_without r.chrom (chromosomes rs), distinct_without r.chrom (chromosomes rs) (distinct_chromosomes rs))

less_first : (o : Option ℕ) → is_some o ≡ true → compare_ranks (Some 0) (option_map (λ rank. suc rank) o) ≡ Less
less_first o e = grind arith

shift : (name : List ℕ) (names : List (List ℕ)) (records : List Interval) → has_records name records ≡ false → ArePlaced (rank_order names) records → ArePlaced (rank_order (name ∷ names)) records
shift name names [] f p = tt
shift name names (r ∷ []) f p = grind arith
shift name names (r ∷ s ∷ ss) f p =
    grind (arith, (shift name names (s ∷ ss) (or_parts (bytes_eq r.chrom name) (has_records name (s ∷ ss)) f).1 p.2), name_ne-sym)

pub placed_own : (records : List Interval) → AreContiguous records → ArePlaced (rank_order (chromosomes records)) records
placed_own [] t = tt
placed_own (r ∷ []) t = (ap is_some (rank_of-here r.chrom r.chrom [] refl), tt, tt)
placed_own (r ∷ s ∷ ss) t =
    let rest = placed_own (s ∷ ss) t.1 in
    elim t.0 [
      | inl same ↦ grind (arith, same_chromosome)
      | inr gone ↦
          let names = chromosomes (s ∷ ss) in
          let front : chromosomes (r ∷ s ∷ ss) ≡ r.chrom ∷ names = ap (λ ns. r.chrom ∷ ns) (without_absent r.chrom names (among_chromosomes r.chrom (s ∷ ss) ∙ gone)) in
          let here = rank_of-here r.chrom r.chrom names refl in
          let there = rank_of-later r.chrom s.chrom names (name_ne-sym s.chrom r.chrom (or_parts (bytes_eq s.chrom r.chrom) (has_records r.chrom ss) gone).0) in
          let less = ap (λ o. compare_ranks o (rank_of (r.chrom ∷ names) s.chrom)) here ∙ ap (λ o. compare_ranks (Some 0) o) there ∙ less_first (rank_of names s.chrom) rest.0 in
          subst (λ names. ArePlaced (rank_order names) (r ∷ s ∷ ss)) (sym front) (ap is_some here, inl less, shift r.chrom names (s ∷ ss) gone rest)
    ]
