-- Merged runs of records of two parts, and those of each strand.
use Rattle.bt_lines.proofs.Std.{arith, ◌≡◌, ℕ, Bool, false, List, [], ◌∷◌, ◌++◌, filter, append-nil, refl, sym, ap, ap₂, ◌∙◌, subst, true, ◌&&◌, not, cond, append_assoc, bytes_eq, AllByRecursion, list_any, take_while, flat_map-append, map-append, filter-append, take_while-cons, and_left}
use Rattle.bt_bed.specs.model.Feature.{Feature, interval_of, intervals_of, Interval, last_of}
use Rattle.bt_bed.specs.calls.Orders.{AreNonEmpty, ArePlaced, IsTotal}
use Rattle.bt_bed.specs.model.BedLine.{interval_lines, interval_line}
use Rattle.bt_bed.specs.model.Sorted.{has_records}
use Rattle.bt_bed.specs.model.Order.{Order}
use Rattle.bt_bed.proofs.lemmas.order.OrderLemmas.{placed_contiguous}
use Rattle.bt_runs.specs.model.Merged.{counted, is_counted, chromosomes, merged, is_closed, merged_runs, passed_by, StrandRun, begun_by, is_in, listed_after, places_of, runs_of_strand, settled_strand_runs, strand_runs}
use Rattle.bt_runs.specs.calls.MergedRuns.{AreMergeable, settled_runs, kept_strand_runs}
use Rattle.bt_runs.specs.declared.merge.merge_strand.MergeStrand.{MergeStrand}
use Rattle.bt_runs.proofs.lemmas.order.FileOrder.{among_chromosomes, without_absent, ordered_come, spans_on-append, spans_on-none}
use Rattle.bt_runs.proofs.lemmas.definitions.Standing.{placed_elsewhere, counted-append, passed_elsewhere}
use Rattle.bt_runs.proofs.lemmas.merge.SettledRuns.{runs_begin}
use Rattle.bt_laws.proofs.lemmas.parts.PartLines.{Earlier}
use Rattle.bt_runs.proofs.lemmas.Lists.{all_filter, all_map, all_so, flat_map_same, all_unmap, all_any, all_both, all_flat_map, all_swapped, filter_none, filter_same}
use Rattle.bt_laws.proofs.lemmas.parts.PartGenomes.{Away, has_none, last_behind, last_is, none_has, placed_both, records_away}
use Rattle.bt_laws.proofs.lemmas.parts.PartReports.{Splits}
use Rattle.bt_tool.specs.model.Written.{pooled_written, strands_written}
use Rattle.bt_bed.specs.declared.record.strand.Strand.{Strand}
use Rattle.bt_runs.specs.declared.merge.merge_strand.MergeStrand.TheVariants.{One}
use Rattle.bt_runs.proofs.lemmas.merge.StrandListing.{listed_append}
use Rattle.bt_laws.proofs.lemmas.single.LevelLemmas.{divide}
use Rattle.bt_laws.proofs.lemmas.parts.PartSweep.{any_behind}

-- what isn't on a chromosome isn't when fewer records are looked at
pub fewer : (t : Feature → Bool) (name : List ℕ) (rs : List Feature) → has_records name (intervals_of rs) ≡ false → has_records name (intervals_of (filter t rs)) ≡ false
fewer t name rs e = none_has name (intervals_of (filter t rs)) (all_map _ interval_of (filter t rs) (all_filter _ t rs (all_unmap (λ r. bytes_eq r.chrom name ≡ false) interval_of rs (has_none name (intervals_of rs) e))))

-- the records of a strand are on other chromosomes, if all records are
pub away_some : (t : Feature → Bool) (ones twos : List Feature) → Away (intervals_of ones) (intervals_of twos) → Away (intervals_of (filter t ones)) (intervals_of (filter t twos))
away_some t ones twos away = grind (arith, all_map, all_so, fewer, all_filter, all_unmap)

-- chromosomes of both
pub chromosomes_both : (xs ys : List Interval) → AllByRecursion (λ r. has_records r.chrom ys ≡ false) xs → chromosomes (xs ++ ys) ≡ chromosomes xs ++ chromosomes ys
chromosomes_both [] ys h = refl
chromosomes_both (r ∷ xs) ys h = grind (arith, (chromosomes_both xs ys h.1), filter-append, without_absent, among_chromosomes)

-- what holds of each record's chromosome holds of each name
pub named_all : (P : List ℕ → Type 0) (xs : List Interval) → AllByRecursion (λ r. P r.chrom) xs → AllByRecursion P (chromosomes xs)
named_all P [] h = tt
named_all P (r ∷ xs) h = grind (arith, all_filter, (named_all P xs h.1))

module _ (gap : ℕ) where
  pub merged_both : (xs ys : List Interval) → Away xs ys → merged (chromosomes (xs ++ ys)) gap (xs ++ ys) ≡ merged (chromosomes xs) gap xs ++ merged (chromosomes ys) gap ys
  unfolding merged
  merged_both xs ys away = grind (arith, (chromosomes_both xs ys away.first), flat_map-append, flat_map_same, all_so, spans_on-append, spans_on-none, append-nil, (named_all (λ n. has_records n ys ≡ false) xs away.first), (named_all (λ n. has_records n xs ≡ false) ys away.second))

  -- runs on other chromosomes are passed
  pub passed_all : (last : Interval) (names : List (List ℕ)) (xs : List Interval) → AllByRecursion (λ n. bytes_eq n last.chrom ≡ false) names → filter (is_closed gap last) (merged names gap xs) ≡ merged names gap xs
  unfolding merged
  passed_all last [] xs h = refl
  passed_all last (n ∷ names) xs h = grind (arith, (passed_all last names xs h.1), filter-append, placed_elsewhere)

  module _ (strand : MergeStrand) where
    pub runs_both : (ones twos : List Feature) → Away (intervals_of ones) (intervals_of twos) → merged_runs gap strand (ones ++ twos) ≡ merged_runs gap strand ones ++ merged_runs gap strand twos
    runs_both ones twos away = grind (arith, counted-append, merged_both, away_some)

    -- a record of the second part passes all runs of the first
    pub passed_first : (last : Interval) (ones : List Feature) → has_records last.chrom (intervals_of ones) ≡ false → filter (is_closed gap last) (merged_runs gap strand ones) ≡ merged_runs gap strand ones
    passed_first last ones e =
        passed_all last (chromosomes (counted strand ones)) (counted strand ones)
        (named_all (λ n. bytes_eq n last.chrom ≡ false) (counted strand ones) (has_none last.chrom (counted strand ones) (fewer (λ r. is_counted strand r.strand) last.chrom ones e)))

    begins : (ones : List Feature) → AreMergeable ones → (rest : List Interval) × (merged_runs gap strand ones ≡ passed_by gap (merged_runs gap strand ones) (last_of (intervals_of ones)) ++ rest)
    unfolding settled_runs
    begins ones taken = grind (arith, (runs_begin gap strand ones [] (subst AreMergeable (sym (append-nil ones)) taken)), (append-nil ones))

    begin_by : (ones twos : List Feature) → AreMergeable ones → Away (intervals_of ones) (intervals_of twos)
        → (rest : List ℕ) × (interval_lines (merged_runs gap strand ones) ++ interval_lines (passed_by gap (merged_runs gap strand twos) (last_of (intervals_of twos)))
        ≡ interval_lines (passed_by gap (merged_runs gap strand (ones ++ twos)) (last_of (intervals_of (ones ++ twos)))) ++ rest)
    begin_by ones [] taken away = grind (arith, (begins ones taken), (append-nil (interval_lines (merged_runs gap strand ones))), flat_map-append, (append-nil ones))
    begin_by ones (s ∷ twos) taken away = grind (arith, append-nil, map-append, last_behind, runs_both, filter-append, passed_first, last_is, flat_map-append)

    module _ (order : Order) (total : IsTotal order) (ones twos : List Feature) (one : ArePlaced order (intervals_of ones)) (two : ArePlaced order (intervals_of twos))
        (full : AreNonEmpty (intervals_of ones)) (early : Earlier order total ones twos) where
      both_placed : ArePlaced order (intervals_of (ones ++ twos))
      both_placed = placed_both order total ones twos one two early

      away : Away (intervals_of ones) (intervals_of twos)
      away = records_away order total ones twos one early

      pub pooled_split : Splits (pooled_written order gap strand) (pooled_written order gap strand) (pooled_written order gap strand) ones twos
      pooled_split = grind (arith, (begin_by ones twos (record { contiguous = placed_contiguous order (intervals_of ones) total one; full = full }) away), ordered_come, both_placed, runs_both, away, flat_map-append)

-- ---- runs of each strand

-- the run lies on another chromosome
abbrev Elsewhere : List ℕ → StrandRun → Type 0
Elsewhere name item = bytes_eq item.run.chrom name ≡ false

not_in : (item : StrandRun) (r : Feature) → Elsewhere r.chrom item → is_in item r ≡ false
not_in item r e = grind arith

-- what is listed is among the runs of the strands
pub listed_all : (P : StrandRun → Type 0) (runs : Strand → List StrandRun) (before rs : List Feature) → ((strand : Strand) → AllByRecursion P (runs strand)) → AllByRecursion P (listed_after runs before rs)
listed_all P runs before [] h = tt
listed_all P runs before (r ∷ rs) h = grind (arith, all_both, all_filter, (listed_all P runs (before ++ r ∷ []) rs h))

module _ (gap : ℕ) where
  runs_elsewhere : (name : List ℕ) (names : List (List ℕ)) (rs : List Interval) → AllByRecursion (λ n. bytes_eq n name ≡ false) names → AllByRecursion (λ run. bytes_eq run.chrom name ≡ false) (merged names gap rs)
  unfolding merged
  runs_elsewhere name names rs h = grind (arith, all_flat_map, all_so, all_map, all_any)

  -- runs of records that have none on a chromosome lie elsewhere
  items_elsewhere : (name : List ℕ) (rs : List Feature) (strand : Strand) → has_records name (intervals_of rs) ≡ false → AllByRecursion (Elsewhere name) (runs_of_strand gap rs strand)
  items_elsewhere name rs strand e =
      all_map (Elsewhere name) (λ run. record { strand = strand; run = run }) (merged_runs gap (One strand) rs)
      (runs_elsewhere name (chromosomes (counted (One strand) rs)) (counted (One strand) rs)
      (named_all (λ n. bytes_eq n name ≡ false) (counted (One strand) rs) (has_none name (counted (One strand) rs) (fewer (λ r. is_counted (One strand) r.strand) name rs e))))

  module _ (ones twos : List Feature) (away : Away (intervals_of ones) (intervals_of twos)) where
    listed_first : (before rs : List Feature) → AllByRecursion (λ r. has_records r.chrom (intervals_of twos) ≡ false) rs → listed_after (runs_of_strand gap (ones ++ twos)) before rs ≡ listed_after (runs_of_strand gap ones) before rs
    listed_first before [] h = refl
    listed_first before (r ∷ rs) h =
        grind (arith, runs_both, map-append, filter-append, filter_none, all_so, items_elsewhere, append-nil, (listed_first (before ++ r ∷ []) rs h.1))

    -- no record of the first part lies in a run of the second
    none_first : (strand : Strand) → AllByRecursion (λ item. AllByRecursion (λ r. is_in item r ≡ false) ones) (runs_of_strand gap twos strand)
    none_first strand =
        all_swapped (λ r item. is_in item r ≡ false) ones (runs_of_strand gap twos strand)
        (all_so (λ r. has_records r.chrom (intervals_of twos) ≡ false)
        (λ r. AllByRecursion (λ item. is_in item r ≡ false) (runs_of_strand gap twos strand)) ones
        (λ r e. all_so (Elsewhere r.chrom) (λ item. is_in item r ≡ false) (runs_of_strand gap twos strand) (λ item out. not_in item r out)
        (items_elsewhere r.chrom twos strand e))
        (all_unmap _ interval_of ones away.first))

    begun_second : (before : List Feature) (r : Feature) → has_records r.chrom (intervals_of ones) ≡ false → begun_by (runs_of_strand gap (ones ++ twos) r.strand) (ones ++ before) r ≡ begun_by (runs_of_strand gap twos r.strand) before r
    begun_second before r e =
        let test : StrandRun → Bool = λ item. is_in item r && not (list_any (is_in item) (ones ++ before)) in
        let here : StrandRun → Bool = λ item. is_in item r && not (list_any (is_in item) before) in
        ap (filter test) (grind (arith, runs_both, map-append))
        ∙ filter-append test (runs_of_strand gap ones r.strand) (runs_of_strand gap twos r.strand)
        ∙ ap₂ (λ a b. a ++ b)
        (filter_none test (runs_of_strand gap ones r.strand)
        (all_so (Elsewhere r.chrom) (λ item. test item ≡ false) (runs_of_strand gap ones r.strand) (λ item out. and_left (is_in item r) (not (list_any (is_in item) (ones ++ before))) (not_in item r out)) (items_elsewhere r.chrom ones r.strand e)))
        (filter_same test here (runs_of_strand gap twos r.strand)
        (all_so (λ item. AllByRecursion (λ r. is_in item r ≡ false) ones) (λ item. test item ≡ here item) (runs_of_strand gap twos r.strand) (λ item none. ap (λ b. is_in item r && not b) (any_behind (is_in item) ones before none)) (none_first r.strand)))

    listed_second : (before rs : List Feature) → AllByRecursion (λ r. has_records r.chrom (intervals_of ones) ≡ false) rs → listed_after (runs_of_strand gap (ones ++ twos)) (ones ++ before) rs ≡ listed_after (runs_of_strand gap twos) before rs
    listed_second before [] h = refl
    listed_second before (r ∷ rs) h = grind (arith, (listed_second (before ++ r ∷ []) rs h.1), begun_second, append_assoc)

    pub strand_runs_both : strand_runs gap (ones ++ twos) ≡ strand_runs gap ones ++ strand_runs gap twos
    unfolding strand_runs
    strand_runs_both = grind (arith, (listed_append (runs_of_strand gap (ones ++ twos))), listed_first, (all_unmap _ interval_of ones away.first), (append-nil ones), listed_second, (all_unmap _ interval_of twos away.second))

  strand_runs_elsewhere : (name : List ℕ) (rs : List Feature) → has_records name (intervals_of rs) ≡ false → AllByRecursion (Elsewhere name) (strand_runs gap rs)
  unfolding strand_runs
  strand_runs_elsewhere name rs e = listed_all (Elsewhere name) (runs_of_strand gap rs) [] rs (λ strand. items_elsewhere name rs strand e)

  take_front : (t : StrandRun → Bool) (xs ys : List StrandRun) → AllByRecursion (λ x. t x ≡ true) xs → take_while t (xs ++ ys) ≡ xs ++ take_while t ys
  take_front t [] ys h = refl
  take_front t (x ∷ xs) ys h = grind (arith, (take_while-cons t x (xs ++ ys)), cond, (take_while t (xs ++ ys)), (take_front t xs ys h.1))

  settled_both : (ones : List Feature) (s : Feature) (twos : List Feature) → Away (intervals_of ones) (intervals_of (s ∷ twos)) → settled_strand_runs gap (ones ++ s ∷ twos) ≡ strand_runs gap ones ++ settled_strand_runs gap (s ∷ twos)
  unfolding settled_strand_runs
  settled_both ones s twos away = grind (arith, (map-append interval_of ones (s ∷ twos)), (last_behind (intervals_of ones) (interval_of s) (intervals_of twos)), take_while, (strand_runs_both ones (s ∷ twos) away), take_front, all_so, passed_elsewhere, strand_runs_elsewhere, last_is)

  places_both : (xs ys : List StrandRun) → interval_lines (places_of (xs ++ ys)) ≡ interval_lines (places_of xs) ++ interval_lines (places_of ys)
  places_both xs ys = grind (arith, map-append, (flat_map-append interval_line (places_of xs) (places_of ys)))

  nothing_settled : interval_lines (places_of (settled_strand_runs gap [])) ≡ []
  unfolding settled_strand_runs
  nothing_settled = refl

  strand_begin : (ones twos : List Feature) → Away (intervals_of ones) (intervals_of twos)
      → (rest : List ℕ) × (interval_lines (places_of (strand_runs gap ones)) ++ interval_lines (places_of (settled_strand_runs gap twos)) ≡ interval_lines (places_of (settled_strand_runs gap (ones ++ twos))) ++ rest)
  strand_begin ones [] _ = (interval_lines (places_of (kept_strand_runs gap ones)), grind (arith, nothing_settled, append-nil, (divide gap ones), (places_both (settled_strand_runs gap ones) (kept_strand_runs gap ones))))
  strand_begin ones (s ∷ twos) away = grind (arith, append-nil, settled_both, places_both)

  pub strands_split : (ones twos : List Feature) → Away (intervals_of ones) (intervals_of twos) → Splits (strands_written gap) (strands_written gap) (strands_written gap) ones twos
  strands_split ones twos away = grind (arith, (strand_runs_both ones twos away), (places_both (strand_runs gap ones) (strand_runs gap twos)), (strand_begin ones twos away))
