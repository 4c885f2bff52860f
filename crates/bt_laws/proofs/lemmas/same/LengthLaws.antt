-- Intervals of depth 0 and the others, gaps of gaps, and merged depths.
use Rattle.bt_lines.proofs.Std.{◌≡◌, ℕ, ◌<◌, Bool, true, false, cond, List, [], ◌∷◌, map, filter, Option, Some, None, refl, sym, ap, ◌∙◌, arith, eqb, flat_map, nat_lt, lt-ltb, ltb-true, filter-append, ◌+◌, ◌≤◌, min, subst, inl, inr, AllByRecursion, cases_Bool, cases_lt, le-ltb, flat_map-append, rules}
use Rattle.bt_lines.specs.declared.fault.Input.TheVariants.{First}
use Rattle.bt_bed.specs.model.Feature.{Feature, Span, intervals_of, Interval, placed_on, spans_on}
use Rattle.bt_bed.specs.model.Genome.{Entry, genome_names}
use Rattle.bt_bed.specs.model.Good.{items_in, bed_good}
use Rattle.bt_bed.specs.declared.record.strand.Strand.{Strand}
use Rattle.bt_bed.specs.model.Levels.{HasValue, Level}
use Rattle.bt_laws.specs.Runs.{interval_at}
use Rattle.bt_runs.specs.model.Depth.{DepthInterval, counted_on, coverage, depth_lines, depth_of, depth_on, depths_on, levels_of, depth_at}
use Rattle.bt_laws.proofs.lemmas.single.LevelLemmas.{gaps_depth_0, are_levels, only_levels, some_value, value_some, some_disjoint}
use Rattle.bt_tool.specs.model.Report.{report_of}
use Rattle.bt_tool.specs.model.Behaviour.{entries_in, order_in_use}
use Rattle.bt_tool.specs.model.Written.{complement_written, coverage_written, merge_written}
use Rattle.bt_tool.specs.declared.planning.plan_type.Command.TheVariants.{Complement, Coverage, Merge}
use Rattle.bt_laws.specs.WholeRuns.{first_records}
use Rattle.bt_laws.specs.Same.{bg_is_bga_above_0, depth_0_is_complement, without_depth, complement_of_complement, cut_at_length, merge_of_genomecov, LieWithinLengths}
use Rattle.bt_laws.proofs.lemmas.pipes.PipeLaws.{complement_whole, genomecov_whole, runs_cover, SameCover, covered_some, some_covered, chroms_of, merge_whole}
use Rattle.bt_laws.proofs.lemmas.same.SameRuns.{fault_as, told_same, CoversOn, alike_merged, all_counted, runs_on_output, some_covers}
use Rattle.bt_bed.specs.model.Positions.{AreApartFrom, IsCovered}
use Rattle.bt_bed.specs.model.BedLine.{says_nothing, interval_lines}
use Rattle.bt_bed.specs.calls.Orders.{ArePlaced, AreDistinct}
use Rattle.bt_bed.specs.model.Order.{Order, is_among, rank_order}
use Rattle.bt_bed.proofs.lemmas.Definitions.{placed_good}
use Rattle.bt_bed.proofs.lemmas.parse.NameLemmas.{name_eq, name_ne-sym, cases_name}
use Rattle.bt_runs.specs.model.Gaps.{complement, gaps_of, gaps_on, is_asked}
use Rattle.bt_runs.specs.calls.Complementing.{length_in}
use Rattle.bt_runs.specs.model.Merged.{merged, runs_of, runs_on, ordered_runs}
use Rattle.bt_runs.specs.declared.merge.merge_strand.MergeStrand.TheVariants.{All}
use Rattle.bt_runs.proofs.lemmas.merge.Bridging.{are_runs, is_covered-Decides}
use Rattle.bt_runs.proofs.lemmas.complement.Walks.{are_gaps, only_gaps}
use Rattle.bt_laws.proofs.lemmas.single.StrandOrder.{file_ordered}
use Rattle.bt_laws.specs.Pipes.{IsInput, is_no_header, three_columns, four_columns}
use Rattle.bt_laws.proofs.lemmas.pipes.RunsBack.{covered_value, coverage_back, gaps_back, level_span, places_on}
use Rattle.bt_laws.proofs.lemmas.same.GapsHit.{complement_spans, unhidden, on_entry, spans_there}
use Rattle.bt_runs.proofs.lemmas.Lists.{all_any, filter_all, flat_map_same, all_zip, map_flat, some_each, some_out}
use Rattle.bt_laws.proofs.lemmas.parts.PartTexts.{order_total}
use Rattle.bt_lines.specs.model.Lines.{whole_text}
use Rattle.bt_bed.specs.calls.LevelScan.{begun_after, ended_after}
use Rattle.bt_laws.proofs.lemmas.pipes.LinesBack.{IsSaid, good_are_said}

-- ---- levels above 0

abbrev is_deep : Level → Bool
is_deep l = nat_lt 0 l.value

deep_value : (ls : List Level) (p v : ℕ) → HasValue (filter is_deep ls) p v → HasValue ls p v × (0 < v)
deep_value ls p v h = grind (arith, ltb-true, (some_value (nat_lt 0) ls p v h))

value_deep : (ls : List Level) (p v : ℕ) → 0 < v → HasValue ls p v → HasValue (filter is_deep ls) p v
value_deep ls p v some h = value_some (nat_lt 0) ls p v (lt-ltb 0 v some) h

pub shown : (d v : ℕ) → cond (nat_lt 0 d) (Some d) None ≡ Some v → (d ≡ v) × (0 < v)
shown d v e = grind arith

module _ (spans : List Span) (size : ℕ) where
  deep_levels : levels_of (depth_of false spans) size ≡ filter is_deep (levels_of (depth_of true spans) size)
  unfolding depth_of
  deep_levels =
      let all = are_levels (depth_of true spans) size in
      grind (arith, only_levels, (some_disjoint (nat_lt 0) 0 (levels_of (depth_of true spans) size) all.disjoint), deep_value, value_deep)

map_filter : (name : List ℕ) (ls : List Level) → map (depth_on name) (filter is_deep ls) ≡ filter (λ (r : DepthInterval). nat_lt 0 r.depth) (map (depth_on name) ls)
map_filter name [] = refl
map_filter name (l ∷ ls) = grind (arith, (map_filter name ls))

deep_all : (strand : Option Strand) (records : List Feature) (entries : List Entry) → flat_map (depths_on false strand records) entries ≡ filter (λ (r : DepthInterval). nat_lt 0 r.depth) (flat_map (depths_on true strand records) entries)
deep_all strand records [] = refl
deep_all strand records (e ∷ es) = grind (arith, (deep_levels (counted_on strand e.name records) e.length), (map_filter e.name (levels_of (depth_of true (counted_on strand e.name records)) e.length)), (deep_all strand records es), filter-append, nat_lt)

pub deep_coverage : (strand : Option Strand) (entries : List Entry) (records : List Feature) → coverage false strand entries records ≡ filter (λ (r : DepthInterval). nat_lt 0 r.depth) (coverage true strand entries records)
unfolding coverage
deep_coverage strand entries records = deep_all strand records entries

-- ---- depth 0

zero_again : (rs : List DepthInterval) → filter (λ (r : DepthInterval). eqb r.depth 0) rs ≡ map without_depth (map interval_at (filter (λ (r : DepthInterval). eqb r.depth 0) rs))
zero_again [] = refl
zero_again (r ∷ rs) = grind (arith, (zero_again rs))

pub zero_depths : depth_0_is_complement
zero_depths inputs chromosomes well =
    let records = first_records chromosomes inputs in
    let entries = entries_in chromosomes in
    let good = bed_good First (order_in_use chromosomes) inputs.first in
    let other = fault_as (Coverage true None) (Complement false) inputs chromosomes well (told_same (coverage_written entries true None) (complement_written entries false) (items_in good) good.fault) in (
      record { output = genomecov_whole true None inputs chromosomes well; faultless = well.faultless },
      record { output = complement_whole false inputs chromosomes other; faultless = other.faultless },
      zero_again (coverage true None entries records) ∙ ap (map without_depth) (sym (gaps_depth_0 entries records)),
    )

pub deep_depths : bg_is_bga_above_0
deep_depths strand inputs chromosomes well =
    let records = first_records chromosomes inputs in
    let entries = entries_in chromosomes in
    let good = bed_good First (order_in_use chromosomes) inputs.first in
    let other = fault_as (Coverage true strand) (Coverage false strand) inputs chromosomes well (told_same (coverage_written entries true strand) (coverage_written entries false strand) (items_in good) good.fault) in (
      record { output = genomecov_whole true strand inputs chromosomes well; faultless = well.faultless },
      record { output = genomecov_whole false strand inputs chromosomes other ∙ ap depth_lines (deep_coverage strand entries records); faultless = other.faultless },
    )

-- Gaps of gaps, and merged depths.

-- ---- on one chromosome

abbrev pub cut_span : ℕ → Span → List Span
cut_span size s = cond (nat_lt s.start size) (record { start = s.start; stop = min s.stop size } ∷ []) []

abbrev cut_spans : ℕ → List Span → List Span
cut_spans size spans = flat_map (cut_span size) spans

nearer : (first low : ℕ) (spans : List Span) → low ≤ first → AreApartFrom first spans → AreApartFrom low spans
nearer first low [] up h = tt
nearer first low (s ∷ ss) up h = (omega (arith, up, h.0), h.1, h.2)

cut_apart : (size first : ℕ) (spans : List Span) → AreApartFrom first spans → AreApartFrom first (cut_spans size spans)
cut_apart size first [] h = tt
cut_apart size first (s ∷ ss) h = grind (arith, (cut_apart size (s.stop + 1) ss h.2), nearer)

cut_to : (size : ℕ) (spans : List Span) (p : ℕ) → IsCovered (cut_spans size spans) p → IsCovered spans p × (p < size)
cut_to size [] p c = absurd c
cut_to size (s ∷ ss) p c = grind (arith, cond, (cut_to size ss p), (cases_lt s.start size), (lt-ltb s.start size), (le-ltb s.start size))

cut_back : (size : ℕ) (spans : List Span) (p : ℕ) → p < size → IsCovered spans p → IsCovered (cut_spans size spans) p
cut_back size [] p within c = absurd c
cut_back size (s ∷ ss) p within (inl here) = grind (arith, cond, (min s.stop size), (lt-ltb s.start size (omega (arith, here.0, within))))
cut_back size (s ∷ ss) p within (inr there) = grind (arith, (cut_back size ss p within there))

-- the gaps of the gaps are the runs, cut at the length
pub gaps_twice : (size : ℕ) (spans : List Span) → gaps_of size (gaps_of size spans) ≡ cut_spans size (runs_of 0 spans)
gaps_twice size spans =
    let cover = runs_cover spans in
    let gaps = are_gaps size spans in
    sym (only_gaps size (gaps_of size spans) (cut_spans size (runs_of 0 spans)) (record {
      apart = cut_apart size 0 (runs_of 0 spans) (are_runs 0 spans).apart;
      within = λ p c.
          let is = cut_to size (runs_of 0 spans) p c in
          record { within = is.1; bare = λ gap. (gaps.within p gap).bare (cover.to p is.0) };
      whole = λ p b. cut_back size (runs_of 0 spans) p b.within (cover.back p (grind (arith, (is_covered-Decides spans p))));
    }))

-- ---- chromosome by chromosome

cut_placed : (entries : List Entry) (name : List ℕ) (size : ℕ) (spans : List Span) → length_in entries name ≡ size → flat_map (cut_at_length entries) (map (placed_on name) spans) ≡ map (placed_on name) (cut_spans size spans)
cut_placed entries name size [] e = refl
cut_placed entries name size (s ∷ ss) e = grind (arith, (cut_placed entries name size ss e))

module _ (all : List Entry) (used : List Interval) where
  cut_all : (entries : List Entry) → AllByRecursion (λ (e : Entry). length_in all e.name ≡ e.length) entries
      → flat_map (cut_at_length all) (flat_map (λ name. runs_on name 0 used) (genome_names entries)) ≡ flat_map (λ (e : Entry). map (placed_on e.name) (cut_spans e.length (runs_of 0 (spans_on e.name used)))) entries
  cut_all [] h = refl
  cut_all (e ∷ es) h = grind (arith, (cut_all es h.1), flat_map-append, cut_placed)

lengths_more : (e : Entry) (es fs : List Entry) → is_among (genome_names fs) e.name ≡ false → AllByRecursion (λ (f : Entry). length_in es f.name ≡ f.length) fs → AllByRecursion (λ (f : Entry). length_in (e ∷ es) f.name ≡ f.length) fs
lengths_more e es [] absent h = tt
lengths_more e es (f ∷ fs) absent h = grind (arith, name_ne-sym, (lengths_more e es fs))

lengths_are : (entries : List Entry) → AreDistinct (genome_names entries) → AllByRecursion (λ (e : Entry). length_in entries e.name ≡ e.length) entries
lengths_are [] distinct = tt
lengths_are (e ∷ es) distinct = grind (arith, (name_eq e.name e.name refl), (lengths_more e es es distinct.0 (lengths_are es distinct.1)))

module _ (entries : List Entry) (distinct : AreDistinct (genome_names entries)) (records : List Feature) (placed : ArePlaced (rank_order (genome_names entries)) (intervals_of records)) where
  abbrev order : Order
  order = rank_order (genome_names entries)

  abbrev gaps : List Interval
  gaps = complement false entries records

  abbrev gap_records : List Feature
  gap_records = filter is_no_header (map three_columns gaps)

  by_entries : ordered_runs order 0 All records ≡ flat_map (λ name. runs_on name 0 (intervals_of records)) (genome_names entries)
  unfolding merged
  by_entries = grind (arith, (file_ordered (genome_names entries) 0 All records distinct placed), (all_counted records))

  gap_twice : (e : Entry) → says_nothing e.name ≡ false → length_in entries e.name ≡ e.length → gaps_on (intervals_of gap_records) e ≡ map (placed_on e.name) (cut_spans e.length (runs_of 0 (spans_on e.name (intervals_of records))))
  gap_twice e plain size = grind (arith, unhidden, complement_spans, gaps_twice)

  pub complement_twice : AllByRecursion (λ (e : Entry). says_nothing e.name ≡ false) entries → complement false entries gap_records ≡ flat_map (cut_at_length entries) (ordered_runs order 0 All records)
  unfolding complement
  complement_twice plain =
      let lengths = lengths_are entries distinct in
      ap (flat_map (gaps_on (intervals_of gap_records))) (filter_all (is_asked false (intervals_of gap_records)) entries (all_any _ entries (λ e. refl)))
      ∙ flat_map_same (gaps_on (intervals_of gap_records)) (λ (e : Entry). map (placed_on e.name) (cut_spans e.length (runs_of 0 (spans_on e.name (intervals_of records))))) entries
      (all_zip (λ (e : Entry). says_nothing e.name ≡ false) (λ (e : Entry). length_in entries e.name ≡ e.length) _ entries gap_twice plain lengths)
      ∙ sym (ap (flat_map (cut_at_length entries)) by_entries ∙ cut_all entries (intervals_of records) entries lengths)

pub complements_twice : complement_of_complement
complements_twice inputs entries well plain =
    let records = first_records (Some entries) inputs in
    let order = order_in_use (Some entries) in
    let known = chroms_of inputs.genome entries well.genome in
    let good = bed_good First order inputs.first in
    let merged_well = fault_as (Complement false) (Merge 0 All) inputs (Some entries) well (told_same (complement_written entries false) (merge_written order 0 All) (items_in good) good.fault) in
    let gaps = complement false entries records in (
      record { output = merge_whole 0 All inputs (Some entries) merged_well; faultless = merged_well.faultless },
      runs_on_output (Complement false) (Complement false) inputs (Some entries) (complement_written entries false) (filter is_no_header (map three_columns gaps)) (interval_lines gaps) (interval_lines (flat_map (cut_at_length entries) (ordered_runs order 0 All records)))
          (λ first second. refl) well.genome (complement_whole false inputs (Some entries) well) (gaps_back entries known.0 known.1 false records)
          (ap interval_lines (complement_twice entries known.1 records (placed_good First order inputs.first (order_total (Some entries))) plain)),
    )

-- ---- where levels lie

value_covered : (ls : List Level) (p v : ℕ) → HasValue ls p v → IsCovered (map level_span ls) p
value_covered [] p v h = absurd h
value_covered (l ∷ ls) p v (inl here) = inl (here.0, here.1)
value_covered (l ∷ ls) p v (inr there) = inr (value_covered ls p v there)

module _ (records : List Feature) where
  abbrev levels_for : List ℕ → ℕ → List Level
  levels_for name size = levels_of (depth_of false (counted_on None name records)) size

  abbrev spans_for : List ℕ → ℕ → List Span
  spans_for name size = map level_span (levels_for name size)

  parts_at : (entry : Entry) → map interval_at (depths_on false None records entry) ≡ map (placed_on entry.name) (spans_for entry.name entry.length)
  parts_at entry = grind (arith, places_on)

  no_levels : (name : List ℕ) → spans_for name 0 ≡ []
  unfolding ended_after begun_after
  no_levels name = refl

  depths_there : (name : List ℕ) (entries : List Entry) → AreDistinct (genome_names entries) → spans_on name (map interval_at (flat_map (depths_on false None records) entries)) ≡ spans_for name (length_in entries name)
  depths_there name entries distinct = ap (spans_on name) (map_flat interval_at (depths_on false None records) (on_entry spans_for no_levels) entries parts_at) ∙ spans_there spans_for no_levels name entries distinct

  -- within the lengths the records cover what has a depth
  depth_cover : (name : List ℕ) (size : ℕ) → ((p : ℕ) → IsCovered (spans_on name (intervals_of records)) p → p < size) → SameCover (spans_for name size) (spans_on name (intervals_of records))
  unfolding depth_of
  depth_cover name size below =
      let are = are_levels (depth_of false (counted_on None name records)) size in
      record {
        to = λ p c.
            let has = covered_value (levels_for name size) p c in
            let deep = shown (depth_at (counted_on None name records) p) has.0 (are.within p has.0 has.1).1 in
            subst (λ l. IsCovered l p) (ap (spans_on name) (all_counted records)) (some_covered (counted_on None name records) p (subst (λ n. 0 < n) (sym deep.0) deep.1));
        back = λ p c.
            let deep = covered_some (counted_on None name records) p (subst (λ l. IsCovered l p) (sym (ap (spans_on name) (all_counted records))) c) in
            value_covered (levels_for name size) p (depth_at (counted_on None name records) p)
            (are.whole p (depth_at (counted_on None name records) p) (below p c) (ap (λ b. cond b (Some (depth_at (counted_on None name records) p)) None) (lt-ltb 0 (depth_at (counted_on None name records) p) deep)));
      }

-- what lies within the lengths
covered_within : (entries : List Entry) (name : List ℕ) (records : List Feature) (p : ℕ) → LieWithinLengths entries records
    → IsCovered (spans_on name (intervals_of records)) p → p < length_in entries name
covered_within entries name records p within c =
    some_out (λ r. p < length_in entries name) (p < length_in entries name) (λ r below. below) records
    (some_each (CoversOn name p) (λ r. r.stop ≤ length_in entries r.chrom) (λ r. p < length_in entries name)
    (λ r w up. subst (λ n. p < length_in entries n) w.0 (omega (arith, w.2, up))) records (some_covers name p records c) within)

-- lines of header words
unhidden_depths : (name : List ℕ) (rs : List DepthInterval) → says_nothing name ≡ false → spans_on name (intervals_of (filter is_no_header (map four_columns rs))) ≡ spans_on name (map interval_at rs)
unhidden_depths name [] e = refl
unhidden_depths name (r ∷ rs) e = grind (arith, (unhidden_depths name rs e), rules)

-- no record that was read lies on a chromosome of a header word
none_hidden : (name : List ℕ) (records : List Feature) → says_nothing name ≡ true → AllByRecursion IsSaid records → spans_on name (intervals_of records) ≡ []
none_hidden name [] e said = refl
none_hidden name (r ∷ rs) e said = grind (arith, (none_hidden name rs e said.1), cases_name)

module _ (entries : List Entry) (distinct : AreDistinct (genome_names entries)) (records : List Feature) (said : AllByRecursion IsSaid records) (within : LieWithinLengths entries records)
    (read : List Feature) (read_said : AllByRecursion IsSaid read) (is : read ≡ filter is_no_header (map four_columns (coverage false None entries records))) where
  same_bases : (name : List ℕ) → SameCover (spans_on name (intervals_of read)) (spans_on name (intervals_of records))
  unfolding coverage
  same_bases name = elim (cases_Bool (says_nothing name)) [
    | inl t ↦ subst (λ l. SameCover l (spans_on name (intervals_of records))) (sym (none_hidden name read t read_said)) (subst (SameCover []) (sym (none_hidden name records t said)) (record { to = λ p c. c; back = λ p c. c }))
    | inr f ↦ grind (arith, unhidden_depths, depths_there, depth_cover, covered_within)
  ]

  abbrev lengths_order : Order
  lengths_order = rank_order (genome_names entries)

  pub same_merge : (d : ℕ) → ArePlaced lengths_order (intervals_of records) → ArePlaced lengths_order (intervals_of read) → ordered_runs lengths_order d All read ≡ ordered_runs lengths_order d All records
  same_merge d placed read_placed = grind (arith, (file_ordered (genome_names entries) d All read distinct read_placed), (all_counted read), (alike_merged (genome_names entries) d (intervals_of read) (intervals_of records) same_bases), same_bases, (all_counted records), (file_ordered (genome_names entries) d All records distinct placed))

pub genomecov_merged : merge_of_genomecov
genomecov_merged d inputs entries well within =
    let records = first_records (Some entries) inputs in
    let order = order_in_use (Some entries) in
    let total = order_total (Some entries) in
    let known = chroms_of inputs.genome entries well.genome in
    let good = bed_good First order inputs.first in
    let depths_well = fault_as (Merge d All) (Coverage false None) inputs (Some entries) well (told_same (merge_written order d All) (coverage_written entries false None) (items_in good) good.fault) in
    let read = filter is_no_header (map four_columns (coverage false None entries records)) in
    let text = depth_lines (coverage false None entries records) in
    let is : IsInput order text read = coverage_back entries known.0 known.1 false None records in
    let read_said = subst (AllByRecursion IsSaid) (is.records_are First) (good_are_said First order (whole_text text)) in
    let read_placed = subst (λ rs. ArePlaced order (intervals_of rs)) (is.records_are First) (placed_good First order (whole_text text) total) in
    runs_on_output (Merge d All) (Coverage false None) inputs (Some entries) (merge_written order d All) read text (report_of (Merge d All) inputs).output
    (λ first second. refl) well.genome (genomecov_whole false None inputs (Some entries) depths_well) is
    (ap interval_lines (same_merge entries known.1 records (good_are_said First order inputs.first) within read read_said refl d (placed_good First order inputs.first total) read_placed) ∙ sym (merge_whole d All inputs (Some entries) well))
