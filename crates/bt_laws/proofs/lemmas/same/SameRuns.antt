-- Records that differ in their order, or in one that comes twice.
use Rattle.bt_lines.proofs.Std.{common_steps, ◌≡◌, inl, inr, ◌||◌, ℕ, ◌+◌, ◌<◌, ◌≤◌, Bool, true, false, not, List, [], ◌∷◌, ◌++◌, map, filter, Option, refl, sym, ap, ◌∙◌, subst, arith, ◌≢◌, bytes_eq, flat_map, sum_by, IsPermutation, map-append, filter-append, AllByRecursion, list_any, list_any-IsPermutation, sum_by-IsPermutation, sum_by-cons, append-nil, None, Ok, ap₂, length, or_parts}
use Rattle.bt_lines.specs.declared.fault.Input.TheVariants.{First}
use Rattle.bt_bed.specs.model.Sorted.{has_records, sorting_of}
use Rattle.bt_bed.specs.calls.Orders.{ArePlaced, IsTotal, AreDistinct}
use Rattle.bt_bed.proofs.lemmas.Definitions.{placed_good}
use Rattle.bt_bed.proofs.lemmas.parse.NameLemmas.{cases_name, name_eq, name_ne-sym}
use Rattle.bt_laws.proofs.lemmas.single.StrandOrder.{names_in_order, ordered_all}
use Rattle.bt_runs.proofs.lemmas.order.FileOrder.{distinct_chromosomes, among_chromosomes, spans_on-append, some_placed, spans_on-here, spans_on-none, without-here, runs_of-nil, without_absent, ordered_come}
use Rattle.bt_laws.proofs.lemmas.pipes.LinesBack.{placed_known, good_are_said}
use Rattle.bt_laws.proofs.lemmas.pipes.RunsBack.{merge_back, merge_in_order}
use Rattle.bt_laws.proofs.lemmas.parts.PartMerge.{named_all}
use Rattle.bt_laws.proofs.lemmas.pipes.Placing.{Earlier, ascending_pairs}
use Rattle.bt_bed.specs.model.Feature.{Feature, intervals_of, Interval, placed_on, spans_on, Span}
use Rattle.bt_bed.specs.model.Positions.{IsCovered}
use Rattle.bt_bed.specs.model.BedLine.{interval_lines}
use Rattle.bt_bed.specs.model.Genome.{Entry}
use Rattle.bt_bed.specs.model.Order.{Order, is_among}
use Rattle.bt_bed.specs.declared.record.strand.Strand.{Strand}
use Rattle.bt_runs.specs.model.Merged.{counted, chromosomes, merged, runs_on, ordered_names, ordered_runs, without, runs_of}
use Rattle.bt_runs.specs.model.Depth.{coverage, depth_at, depth_of, depth_on, depths_on, is_counted_by, reported}
use Rattle.bt_runs.specs.model.Gaps.{complement}
use Rattle.bt_laws.specs.Runs.{AreKnown}
use Rattle.bt_runs.specs.declared.merge.merge_strand.MergeStrand.{MergeStrand}
use Rattle.bt_runs.specs.declared.merge.merge_strand.MergeStrand.TheVariants.{All, Each, One}
use Rattle.bt_tool.specs.model.Report.{Inputs, report_of, chromosomes_of}
use Rattle.bt_tool.specs.model.Behaviour.{entries_in, order_in_use, behaviour_of}
use Rattle.bt_tool.specs.declared.planning.plan_type.Command.TheVariants.{Complement, Merge}
use Rattle.bt_laws.specs.WholeRuns.{RunsWithoutFault, first_records, RunWrites, piped}
use Rattle.bt_laws.specs.Same.{IsRepeated, exchanged_complement, exchanged_genomecov, exchanged_merge, repeated_complement, repeated_merge, complement_of_merge, merge_of_merge}
use Rattle.bt_laws.proofs.lemmas.pipes.PipeLaws.{SameCover, depth_both, same_by_depth, same_gaps, same_levels, complement_whole, genomecov_whole, merge_whole, runs_again, runs_cover, report_there}
use Rattle.bt_runs.proofs.lemmas.Lists.{EachPair, Some_of, all_any, filter_all, flat_map_same, all_filter, all_map, all_so, filter_passes}
use Rattle.bt_laws.proofs.lemmas.parts.PartTexts.{order_total}
use Rattle.bt_lines.specs.model.Fault.{FaultValue}
use Rattle.bt_lines.specs.model.Lines.{Handed, whole_text}
use Rattle.bt_bed.specs.model.Good.{items_in, bed_format, bed_good}
use Rattle.bt_runs.proofs.lemmas.merge.Bridging.{are_runs, bridged_here, only_runs}
use Rattle.bt_bed.specs.model.Meeting.{Report}
use Rattle.bt_tool.specs.model.Written.{report_by, Written, complement_written, members_report, merge_written}
use Rattle.bt_tool.specs.declared.planning.plan_type.Command.{Command}
use Rattle.bt_laws.specs.Pipes.{IsInput, three_columns}

-- ---- of the records that are kept

module _ (keep : Feature → Bool) where
  abbrev pub kept : List Feature → List Interval
  kept records = intervals_of (filter keep records)

  kept_both : (xs ys : List Feature) → kept (xs ++ ys) ≡ kept xs ++ kept ys
  kept_both xs ys = grind (arith, filter-append, map-append)

  abbrev pub depth_in : List ℕ → List Feature → ℕ → ℕ
  depth_in name records p = depth_at (spans_on name (kept records)) p

  depth_split : (name : List ℕ) (xs ys : List Feature) (p : ℕ) → depth_in name (xs ++ ys) p ≡ depth_in name xs p + depth_in name ys p
  depth_split name xs ys p = grind (arith, kept_both, spans_on-append, depth_both)

  depth_two : (name : List ℕ) (before : List Feature) (r : Feature) (after : List Feature) (p : ℕ) → depth_in name (before ++ r ∷ after) p ≡ depth_in name before p + (depth_in name (r ∷ []) p + depth_in name after p)
  depth_two name before r after p = grind (arith, kept_both, depth_split)

  -- whether a name has records, and how many cover a position, is said record by record
  abbrev has_one : List ℕ → Feature → Bool
  has_one name r = has_records name (kept (r ∷ []))

  has_any : (name : List ℕ) (rs : List Feature) → has_records name (kept rs) ≡ list_any (has_one name) rs
  has_any name [] = refl
  has_any name (r ∷ rs) = grind (arith, (has_any name rs))

  depth_sum : (name : List ℕ) (rs : List Feature) (p : ℕ) → depth_in name rs p ≡ sum_by (λ r. depth_in name (r ∷ []) p) rs
  depth_sum name [] p = refl
  depth_sum name (r ∷ rs) p = depth_split name (r ∷ []) rs p ∙ ap (λ n. depth_in name (r ∷ []) p + n) (depth_sum name rs p) ∙ sym (sum_by-cons (λ s. depth_in name (s ∷ []) p) r rs)

  pub exchanged_depth : (rs ss : List Feature) → IsPermutation rs ss → (name : List ℕ) (p : ℕ) → depth_in name rs p ≡ depth_in name ss p
  exchanged_depth rs ss is name p = grind (arith, (depth_sum name rs p), sum_by-IsPermutation, (depth_sum name ss p))

  repeated_has : (rs ss : List Feature) → IsRepeated rs ss → (name : List ℕ) → has_records name (kept rs) ≡ has_records name (kept ss)
  repeated_has rs ss is name = grind (arith, (has_any name rs), common_steps, (list_any-IsPermutation (has_one name) (is.twice ∷ rs) ss is.second), (has_any name ss))

  exchanged_cover : (rs ss : List Feature) → IsPermutation rs ss → (name : List ℕ) → SameCover (spans_on name (kept rs)) (spans_on name (kept ss))
  exchanged_cover rs ss is name = same_by_depth (spans_on name (kept rs)) (spans_on name (kept ss)) (λ p some. subst (λ n. 0 < n) (exchanged_depth rs ss is name p) some) (λ p some. subst (λ n. 0 < n) (sym (exchanged_depth rs ss is name p)) some)

  repeated_cover : (rs ss : List Feature) → IsRepeated rs ss → (name : List ℕ) → SameCover (spans_on name (kept rs)) (spans_on name (kept ss))
  repeated_cover rs ss is name =
      let one : (p : ℕ) → depth_in name rs p ≡ depth_in name is.before p + (depth_in name (is.twice ∷ []) p + depth_in name is.after p) = λ p. ap (λ l. depth_in name l p) is.first ∙ depth_two name is.before is.twice is.after p in
      let two : (p : ℕ) → depth_in name ss p ≡ depth_in name (is.twice ∷ []) p + depth_in name rs p = λ p. sym (exchanged_depth (is.twice ∷ rs) ss is.second name p) ∙ (grind (arith, kept_both, spans_on-append, depth_both)) in
      same_by_depth (spans_on name (kept rs)) (spans_on name (kept ss)) (λ p some. omega (arith, two p, some)) (λ p some. omega (arith, one p, two p, some))

-- for any choice of records, the same names have some, and the same positions are covered
pub record IsAlike (rs ss : List Feature) : Type 0 where
  pub has : (keep : Feature → Bool) (name : List ℕ) → has_records name (kept keep rs) ≡ has_records name (kept keep ss)
  pub cover : (keep : Feature → Bool) (name : List ℕ) → SameCover (spans_on name (kept keep rs)) (spans_on name (kept keep ss))

exchanged_alike : (rs ss : List Feature) → IsPermutation rs ss → IsAlike rs ss
exchanged_alike rs ss is = grind (arith, exchanged_cover, has_any, list_any-IsPermutation)

repeated_alike : (rs ss : List Feature) → IsRepeated rs ss → IsAlike rs ss
repeated_alike rs ss is = grind (arith, repeated_has, repeated_cover)

-- ---- names in order are determined by which they are

among_so : (P : List ℕ → Type 0) (name : List ℕ) (ns : List (List ℕ)) → AllByRecursion P ns → is_among ns name ≡ true → P name
among_so P name [] h e = cc
among_so P name (n ∷ ns) h e = elim (cases_name n name) [
  | inl same ↦ subst P same h.0
  | inr other ↦ among_so P name ns h.1 (ap (λ b. b || is_among ns name) (sym other) ∙ e)
]

among_first : (n : List ℕ) (ns : List (List ℕ)) → is_among (n ∷ ns) n ≡ true
among_first n ns = ap (λ b. b || is_among ns n) (name_eq n n refl)

module _ (order : Order) (total : IsTotal order) where
  same_names : (xs ys : List (List ℕ)) → AreKnown order xs → AreKnown order ys → EachPair (Earlier order) xs → EachPair (Earlier order) ys → ((name : List ℕ) → is_among xs name ≡ is_among ys name) → xs ≡ ys
  same_names [] [] k l up vp same = refl
  same_names [] (y ∷ ys) k l up vp same = grind (arith, (among_first y ys))
  same_names (x ∷ xs) [] k l up vp same = grind (arith, (among_first x xs))
  same_names (x ∷ xs) (y ∷ ys) k l up vp same = elim (cases_name x y) [
    | inl e ↦
        ap (λ n. n ∷ xs) e
        ∙ ap (λ ns. y ∷ ns) (same_names xs ys k.1 l.1 up.1 vp.1 (λ name. elim (cases_name x name) [
          | inl s ↦ subst (λ n. is_among xs n ≡ false) s (grind (arith, among_so)) ∙ sym (subst (λ n. is_among ys n ≡ false) (sym e ∙ s) (grind (arith, among_so)))
          | inr other ↦ ap (λ b. b || is_among xs name) (sym other) ∙ same name ∙ ap (λ b. b || is_among ys name) (subst (λ n. bytes_eq n name ≡ false) e other)
        ]))
    | inr other ↦ grind (arith, among_so, among_first, name_ne-sym)
  ]

  abbrev named : (Feature → Bool) → List Feature → List (List ℕ)
  named keep rs = ordered_names order (chromosomes (kept keep rs))

  module _ (keep : Feature → Bool) (rs : List Feature) (placed : ArePlaced order (intervals_of rs)) where
    known : AreKnown order (chromosomes (kept keep rs))
    known = grind (arith, named_all, some_placed, (placed_known order (kept keep rs) (some_placed order total keep rs placed)))

-- ---- merge, complement and genomecov of them

pub alike_merged : (names : List (List ℕ)) (gap : ℕ) (rs ss : List Interval) → ((name : List ℕ) → SameCover (spans_on name rs) (spans_on name ss)) → merged names gap rs ≡ merged names gap ss
unfolding merged
alike_merged names gap rs ss same = flat_map_same (λ name. runs_on name gap rs) (λ name. runs_on name gap ss) names (all_any _ names (λ name. ap (map (placed_on name)) (grind (arith, (are_runs gap (spans_on name rs)), only_runs))))

alike_runs : (order : Order) → IsTotal order → (gap : ℕ) (strand : MergeStrand) (rs ss : List Feature) → ArePlaced order (intervals_of rs) → ArePlaced order (intervals_of ss) → IsAlike rs ss → ordered_runs order gap strand rs ≡ ordered_runs order gap strand ss
unfolding ordered_runs
alike_runs order total gap strand rs ss placed other is = grind (arith, alike_merged, names_in_order, known, distinct_chromosomes, ascending_pairs, among_chromosomes, same_names, ordered_all)

pub all_counted : (rs : List Feature) → counted All rs ≡ intervals_of rs
all_counted rs = grind (arith, filter_all, all_any)

alike_gaps : (limit : Bool) (entries : List Entry) (rs ss : List Feature) → IsAlike rs ss → complement limit entries rs ≡ complement limit entries ss
unfolding complement
alike_gaps limit entries rs ss is = grind (arith, same_gaps, (all_counted rs), (all_counted ss))

exchanged_depths : (zeros : Bool) (strand : Option Strand) (entries : List Entry) (rs ss : List Feature) → IsPermutation rs ss → coverage zeros strand entries rs ≡ coverage zeros strand entries ss
unfolding coverage depth_of
exchanged_depths zeros strand entries rs ss is =
    let keep : Feature → Bool = λ r. is_counted_by strand r.strand in
    flat_map_same (depths_on zeros strand rs) (depths_on zeros strand ss) entries (all_any _ entries (λ e. ap (map (depth_on e.name))
    (same_levels (depth_of zeros (spans_on e.name (kept keep rs))) (depth_of zeros (spans_on e.name (kept keep ss))) e.length (λ p. ap (reported zeros) (exchanged_depth keep rs ss is e.name p)))))

-- ---- the reports

placed_first : (chromosomes : Option (List Entry)) (inputs : Inputs) → ArePlaced (order_in_use chromosomes) (intervals_of (first_records chromosomes inputs))
placed_first chromosomes inputs = grind (arith, placed_good, order_total)

-- all runs at once, or those of one strand
pub merge_pooled : (d : ℕ) (strand : MergeStrand) (inputs : Inputs) (chromosomes : Option (List Entry)) → strand ≢ Each → RunsWithoutFault (Merge d strand) inputs chromosomes
    → (report_of (Merge d strand) inputs).output ≡ interval_lines (ordered_runs (order_in_use chromosomes) d strand (first_records chromosomes inputs))
merge_pooled d Each inputs chromosomes other well = absurd (other refl)
merge_pooled d All inputs chromosomes other well = merge_whole d All inputs chromosomes well
merge_pooled d (One strand) inputs chromosomes other well = merge_whole d (One strand) inputs chromosomes well

merge_alike : (d : ℕ) (strand : MergeStrand) (inputs others : Inputs) (chromosomes : Option (List Entry)) → strand ≢ Each → RunsWithoutFault (Merge d strand) inputs chromosomes → RunsWithoutFault (Merge d strand) others chromosomes
    → IsAlike (first_records chromosomes inputs) (first_records chromosomes others) → (report_of (Merge d strand) inputs).output ≡ (report_of (Merge d strand) others).output
merge_alike d strand inputs others chromosomes other one two is =
    merge_pooled d strand inputs chromosomes other one ∙ ap interval_lines (alike_runs (order_in_use chromosomes) (order_total chromosomes) d strand (first_records chromosomes inputs) (first_records chromosomes others) (placed_first chromosomes inputs) (placed_first chromosomes others) is)
    ∙ sym (merge_pooled d strand others chromosomes other two)

complement_alike : (limit : Bool) (inputs others : Inputs) (chromosomes : Option (List Entry)) → RunsWithoutFault (Complement limit) inputs chromosomes → RunsWithoutFault (Complement limit) others chromosomes
    → IsAlike (first_records chromosomes inputs) (first_records chromosomes others) → (report_of (Complement limit) inputs).output ≡ (report_of (Complement limit) others).output
complement_alike limit inputs others chromosomes one two is = grind (arith, (complement_whole limit inputs chromosomes one), (alike_gaps limit (entries_in chromosomes) (first_records chromosomes inputs) (first_records chromosomes others) is), (complement_whole limit others chromosomes two))

pub merge_exchanged : exchanged_merge
merge_exchanged d strand other inputs others chromosomes one two is = grind (arith, merge_alike, (exchanged_alike (first_records chromosomes inputs) (first_records chromosomes others) is))

pub complement_exchanged : exchanged_complement
complement_exchanged limit inputs others chromosomes one two is =
    grind (arith, (complement_alike limit inputs others chromosomes one two (exchanged_alike (first_records chromosomes inputs) (first_records chromosomes others) is)))

pub genomecov_exchanged : exchanged_genomecov
genomecov_exchanged zeros strand inputs others chromosomes one two is = grind (arith, (genomecov_whole zeros strand inputs chromosomes one), (exchanged_depths zeros strand (entries_in chromosomes) (first_records chromosomes inputs) (first_records chromosomes others) is), (genomecov_whole zeros strand others chromosomes two))

pub merge_repeated : repeated_merge
merge_repeated d strand other inputs others chromosomes one two is = grind (arith, merge_alike, (repeated_alike (first_records chromosomes inputs) (first_records chromosomes others) is))

pub complement_repeated : repeated_complement
complement_repeated limit inputs others chromosomes one two is =
    grind (arith, (complement_alike limit inputs others chromosomes one two (repeated_alike (first_records chromosomes inputs) (first_records chromosomes others) is)))

-- Outputs of merge: merged again, and their gaps.

-- ---- merged again

pub back : (rs : List Interval) → intervals_of (map three_columns rs) ≡ rs
back [] = refl
back (r ∷ rs) = ap (λ l. r ∷ l) (back rs)

again : (name : List ℕ) (ns : List (List ℕ)) → without name (without name ns) ≡ without name ns
again name ns = grind (arith, filter_all, not, bytes_eq, filter_passes)

-- what holds of each name that has records
names_so : (P : List ℕ → Type 0) (rs : List Interval) → ((name : List ℕ) → has_records name rs ≡ true → P name) → AllByRecursion P (chromosomes rs)
names_so P [] h = tt
names_so P (r ∷ rs) h = grind (arith, (names_so P rs (λ name has. h name (grind arith))), name_eq, all_filter)

-- ---- the spans of runs, name by name

pub here_all : (name : List ℕ) (ss : List Span) → spans_on name (map (placed_on name) ss) ≡ ss
here_all name [] = refl
here_all name (s ∷ ss) = spans_on-here name (placed_on name s) (map (placed_on name) ss) refl ∙ ap (λ l. s ∷ l) (here_all name ss)

pub none_there : (name other : List ℕ) (ss : List Span) → bytes_eq other name ≡ false → spans_on name (map (placed_on other) ss) ≡ []
none_there name other [] e = refl
none_there name other (s ∷ ss) e = grind (arith, (none_there name other ss e))

-- ---- which record covers a position of a chromosome

abbrev pub CoversOn : List ℕ → ℕ → Feature → Type 0
CoversOn name p r = (r.chrom ≡ name) × (r.start ≤ p) × (p < r.stop)

module _ (name : List ℕ) (p : ℕ) where
  pub some_covers : (rs : List Feature) → IsCovered (spans_on name (intervals_of rs)) p → Some_of (CoversOn name p) rs
  some_covers [] c = absurd c
  some_covers (r ∷ rs) c = grind (arith, (some_covers rs), (cases_name r.chrom name), name_eq)

  pub covered_by_some : (rs : List Feature) → Some_of (CoversOn name p) rs → IsCovered (spans_on name (intervals_of rs)) p
  covered_by_some [] w = absurd w
  covered_by_some (r ∷ rs) w = grind (arith, (covered_by_some rs), (cases_name r.chrom name), name_eq)

module _ (f : List ℕ → List Span) where
  abbrev pub placed_by : List ℕ → List Interval
  placed_by name = map (placed_on name) (f name)

  spans_absent : (name : List ℕ) (names : List (List ℕ)) → is_among names name ≡ false → spans_on name (flat_map placed_by names) ≡ []
  spans_absent name [] e = refl
  spans_absent name (n ∷ ns) e =
      let parts = or_parts (bytes_eq n name) (is_among ns name) e in
      spans_on-append name (placed_by n) (flat_map placed_by ns) ∙ ap₂ (λ a b. a ++ b) (none_there name n (f n) parts.0) (spans_absent name ns parts.1)

  pub spans_present : (name : List ℕ) (names : List (List ℕ)) → AreDistinct names → is_among names name ≡ true → spans_on name (flat_map placed_by names) ≡ f name
  spans_present name [] distinct e = cc
  spans_present name (n ∷ ns) distinct e = elim (cases_name n name) [
    | inl same ↦ grind (arith, spans_on-append, here_all, spans_absent, append-nil)
    | inr other ↦ grind (arith, (spans_present name ns distinct.1 (ap (λ b. b || is_among ns name) (sym other) ∙ e)), spans_on-append, none_there)
  ]

  -- the names that come are all names, if each has some
  ones_first : (n : List ℕ) (ss : List Span) (rest : List Interval) → without n (chromosomes (map (placed_on n) ss ++ rest)) ≡ without n (chromosomes rest)
  ones_first n [] rest = refl
  ones_first n (s ∷ ss) rest = without-here n n (without n (chromosomes (map (placed_on n) ss ++ rest))) refl ∙ again n (chromosomes (map (placed_on n) ss ++ rest)) ∙ ones_first n ss rest

  first_name : (n : List ℕ) (ss : List Span) (rest : List Interval) → 0 < length ss → chromosomes (map (placed_on n) ss ++ rest) ≡ n ∷ without n (chromosomes rest)
  first_name n [] rest some = absurd (omega arith)
  first_name n (s ∷ ss) rest some = ap (λ l. n ∷ l) (ones_first n ss rest)

  pub names_again : (names : List (List ℕ)) → AreDistinct names → AllByRecursion (λ name. 0 < length (f name)) names → chromosomes (flat_map placed_by names) ≡ names
  names_again [] distinct some = refl
  names_again (n ∷ ns) distinct some = grind (arith, (names_again ns distinct.1 some.1), first_name, without_absent)

-- ---- runs are somewhere

some_spans : (xs : List Span) (p : ℕ) → IsCovered xs p → 0 < length xs
some_spans [] p c = absurd c
some_spans (x ∷ xs) p c = omega arith

spans_full : (name : List ℕ) (rs : List Interval) → AllByRecursion (λ (r : Interval). r.start < r.stop) rs → AllByRecursion (λ (s : Span). s.start < s.stop) (spans_on name rs)
spans_full name [] h = tt
spans_full name (r ∷ rs) h = grind (arith, (spans_full name rs h.1))

has_spans : (name : List ℕ) (rs : List Interval) → has_records name rs ≡ true → 0 < length (spans_on name rs)
has_spans name [] e = cc
has_spans name (r ∷ rs) e = grind (arith, (has_spans name rs))

some_run : (gap : ℕ) (xs : List Span) → 0 < length xs → AllByRecursion (λ (s : Span). s.start < s.stop) xs → 0 < length (runs_of gap xs)
some_run gap [] some full = absurd (omega arith)
some_run gap (x ∷ xs) some full = some_spans (runs_of gap (x ∷ xs)) x.start ((are_runs gap (x ∷ xs)).whole x.start (bridged_here gap (x ∷ xs) x.start (inl (omega arith, full.0))))

counted_full : (strand : MergeStrand) (records : List Feature) → AllByRecursion (λ (r : Feature). r.start < r.stop) records → AllByRecursion (λ (r : Interval). r.start < r.stop) (counted strand records)
counted_full strand records h = grind (arith, all_map, all_filter)

module _ (order : Order) (total : IsTotal order) (gap : ℕ) (strand : MergeStrand) (records : List Feature) (placed : ArePlaced order (intervals_of records)) (full : AllByRecursion (λ (r : Feature). r.start < r.stop) records) where
  abbrev used : List Interval
  used = counted strand records

  abbrev names : List (List ℕ)
  names = chromosomes used

  abbrev runs : List ℕ → List Span
  runs name = runs_of gap (spans_on name used)

  pub runs_are_by : ordered_runs order gap strand records ≡ flat_map (placed_by runs) names
  unfolding merged
  runs_are_by = ordered_come order gap strand records total placed

  each_has : AllByRecursion (λ name. 0 < length (runs name)) names
  each_has = names_so (λ name. 0 < length (runs name)) used (λ name has. some_run gap (spans_on name used) (has_spans name used has) (spans_full name used (counted_full strand records full)))

  pub run_names : chromosomes (ordered_runs order gap strand records) ≡ names
  run_names = grind (arith, runs_are_by, names_again, distinct_chromosomes, each_has)

  pub run_spans : (name : List ℕ) → spans_on name (ordered_runs order gap strand records) ≡ runs name
  run_spans name = grind (arith, runs_are_by, distinct_chromosomes, spans_on-none, among_chromosomes, runs_of-nil, spans_present, spans_absent)

  pub run_has : (name : List ℕ) → has_records name (ordered_runs order gap strand records) ≡ has_records name used
  run_has name = grind (arith, (among_chromosomes name (ordered_runs order gap strand records)), run_names, (among_chromosomes name used))

  -- merged again they stay as they are
  pub merged_again : ArePlaced order (ordered_runs order gap strand records) → ordered_runs order gap All (map three_columns (ordered_runs order gap strand records)) ≡ ordered_runs order gap strand records
  unfolding merged
  merged_again there = grind (arith, ordered_come, back, run_names, run_spans, runs_again, all_counted)

-- ---- a run on an output

-- a command of one input, on what another writes
pub runs_on_output : (command other : Command) (inputs : Inputs) (chromosomes : Option (List Entry)) (written : Written Feature) (records : List Feature) (text bytes : List ℕ)
    → ((first : Handed) (second : Option Handed) → (behaviour_of command chromosomes).report first second ≡ members_report written (bed_format (sorting_of (order_in_use chromosomes))) first)
    → chromosomes_of inputs.genome ≡ Ok chromosomes → (report_of other inputs).output ≡ text → IsInput (order_in_use chromosomes) text records → written.whole records ≡ bytes → RunWrites command (piped other inputs) bytes
runs_on_output command other inputs chromosomes written records text bytes behaves genome e is whole =
    let there : report_of command (piped other inputs) ≡ record { output = bytes; fault = None } =
    report_there command (piped other inputs) chromosomes genome ∙ behaves (whole_text (report_of other inputs).output) inputs.second
    ∙ ap (λ t. members_report written (bed_format (sorting_of (order_in_use chromosomes))) (whole_text t)) e ∙ (grind (arith, (is.records_are First), (is.faultless First))) in
    record { output = ap (λ (r : Report). r.output) there; faultless = ap (λ (r : Report). r.fault) there }

-- what is known of the records of a run
module _ (chromosomes_in : Option (List Entry)) (inputs : Inputs) where
  abbrev order_in : Order
  order_in = order_in_use chromosomes_in

  abbrev as_read : List Feature
  as_read = first_records chromosomes_in inputs

  read_placed : ArePlaced order_in (intervals_of as_read)
  read_placed = grind (arith, placed_good, order_total)

  read_full : AllByRecursion (λ (r : Feature). r.start < r.stop) as_read
  read_full = grind (arith, all_so, (good_are_said First order_in inputs.first))

  there_placed : (d : ℕ) (strand : MergeStrand) → ArePlaced order_in (ordered_runs order_in d strand as_read)
  there_placed d strand = grind (arith, merge_in_order, order_total, good_are_said, read_placed)

  there_input : (d : ℕ) (strand : MergeStrand) → IsInput order_in (interval_lines (ordered_runs order_in d strand as_read)) (map three_columns (ordered_runs order_in d strand as_read))
  there_input d strand = grind (arith, merge_back, order_total, good_are_said, read_placed)

merged_by : (d : ℕ) (strand : MergeStrand) (inputs : Inputs) (chromosomes_in : Option (List Entry)) → RunsWithoutFault (Merge d strand) inputs chromosomes_in
    → (report_of (Merge d strand) inputs).output ≡ interval_lines (ordered_runs (order_in_use chromosomes_in) d strand (first_records chromosomes_in inputs))
    → RunWrites (Merge d All) (piped (Merge d strand) inputs) (report_of (Merge d strand) inputs).output
merged_by d strand inputs chromosomes_in well e =
    let order = order_in_use chromosomes_in in
    let records = first_records chromosomes_in inputs in
    runs_on_output (Merge d All) (Merge d strand) inputs chromosomes_in (merge_written order d All) (map three_columns (ordered_runs order d strand records)) (interval_lines (ordered_runs order d strand records)) (report_of (Merge d strand) inputs).output
    (λ first second. refl) well.genome e (there_input chromosomes_in inputs d strand)
    (ap interval_lines (merged_again order (order_total chromosomes_in) d strand records (read_placed chromosomes_in inputs) (read_full chromosomes_in inputs) (there_placed chromosomes_in inputs d strand)) ∙ sym e)

pub merge_twice : merge_of_merge
merge_twice d strand inputs chromosomes other well = grind (arith, merged_by, merge_pooled)

-- ---- complement of merge

pub fault_as : (command other : Command) (inputs : Inputs) (chromosomes_in : Option (List Entry)) → RunsWithoutFault command inputs chromosomes_in
    → (((behaviour_of command chromosomes_in).report inputs.first inputs.second).fault ≡ ((behaviour_of other chromosomes_in).report inputs.first inputs.second).fault)
    → RunsWithoutFault other inputs chromosomes_in
fault_as command other inputs chromosomes_in well same = grind (arith, (report_there other inputs chromosomes_in well.genome), (report_there command inputs chromosomes_in well.genome))

pub told_same : (one other : Written Feature) (members : List Feature) (fault : Option FaultValue) → (report_by one members fault).fault ≡ (report_by other members fault).fault
told_same one other members fault = grind arith

gaps_again : (limit : Bool) (entries : List Entry) (order : Order) (total : IsTotal order) (records : List Feature) (placed : ArePlaced order (intervals_of records)) (full : AllByRecursion (λ (r : Feature). r.start < r.stop) records)
    → complement limit entries (map three_columns (ordered_runs order 0 All records)) ≡ complement limit entries records
unfolding complement
gaps_again limit entries order total records placed full = grind (arith, (all_counted records), same_gaps, back, run_has, run_spans, runs_cover)

pub complement_merged : complement_of_merge
complement_merged limit inputs chromosomes_in well =
    let order = order_in_use chromosomes_in in
    let records = first_records chromosomes_in inputs in
    let good = bed_good First order inputs.first in
    let merged_well = fault_as (Complement limit) (Merge 0 All) inputs chromosomes_in well (told_same (complement_written (entries_in chromosomes_in) limit) (merge_written order 0 All) (items_in good) good.fault) in
    runs_on_output (Complement limit) (Merge 0 All) inputs chromosomes_in (complement_written (entries_in chromosomes_in) limit) (map three_columns (ordered_runs order 0 All records)) (interval_lines (ordered_runs order 0 All records)) (report_of (Complement limit) inputs).output
    (λ first second. refl) well.genome (merge_whole 0 All inputs chromosomes_in merged_well) (there_input chromosomes_in inputs 0 All)
    (ap interval_lines (gaps_again limit (entries_in chromosomes_in) order (order_total chromosomes_in) records (read_placed chromosomes_in inputs) (read_full chromosomes_in inputs)) ∙ sym (complement_whole limit inputs chromosomes_in well))
