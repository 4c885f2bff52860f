-- Sums, pairs and bases.
use Rattle.bt_lines.proofs.Std.{common_steps, ◌≡◌, ℕ, zero, suc, ◌+◌, ◌-◌, ◌*◌, ◌<◌, ◌≤◌, false, cond, List, [], ◌∷◌, map, filter, max, min, Option, Some, None, inl, inr, refl, sym, ap, ap₂, ◌∙◌, arith, ◌⊎◌, bytes_eq, flat_map, sum_by, or_parts, mul-suc, sum_by-append, sum_by-cons, ◌++◌, append_assoc, subst, IsPermutation, flat_map-append, map-append, IsPermutation-append_comm, IsPermutation-append_left, IsPermutation-append_right, IsPermutation-refl, IsPermutation-trans, flat_map-map, cases_Bool, false≢true}
use Rattle.bt_bed.specs.model.Feature.{Feature, intervals_of, Interval, Span, spans_on, placed_on}
use Rattle.bt_bed.specs.model.Positions.{IsCovered}
use Rattle.bt_bed.specs.model.Genome.{Entry, genome_names}
use Rattle.bt_bed.specs.model.Order.{is_among}
use Rattle.bt_bed.specs.calls.Orders.{AreDistinct}
use Rattle.bt_bed.specs.declared.record.strand.Strand.{Strand}
use Rattle.bt_bed.proofs.lemmas.parse.NameLemmas.{cases_name, name_eq-sym}
use Rattle.bt_bed.specs.model.Levels.{Level}
use Rattle.bt_bed.specs.calls.LevelScan.{Begun, begun_after, ended_after, levels_from, next_begun}
use Rattle.bt_runs.specs.model.Depth.{coverage, depth_at, depth_of, depths_on, is_counted_by, levels_of}
use Rattle.bt_runs.specs.calls.Complementing.{length_in}
use Rattle.bt_runs.proofs.lemmas.order.FileOrder.{spans_on-append}
use Rattle.bt_laws.specs.Counts.{depth_bases, depths_sum, IsMutual, HitPair, exchanged, pair_line, pairs_have_two_sides, pairs_of, with_sides_exchanged, PartBases, intersect_and_subtract_part}
use Rattle.bt_laws.specs.WholeRuns.{first_records, second_records, RunWrites}
use Rattle.bt_laws.proofs.lemmas.pipes.PipeLaws.{depth_both, chroms_of, genomecov_whole, intersect_whole, well_there, cut_intersect_input, subtract_input, report_there}
use Rattle.bt_lines.specs.declared.fault.Input.TheVariants.{First, Second}
use Rattle.bt_bed.specs.model.Good.{bed_good}
use Rattle.bt_sweep.specs.model.Hits.{is_hit, hits_among, is_enough, strands_agree}
use Rattle.bt_sweep.specs.calls.Sweeping.{any_overlap}
use Rattle.bt_sweep.specs.model.Lines.{intersect, lines_for, pieces}
use Rattle.bt_sweep.specs.calls.LineLaws.{spans_of}
use Rattle.bt_sweep.specs.declared.hits.hit_rule.HitRule.{HitRule}
use Rattle.bt_sweep.specs.declared.output.shape.Shape.TheVariants.{OrigBoth, Cut, Pieces}
use Rattle.bt_sweep.proofs.lemmas.definitions.HitLemmas.{enough_of_nothing}
use Rattle.bt_tool.specs.model.Behaviour.{order_in_use, or_empty}
use Rattle.bt_tool.specs.declared.planning.plan_type.Command.TheVariants.{Intersect, Subtract}
use Rattle.bt_laws.proofs.lemmas.same.SameSweeps.{writes_lines, met_faultless, other_input, sweeps_from, other_shape, hit_back, hit_to}
use Rattle.bt_runs.specs.model.Merged.{is_covered}
use Rattle.bt_runs.proofs.lemmas.merge.Bridging.{covered_left, covered_parts, covered_right, is_covered-Decides}
use Rattle.bt_sweep.proofs.lemmas.definitions.PieceLemmas.{are_pieces}
use Rattle.bt_laws.specs.Pipes.{records_for, records_written}
use Rattle.bt_laws.proofs.lemmas.same.GapsHit.{covered_cut, cut_covered, cut_span}
use Rattle.bt_laws.proofs.lemmas.same.SameRuns.{CoversOn, some_covers, here_all, none_there, covered_by_some}
use Rattle.bt_runs.proofs.lemmas.Lists.{Some_of, all_any, map_flat, map_map, some_out, some_weaker}

-- Depth times length, added up.

-- ---- levels

abbrev weight : Level → ℕ
weight l = l.value * (l.stop - l.start)

abbrev value_in : Option ℕ → ℕ
value_in None = 0
value_in (Some v) = v

total : (ℕ → ℕ) → ℕ → ℕ → ℕ
total f p zero = 0
total f p (suc n) = f p + total f (p + 1) n

abbrev pending : Option Begun → ℕ → ℕ
pending None p = 0
pending (Some b) p = b.value * (p - b.start)

abbrev IsLow : Option Begun → ℕ → Type 0
IsLow None p = Unit {0}
IsLow (Some b) p = b.start ≤ p

one_longer : (v p s : ℕ) → s ≤ p → v * ((p + 1) - s) ≡ v * (p - s) + v
one_longer v p s low = grind (arith, (mul-suc v (p - s)))

levels_sum : (value : ℕ → Option ℕ) (n p : ℕ) (g : Option Begun) → IsLow g p → sum_by weight (levels_from value p n g) ≡ pending g p + total (λ q. value_in (value q)) p n
unfolding total ended_after begun_after
levels_sum value zero p g low = grind arith
levels_sum value (suc n) p g low = grind (arith, sum_by-append, one_longer, (levels_sum value n (p + 1) (next_begun p (value p) g) (grind arith)))

-- ---- depths

total_same : (f h : ℕ → ℕ) (n p : ℕ) → ((q : ℕ) → f q ≡ h q) → total f p n ≡ total h p n
unfolding total
total_same f h n p e = grind arith

total_both : (f h : ℕ → ℕ) (n p : ℕ) → total (λ q. f q + h q) p n ≡ total f p n + total h p n
unfolding total
total_both f h zero p = refl
total_both f h (suc n) p = grind (arith, (total_both f h n (p + 1)))

depth_value : (spans : List Span) (q : ℕ) → value_in (depth_of false spans q) ≡ depth_at spans q
unfolding depth_of
depth_value spans q = grind arith

span_sum : (s : Span) (n p : ℕ) → total (λ q. depth_at (s ∷ []) q) p n ≡ min s.stop (p + n) - max s.start p
unfolding total
span_sum s zero p = omega arith
span_sum s (suc n) p = grind (arith, (span_sum s n (p + 1)))

abbrev below : ℕ → Span → ℕ
below size s = min s.stop size - s.start

no_depth : (n p : ℕ) → total (λ q. depth_at [] q) p n ≡ 0
unfolding total
no_depth zero p = refl
no_depth (suc n) p = grind (arith, (no_depth n (p + 1)))

spans_sum : (spans : List Span) (size : ℕ) → total (λ q. depth_at spans q) 0 size ≡ sum_by (below size) spans
spans_sum [] size = no_depth size 0
spans_sum (s ∷ ss) size =
    total_same (λ q. depth_at (s ∷ ss) q) (λ q. depth_at (s ∷ []) q + depth_at ss q) size 0 (λ q. depth_both (s ∷ []) ss q)
    ∙ total_both (λ q. depth_at (s ∷ []) q) (λ q. depth_at ss q) size 0
    ∙ ap₂ (λ a b. a + b) (span_sum s size 0 ∙ omega arith) (spans_sum ss size)
    ∙ sym (sum_by-cons (below size) s ss)

level_sum : (spans : List Span) (size : ℕ) → sum_by weight (levels_of (depth_of false spans) size) ≡ sum_by (below size) spans
level_sum spans size = grind (arith, (levels_sum (depth_of false spans) size 0 None tt), (total_same (λ q. value_in (depth_of false spans q)) (λ q. depth_at spans q) size 0 (depth_value spans)), (spans_sum spans size))

-- ---- chromosome by chromosome

abbrev bases_in : List Entry → Interval → ℕ
bases_in entries r = min r.stop (length_in entries r.chrom) - r.start

absent_size : (entries : List Entry) (name : List ℕ) → is_among (genome_names entries) name ≡ false → length_in entries name ≡ 0
absent_size [] name e = refl
absent_size (entry ∷ entries) name e =
    let parts = or_parts (bytes_eq entry.name name) (is_among (genome_names entries) name) e in
    ap (λ b. cond b entry.length (length_in entries name)) parts.0 ∙ absent_size entries name parts.1

no_entries : (rs : List Interval) → sum_by (bases_in []) rs ≡ 0
no_entries [] = refl
no_entries (r ∷ rs) = grind (arith, (sum_by-cons (bases_in []) r rs), (no_entries rs))

one_entry : (entry : Entry) (entries : List Entry) (rs : List Interval) → is_among (genome_names entries) entry.name ≡ false
    → sum_by (below entry.length) (spans_on entry.name rs) + sum_by (bases_in entries) rs ≡ sum_by (bases_in (entry ∷ entries)) rs
one_entry entry entries [] absent = refl
one_entry entry entries (r ∷ rs) absent = grind (arith, common_steps, (one_entry entry entries rs absent), cases_name, absent_size)

module _ (strand : Option Strand) (records : List Feature) where
  abbrev used : List Feature
  used = filter (λ r. is_counted_by strand r.strand) records

  entries_sum : (entries : List Entry) → AreDistinct (genome_names entries) → sum_by depth_bases (flat_map (depths_on false strand records) entries) ≡ sum_by (bases_in entries) (intervals_of used)
  entries_sum [] distinct = sym (no_entries (intervals_of used))
  entries_sum (entry ∷ entries) distinct = grind (arith, (entries_sum entries distinct.1), level_sum, one_entry, common_steps)

pub sum_depths : depths_sum
unfolding coverage
sum_depths strand inputs entries well =
    let known = chroms_of inputs.genome entries well.genome in (
      record { output = genomecov_whole false strand inputs (Some entries) well; faultless = well.faultless },
      entries_sum strand (first_records (Some entries) inputs) entries known.1 ∙ (grind (arith, common_steps)),
    )

-- Pairs of records that hit one another, from both sides.

-- ---- a rule that asks the same of both

hits_swap : (rule : HitRule) (a b : Feature) → IsMutual rule → is_hit rule a b ≡ is_hit rule b a
unfolding is_hit strands_agree is_enough
hits_swap rule a b even = grind (arith, enough_of_nothing, name_eq-sym)

-- ---- lists of lists

middle : {B : Type 0} (x f g y : List B) → IsPermutation ((x ++ f) ++ (g ++ y)) ((x ++ g) ++ (f ++ y))
middle x f g y = grind (arith, (append_assoc x f (g ++ y)), (append_assoc f g y), (append_assoc g f y), (append_assoc x g (f ++ y)), IsPermutation-append_right, IsPermutation-append_left, IsPermutation-append_comm)

module _ {A B : Type 0} where
  both_maps : (f g : A → List B) (xs : List A) → IsPermutation (flat_map f xs ++ flat_map g xs) (flat_map (λ x. f x ++ g x) xs)
  both_maps f g [] = IsPermutation-refl []
  both_maps f g (x ∷ xs) =
      IsPermutation-trans ((f x ++ flat_map f xs) ++ (g x ++ flat_map g xs)) ((f x ++ g x) ++ (flat_map f xs ++ flat_map g xs)) ((f x ++ g x) ++ flat_map (λ x. f x ++ g x) xs)
      (middle (f x) (flat_map f xs) (g x) (flat_map g xs)) (IsPermutation-append_right (f x ++ g x) (flat_map f xs ++ flat_map g xs) (flat_map (λ x. f x ++ g x) xs) (both_maps f g xs))

-- ---- pairs from both sides

module _ (rule : HitRule) (even : IsMutual rule) where
  -- those of the second side, by the first
  abbrev turned_of : Feature → List Feature → List HitPair
  turned_of b as_read = map (λ a. record { left = b; right = a }) (filter (is_hit rule b) as_read)

  one_pair : Feature → Feature → List HitPair
  one_pair a b = cond (is_hit rule b a) (record { left = b; right = a } ∷ []) []

  one_more : (a : Feature) (as_read : List Feature) (b : Feature) → turned_of b (a ∷ as_read) ≡ one_pair a b ++ turned_of b as_read
  unfolding one_pair
  one_more a as_read b = grind arith

  of_one : (a : Feature) (bs : List Feature) → map with_sides_exchanged (map (λ (b : Feature). record { left = a; right = b }) (hits_among rule a bs)) ≡ flat_map (one_pair a) bs
  unfolding one_pair
  of_one a [] = refl
  of_one a (b ∷ bs) = grind (arith, (of_one a bs), hits_swap)

  no_pairs : (bs : List Feature) → flat_map (λ b. turned_of b []) bs ≡ []
  no_pairs [] = refl
  no_pairs (b ∷ bs) = no_pairs bs

  pub turned_pairs : (as_read bs : List Feature) → IsPermutation (map with_sides_exchanged (pairs_of rule as_read bs)) (pairs_of rule bs as_read)
  turned_pairs [] bs = subst (IsPermutation []) (sym (no_pairs bs)) (IsPermutation-refl [])
  turned_pairs (a ∷ as_read) bs =
      let rest = turned_pairs as_read bs in
      let front : map with_sides_exchanged (pairs_of rule (a ∷ as_read) bs) ≡ flat_map (one_pair a) bs ++ map with_sides_exchanged (pairs_of rule as_read bs) =
      map-append with_sides_exchanged (map (λ (b : Feature). record { left = a; right = b }) (hits_among rule a bs)) (pairs_of rule as_read bs) ∙ ap (λ l. l ++ map with_sides_exchanged (pairs_of rule as_read bs)) (of_one a bs) in
      subst (λ l. IsPermutation l (pairs_of rule bs (a ∷ as_read))) (sym front)
      (subst (IsPermutation (flat_map (one_pair a) bs ++ map with_sides_exchanged (pairs_of rule as_read bs))) (sym (grind (arith, one_more)))
      (IsPermutation-trans (flat_map (one_pair a) bs ++ map with_sides_exchanged (pairs_of rule as_read bs)) (flat_map (one_pair a) bs ++ pairs_of rule bs as_read) (flat_map (λ b. one_pair a b ++ turned_of b as_read) bs)
      (IsPermutation-append_right (flat_map (one_pair a) bs) (map with_sides_exchanged (pairs_of rule as_read bs)) (pairs_of rule bs as_read) rest) (both_maps (one_pair a) (λ b. turned_of b as_read) bs)))

-- ---- the lines

pair_lines : (rule : HitRule) (first second : List Feature) → intersect OrigBoth rule first second ≡ flat_map pair_line (pairs_of rule first second)
unfolding lines_for
pair_lines rule [] second = refl
pair_lines rule (a ∷ first) second = grind (arith, (pair_lines rule first second), flat_map-map, flat_map-append)

pub two_sides : pairs_have_two_sides
two_sides rule held inputs chromosomes even well =
    let order = order_in_use chromosomes in
    let firsts = first_records chromosomes inputs in
    let seconds = second_records chromosomes inputs in
    let nones = met_faultless order OrigBoth rule held (bed_good First order inputs.first) (bed_good Second order (or_empty inputs.second)) (well_there (Intersect OrigBoth rule held) inputs chromosomes well) in
    let one = other_input order Second First (or_empty inputs.second) nones.1 in
    let two = other_input order First Second inputs.first nones.0 in
    let lines : intersect OrigBoth rule (first_records chromosomes (exchanged inputs)) (second_records chromosomes (exchanged inputs)) ≡ flat_map pair_line (pairs_of rule seconds firsts) =
    ap₂ (intersect OrigBoth rule) one.items two.items ∙ pair_lines rule seconds firsts in (
      subst (RunWrites (Intersect OrigBoth rule held) inputs) (pair_lines rule firsts seconds) (writes_lines OrigBoth rule held inputs chromosomes well),
      sweeps_from (Intersect OrigBoth rule None) (exchanged inputs) chromosomes (flat_map pair_line (pairs_of rule seconds firsts)) well.genome
          (grind arith)
          (λ there. intersect_whole OrigBoth rule None (exchanged inputs) chromosomes there ∙ lines),
      turned_pairs rule even firsts seconds,
    )

-- What is cut of records, and what is left of them.

-- ---- spans of each record, on its chromosome

module _ (S : Feature → List Span) where
  abbrev part_at : Feature → List Interval
  part_at a = map (placed_on a.chrom) (S a)

  abbrev pub places : List Feature → List Interval
  places as_read = flat_map part_at as_read

  -- some record lies on the chromosome, and its spans cover the position
  module _ (name : List ℕ) (p : ℕ) where
    abbrev HasAt : Feature → Type 0
    HasAt a = (a.chrom ≡ name) × IsCovered (S a) p

    place_some : (as_read : List Feature) → IsCovered (spans_on name (places as_read)) p → Some_of HasAt as_read
    place_some [] c = absurd c
    place_some (a ∷ more) c = grind (arith, spans_on-append, covered_parts, cases_name, here_all, none_there, (place_some more))

    some_place : (as_read : List Feature) → Some_of HasAt as_read → IsCovered (spans_on name (places as_read)) p
    some_place [] w = absurd w
    some_place (a ∷ more) (inl w) = grind (arith, spans_on-append, covered_left, here_all)
    some_place (a ∷ more) (inr w) = grind (arith, spans_on-append, covered_right, (some_place more w))

  -- what holds of each position of each record's spans
  places_so : (P : List ℕ → ℕ → Type 0) → (as_read : List Feature) → ((a : Feature) (p : ℕ) → IsCovered (S a) p → (a.start ≤ p) × (p < a.stop) × P a.chrom p)
      → (name : List ℕ) (p : ℕ) → IsCovered (spans_on name (places as_read)) p → IsCovered (spans_on name (intervals_of as_read)) p × P name p
  places_so P as_read h name p c =
      let some = place_some name p as_read c in (
        covered_by_some name p as_read (some_weaker (HasAt name p) (CoversOn name p) (λ a w. let is = h a p w.1 in (w.0, is.0, is.1)) as_read some),
        some_out (HasAt name p) (P name p) (λ a w. subst (λ n. P n p) w.0 (h a p w.1).2) as_read some,
      )

module _ (bs : List Feature) where
  abbrev pub cuts : Feature → List Span
  cuts a = map (cut_span a) (hits_among any_overlap a bs)

  abbrev pub lefts : Feature → List Span
  lefts a = pieces a (hits_among any_overlap a bs)

  abbrev HasBase : List ℕ → ℕ → Type 0
  HasBase name p = IsCovered (spans_on name (intervals_of bs)) p

  cut_so : (a : Feature) (p : ℕ) → IsCovered (cuts a) p → (a.start ≤ p) × (p < a.stop) × HasBase a.chrom p
  cut_so a p c = grind (arith, cut_covered, hit_to)

  left_so : (a : Feature) (p : ℕ) → IsCovered (lefts a) p → (a.start ≤ p) × (p < a.stop) × (HasBase a.chrom p → ⊥)
  left_so a p c = grind (arith, (are_pieces a (hits_among any_overlap a bs)), hit_back)

  one_of : (a : Feature) (p : ℕ) → a.start ≤ p → p < a.stop → IsCovered (cuts a) p ⊎ IsCovered (lefts a) p
  one_of a p from to = grind (arith, (cases_Bool (is_covered (spans_of (hits_among any_overlap a bs)) p)), covered_cut, (is_covered-Decides (spans_of (hits_among any_overlap a bs)) p), (are_pieces a (hits_among any_overlap a bs)), false≢true)

  each_at : (name : List ℕ) (p : ℕ) (as_read : List Feature) → Some_of (CoversOn name p) as_read
      → Some_of (HasAt cuts name p) as_read ⊎ Some_of (HasAt lefts name p) as_read
  each_at name p [] w = absurd w
  each_at name p (a ∷ more) (inl w) = elim (one_of a p w.1 w.2) [ inl c ↦ inl (inl (w.0, c)) | inr c ↦ inr (inl (w.0, c)) ]
  each_at name p (a ∷ more) (inr w) = grind (arith, (each_at name p more w))

  each_of : (as_read : List Feature) (name : List ℕ) (p : ℕ) → IsCovered (spans_on name (intervals_of as_read)) p
      → IsCovered (spans_on name (places cuts as_read)) p ⊎ IsCovered (spans_on name (places lefts as_read)) p
  each_of as_read name p c = grind (arith, each_at, some_covers, some_place)

  pub bases_part : (as_read : List Feature) → PartBases (intervals_of as_read) (places cuts as_read) (places lefts as_read)
  bases_part as_read = record {
    each = each_of as_read;
    first_in = λ name p c. (places_so cuts HasBase as_read cut_so name p c).0;
    others_in = λ name p c. (places_so lefts (λ n q. HasBase n q → ⊥) as_read left_so name p c).0;
    not_both = λ name p c d. (places_so lefts (λ n q. HasBase n q → ⊥) as_read left_so name p d).1 (places_so cuts HasBase as_read cut_so name p c).1;
  }

-- ---- the records lie there

cut_each : (a : Feature) (found : List Feature) → intervals_of (records_for Cut a found) ≡ map (placed_on a.chrom) (map (cut_span a) found)
cut_each a [] = refl
cut_each a (b ∷ found) = grind (arith, (cut_each a found))

cut_places : (bs as_read : List Feature) → intervals_of (records_written Cut any_overlap as_read bs) ≡ places (cuts bs) as_read
cut_places bs as_read = grind (arith, map_flat, cut_each)

left_places : (bs as_read : List Feature) → intervals_of (records_written Pieces any_overlap as_read bs) ≡ places (lefts bs) as_read
left_places bs as_read = grind (arith, map_flat, map_map, all_any)

-- ---- the runs

pub parts_of_first : intersect_and_subtract_part
parts_of_first held inputs chromosomes well apart = grind (arith, (other_shape Cut Pieces any_overlap held inputs chromosomes well), (report_there (Subtract false any_overlap held) inputs chromosomes well.genome), (report_there (Intersect Pieces any_overlap held) inputs chromosomes well.genome), (cut_intersect_input Cut any_overlap held inputs chromosomes refl well apart), subtract_input, cut_places, left_places, bases_part)
