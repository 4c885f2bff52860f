-- The intervals of equal value are the one list that has the values; of one value they are stretches; runs and gaps are so too.
use Rattle.bt_lines.proofs.Std.{◌≡◌, ℕ, ◌+◌, ◌≤◌, inl, inr, List, [], ◌∷◌, refl, sym, ap, ◌∙◌, arith, map, Bool, true, ◌==◌, Some, None, eq-eqb, eqb-true, filter, flat_map, map-append, filter-append, ◌<◌}
use Rattle.bt_bed.specs.model.Feature.{Span, Feature, intervals_of, Interval, placed_on}
use Rattle.bt_bed.specs.model.Positions.{AreApartFrom, IsCovered}
use Rattle.bt_bed.specs.model.Levels.{AreDisjointFrom, DiffersFromNext, HasValue, Level}
use Rattle.bt_laws.specs.Runs.{level_on, levels_are, levels_only, stretches_are_levels, covered_have_depth, gaps_are_levels, gaps_have_depth_0, interval_at, is_bare, one_value, touching_runs_are_levels, one_place_is_kept}
use Rattle.bt_runs.specs.model.Depth.{levels_of, the_levels, DepthInterval, coverage, depth_of, depth_on, depths_on}
use Rattle.bt_bed.proofs.lemmas.LevelScans.{looser}
use Rattle.bt_bed.specs.model.Genome.{Entry}
use Rattle.bt_runs.specs.model.Gaps.{complement, gaps_of, gaps_on}
use Rattle.bt_runs.specs.calls.Complementing.{kept_place}
use Rattle.bt_runs.specs.model.Merged.{is_covered, runs_of}
use Rattle.bt_runs.specs.calls.MergedRuns.{Bridged}
use Rattle.bt_runs.proofs.lemmas.complement.Walks.{are_gaps, is_bare-Decides}
use Rattle.bt_runs.proofs.lemmas.merge.Bridging.{are_runs, covered_below_end, is_covered-Decides, bridged_here}
use Rattle.bt_runs.proofs.lemmas.Lists.{all_any, filter_all}
use Rattle.bt_runs.proofs.lemmas.merge.SettledRuns.{whole_taken}
use Rattle.bt_runs.proofs.lemmas.merge.StrandListing.{are_listed}
use Rattle.bt_runs.proofs.lemmas.merge.StrandSettling.{strand_runs_are_all}
use Rattle.bt_laws.specs.Merges.{one_run_is_kept, strand_runs_divide, strands_stay_in_order}

pub are_levels : levels_are
are_levels value size = (the_levels value size).are

pub only_levels : levels_only
only_levels value size = (the_levels value size).only

-- spans whose positions have one value
level_covered : (spans : List Span) (p v : ℕ) → HasValue (map (level_on 0) spans) p v → (0 ≡ v) × IsCovered spans p
level_covered [] p v h = absurd h
level_covered (s ∷ ss) p v (inl w) = (w.2, inl (w.0, w.1))
level_covered (s ∷ ss) p v (inr w) = let h = level_covered ss p v w in (h.0, inr h.1)

covered_level : (spans : List Span) (p : ℕ) → IsCovered spans p → HasValue (map (level_on 0) spans) p 0
covered_level [] p c = absurd c
covered_level (s ∷ ss) p (inl w) = inl (w.0, w.1, refl)
covered_level (s ∷ ss) p (inr w) = inr (covered_level ss p w)

apart_differs : (s : Span) (ss : List Span) → AreApartFrom (s.stop + 1) ss → DiffersFromNext (level_on 0 s) (map (level_on 0) ss)
apart_differs s [] a = tt
apart_differs s (t ∷ ts) a = λ touch same. omega (arith, a.0)

apart_disjoint : (first second : ℕ) (spans : List Span) → second ≤ first → AreApartFrom first spans → AreDisjointFrom second (map (level_on 0) spans)
apart_disjoint first second [] h a = tt
apart_disjoint first second (s ∷ ss) h a = (omega (arith, a.0), a.1, apart_differs s ss a.2, apart_disjoint (s.stop + 1) s.stop ss (omega arith) a.2)

pub levels_of_stretches : stretches_are_levels
levels_of_stretches test size spans h = grind (arith, only_levels, (apart_disjoint 0 0 spans (omega arith) h.apart), level_covered, covered_level)

-- The merged runs and the gaps of a chromosome are intervals of equal value.

-- if nothing is bridged, a bridged position is covered
pub bridged_covered : (spans : List Span) (p : ℕ) → Bridged 0 spans p → IsCovered spans p
bridged_covered spans p b = grind arith

pub plain_runs_levels : touching_runs_are_levels
plain_runs_levels size spans within =
    let runs = are_runs 0 spans in
    levels_of_stretches (is_covered spans) size (runs_of 0 spans) (record {
      apart = runs.apart;
      within = λ p c.
          let covered = bridged_covered spans p (runs.within p c) in
          let below = covered_below_end spans p covered in
          (omega arith, (is_covered-Decides spans p).1 covered);
      whole = λ p c. runs.whole p (bridged_here 0 spans p ((is_covered-Decides spans p).0 c.1));
    })

-- the gaps
pub gaps_levels : gaps_are_levels
gaps_levels size spans = grind (arith, (are_gaps size spans), levels_of_stretches, is_bare-Decides)

-- the depth of what is covered
pub covered_depth : covered_have_depth
covered_depth [] p = refl
covered_depth (s ∷ ss) p = grind (arith, (covered_depth ss p))

-- intervals whose values pass a test
module _ (t : ℕ → Bool) where
  pub some_value : (ls : List Level) (p v : ℕ) → HasValue (filter (λ (l : Level). t l.value) ls) p v → HasValue ls p v × (t v ≡ true)
  some_value [] p v h = absurd h
  some_value (l ∷ ls) p v h = grind (arith, (some_value ls p v))

  pub value_some : (ls : List Level) (p v : ℕ) → t v ≡ true → HasValue ls p v → HasValue (filter (λ (l : Level). t l.value) ls) p v
  value_some [] p v e h = absurd h
  value_some (l ∷ ls) p v e (inl w) = rw (ap t w.2 ∙ e) (inl w)
  value_some (l ∷ ls) p v e (inr w) = grind (arith, (value_some ls p v e w))

  -- what starts past a level doesn't touch it
  differs_far : (l : Level) (first : ℕ) (ms : List Level) → l.stop < first → AreDisjointFrom first ms → DiffersFromNext l (filter (λ (l : Level). t l.value) ms)
  differs_far l first [] far d = tt
  differs_far l first (m ∷ ms) far d = grind (arith, (differs_far l m.stop ms (omega (arith, far, d.0, d.1)) d.3))

  differs_some : (l : Level) (ms : List Level) → DiffersFromNext l ms → AreDisjointFrom l.stop ms → DiffersFromNext l (filter (λ (l : Level). t l.value) ms)
  differs_some l [] differs d = tt
  differs_some l (m ∷ ms) differs d = grind (arith, (differs_far l m.stop ms (omega (arith, d.0, d.1)) d.3))

  pub some_disjoint : (first : ℕ) (ls : List Level) → AreDisjointFrom first ls → AreDisjointFrom first (filter (λ (l : Level). t l.value) ls)
  some_disjoint first [] d = tt
  some_disjoint first (l ∷ ls) d = grind (arith, (some_disjoint l.stop ls d.3), differs_some, looser)

-- the intervals of one value, among those of all values
abbrev has : ℕ → Level → Bool
has value l = l.value == value

kept_has : (value : ℕ) (ls : List Level) (p v : ℕ) → HasValue (filter (has value) ls) p v → HasValue ls p v × (value ≡ v)
kept_has value ls p v h = let some = some_value (λ n. n == value) ls p v h in (some.0, sym (eqb-true v value some.1))

has_kept : (value : ℕ) (ls : List Level) (p : ℕ) → HasValue ls p value → HasValue (filter (has value) ls) p value
has_kept value ls p h = value_some (λ n. n == value) ls p value (eq-eqb value value refl) h

-- depth 0 is that of the bare positions
bare_depth : (spans : List Span) (p v : ℕ) → depth_of true spans p ≡ Some v → 0 ≡ v
    → one_value (is_bare spans) p ≡ Some v
unfolding depth_of
bare_depth spans p v is zero_is = grind (arith, (covered_depth spans p))

depth_bare : (spans : List Span) (p : ℕ) → is_bare spans p ≡ true → depth_of true spans p ≡ Some 0
unfolding depth_of
depth_bare spans p t = grind (arith, (covered_depth spans p))

gaps_by_depth : (size : ℕ) (spans : List Span)
    → filter (has 0) (levels_of (depth_of true spans) size) ≡ map (level_on 0) (gaps_of size spans)
gaps_by_depth size spans =
    let all = are_levels (depth_of true spans) size in
    grind (arith, only_levels, (some_disjoint (λ n. n == 0) 0 (levels_of (depth_of true spans) size) all.disjoint), kept_has, bare_depth, has_kept, depth_bare, (gaps_levels size spans))

-- on the chromosome of a name
level_place : List ℕ → Level → Interval
level_place name l = record { chrom = name; start = l.start; stop = l.stop }

no_depth : DepthInterval → Bool
no_depth r = r.depth == 0

places_kept : (name : List ℕ) (ls : List Level)
    → map interval_at (filter no_depth (map (depth_on name) ls))
    ≡ map (level_place name) (filter (has 0) ls)
unfolding no_depth level_place
places_kept name [] = refl
places_kept name (l ∷ ls) = grind (arith, (places_kept name ls))

places_of_spans : (name : List ℕ) (spans : List Span)
    → map (level_place name) (map (level_on 0) spans) ≡ map (placed_on name) spans
unfolding level_place
places_of_spans name [] = refl
places_of_spans name (s ∷ ss) = grind (arith, (places_of_spans name ss))

gaps_on_all : (records : List Feature) (entries : List Entry)
    → flat_map (gaps_on (intervals_of records)) entries
    ≡ map interval_at (filter no_depth (flat_map (depths_on true None records) entries))
gaps_on_all records [] = refl
gaps_on_all records (e ∷ es) = grind (arith, (gaps_on_all records es), map-append, filter-append, filter_all, all_any, places_kept, gaps_by_depth, places_of_spans)

pub gaps_depth_0 : gaps_have_depth_0
unfolding complement coverage no_depth
gaps_depth_0 entries records = grind (arith, (filter_all (λ e. true) entries (all_any (λ e. true ≡ true) entries (λ e. refl))), (gaps_on_all records entries))

-- Lemmas on what is kept beside what is settled.

pub one_kept : one_place_is_kept
unfolding kept_place
one_kept = grind arith

pub one_is_kept : one_run_is_kept
one_is_kept gap strand past t = let whole = whole_taken gap strand past t in (whole.all, whole.few)

pub divide : strand_runs_divide
divide gap = strand_runs_are_all gap

pub in_order : strands_stay_in_order
in_order gap records strand taken = (are_listed gap records taken).split strand
