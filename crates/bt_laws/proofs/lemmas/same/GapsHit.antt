-- What is left of a record lies in the gaps of the second input.
use Rattle.bt_lines.proofs.Std.{rules, ◌≡◌, ℕ, ◌+◌, ◌<◌, ◌≤◌, false, List, [], ◌∷◌, append-nil, map, filter, max, min, Some, None, Ok, refl, sym, ap, ◌∙◌, subst, inl, inr, arith, bytes_eq, flat_map, AllByRecursion, or_parts, flat_map-map}
use Rattle.bt_lines.specs.model.Lines.{whole_text}
use Rattle.bt_lines.specs.declared.fault.Input.TheVariants.{First, Second}
use Rattle.bt_bed.specs.model.Feature.{Feature, interval_of, intervals_of, Interval, Span, spans_on, placed_on}
use Rattle.bt_bed.specs.model.Positions.{AreApartFrom, IsCovered}
use Rattle.bt_bed.specs.calls.Stretches.{stretches_from}
use Rattle.bt_bed.specs.model.BedLine.{says_nothing, interval_lines}
use Rattle.bt_bed.specs.model.Genome.{Entry, genome_names}
use Rattle.bt_bed.specs.model.Good.{bed_good}
use Rattle.bt_bed.specs.model.Order.{Order, is_among}
use Rattle.bt_bed.specs.calls.Orders.{AreDistinct}
use Rattle.bt_bed.proofs.lemmas.parse.NameLemmas.{cases_name}
use Rattle.bt_runs.specs.model.Gaps.{complement, gaps_of}
use Rattle.bt_runs.specs.calls.Complementing.{length_in}
use Rattle.bt_runs.proofs.lemmas.order.FileOrder.{spans_on-append}
use Rattle.bt_runs.proofs.lemmas.complement.Walks.{are_gaps}
use Rattle.bt_sweep.specs.model.Hits.{hits_among}
use Rattle.bt_sweep.specs.calls.Sweeping.{any_overlap}
use Rattle.bt_sweep.specs.model.Lines.{intersect, lines_for, piece_line, pieces}
use Rattle.bt_sweep.specs.calls.LineLaws.{spans_of}
use Rattle.bt_sweep.specs.declared.output.shape.Shape.TheVariants.{Cut, Pieces}
use Rattle.bt_sweep.proofs.lemmas.definitions.PieceLemmas.{only_pieces}
use Rattle.bt_tool.specs.model.Report.{Inputs, chromosomes_of}
use Rattle.bt_tool.specs.model.Behaviour.{order_in_use, or_empty}
use Rattle.bt_tool.specs.declared.planning.plan_type.Command.TheVariants.{Complement, Intersect, Subtract}
use Rattle.bt_laws.specs.WholeRuns.{first_records, second_records, RunWrites, of_second, with_second_input}
use Rattle.bt_laws.specs.Same.{LieWithinLengths, subtract_by_complement}
use Rattle.bt_laws.specs.Pipes.{AreSeparate, IsInput, is_no_header, three_columns}
use Rattle.bt_runs.proofs.lemmas.Lists.{EachPair, all_any, all_map, all_so, filter_all, flat_map_same, all_zip}
use Rattle.bt_laws.proofs.lemmas.pipes.RunsBack.{gaps_back, gaps_in_order}
use Rattle.bt_laws.proofs.lemmas.pipes.PipeLaws.{chroms_of, subtract_whole, well_there, report_there}
use Rattle.bt_laws.proofs.lemmas.pipes.Placing.{pairs_filter, pairs_map, pairs_so}
use Rattle.bt_laws.proofs.lemmas.same.SameRuns.{here_all, none_there}
use Rattle.bt_laws.proofs.lemmas.pipes.LinesBack.{IsChrom, IsSaid, good_are_said}
use Rattle.bt_laws.proofs.lemmas.same.SameSweeps.{hit_back, hit_to, intersect_on, nones, other_input}
use Rattle.bt_laws.proofs.lemmas.pipes.SweepBack.{Hit, all_hits, cut_bounds, same_name as hit_name}

-- ---- the gaps of one chromosome

no_gaps : (spans : List Span) → gaps_of 0 spans ≡ []
unfolding gaps_of stretches_from
no_gaps spans = refl

-- spans of the chromosomes of a genome file, by their names and lengths
module _ (spans : List ℕ → ℕ → List Span) (none : (name : List ℕ) → spans name 0 ≡ []) where
  abbrev pub on_entry : Entry → List Interval
  on_entry e = map (placed_on e.name) (spans e.name e.length)

  spans_absent : (name : List ℕ) (entries : List Entry) → is_among (genome_names entries) name ≡ false → spans_on name (flat_map on_entry entries) ≡ []
  spans_absent name [] e = refl
  spans_absent name (entry ∷ entries) e =
      grind (arith, (spans_absent name entries (or_parts (bytes_eq entry.name name) (is_among (genome_names entries) name) e).1), spans_on-append, none_there)

  pub spans_there : (name : List ℕ) (entries : List Entry) → AreDistinct (genome_names entries) → spans_on name (flat_map on_entry entries) ≡ spans name (length_in entries name)
  spans_there name [] distinct = sym (none name)
  spans_there name (entry ∷ entries) distinct = grind (arith, (spans_there name entries distinct.1), cases_name, spans_on-append, here_all, spans_absent, append-nil, none_there)

pub complement_spans : (entries : List Entry) (records : List Feature) (name : List ℕ) → AreDistinct (genome_names entries) → spans_on name (complement false entries records) ≡ gaps_of (length_in entries name) (spans_on name (intervals_of records))
unfolding complement
complement_spans entries records name distinct = grind (arith, filter_all, all_any, (spans_there (λ n size. gaps_of size (spans_on n (intervals_of records))) (λ n. no_gaps (spans_on n (intervals_of records))) name entries distinct))

-- lines of header words hide nothing of another chromosome
pub unhidden : (name : List ℕ) (rs : List Interval) → says_nothing name ≡ false → spans_on name (intervals_of (filter is_no_header (map three_columns rs))) ≡ spans_on name rs
unhidden name [] e = refl
unhidden name (r ∷ rs) e = grind (arith, (unhidden name rs e), rules)

-- ---- what a has in the gaps

abbrev pub cut_span : Feature → Feature → Span
cut_span a g = record { start = max a.start g.start; stop = min a.stop g.stop }

from_pairs : (first : ℕ) (spans : List Span) → AllByRecursion (λ (s : Span). (first ≤ s.start) × (s.start < s.stop)) spans → EachPair (λ (s t : Span). s.stop < t.start) spans → AreApartFrom first spans
from_pairs first [] all pairs = tt
from_pairs first (s ∷ ss) all pairs =
    (all.0.0, all.0.1, from_pairs (s.stop + 1) ss (all_zip (λ (t : Span). (first ≤ t.start) × (t.start < t.stop)) (λ (t : Span). s.stop < t.start) (λ (t : Span). (s.stop + 1 ≤ t.start) × (t.start < t.stop)) ss (λ t h k. (omega (arith, k), h.1)) all.1 pairs.0) pairs.1)

pub cut_covered : (a : Feature) (found : List Feature) (p : ℕ) → IsCovered (map (cut_span a) found) p → IsCovered (spans_of found) p × (a.start ≤ p) × (p < a.stop)
cut_covered a [] p c = absurd c
cut_covered a (g ∷ found) p (inl here) = grind arith
cut_covered a (g ∷ found) p (inr there) = grind (arith, (cut_covered a found p there))

pub covered_cut : (a : Feature) (found : List Feature) (p : ℕ) → a.start ≤ p → p < a.stop → IsCovered (spans_of found) p → IsCovered (map (cut_span a) found) p
covered_cut a [] p from to c = absurd c
covered_cut a (g ∷ found) p from to (inl here) = grind arith
covered_cut a (g ∷ found) p from to (inr there) = inr (covered_cut a found p from to there)

module _ (a : Feature) (bs gs : List Feature) (size : ℕ) (within : a.stop ≤ size) (said : AllByRecursion IsSaid gs) (apart : EachPair (λ g h. AreSeparate (interval_of g) (interval_of h)) gs)
    (are : spans_on a.chrom (intervals_of gs) ≡ gaps_of size (spans_on a.chrom (intervals_of bs))) where
  abbrev found : List Feature
  found = hits_among any_overlap a gs

  found_hits : AllByRecursion (Hit any_overlap a) found
  found_hits = all_hits any_overlap a gs said

  cut_apart : AreApartFrom 0 (map (cut_span a) found)
  cut_apart = from_pairs 0 (map (cut_span a) found) (all_map (λ (s : Span). (0 ≤ s.start) × (s.start < s.stop)) (cut_span a) found (all_so (Hit any_overlap a) (λ g. (0 ≤ (cut_span a g).start) × ((cut_span a g).start < (cut_span a g).stop)) found (λ g hit. (omega arith, cut_bounds any_overlap a g hit.1)) found_hits))
      (pairs_map (λ (s t : Span). s.stop < t.start) (cut_span a) found (grind (arith, pairs_so, hit_name, found_hits, pairs_filter)))

  pub left_in_gaps : map (cut_span a) found ≡ pieces a (hits_among any_overlap a bs)
  left_in_gaps = grind (arith, only_pieces, cut_apart, cut_covered, (are_gaps size (spans_on a.chrom (intervals_of bs))), hit_to, hit_back, covered_cut)

-- ---- the runs

module _ (inputs : Inputs) (entries : List Entry) (genome : chromosomes_of inputs.genome ≡ Ok (Some entries)) (none : (bed_good Second (order_in_use (Some entries)) (or_empty inputs.second)).fault ≡ None) where
  abbrev order : Order
  order = order_in_use (Some entries)

  abbrev seconds : List Feature
  seconds = second_records (Some entries) inputs

  abbrev gaps : List Interval
  gaps = complement false entries seconds

  abbrev gap_records : List Feature
  gap_records = filter is_no_header (map three_columns gaps)

  abbrev alone : Inputs
  alone = record { genome = inputs.genome; first = or_empty inputs.second; second = None }

  second_is : of_second (Complement false) inputs ≡ interval_lines gaps
  second_is = grind (arith, (other_input order Second First (or_empty inputs.second) none), (report_there (Complement false) alone (Some entries) genome))

  known : AllByRecursion IsChrom entries × AreDistinct (genome_names entries)
  known = chroms_of inputs.genome entries genome

  second_input : IsInput order (of_second (Complement false) inputs) gap_records
  second_input = grind (arith, second_is, (gaps_back entries known.0 known.1 false seconds))

  gaps_said : AllByRecursion IsSaid gap_records
  gaps_said = subst (AllByRecursion IsSaid) (second_input.records_are Second) (good_are_said Second order (whole_text (of_second (Complement false) inputs)))

  gaps_far : EachPair (λ (g h : Feature). AreSeparate (interval_of g) (interval_of h)) gap_records
  gaps_far = grind (arith, pairs_filter, (pairs_map (λ (g h : Feature). AreSeparate (interval_of g) (interval_of h)) three_columns gaps (gaps_in_order entries known.0 known.1 false seconds).pairs))

  one_line : (a : Feature) → IsSaid a → a.stop ≤ length_in entries a.chrom → lines_for Cut any_overlap a gap_records ≡ lines_for Pieces any_overlap a seconds
  unfolding lines_for
  one_line a is within =
      sym (flat_map-map (piece_line a) (cut_span a) (hits_among any_overlap a gap_records))
      ∙ ap (flat_map (piece_line a)) (left_in_gaps a seconds gap_records (length_in entries a.chrom) within gaps_said gaps_far (unhidden a.chrom gaps is.no_header ∙ complement_spans entries seconds a.chrom known.1))

  all_lines : (as_read : List Feature) → AllByRecursion IsSaid as_read → LieWithinLengths entries as_read → intersect Cut any_overlap as_read gap_records ≡ intersect Pieces any_overlap as_read seconds
  all_lines as_read said within = flat_map_same (λ a. lines_for Cut any_overlap a gap_records) (λ a. lines_for Pieces any_overlap a seconds) as_read (all_zip IsSaid (λ (a : Feature). a.stop ≤ length_in entries a.chrom) (λ a. lines_for Cut any_overlap a gap_records ≡ lines_for Pieces any_overlap a seconds) as_read one_line said within)

  pub by_gaps : (bed_good First order inputs.first).fault ≡ None → LieWithinLengths entries (first_records (Some entries) inputs)
      → RunWrites (Intersect Cut any_overlap None) (with_second_input (Complement false) inputs) (intersect Pieces any_overlap (first_records (Some entries) inputs) seconds)
  by_gaps first_none within =
      subst (RunWrites (Intersect Cut any_overlap None) (with_second_input (Complement false) inputs)) (all_lines (first_records (Some entries) inputs) (good_are_said First order inputs.first) within)
      (intersect_on (Complement false) inputs (Some entries) gap_records Cut any_overlap genome second_input first_none)

pub subtract_gaps : subtract_by_complement
subtract_gaps held inputs entries well within = grind (arith, (nones Pieces any_overlap held inputs (Some entries) (well_there (Subtract false any_overlap held) inputs (Some entries) well)), (subtract_whole false any_overlap held inputs (Some entries) well), by_gaps)
