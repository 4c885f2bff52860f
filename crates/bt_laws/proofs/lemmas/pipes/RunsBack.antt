-- What merge, complement and genomecov write is an input of the next command.
use Rattle.bt_lines.proofs.Std.{◌≡◌, ℕ, ◌+◌, ◌-◌, ◌<◌, ◌≤◌, Bool, true, false, not, List, [], ◌∷◌, ◌++◌, map, filter, refl, sym, ap, subst, inl, inr, arith, eqb, append-nil, decimal, Option, append_assoc, IsTrue, codes, flat_map, AllByRecursion, map-id, slice_split_none}
use Rattle.bt_lines.specs.calls.Line.{NoLineFeed}
use Rattle.bt_bed.specs.model.Feature.{Feature, intervals_of, Interval, Span, placed_on, spans_on}
use Rattle.bt_bed.specs.model.Positions.{IsCovered}
use Rattle.bt_bed.specs.calls.Stretches.{stretches_from}
use Rattle.bt_bed.specs.model.BedLine.{says_nothing, interval_line, interval_lines}
use Rattle.bt_bed.specs.calls.Features.{IsName}
use Rattle.bt_bed.specs.calls.Orders.{ArePlaced, IsTotal, AreDistinct}
use Rattle.bt_bed.specs.model.Order.{Order, rank_order}
use Rattle.bt_bed.proofs.lemmas.StretchScans.{scan_finds}
use Rattle.bt_runs.specs.model.Merged.{counted, is_counted, chromosomes, end_of, merged, runs_of, runs_on, ordered_names, ordered_runs, StrandRun, places_of, runs_of_strand, strand_runs}
use Rattle.bt_runs.specs.declared.merge.merge_strand.MergeStrand.{MergeStrand}
use Rattle.bt_runs.specs.declared.merge.merge_strand.MergeStrand.TheVariants.{One}
use Rattle.bt_bed.specs.declared.record.strand.Strand.{Strand}
use Rattle.bt_runs.proofs.lemmas.order.FileOrder.{some_placed, distinct_chromosomes}
use Rattle.bt_laws.proofs.lemmas.single.StrandOrder.{names_in_order, ordered_all}
use Rattle.bt_laws.specs.Pipes.{AreSeparate, IsInput, is_no_header, three_columns, AreDisjoint, four_columns}
use Rattle.bt_runs.proofs.lemmas.Lists.{EachPair, all_any, all_filter, all_flat_map, all_map, all_so, filter_all, all_unmap, map_flat}
use Rattle.bt_laws.proofs.lemmas.pipes.LinesBack.{Columns, IsColumns, text_of_columns, placed_known, written_back, record_back, IsSaid, IsChrom, clear_tab, clear_number, strip_number}
use Rattle.bt_laws.proofs.lemmas.pipes.Placing.{AreInOrder, AreSpread, Earlier, apart_spread, ascending_pairs, known_names, names_pairs, pairs_filter, pairs_from_map, spans_in_order}
use Rattle.bt_laws.proofs.lemmas.parts.PartMerge.{named_all, listed_all}
use Rattle.bt_bed.specs.model.Genome.{Entry, genome_names}
use Rattle.bt_bed.specs.inside.RankTotal.{ranks_total}
use Rattle.bt_bed.specs.model.Levels.{AreDisjointFrom, HasValue, Level}
use Rattle.bt_laws.specs.Runs.{interval_at}
use Rattle.bt_runs.specs.model.Depth.{DepthInterval, coverage, depth_line, depth_lines, depth_of, depth_on, counted_on, levels_of}
use Rattle.bt_runs.specs.model.Gaps.{complement, gaps_of, gaps_on, is_asked}
use Rattle.bt_laws.proofs.lemmas.single.LevelLemmas.{are_levels}
use Rattle.bt_laws.proofs.lemmas.single.Records.{number_column}

-- ---- lines of three columns

-- an interval that can be written, and a name that can
pub record IsWritten (r : Interval) : Type 0 where
  pub named : IsName r.chrom
  pub clear : NoLineFeed r.chrom
  pub below : r.start < r.stop
  pub small : r.stop ≤ 999999999999

abbrev pub alone : Interval → Columns
alone r = record { at = r; tail = [] }

alone_columns : (r : Interval) → IsWritten r → IsColumns (alone r)
alone_columns r is = grind (arith, eqb)

alone_line : (r : Interval) → interval_line r ≡ text_of_columns (alone r) ++ 10 ∷ []
alone_line r = grind (arith, append-nil)

module _ (order : Order) (total : IsTotal order) where
  pub intervals_back : (rs : List Interval) → AllByRecursion IsWritten rs → ArePlaced order rs → IsInput order (interval_lines rs) (filter is_no_header (map three_columns rs))
  intervals_back rs are placed =
      written_back order total interval_line alone three_columns rs alone_line (all_any _ rs (λ r. refl)) (all_so IsWritten (λ r. IsColumns (alone r)) rs alone_columns are) (subst (ArePlaced order) (sym (map-id rs)) placed)

-- ---- lines of four columns

abbrev pub with_depth : DepthInterval → Columns
with_depth r = record { at = interval_at r; tail = codes "\t" ++ decimal r.depth }

depth_columns : (r : DepthInterval) → IsWritten (interval_at r) → IsColumns (with_depth r)
depth_columns r is = grind (arith, (clear_tab (decimal r.depth) (clear_number r.depth)), (decimal r.depth), (clear_number r.depth))

depth_as : (r : DepthInterval) → depth_line r ≡ text_of_columns (with_depth r) ++ 10 ∷ []
depth_as r = simp append_assoc

depth_back : (r : DepthInterval) → record_back (with_depth r) ≡ four_columns r
depth_back r = grind (arith, strip_number, slice_split_none, number_column)

module _ (order : Order) (total : IsTotal order) where
  depth_lines_back : (rs : List DepthInterval) → AllByRecursion (λ r. IsWritten (interval_at r)) rs → ArePlaced order (map interval_at rs) → IsInput order (depth_lines rs) (filter is_no_header (map four_columns rs))
  depth_lines_back rs are placed =
      written_back order total depth_line with_depth four_columns rs depth_as (all_any _ rs depth_back) (all_so (λ r. IsWritten (interval_at r)) (λ r. IsColumns (with_depth r)) rs depth_columns are) placed

-- ---- spans within a length

stops_within : (gap first n : ℕ) (spans : List Span) → AreSpread gap first spans → ((p : ℕ) → IsCovered spans p → p < n)
    → AllByRecursion (λ (s : Span). (s.start < s.stop) × (s.stop ≤ n)) spans
stops_within gap first n [] spread h = tt
stops_within gap first n (s ∷ ss) spread h =
    let last = h (s.stop - 1) (inl (omega (arith, spread.1), omega (arith, spread.1))) in
    ((spread.1, omega (arith, last, spread.1)), stops_within gap (s.stop + gap) n ss spread.2 (λ p c. h p (inr c)))

-- spans that ascend, so far apart or farther, below a length
record AreWithin (gap n : ℕ) (spans : List Span) : Type 0 where
  spread : AreSpread gap 0 spans
  within : AllByRecursion (λ (s : Span). (s.start < s.stop) × (s.stop ≤ n)) spans

scanned : (test : ℕ → Bool) (n : ℕ) → AreWithin 1 n (stretches_from test 0 n)
scanned test n = grind (arith, apart_spread, stops_within, (scan_finds test n))

-- levels without their values
abbrev pub level_span : Level → Span
level_span l = record { start = l.start; stop = l.stop }

pub covered_value : (ls : List Level) (p : ℕ) → IsCovered (map level_span ls) p → (v : ℕ) × HasValue ls p v
covered_value [] p c = absurd c
covered_value (l ∷ ls) p (inl here) = (l.value, inl (here.0, here.1, refl))
covered_value (l ∷ ls) p (inr there) = grind (arith, (covered_value ls p there))

levels_spread : (first : ℕ) (ls : List Level) → AreDisjointFrom first ls → AreSpread 0 first (map level_span ls)
levels_spread first [] h = tt
levels_spread first (l ∷ ls) h = grind (arith, (levels_spread l.stop ls h.3))

levels_within : (value : ℕ → Option ℕ) (n : ℕ) → AreWithin 0 n (map level_span (levels_of value n))
levels_within value n = grind (arith, levels_spread, stops_within, covered_value, (are_levels value n))

far_separate : (r s : Interval) → (r.chrom ≡ s.chrom → r.stop + 1 ≤ s.start) → AreSeparate r s
far_separate r s far same = omega (arith, far same)

far_disjoint : (r s : Interval) → (r.chrom ≡ s.chrom → r.stop + 0 ≤ s.start) → AreDisjoint r s
far_disjoint r s far same = omega (arith, far same)

pub on_written : (name : List ℕ) (n : ℕ) (spans : List Span) → IsName name → NoLineFeed name → n ≤ 999999999999 → AllByRecursion (λ (s : Span). (s.start < s.stop) × (s.stop ≤ n)) spans → AllByRecursion IsWritten (map (placed_on name) spans)
on_written name n spans named clear small h = grind (arith, all_map, all_so)

-- ---- merge

-- a name that comes from a line that is no header line
pub record IsSaidName (name : List ℕ) : Type 0 where
  pub named : IsName name
  pub clear : NoLineFeed name
  pub no_header : says_nothing name ≡ false

end_small : (name : List ℕ) (rs : List Interval) → AllByRecursion (λ (r : Interval). r.stop ≤ 999999999999) rs → end_of (spans_on name rs) ≤ 999999999999
end_small name [] h = omega arith
end_small name (r ∷ rs) h = grind (arith, (end_small name rs h.1))

runs_within : (gap : ℕ) (spans : List Span) → AreWithin 1 (end_of spans) (runs_of gap spans)
unfolding runs_of
runs_within gap spans = scanned _ (end_of spans)

-- a run, whose name is no header word
pub record IsRun (r : Interval) : Type 0 where
  pub written : IsWritten r
  pub no_header : says_nothing r.chrom ≡ false

runs_are_written : (name : List ℕ) (gap : ℕ) (rs : List Interval) → IsSaidName name → AllByRecursion (λ (r : Interval). r.stop ≤ 999999999999) rs → AllByRecursion IsRun (runs_on name gap rs)
runs_are_written name gap rs is small = grind (arith, all_map, all_so, (end_small name rs small), (runs_within gap (spans_on name rs)))

merged_written : (names : List (List ℕ)) (gap : ℕ) (rs : List Interval) → AllByRecursion IsSaidName names → AllByRecursion (λ (r : Interval). r.stop ≤ 999999999999) rs → AllByRecursion IsRun (merged names gap rs)
unfolding merged
merged_written names gap rs are small = grind (arith, all_flat_map, all_so, runs_are_written)

-- what is known of the merged records
counted_names : (strand : MergeStrand) (records : List Feature) → AllByRecursion IsSaid records → AllByRecursion (λ (r : Interval). IsSaidName r.chrom) (counted strand records)
counted_names strand records said = grind (arith, all_map, all_filter, all_so)

counted_stops : (strand : MergeStrand) (records : List Feature) → AllByRecursion IsSaid records → AllByRecursion (λ (r : Interval). r.stop ≤ 999999999999) (counted strand records)
counted_stops strand records said = grind (arith, all_map, all_filter, all_so)

no_headers : (rs : List Interval) → AllByRecursion IsRun rs → filter is_no_header (map three_columns rs) ≡ map three_columns rs
no_headers rs runs = filter_all is_no_header (map three_columns rs) (all_map (λ r. is_no_header r ≡ true) three_columns rs (all_so IsRun (λ r. not (says_nothing r.chrom) ≡ true) rs (λ r is. ap not is.no_header) runs))

module _ (order : Order) (total : IsTotal order) where
  pub runs_back : (rs : List Interval) → AllByRecursion IsRun rs → ArePlaced order rs → IsInput order (interval_lines rs) (map three_columns rs)
  runs_back rs runs placed = grind (arith, (no_headers rs runs), intervals_back, all_so)

  module _ (gap : ℕ) (strand : MergeStrand) (records : List Feature) (said : AllByRecursion IsSaid records) (placed : ArePlaced order (intervals_of records)) where
    names : List (List ℕ)
    names = ordered_names order (chromosomes (counted strand records))

    names_known : AllByRecursion (λ name. IsTrue (order.knows name)) (chromosomes (counted strand records))
    names_known = named_all (λ name. IsTrue (order.knows name)) (counted strand records) (placed_known order (counted strand records) (some_placed order total (λ r. is_counted strand r.strand) records placed))

    known_in_order : AllByRecursion (λ name. IsTrue (order.knows name)) names
    unfolding names
    known_in_order = grind (arith, ordered_all, names_known)

    names_earlier : EachPair (Earlier order) names
    unfolding names
    names_earlier = grind (arith, ascending_pairs, known_in_order, names_in_order, names_known, distinct_chromosomes)

    pub merge_in_order : AreInOrder order AreSeparate (ordered_runs order gap strand records)
    unfolding ordered_runs merged names
    merge_in_order =
        spans_in_order order total AreSeparate 1 far_separate (λ name. name)
        (λ name. runs_of gap (spans_on name (counted strand records))) names known_in_order names_earlier
        (all_any _ names (λ name. (runs_within gap (spans_on name (counted strand records))).spread))

    -- what merge writes
    pub merge_back : IsInput order (interval_lines (ordered_runs order gap strand records)) (map three_columns (ordered_runs order gap strand records))
    unfolding ordered_runs
    merge_back = grind (arith, runs_back, merged_written, ordered_all, (named_all IsSaidName (counted strand records) (counted_names strand records said)), (counted_stops strand records said), merge_in_order)

  -- each strand separately
  strand_written : (gap : ℕ) (records : List Feature) → AllByRecursion IsSaid records → (strand : Strand) → AllByRecursion (λ (item : StrandRun). IsRun item.run) (runs_of_strand gap records strand)
  strand_written gap records said strand =
      grind (arith, all_map, merged_written, (named_all IsSaidName (counted (One strand) records) (counted_names (One strand) records said)), (counted_stops (One strand) records said))

  pub strands_written : (gap : ℕ) (records : List Feature) → AllByRecursion IsSaid records → AllByRecursion IsRun (places_of (strand_runs gap records))
  unfolding strand_runs
  strands_written gap records said = all_map IsRun (λ (item : StrandRun). item.run) (strand_runs gap records) (listed_all (λ (item : StrandRun). IsRun item.run) (runs_of_strand gap records) [] records (strand_written gap records said))

-- ---- complement and genomecov

pub places_on : (name : List ℕ) (ls : List Level) → map interval_at (map (depth_on name) ls) ≡ map (placed_on name) (map level_span ls)
places_on name [] = refl
places_on name (l ∷ ls) = grind (arith, (places_on name ls))

gaps_within : (size : ℕ) (spans : List Span) → AreWithin 1 size (gaps_of size spans)
unfolding gaps_of
gaps_within size spans = scanned _ size

module _ (entries : List Entry) (chroms : AllByRecursion IsChrom entries) (distinct : AreDistinct (genome_names entries)) where
  abbrev file_order : Order
  file_order = rank_order (genome_names entries)

  file_total : IsTotal file_order
  file_total = ranks_total (genome_names entries)

  entries_known : AllByRecursion (λ (e : Entry). IsTrue (file_order.knows e.name)) entries
  entries_known = grind (arith, all_unmap, (known_names (genome_names entries)))

  entries_earlier : EachPair (λ (d e : Entry). Earlier file_order d.name e.name) entries
  entries_earlier = grind (arith, pairs_from_map, (names_pairs (genome_names entries) distinct))

  module _ (limit : Bool) (records : List Feature) where
    abbrev asked : Entry → Bool
    asked = is_asked limit (intervals_of records)

    abbrev gap_spans : Entry → List Span
    gap_spans e = gaps_of e.length (spans_on e.name (intervals_of records))

    pub gaps_in_order : AreInOrder file_order AreSeparate (complement limit entries records)
    unfolding complement
    gaps_in_order =
        let known = all_filter (λ (e : Entry). IsTrue (file_order.knows e.name)) asked entries entries_known in
        let earlier = pairs_filter (λ (d e : Entry). Earlier file_order d.name e.name) asked entries entries_earlier in
        spans_in_order file_order file_total AreSeparate 1 far_separate (λ (e : Entry). e.name) gap_spans (filter asked entries) known earlier
        (all_any _ (filter asked entries) (λ e. (gaps_within e.length (spans_on e.name (intervals_of records))).spread))

    gaps_written : AllByRecursion IsWritten (complement limit entries records)
    unfolding complement
    gaps_written =
        let Written : Entry → Type 0 = λ e. AllByRecursion IsWritten (gaps_on (intervals_of records) e) in
        all_flat_map IsWritten (gaps_on (intervals_of records)) (filter asked entries) (all_filter Written asked entries (all_so IsChrom Written entries
        (λ e is.
        let within = (gaps_within e.length (spans_on e.name (intervals_of records))).within in
        on_written e.name e.length (gap_spans e) is.named is.clear is.small within)
        chroms))

    pub gaps_back : IsInput file_order (interval_lines (complement limit entries records)) (filter is_no_header (map three_columns (complement limit entries records)))
    gaps_back = grind (arith, intervals_back, file_total, gaps_written, gaps_in_order)

  module _ (zeros : Bool) (strand : Option Strand) (records : List Feature) where
    abbrev depths_at : Entry → ℕ → Option ℕ
    depths_at e = depth_of zeros (counted_on strand e.name records)

    abbrev depth_spans : Entry → List Span
    depth_spans e = map level_span (levels_of (depths_at e) e.length)

    abbrev depth_places : Entry → List Interval
    depth_places e = map (placed_on e.name) (depth_spans e)

    places_of_all : map interval_at (coverage zeros strand entries records) ≡ flat_map depth_places entries
    unfolding coverage
    places_of_all = grind (arith, map_flat, places_on)

    pub depths_in_order : AreInOrder file_order AreDisjoint (map interval_at (coverage zeros strand entries records))
    depths_in_order = subst (AreInOrder file_order AreDisjoint) (sym places_of_all)
        (spans_in_order file_order file_total AreDisjoint 0 far_disjoint (λ (e : Entry). e.name) depth_spans entries entries_known entries_earlier
        (all_any _ entries (λ e. (levels_within (depths_at e) e.length).spread)))

    depths_written : AllByRecursion IsWritten (map interval_at (coverage zeros strand entries records))
    depths_written = subst (AllByRecursion IsWritten) (sym places_of_all)
        (all_flat_map IsWritten depth_places entries (all_so IsChrom (λ e. AllByRecursion IsWritten (depth_places e)) entries
        (λ e is. on_written e.name e.length (depth_spans e) is.named is.clear is.small (levels_within (depths_at e) e.length).within) chroms))

    pub coverage_back : IsInput file_order (depth_lines (coverage zeros strand entries records))
        (filter is_no_header (map four_columns (coverage zeros strand entries records)))
    coverage_back =
        depth_lines_back file_order file_total (coverage zeros strand entries records)
        (all_unmap IsWritten interval_at (coverage zeros strand entries records) depths_written) depths_in_order.placed
