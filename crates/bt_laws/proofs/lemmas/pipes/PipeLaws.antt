-- The reports whose outputs go on as inputs.
use Rattle.bt_lines.proofs.Std.{append-nil, append_assoc, ◌≡◌, ℕ, Bool, true, false, List, [], ◌∷◌, ◌++◌, map, filter, Option, Some, None, Ok, refl, sym, ◌∙◌, subst, ◌≢◌, AllByRecursion, AllPairs, ◌+◌, ◌<◌, arith, length-append, cases_lt, lt-ltb, ltb-true, filter-append}
use Rattle.bt_lines.specs.model.Fault.{FaultValue}
use Rattle.bt_lines.specs.model.Lines.{Handed}
use Rattle.bt_lines.specs.declared.fault.Input.TheVariants.{First, Second}
use Rattle.bt_bed.specs.model.Order.{byte_order, Order}
use Rattle.bt_bed.specs.calls.Orders.{bytes_total, IsTotal, AreDistinct, ArePlaced}
use Rattle.bt_bed.specs.model.Feature.{Feature, intervals_of, interval_of, Interval, Span}
use Rattle.bt_bed.specs.model.Positions.{IsCovered}
use Rattle.bt_bed.specs.model.BedLine.{interval_lines}
use Rattle.bt_bed.specs.model.Genome.{Entry, genome_names}
use Rattle.bt_bed.specs.model.Good.{Good, Member, items_in, bed_good}
use Rattle.bt_bed.specs.model.Meeting.{written}
use Rattle.bt_bed.specs.declared.record.strand.Strand.{Strand}
use Rattle.bt_bed.proofs.lemmas.Definitions.{non_empty_good, placed_good}
use Rattle.bt_laws.specs.Runs.{interval_at}
use Rattle.bt_runs.specs.model.Depth.{coverage, depth_lines, DepthInterval, depth_at, levels_of}
use Rattle.bt_runs.specs.model.Gaps.{complement, gaps_of}
use Rattle.bt_runs.specs.model.Merged.{ordered_runs, runs_of}
use Rattle.bt_runs.specs.calls.MergedRuns.{Bridged}
use Rattle.bt_runs.specs.declared.merge.merge_strand.MergeStrand.{MergeStrand}
use Rattle.bt_runs.specs.declared.merge.merge_strand.MergeStrand.TheVariants.{All, Each, One}
use Rattle.bt_laws.proofs.lemmas.single.StrandOrder.{in_order}
use Rattle.bt_sweep.specs.model.Lines.{intersect, subtract_shape}
use Rattle.bt_sweep.specs.model.Hits.{up_to_too_many, within_limit}
use Rattle.bt_sweep.specs.declared.hits.hit_rule.HitRule.{HitRule}
use Rattle.bt_sweep.specs.declared.output.shape.Shape.{Shape}
use Rattle.bt_sweep.specs.declared.output.shape.Shape.TheVariants.{Pieces, Whole}
use Rattle.bt_sweep.proofs.lemmas.definitions.HitLemmas.{faultless_all}
use Rattle.bt_tool.specs.model.Report.{Inputs, chromosomes_of, report_of}
use Rattle.bt_tool.specs.model.Behaviour.{behaviour_of, entries_in, order_in_use, or_empty}
use Rattle.bt_tool.specs.model.Written.{report_by, Written, merge_written}
use Rattle.bt_tool.specs.model.TwoInputs.{met_within}
use Rattle.bt_tool.specs.declared.planning.plan_type.Command.{Command}
use Rattle.bt_tool.specs.declared.planning.plan_type.Command.TheVariants.{Complement, Coverage, Intersect, Merge, Subtract}
use Rattle.bt_laws.specs.WholeRuns.{RunsWithoutFault, first_records, second_records}
use Rattle.bt_laws.specs.Pipes.{complement_is_input, cut_intersect_is_input, cut_strands_stay, genomecov_is_input, intersect_is_input, kept_places_stay, kept_records_stay, kept_strands_stay, merge_is_input, subtract_is_input, whole_subtract_is_input, begins_with_a, records_written, AreSeparate, AreDisjoint, IsInput, four_columns, is_no_header, three_columns, complement_writes_disjoint, genomecov_writes_disjoint, merge_writes_disjoint}
use Rattle.bt_runs.proofs.lemmas.Lists.{EachPair, pairs_all, pairs_each}
use Rattle.bt_laws.proofs.lemmas.pipes.RunsBack.{coverage_back, depths_in_order, gaps_back, gaps_in_order, intervals_back, merge_in_order, merge_back, runs_back, strands_written}
use Rattle.bt_laws.proofs.lemmas.pipes.LinesBack.{IsChrom, IsSaid, genome_chroms, good_are_said}
use Rattle.bt_laws.proofs.lemmas.pipes.SweepBack.{cut_back, kept_back, pieces_back, all_read, cut_stay, places_stay, records_stay, strands_stay}
use Rattle.bt_laws.proofs.lemmas.parts.PartTexts.{order_total}
use Rattle.bt_laws.proofs.lemmas.pipes.Placing.{pairs_filter, pairs_from_map, pairs_map}
use Rattle.bt_runs.proofs.lemmas.merge.Bridging.{are_runs, bridged_here, is_covered-Decides, only_runs}
use Rattle.bt_laws.proofs.lemmas.single.LevelLemmas.{covered_depth, bridged_covered}
use Rattle.bt_runs.proofs.lemmas.complement.Walks.{are_gaps, only_gaps}
use Rattle.bt_laws.proofs.lemmas.single.Records.{distinct_genome}

-- ---- the order in use

pub chroms_of : (genome : Option Handed) (entries : List Entry) → chromosomes_of genome ≡ Ok (Some entries) → AllByRecursion IsChrom entries × AreDistinct (genome_names entries)
chroms_of genome entries e = grind (arith, genome_chroms, distinct_genome)

-- ---- a report of one input without a fault

whole_by : {A : Type 0} (written : Written A) (members : List A) (fault : Option FaultValue) → (report_by written members fault).fault ≡ None → (report_by written members fault).output ≡ written.whole members
whole_by written members fault e = grind arith

pub report_there : (command : Command) (inputs : Inputs) (chromosomes : Option (List Entry)) → chromosomes_of inputs.genome ≡ Ok chromosomes → report_of command inputs ≡ (behaviour_of command chromosomes).report inputs.first inputs.second
unfolding report_of
report_there command inputs chromosomes genome = grind arith

module _ (command : Command) (inputs : Inputs) (chromosomes : Option (List Entry)) (well : RunsWithoutFault command inputs chromosomes) where
  pub well_there : ((behaviour_of command chromosomes).report inputs.first inputs.second).fault ≡ None
  well_there = grind (arith, report_there)

  pub output_is : (report_of command inputs).output ≡ ((behaviour_of command chromosomes).report inputs.first inputs.second).output
  output_is = grind (arith, report_there)

-- ---- merge

pub merge_whole : (d : ℕ) (strand : MergeStrand) (inputs : Inputs) (chromosomes : Option (List Entry)) → RunsWithoutFault (Merge d strand) inputs chromosomes
    → (report_of (Merge d strand) inputs).output ≡ (merge_written (order_in_use chromosomes) d strand).whole (first_records chromosomes inputs)
merge_whole d strand inputs chromosomes well = grind (arith, (output_is (Merge d strand) inputs chromosomes well), whole_by, (well_there (Merge d strand) inputs chromosomes well))

module _ (d : ℕ) (inputs : Inputs) (chromosomes : Option (List Entry)) where
  abbrev order_used : Order
  order_used = order_in_use chromosomes

  abbrev merged_records : List Feature
  merged_records = first_records chromosomes inputs

  total : IsTotal order_used
  total = order_total chromosomes

  placed : ArePlaced order_used (intervals_of merged_records)
  placed = placed_good First order_used inputs.first total

  pooled : (strand : MergeStrand) → (report_of (Merge d strand) inputs).output ≡ interval_lines (ordered_runs order_used d strand merged_records)
      → let runs = ordered_runs order_used d strand merged_records in ((report_of (Merge d strand) inputs).output ≡ interval_lines runs) × IsInput order_used (report_of (Merge d strand) inputs).output (map three_columns runs) × (strand ≢ Each → AllPairs AreSeparate runs)
  pooled strand e = (
    e,
    subst (λ text. IsInput order_used text (map three_columns (ordered_runs order_used d strand merged_records))) (sym e) (merge_back order_used total d strand merged_records (good_are_said First order_used inputs.first) placed),
    λ other. pairs_all AreSeparate (ordered_runs order_used d strand merged_records) (merge_in_order order_used total d strand merged_records (good_are_said First order_used inputs.first) placed).pairs,
  )

pub merge_input : merge_is_input
merge_input d All inputs chromosomes well = pooled d inputs chromosomes All (merge_whole d All inputs chromosomes well)
merge_input d (One strand) inputs chromosomes well = pooled d inputs chromosomes (One strand) (merge_whole d (One strand) inputs chromosomes well)
merge_input d Each inputs chromosomes well = grind (arith, (order_total chromosomes), (merge_whole d Each inputs chromosomes well), runs_back, strands_written, good_are_said, in_order, placed_good, non_empty_good)

-- ---- complement and genomecov

module _ (limit : Bool) (inputs : Inputs) (chromosomes : Option (List Entry)) (well : RunsWithoutFault (Complement limit) inputs chromosomes) where
  abbrev gaps_of_run : List Interval
  gaps_of_run = complement limit (entries_in chromosomes) (first_records chromosomes inputs)

  pub complement_whole : (report_of (Complement limit) inputs).output ≡ interval_lines gaps_of_run
  complement_whole = grind (arith, (output_is (Complement limit) inputs chromosomes well), (well_there (Complement limit) inputs chromosomes well))

gaps_input : (limit : Bool) (genome : Option Handed) (chromosomes : Option (List Entry)) (records : List Feature) → chromosomes_of genome ≡ Ok chromosomes
    → IsInput (order_in_use chromosomes) (interval_lines (complement limit (entries_in chromosomes) records)) (filter is_no_header (map three_columns (complement limit (entries_in chromosomes) records)))
    × EachPair AreSeparate (complement limit (entries_in chromosomes) records)
unfolding complement
gaps_input limit genome None records e = (intervals_back byte_order bytes_total [] tt tt, tt)
gaps_input limit genome (Some entries) records e = grind (arith, (chroms_of genome entries e), gaps_back, gaps_in_order)

pub complement_input : complement_is_input
complement_input limit inputs chromosomes well =
    let e = complement_whole limit inputs chromosomes well in
    let is = gaps_input limit inputs.genome chromosomes (first_records chromosomes inputs) well.genome in
    grind (arith, (pairs_all AreSeparate (complement limit (entries_in chromosomes) (first_records chromosomes inputs)) is.1))

depths_input : (zeros : Bool) (strand : Option Strand) (genome : Option Handed) (chromosomes : Option (List Entry)) (records : List Feature) → chromosomes_of genome ≡ Ok chromosomes
    → IsInput (order_in_use chromosomes) (depth_lines (coverage zeros strand (entries_in chromosomes) records)) (filter is_no_header (map four_columns (coverage zeros strand (entries_in chromosomes) records)))
    × EachPair AreDisjoint (map interval_at (coverage zeros strand (entries_in chromosomes) records))
unfolding coverage
depths_input zeros strand genome None records e = (intervals_back byte_order bytes_total [] tt tt, tt)
depths_input zeros strand genome (Some entries) records e = grind (arith, (chroms_of genome entries e), coverage_back, depths_in_order)

pub genomecov_whole : (zeros : Bool) (strand : Option Strand) (inputs : Inputs) (chromosomes : Option (List Entry)) → RunsWithoutFault (Coverage zeros strand) inputs chromosomes
    → (report_of (Coverage zeros strand) inputs).output ≡ depth_lines (coverage zeros strand (entries_in chromosomes) (first_records chromosomes inputs))
genomecov_whole zeros strand inputs chromosomes well = grind (arith, (output_is (Coverage zeros strand) inputs chromosomes well), whole_by, (well_there (Coverage zeros strand) inputs chromosomes well))

pub genomecov_input : genomecov_is_input
genomecov_input zeros strand inputs chromosomes well =
    let depths = coverage zeros strand (entries_in chromosomes) (first_records chromosomes inputs) in
    let e = genomecov_whole zeros strand inputs chromosomes well in
    let is = depths_input zeros strand inputs.genome chromosomes (first_records chromosomes inputs) well.genome in
    (e, subst (λ text. IsInput (order_in_use chromosomes) text (filter is_no_header (map four_columns depths))) (sym e) is.0, pairs_all AreDisjoint (map interval_at depths) is.1)

-- ---- two inputs

-- a limit without a fault of its own changes nothing
cut_whole : (too : List Feature → Bool) (past members : List (Member Feature)) (fault : Option FaultValue) → (up_to_too_many too past members fault).fault ≡ None → up_to_too_many too past members fault ≡ record { members = past ++ members; fault = fault }
cut_whole too past [] fault e = grind (arith, append-nil)
cut_whole too past (m ∷ more) fault e = grind (arith, append_assoc, (cut_whole too (past ++ m ∷ []) more fault))

pub limit_whole : (order : Order) (limit : Option ℕ) (first : List Feature) (second : Good Feature) → (within_limit order limit first second).fault ≡ None → within_limit order limit first second ≡ second
limit_whole order limit first second e = grind (arith, cut_whole)

-- without a fault all pairs are written, with a limit or without one
pub swept_whole : (order : Order) (shape : Shape) (rule : HitRule) (limit : Option ℕ) (first second : Good Feature) → (met_within order shape rule limit first second).fault ≡ None
    → (met_within order shape rule limit first second).output ≡ intersect shape rule (items_in first) (items_in second)
swept_whole order shape rule limit first second e = grind (arith, faultless_all, cut_whole)

module _ (shape : Shape) (rule : HitRule) (chromosomes : Option (List Entry)) (inputs : Inputs) where
  abbrev firsts : List Feature
  firsts = first_records chromosomes inputs

  abbrev seconds : List Feature
  seconds = second_records chromosomes inputs

  said : AllByRecursion IsSaid firsts
  said = grind (arith, good_are_said)

  said_second : AllByRecursion IsSaid seconds
  said_second = grind (arith, good_are_said)

  first_placed : ArePlaced (order_in_use chromosomes) (intervals_of firsts)
  first_placed = grind (arith, placed_good, order_total)

  second_placed : ArePlaced (order_in_use chromosomes) (intervals_of seconds)
  second_placed = grind (arith, placed_good, order_total)

  kept_input : begins_with_a shape ≡ true → IsInput (order_in_use chromosomes) (intersect shape rule firsts seconds) (records_written shape rule firsts seconds)
  kept_input begins = grind (arith, (all_read shape rule firsts seconds), (kept_back (order_in_use chromosomes) (order_total chromosomes) shape rule firsts seconds said said_second first_placed begins))

  pub cut_input : begins_with_a shape ≡ false → AllPairs AreDisjoint (intervals_of firsts) → IsInput (order_in_use chromosomes) (intersect shape rule firsts seconds) (records_written shape rule firsts seconds)
  cut_input cuts apart =
      subst (IsInput (order_in_use chromosomes) (intersect shape rule firsts seconds)) (all_read shape rule firsts seconds)
      (cut_back (order_in_use chromosomes) (order_total chromosomes) shape rule firsts seconds said said_second first_placed second_placed (pairs_each AreDisjoint (intervals_of firsts) apart) cuts)

pub intersect_whole : (shape : Shape) (rule : HitRule) (held : Option ℕ) (inputs : Inputs) (chromosomes : Option (List Entry)) → RunsWithoutFault (Intersect shape rule held) inputs chromosomes
    → (report_of (Intersect shape rule held) inputs).output ≡ intersect shape rule (first_records chromosomes inputs) (second_records chromosomes inputs)
intersect_whole shape rule held inputs chromosomes well =
    output_is (Intersect shape rule held) inputs chromosomes well
    ∙ swept_whole (order_in_use chromosomes) shape rule held (bed_good First (order_in_use chromosomes) inputs.first) (bed_good Second (order_in_use chromosomes) (or_empty inputs.second)) (well_there (Intersect shape rule held) inputs chromosomes well)

pub subtract_whole : (whole : Bool) (rule : HitRule) (held : Option ℕ) (inputs : Inputs) (chromosomes : Option (List Entry)) → RunsWithoutFault (Subtract whole rule held) inputs chromosomes
    → (report_of (Subtract whole rule held) inputs).output ≡ intersect (subtract_shape whole) rule (first_records chromosomes inputs) (second_records chromosomes inputs)
subtract_whole whole rule held inputs chromosomes well =
    output_is (Subtract whole rule held) inputs chromosomes well
    ∙ swept_whole (order_in_use chromosomes) (subtract_shape whole) rule held (bed_good First (order_in_use chromosomes) inputs.first) (bed_good Second (order_in_use chromosomes) (or_empty inputs.second)) (well_there (Subtract whole rule held) inputs chromosomes well)

pub intersect_input : intersect_is_input
intersect_input shape rule held inputs chromosomes begins well = grind (arith, (intersect_whole shape rule held inputs chromosomes well), (kept_input shape rule chromosomes inputs begins))

pub whole_subtract_input : whole_subtract_is_input
whole_subtract_input rule held inputs chromosomes well = grind (arith, (subtract_whole true rule held inputs chromosomes well), (kept_input Whole rule chromosomes inputs refl))

pub kept_records : kept_records_stay
kept_records shape rule inputs chromosomes alone plain = records_stay shape rule (first_records chromosomes inputs) (second_records chromosomes inputs) alone (said shape rule chromosomes inputs) plain

pub kept_places : kept_places_stay
kept_places shape rule inputs chromosomes begins = grind (arith, places_stay)

pub kept_strands : kept_strands_stay
kept_strands shape rule inputs chromosomes begins alone unsigned =
    strands_stay shape rule (first_records chromosomes inputs) (second_records chromosomes inputs) begins alone (said shape rule chromosomes inputs) (said_second shape rule chromosomes inputs) unsigned

pub cut_strands : cut_strands_stay
cut_strands shape rule inputs chromosomes cuts keeps =
    cut_stay shape rule (first_records chromosomes inputs) (second_records chromosomes inputs) cuts (said shape rule chromosomes inputs) (said_second shape rule chromosomes inputs) keeps

pub cut_intersect_input : cut_intersect_is_input
cut_intersect_input shape rule held inputs chromosomes cuts well apart = grind (arith, (intersect_whole shape rule held inputs chromosomes well), (cut_input shape rule chromosomes inputs cuts apart))

pub subtract_input : subtract_is_input
subtract_input rule held inputs chromosomes well apart =
    let firsts = first_records chromosomes inputs in
    let seconds = second_records chromosomes inputs in
    let left = records_written Pieces rule firsts seconds in
    let back = pieces_back (order_in_use chromosomes) (order_total chromosomes) rule firsts seconds (said Pieces rule chromosomes inputs) (said_second Pieces rule chromosomes inputs)
    (first_placed Pieces rule chromosomes inputs) (second_placed Pieces rule chromosomes inputs) (pairs_each AreDisjoint (intervals_of firsts) apart) in (
      subst (λ text. IsInput (order_in_use chromosomes) text left) (sym (subtract_whole false rule held inputs chromosomes well)) (cut_input Pieces rule chromosomes inputs refl apart),
      pairs_all AreDisjoint (intervals_of left) (subst (λ rs. EachPair AreDisjoint (intervals_of rs)) (all_read Pieces rule firsts seconds) back),
    )

-- ---- outputs whose records don't overlap

-- the records that are read of intervals, some of them as headers
of_three : (rs : List Interval) → EachPair AreDisjoint rs → EachPair (λ (r s : Feature). AreDisjoint (interval_of r) (interval_of s)) (map three_columns rs)
of_three rs h = grind (arith, pairs_map)

of_four : (rs : List DepthInterval) → EachPair AreDisjoint (map interval_at rs) → EachPair (λ (r s : Feature). AreDisjoint (interval_of r) (interval_of s)) (map four_columns rs)
of_four rs h = grind (arith, pairs_map, (pairs_from_map AreDisjoint interval_at rs h))

-- the places of records that are read of these
places_apart : (rs : List Feature) → EachPair (λ (r s : Feature). AreDisjoint (interval_of r) (interval_of s)) rs → AllPairs AreDisjoint (intervals_of rs)
places_apart rs h = pairs_all AreDisjoint (intervals_of rs) (pairs_map AreDisjoint interval_of rs h)

pub merge_disjoint : merge_writes_disjoint
merge_disjoint d strand other inputs chromosomes well = grind (arith, (merge_input d strand inputs chromosomes well), places_apart, of_three, pairs_each)

pub complement_disjoint : complement_writes_disjoint
complement_disjoint limit inputs chromosomes well = grind (arith, (complement_input limit inputs chromosomes well), places_apart, pairs_filter, of_three, pairs_each)

pub genomecov_disjoint : genomecov_writes_disjoint
genomecov_disjoint zeros strand inputs chromosomes well = grind (arith, (genomecov_input zeros strand inputs chromosomes well), places_apart, pairs_filter, of_four, pairs_each)

-- Spans that cover the same positions: the runs and the gaps are the same.

pub record SameCover (xs ys : List Span) : Type 0 where
  pub to : (p : ℕ) → IsCovered xs p → IsCovered ys p
  pub back : (p : ℕ) → IsCovered ys p → IsCovered xs p

pub same_sym : (xs ys : List Span) → SameCover xs ys → SameCover ys xs
same_sym xs ys h = record { to = h.back; back = h.to }

pub same_gaps : (size : ℕ) (xs ys : List Span) → SameCover xs ys → gaps_of size xs ≡ gaps_of size ys
same_gaps size xs ys same = grind (arith, (are_gaps size xs), only_gaps)

pub same_levels : (u v : ℕ → Option ℕ) (size : ℕ) → ((p : ℕ) → u p ≡ v p) → levels_of u size ≡ levels_of v size
same_levels u v size same = grind arith

-- ---- what bridges the runs

-- a position between two runs that are near is bridged by what they cover
again_by : (gap : ℕ) (spans : List Span) (p : ℕ) (b : Bridged gap (runs_of gap spans) p) (l : Bridged gap spans b.left) (r : Bridged gap spans b.right) → Bridged gap spans p
again_by gap spans p b l r = grind (arith, (cases_lt l.right p), (cases_lt p r.left))

pub runs_again : (gap : ℕ) (spans : List Span) → runs_of gap (runs_of gap spans) ≡ runs_of gap spans
runs_again gap spans = grind (arith, (are_runs gap spans), only_runs, again_by)

-- without a gap the runs cover what the spans cover
pub runs_cover : (spans : List Span) → SameCover (runs_of 0 spans) spans
runs_cover spans = record {
  to = λ p c. bridged_covered spans p ((are_runs 0 spans).within p c);
  back = λ p c. (are_runs 0 spans).whole p (bridged_here 0 spans p c);
}

-- ---- depths

pub depth_both : (xs ys : List Span) (p : ℕ) → depth_at (xs ++ ys) p ≡ depth_at xs p + depth_at ys p
depth_both xs ys p = grind (arith, filter-append, length-append)

pub covered_some : (xs : List Span) (p : ℕ) → IsCovered xs p → 0 < depth_at xs p
covered_some xs p c = ltb-true 0 (depth_at xs p) (sym (covered_depth xs p) ∙ (is_covered-Decides xs p).1 c)

pub some_covered : (xs : List Span) (p : ℕ) → 0 < depth_at xs p → IsCovered xs p
some_covered xs p some = (is_covered-Decides xs p).0 (covered_depth xs p ∙ lt-ltb 0 (depth_at xs p) some)

pub same_by_depth : (xs ys : List Span) → ((p : ℕ) → 0 < depth_at xs p → 0 < depth_at ys p) → ((p : ℕ) → 0 < depth_at ys p → 0 < depth_at xs p) → SameCover xs ys
same_by_depth xs ys to back = grind (arith, some_covered, covered_some)
