-- Which runs of intersect and subtract write the same lines.
use Rattle.bt_lines.proofs.Std.{◌≡◌, ℕ, Bool, false, cond, List, [], ◌∷◌, ◌++◌, map, filter, length, Option, Result, Ok, Err, refl, sym, ap, ◌∙◌, subst, arith, decimal, ◌<◌, ◌≤◌, max, Some, None, inl, inr, cases_Bool, flat_map, nat_lt, replicate, ◌==◌, bytes_eq, AllByRecursion, map-id, list_any, or_parts, list_any-append}
use Rattle.bt_lines.specs.model.Fault.{FaultValue}
use Rattle.bt_lines.specs.model.Lines.{Handed, cut_fault, lines_handed, whole_text, TextLine}
use Rattle.bt_lines.specs.declared.fault.Input.TheVariants.{First, Second}
use Rattle.bt_bed.specs.model.Feature.{Feature, interval_of, intervals_of, Interval, spans_on, record_covers}
use Rattle.bt_bed.specs.model.Positions.{IsCovered}
use Rattle.bt_bed.specs.model.BedLine.{bed_text, interval_lines, record_of}
use Rattle.bt_bed.specs.model.Genome.{Entry}
use Rattle.bt_bed.specs.model.Good.{Good, items_in, good, good_after, or_else, bed_good, bed_format, line_says, said_after, good_handed}
use Rattle.bt_bed.specs.model.Meeting.{join_report}
use Rattle.bt_bed.specs.model.Order.{Order, is_among}
use Rattle.bt_sweep.specs.model.Hits.{hits_among, is_hit, strands_agree}
use Rattle.bt_sweep.specs.calls.Sweeping.{any_overlap}
use Rattle.bt_sweep.specs.model.Lines.{hit_line, intersect, line_with, lines_for, lines_of, sweep_rule, pieces}
use Rattle.bt_sweep.specs.calls.LineLaws.{spans_of}
use Rattle.bt_sweep.specs.declared.hits.hit_rule.HitRule.{HitRule}
use Rattle.bt_sweep.specs.declared.output.shape.Shape.{Shape}
use Rattle.bt_sweep.specs.declared.output.shape.Shape.TheVariants.{Count, Missing, Once, OrigA, Pieces}
use Rattle.bt_tool.specs.model.Report.{Inputs, chromosomes_of, report_of}
use Rattle.bt_tool.specs.model.Behaviour.{order_in_use, behaviour_of, or_empty}
use Rattle.bt_tool.specs.model.TwoInputs.{met_within}
use Rattle.bt_tool.specs.declared.planning.plan_type.Command.TheVariants.{Intersect, Merge}
use Rattle.bt_laws.specs.WholeRuns.{RunsWithoutFault, first_records, second_records, RunWrites, of_second, with_second_input}
use Rattle.bt_laws.specs.Same.{Counted, counts_say_all, missing_is_whole, own_line, with_hits, merged_second_missing, merged_second_once, merged_second_subtract, one_base}
use Rattle.bt_runs.proofs.lemmas.Lists.{Some_of, all_any, flat_map_same, map_map, all_so, filter_passes}
use Rattle.bt_laws.proofs.lemmas.parts.PartSweep.{all_true}
use Rattle.bt_laws.proofs.lemmas.pipes.PipeLaws.{intersect_whole, limit_whole, well_there, SameCover, runs_cover, same_sym, report_there}
use Rattle.bt_lines.specs.declared.fault.Input.{Input}
use Rattle.bt_lines.specs.declared.fault.Kind.{Kind}
use Rattle.bt_bed.specs.model.Sorted.{Locus, Sorting, sorting_of, has_records}
use Rattle.bt_bed.specs.calls.Orders.{AreContiguous, IsFollowed}
use Rattle.bt_bed.proofs.lemmas.Definitions.{placed_good}
use Rattle.bt_bed.proofs.lemmas.parse.NameLemmas.{name_eq, name_ne-sym}
use Rattle.bt_runs.specs.model.Merged.{ordered_runs, chromosomes, is_covered}
use Rattle.bt_runs.specs.declared.merge.merge_strand.MergeStrand.TheVariants.{All}
use Rattle.bt_runs.proofs.lemmas.order.FileOrder.{among_chromosomes, same_chromosome, without_absent}
use Rattle.bt_sweep.proofs.lemmas.definitions.PieceLemmas.{are_pieces, only_pieces}
use Rattle.bt_sweep.proofs.lemmas.definitions.HitLemmas.{enough_of_nothing}
use Rattle.bt_laws.proofs.lemmas.single.Sweeps.{of_nothing}
use Rattle.bt_tool.specs.declared.planning.plan_type.Command.{Command}
use Rattle.bt_laws.specs.Pipes.{IsInput, three_columns}
use Rattle.bt_laws.proofs.lemmas.same.SameRuns.{CoversOn, all_counted, back, some_covers, run_spans, covered_by_some}
use Rattle.bt_laws.proofs.lemmas.pipes.RunsBack.{merge_back}
use Rattle.bt_laws.proofs.lemmas.pipes.LinesBack.{IsSaid, good_are_said}
use Rattle.bt_laws.proofs.lemmas.pipes.SweepBack.{Hit, all_hits, cut_bounds, same_name}
use Rattle.bt_laws.proofs.lemmas.parts.PartTexts.{order_total}
use Rattle.bt_runs.proofs.lemmas.merge.Bridging.{is_covered-Decides}
use Rattle.bt_seq.specs.model.SequenceBlocks.{Block, Owned, blocks_by, items_if_last, left_by, own_records, owned_from}
use Rattle.bt_seq.specs.calls.MaskState.{left_at_last}
use Rattle.bt_seq.proofs.lemmas.definitions.KnowsLemmas.{leave, leave_all}
use Rattle.bt_laws.proofs.lemmas.pipes.Placing.{others}

-- ---- two shapes that write the same lines of each record

pub missing_whole : missing_is_whole
unfolding report_of lines_for
missing_whole rule held inputs = grind arith

-- ---- the fault doesn't depend on the shape

pub other_shape : (one other : Shape) (rule : HitRule) (held : Option ℕ) (inputs : Inputs) (chromosomes : Option (List Entry)) → RunsWithoutFault (Intersect one rule held) inputs chromosomes → RunsWithoutFault (Intersect other rule held) inputs chromosomes
unfolding report_of
other_shape one other rule held inputs chromosomes well = grind arith

pub writes_lines : (shape : Shape) (rule : HitRule) (held : Option ℕ) (inputs : Inputs) (chromosomes : Option (List Entry)) → RunsWithoutFault (Intersect shape rule held) inputs chromosomes
    → RunWrites (Intersect shape rule held) inputs (intersect shape rule (first_records chromosomes inputs) (second_records chromosomes inputs))
writes_lines shape rule held inputs chromosomes well = grind (arith, (intersect_whole shape rule held inputs chromosomes well))

-- ---- numbers of hits

module _ (rule : HitRule) (second : List Feature) where
  count_lines : (as_read : List Feature) → intersect Count rule as_read second ≡ flat_map (λ (c : Counted). line_with (bed_text c.at ∷ decimal c.hits ∷ [])) (map (with_hits rule second) as_read)
  unfolding lines_for
  count_lines [] = refl
  count_lines (a ∷ more) = grind (arith, (count_lines more))

  once_lines : (as_read : List Feature) → intersect Once rule as_read second ≡ flat_map (λ (c : Counted). own_line c.at) (filter (λ (c : Counted). nat_lt 0 c.hits) (map (with_hits rule second) as_read))
  unfolding lines_for
  once_lines [] = refl
  once_lines (a ∷ more) = grind (arith, (once_lines more))

  missing_of : (as_read : List Feature) → intersect Missing rule as_read second ≡ flat_map (λ (c : Counted). own_line c.at) (filter (λ (c : Counted). c.hits == 0) (map (with_hits rule second) as_read))
  unfolding lines_for
  missing_of [] = refl
  missing_of (a ∷ more) = grind (arith, (missing_of more))

  often : (a : Feature) (found : List Feature) → flat_map (hit_line OrigA a) found ≡ flat_map own_line (replicate (length found) a)
  often a [] = refl
  often a (b ∷ found) = ap (λ l. own_line a ++ l) (often a found)

  original_lines : (as_read : List Feature) → intersect OrigA rule as_read second ≡ flat_map (λ (c : Counted). flat_map own_line (replicate c.hits c.at)) (map (with_hits rule second) as_read)
  unfolding lines_for
  original_lines [] = refl
  original_lines (a ∷ more) = grind (arith, often, (original_lines more))

pub counts_all : counts_say_all
counts_all rule held inputs chromosomes well =
    let firsts = first_records chromosomes inputs in
    let seconds = second_records chromosomes inputs in
    let writes : (shape : Shape) → RunWrites (Intersect shape rule held) inputs (intersect shape rule firsts seconds) = λ shape. writes_lines shape rule held inputs chromosomes (other_shape Count shape rule held inputs chromosomes well) in (
      map (with_hits rule seconds) firsts,
      map_map (with_hits rule seconds) (λ c. c.at) (λ a. a) firsts (all_any _ firsts (λ a. refl)) ∙ map-id firsts,
      refl,
      record {
        count = subst (RunWrites (Intersect Count rule held) inputs) (count_lines rule seconds firsts) (writes Count);
        once = subst (RunWrites (Intersect Once rule held) inputs) (once_lines rule seconds firsts) (writes Once);
        missing = subst (RunWrites (Intersect Missing rule held) inputs) (missing_of rule seconds firsts) (writes Missing);
        original = subst (RunWrites (Intersect OrigA rule held) inputs) (original_lines rule seconds firsts) (writes OrigA);
      },
    )

-- ---- a common base is a hit

one_base_lines : (both : Bool) (shape : Shape) (first bs : List Feature) → intersect shape (one_base both) first bs ≡ intersect shape any_overlap first bs
unfolding lines_for
one_base_lines both shape first bs = grind (arith, of_nothing)

hit_some : (a : Feature) (bs : List Feature) (p : ℕ) → IsCovered (spans_of (hits_among any_overlap a bs)) p → Some_of (CoversOn a.chrom p) bs
hit_some a [] p c = absurd c
hit_some a (b ∷ bs) p c = grind (arith, (hit_some a bs p), (cases_Bool (is_hit any_overlap a b)), (same_name any_overlap a b))

some_hit : (a : Feature) (bs : List Feature) (p : ℕ) → a.start ≤ p → p < a.stop → Some_of (CoversOn a.chrom p) bs
    → IsCovered (spans_of (hits_among any_overlap a bs)) p
unfolding is_hit strands_agree
some_hit a [] p from to w = absurd w
some_hit a (b ∷ bs) p from to (inl w) = grind (arith, name_eq, enough_of_nothing)
some_hit a (b ∷ bs) p from to (inr w) = grind (arith, (some_hit a bs p from to w))

-- the positions of a that the second input has, and those that its hits have
pub hit_to : (a : Feature) (bs : List Feature) (p : ℕ) → IsCovered (spans_of (hits_among any_overlap a bs)) p → IsCovered (spans_on a.chrom (intervals_of bs)) p
hit_to a bs p c = covered_by_some a.chrom p bs (hit_some a bs p c)

pub hit_back : (a : Feature) (bs : List Feature) (p : ℕ) → a.start ≤ p → p < a.stop → IsCovered (spans_on a.chrom (intervals_of bs)) p → IsCovered (spans_of (hits_among any_overlap a bs)) p
hit_back a bs p from to c = some_hit a bs p from to (some_covers a.chrom p bs c)

-- a hit has a position of a
first_covered : (a : Feature) (found : List Feature) → 0 < length found → AllByRecursion (Hit any_overlap a) found → (p : ℕ) × (a.start ≤ p) × (p < a.stop) × IsCovered (spans_of found) p
first_covered a [] some hit = absurd (omega arith)
first_covered a (b ∷ found) some hit =
    let bounds = cut_bounds any_overlap a b hit.0.1 in
    (max a.start b.start, omega arith, omega (arith, bounds), inl (omega arith, omega (arith, bounds)))

covered_length : (found : List Feature) (p : ℕ) → IsCovered (spans_of found) p → 0 < length found
covered_length [] p c = absurd c
covered_length (b ∷ found) p c = omega arith

-- ---- what is written of a, by the positions that the second input has

module _ (a : Feature) (bs cs : List Feature) (full : AllByRecursion IsSaid bs) (same : SameCover (spans_on a.chrom (intervals_of bs)) (spans_on a.chrom (intervals_of cs))) where
  pub pieces_same : pieces a (hits_among any_overlap a bs) ≡ pieces a (hits_among any_overlap a cs)
  pieces_same = grind (arith, (are_pieces a (hits_among any_overlap a bs)), only_pieces, hit_back, hit_to)

once_same : (a : Feature) (found other : List Feature) → (0 < length found → 0 < length other) → (0 < length other → 0 < length found) → (lines_of Once a found ≡ lines_of Once a other) × (lines_of Missing a found ≡ lines_of Missing a other)
once_same a found other to back = grind arith

-- shapes that see nothing but the bases of the second input
pub record SeesBases (shape : Shape) : Type 0 where
  pub sees : (a : Feature) (bs cs : List Feature) → AllByRecursion IsSaid bs → AllByRecursion IsSaid cs → SameCover (spans_on a.chrom (intervals_of bs)) (spans_on a.chrom (intervals_of cs)) → lines_for shape any_overlap a bs ≡ lines_for shape any_overlap a cs

pieces_see : SeesBases Pieces
unfolding lines_for
pieces_see = grind (arith, pieces_same)

pub intersect_sees : (shape : Shape) → SeesBases shape → (first bs cs : List Feature) → AllByRecursion IsSaid bs → AllByRecursion IsSaid cs → ((name : List ℕ) → SameCover (spans_on name (intervals_of bs)) (spans_on name (intervals_of cs)))
    → intersect shape any_overlap first bs ≡ intersect shape any_overlap first cs
intersect_sees shape see first bs cs one two same = flat_map_same (λ a. lines_for shape any_overlap a bs) (λ a. lines_for shape any_overlap a cs) first (all_any _ first (λ a. see.sees a bs cs one two (same a.chrom)))

-- ---- a run by another second input

first_none : (order : Order) (shape : Shape) (rule : HitRule) (first : Good Feature) (second : List Feature) (fault : Option FaultValue) → fault ≡ None → (join_report (sweep_rule order shape rule second fault) (items_in first) first.fault).fault ≡ None → first.fault ≡ None
first_none order shape rule first second fault none e = grind (arith, all_true, all_any)

pub met_none : (order : Order) (shape : Shape) (rule : HitRule) (first second : Good Feature) → first.fault ≡ None → second.fault ≡ None → (met_within order shape rule None first second).fault ≡ None
met_none order shape rule first second one two = grind arith

-- a run without a fault has inputs without one
pub met_faultless : (order : Order) (shape : Shape) (rule : HitRule) (limit : Option ℕ) (first second : Good Feature) → (met_within order shape rule limit first second).fault ≡ None → (first.fault ≡ None) × (second.fault ≡ None)
met_faultless order shape rule limit first second e = grind (arith, first_none, limit_whole)

-- a text without a fault in one form has none in another, and the same records

-- the same records, and no fault
pub record IsLike (one other : Good Feature) : Type 0 where
  pub items : items_in other ≡ items_in one
  pub faultless : other.fault ≡ None

-- what is said without a fault is said too
abbrev pub SaidToo : Result (Option Feature) Kind → Result (Option Feature) Kind → Type 0
SaidToo (Err kind) too = Unit {0}
SaidToo (Ok said) too = too ≡ Ok said

said_itself : (said : Result (Option Feature) Kind) → SaidToo said said
said_itself (Err kind) = tt
said_itself (Ok said) = refl

pub cut_none : (fault cut : Option FaultValue) → or_else fault cut ≡ None → (fault ≡ None) × (cut ≡ None)
cut_none fault cut e = grind arith

module _ (one other : Sorting) (too : (last : Option Locus) (said : Result (Option Feature) Kind) → SaidToo (said_after one last said) (said_after other last said)) (from to : Input) where
  like_from : (last : Option Locus) (lines : List TextLine) → (good_after (bed_format one) from last lines).fault ≡ None → IsLike (good_after (bed_format one) from last lines) (good_after (bed_format other) to last lines)
  unfolding good_after line_says
  like_from last [] e = record { items = refl; faultless = refl }
  like_from last (line ∷ lines) e =
      grind (arith, (too last (record_of line.text)), (said_after one last (record_of line.text)), (λ (now : Option Locus). like_from now lines))

  pub read_again : (handed : Handed) → (good_handed (bed_format one) from handed).fault ≡ None → IsLike (good_handed (bed_format one) from handed) (good_handed (bed_format other) to handed)
  read_again handed e = grind (arith, (like_from None (lines_handed handed) (cut_none (good (bed_format one) from (lines_handed handed)).fault (cut_fault from handed) e).0))

pub other_input : (order : Order) (from to : Input) (handed : Handed) → (bed_good from order handed).fault ≡ None → IsLike (bed_good from order handed) (bed_good to order handed)
other_input order = read_again (sorting_of order) (sorting_of order) (λ last said. said_itself (said_after (sorting_of order) last said))

pub sweeps_from : (command : Command) (inputs : Inputs) (chromosomes : Option (List Entry)) (bytes : List ℕ) → chromosomes_of inputs.genome ≡ Ok chromosomes
    → ((behaviour_of command chromosomes).report inputs.first inputs.second).fault ≡ None → (RunsWithoutFault command inputs chromosomes → (report_of command inputs).output ≡ bytes) → RunWrites command inputs bytes
sweeps_from command inputs chromosomes bytes genome none output = grind (arith, report_there)

-- what another command writes, as the second input
pub intersect_on : (command : Command) (inputs : Inputs) (chromosomes : Option (List Entry)) (read : List Feature) (shape : Shape) (rule : HitRule) → chromosomes_of inputs.genome ≡ Ok chromosomes → IsInput (order_in_use chromosomes) (of_second command inputs) read
    → (bed_good First (order_in_use chromosomes) inputs.first).fault ≡ None → RunWrites (Intersect shape rule None) (with_second_input command inputs) (intersect shape rule (first_records chromosomes inputs) read)
intersect_on command inputs chromosomes read shape rule genome is none =
    sweeps_from (Intersect shape rule None) (with_second_input command inputs) chromosomes (intersect shape rule (first_records chromosomes inputs) read) genome
    (met_none (order_in_use chromosomes) shape rule (bed_good First (order_in_use chromosomes) inputs.first) (bed_good Second (order_in_use chromosomes) (whole_text (of_second command inputs))) none (is.faultless Second))
    (λ well. intersect_whole shape rule None (with_second_input command inputs) chromosomes well ∙ ap (intersect shape rule (first_records chromosomes inputs)) (is.records_are Second))

module _ (inputs : Inputs) (chromosomes : Option (List Entry)) (genome : chromosomes_of inputs.genome ≡ Ok chromosomes) (none : (bed_good Second (order_in_use chromosomes) (or_empty inputs.second)).fault ≡ None) where
  abbrev order : Order
  order = order_in_use chromosomes

  abbrev seconds : List Feature
  seconds = second_records chromosomes inputs

  abbrev runs : List Interval
  runs = ordered_runs order 0 All seconds

  abbrev alone : Inputs
  alone = record { genome = inputs.genome; first = or_empty inputs.second; second = None }

  second_is : of_second (Merge 0 All) inputs ≡ interval_lines runs
  second_is = grind (arith, other_input, (report_there (Merge 0 All) alone chromosomes genome))

  second_input : IsInput order (of_second (Merge 0 All) inputs) (map three_columns runs)
  second_input = grind (arith, second_is, merge_back, order_total, good_are_said, placed_good)

  merged_lines : (shape : Shape) → SeesBases shape → (first : List Feature) → intersect shape any_overlap first (map three_columns runs) ≡ intersect shape any_overlap first seconds
  merged_lines shape see first =
      sym (intersect_sees shape see first seconds (map three_columns runs) (good_are_said Second order (or_empty inputs.second)) (subst (AllByRecursion IsSaid) (second_input.records_are Second) (good_are_said Second order (whole_text (of_second (Merge 0 All) inputs))))
      (λ name. grind (arith, all_so, good_are_said, all_counted, back, run_spans, order_total, placed_good, same_sym, runs_cover)))

pub nones : (shape : Shape) (rule : HitRule) (held : Option ℕ) (inputs : Inputs) (chromosomes : Option (List Entry))
    → (met_within (order_in_use chromosomes) shape rule held (bed_good First (order_in_use chromosomes) inputs.first) (bed_good Second (order_in_use chromosomes) (or_empty inputs.second))).fault ≡ None
    → ((bed_good First (order_in_use chromosomes) inputs.first).fault ≡ None) × ((bed_good Second (order_in_use chromosomes) (or_empty inputs.second)).fault ≡ None)
nones shape rule held inputs chromosomes e = met_faultless (order_in_use chromosomes) shape rule held (bed_good First (order_in_use chromosomes) inputs.first) (bed_good Second (order_in_use chromosomes) (or_empty inputs.second)) e

by_intersect : (shape : Shape) (rule : HitRule) → ((first bs : List Feature) → intersect shape rule first bs ≡ intersect shape any_overlap first bs) → SeesBases shape → (held : Option ℕ) (inputs : Inputs) (chromosomes : Option (List Entry))
    → RunsWithoutFault (Intersect shape rule held) inputs chromosomes → RunWrites (Intersect shape rule None) (with_second_input (Merge 0 All) inputs) (report_of (Intersect shape rule held) inputs).output
by_intersect shape rule lines see held inputs chromosomes well =
    let firsts = first_records chromosomes inputs in
    let read = map three_columns (ordered_runs (order_in_use chromosomes) 0 All (second_records chromosomes inputs)) in
    let none = nones shape rule held inputs chromosomes (well_there (Intersect shape rule held) inputs chromosomes well) in
    subst (RunWrites (Intersect shape rule None) (with_second_input (Merge 0 All) inputs))
    (lines firsts read ∙ merged_lines inputs chromosomes well.genome none.1 shape see firsts ∙ sym (intersect_whole shape rule held inputs chromosomes well ∙ lines firsts (second_records chromosomes inputs)))
    (intersect_on (Merge 0 All) inputs chromosomes read shape rule well.genome (second_input inputs chromosomes well.genome none.1) none.0)

pub once_merged : merged_second_once
unfolding lines_for
once_merged both = grind (arith, by_intersect, one_base_lines, first_covered, all_hits, hit_back, hit_to, same_sym)

pub missing_merged : merged_second_missing
unfolding lines_for
missing_merged both = grind (arith, by_intersect, one_base_lines, first_covered, all_hits, hit_back, hit_to, same_sym)

pub subtracts_merged : merged_second_subtract
unfolding report_of
subtracts_merged held inputs chromosomes well = grind (arith, (by_intersect Pieces any_overlap (λ first bs. refl) pieces_see held inputs chromosomes))

-- The blocks of records that are contiguous: one for each chromosome.

-- ---- the records of a chromosome

abbrev pub on_name : List ℕ → List Feature → List Feature
on_name name rs = filter (λ r. bytes_eq r.chrom name) rs

abbrev pub block_of : List Feature → List ℕ → Block Feature
block_of rs name = record { chrom = name; items = on_name name rs }

abbrev pub blocks : List Feature → List (Block Feature)
blocks rs = blocks_by (λ r. r.chrom) rs

elsewhere : (r : Feature) (rs : List Feature) (names : List (List ℕ)) → AllByRecursion (λ n. bytes_eq r.chrom n ≡ false) names → map (block_of (r ∷ rs)) names ≡ map (block_of rs) names
elsewhere r rs [] h = refl
elsewhere r rs (n ∷ ns) h = grind (arith, cond, (elsewhere r rs ns h.1))

none_on : (name : List ℕ) (rs : List Feature) → has_records name (intervals_of rs) ≡ false → on_name name rs ≡ []
none_on name [] e = refl
none_on name (r ∷ rs) e = grind (arith, (none_on name rs (or_parts (bytes_eq r.chrom name) (has_records name (intervals_of rs)) e).1))

-- ---- one block for each chromosome

followed : (r s : Feature) (ss : List Feature) → IsFollowed (interval_of r) (intervals_of (s ∷ ss)) → blocks (s ∷ ss) ≡ map (block_of (s ∷ ss)) (chromosomes (intervals_of (s ∷ ss)))
    → blocks (r ∷ s ∷ ss) ≡ map (block_of (r ∷ s ∷ ss)) (chromosomes (intervals_of (r ∷ s ∷ ss)))
followed r s ss (inl same) e = grind (arith, (name_eq r.chrom s.chrom (sym same.0)), bytes_eq, all_so, name_ne-sym, filter_passes, elsewhere, (same_chromosome (interval_of r) (interval_of s) (intervals_of ss) (sym same.0)))
followed r s ss (inr off) e =
    let later = s ∷ ss in
    let names = chromosomes (intervals_of later) in
    let absent : is_among names r.chrom ≡ false = among_chromosomes r.chrom (intervals_of later) ∙ off in
    let alone : on_name r.chrom (r ∷ later) ≡ r ∷ [] = ap (λ (b : Bool). cond b (r ∷ on_name r.chrom later) (on_name r.chrom later)) (name_eq r.chrom r.chrom refl) ∙ ap (λ l. r ∷ l) (none_on r.chrom later off) in
    grind (arith, (elsewhere r later names (others r.chrom names absent)), (without_absent r.chrom names absent))

pub together_blocks : (rs : List Feature) → AreContiguous (intervals_of rs) → blocks rs ≡ map (block_of rs) (chromosomes (intervals_of rs))
together_blocks [] h = refl
together_blocks (r ∷ []) h = grind (arith, cond, (name_eq r.chrom r.chrom refl))
together_blocks (r ∷ s ∷ ss) h = followed r s ss h.0 (together_blocks (s ∷ ss) h.1)

-- ---- what they cover

covers_on : (p : ℕ) (name : List ℕ) (rs : List Feature) → list_any (record_covers p) (on_name name rs) ≡ is_covered (spans_on name (intervals_of rs)) p
covers_on p name [] = refl
covers_on p name (r ∷ rs) = grind (arith, (covers_on p name rs))

module _ (rs ss : List Feature) where
  abbrev own_of : List (Owned Feature) → List Feature
  own_of os = flat_map (λ (o : Owned Feature). items_if_last o.left o.block.items) os

  own_same : (p : ℕ) (same : (name : List ℕ) → SameCover (spans_on name (intervals_of rs)) (spans_on name (intervals_of ss))) (left : Option (List (List ℕ))) (names : List (List ℕ))
      → list_any (record_covers p) (own_of (owned_from left (map (block_of rs) names))) ≡ list_any (record_covers p) (own_of (owned_from left (map (block_of ss) names)))
  own_same p same left [] = refl
  own_same p same left (n ∷ ns) = grind (arith, (own_same p same (left_by left n) ns), list_any-append, covers_on, is_covered-Decides)

  left_same : (left : Option (List (List ℕ))) (names : List (List ℕ)) → left_at_last left (owned_from left (map (block_of rs) names)) ≡ left_at_last left (owned_from left (map (block_of ss) names))
  left_same left [] = refl
  left_same left (n ∷ ns) = left_same (left_by left n) ns

  module _ (one : AreContiguous (intervals_of rs)) (two : AreContiguous (intervals_of ss)) (chroms : chromosomes (intervals_of ss) ≡ chromosomes (intervals_of rs)) where
    -- they mask the same positions of each sequence
    pub own_alike : ((name : List ℕ) → SameCover (spans_on name (intervals_of rs)) (spans_on name (intervals_of ss))) → (names : List (List ℕ)) (p : ℕ) → list_any (record_covers p) (own_records names rs) ≡ list_any (record_covers p) (own_records names ss)
    own_alike same names p = grind (arith, (own_same p same (Some names) (chromosomes (intervals_of rs))), together_blocks)

    -- and leave the same names
    pub leave_alike : (names : List (List ℕ)) → leave (Some names) None ss ≡ leave (Some names) None rs
    leave_alike names = grind (arith, leave_all, left_same, together_blocks)
