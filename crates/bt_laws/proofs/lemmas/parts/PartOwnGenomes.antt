-- Parts with their own parts of the genome file: complement, genomecov, merge, intersect and subtract.
use Rattle.bt_lines.proofs.Std.{arith, ◌≡◌, ℕ, Bool, true, false, List, [], ◌∷◌, ◌++◌, filter, append-nil, Option, Some, None, refl, sym, ap, ap₂, ◌∙◌, cond, map, Ok, subst, bytes_eq, flat_map, nat_le, nat_lt, AllByRecursion, or_right, flat_map-append, map-append, filter-append, or_parts, ◌&&◌, list_all}
use Rattle.bt_bed.specs.model.Feature.{Feature, interval_of, intervals_of, Interval, last_from, last_of}
use Rattle.bt_bed.specs.model.BedLine.{interval_line}
use Rattle.bt_bed.specs.model.Genome.{Entry, genome_names}
use Rattle.bt_bed.specs.model.Order.{is_among, rank_order, Order}
use Rattle.bt_bed.specs.calls.Orders.{AreDistinct, IsTotal, ArePlaced}
use Rattle.bt_bed.specs.inside.RankTotal.{ranks_total}
use Rattle.bt_bed.specs.model.Sorted.{has_records, sorting_of, comes_first}
use Rattle.bt_bed.proofs.lemmas.parse.NameLemmas.{name_eq, name_ne, name_ne-sym}
use Rattle.bt_bed.proofs.lemmas.order.OrderLemmas.{among_ranked}
use Rattle.bt_runs.specs.model.Gaps.{complement, gaps_on, is_asked, settled_gaps}
use Rattle.bt_runs.specs.calls.Complementing.{AreInGenomeOrder}
use Rattle.bt_bed.specs.model.Meeting.{Report}
use Rattle.bt_tool.specs.model.Written.{Written, complement_written, coverage_written, merge_written, pooled_written, good_report, members_report}
use Rattle.bt_laws.proofs.lemmas.parts.PartGenomes.{agree_first, agree_second, apart_both, entry_less, names_both, among_append, no_first, agree_good, records_both, within_before, last_behind, last_is, none_has, has_append, records_away, Agree, Within}
use Rattle.bt_runs.proofs.lemmas.Lists.{all_flat_map, all_so, filter_all, filter_none, filter_same, flat_map_same, all_any, all_both, all_map, map_same, all_unmap, all_zip, all_back, all_front, any_same}
use Rattle.bt_laws.proofs.lemmas.parts.PartReports.{Splits, nothing, parts_both, Joins, good_joins}
use Rattle.bt_laws.proofs.lemmas.parts.PartLines.{Earlier, bed_joint, good_earlier, good_known, items_all, IsJoint}
use Rattle.bt_laws.proofs.lemmas.parts.PartSequences.{sound_from}
use Rattle.bt_lines.specs.model.Lines.{Handed, lines_from, text_lines}
use Rattle.bt_lines.specs.declared.fault.Input.{Input}
use Rattle.bt_lines.specs.declared.fault.Input.TheVariants.{First, Second}
use Rattle.bt_bed.specs.model.Good.{Good, good, good_after, items_in, bed_format}
use Rattle.bt_bed.specs.declared.record.strand.Strand.{Strand}
use Rattle.bt_bed.proofs.lemmas.Definitions.{non_empty_from, placed_lines}
use Rattle.bt_laws.proofs.lemmas.single.Records.{distinct_genome}
use Rattle.bt_runs.specs.model.Depth.{DepthInterval, coverage, depth_line, depths_on, is_counted_by, settled_depths}
use Rattle.bt_runs.specs.model.Merged.{ordered_runs}
use Rattle.bt_runs.specs.declared.merge.merge_strand.MergeStrand.{MergeStrand}
use Rattle.bt_runs.specs.declared.merge.merge_strand.MergeStrand.TheVariants.{All, Each, One}
use Rattle.bt_runs.proofs.lemmas.order.FileOrder.{ordered_come, spans_on-append, spans_on-none}
use Rattle.bt_runs.proofs.lemmas.coverage.DepthSteps.{settles_depths}
use Rattle.bt_runs.proofs.lemmas.complement.GapRuleLemmas.{settles_gaps}
use Rattle.bt_runs.proofs.lemmas.definitions.Standing.{begins}
use Rattle.bt_laws.specs.Parts.{AreShards, LiesWithin, Shard, ShardsAddUp, all_entries, complement_divides, genomecov_divides, merge_genomes_divide, shard_texts, AreOfLines, StandsBefore, joined, said_records, on_text, AddUp, StopWithin, ShardsSuffice, PairShard, intersect_genomes_divide, pair_entries, pair_texts, subtract_genomes_divide, PairShardsAddUp, PairShardsSuffice, complement_shards_suffice, genomecov_shards_suffice, intersect_shards_suffice, merge_shards_suffice, subtract_shards_suffice, ArePairs, Texts, joined_texts, on_texts, records_of, on_pairs}
use Rattle.bt_tool.specs.model.Report.{chromosomes_of, report_of, report_on}
use Rattle.bt_tool.specs.declared.planning.plan_type.Command.{Command}
use Rattle.bt_tool.specs.declared.planning.plan_type.Command.TheVariants.{Complement, Coverage, Merge, Intersect, Subtract}
use Rattle.bt_tool.proofs.lemmas.running.members.CursorLemmas.{good_whole}
use Rattle.bt_laws.proofs.lemmas.parts.PartMerge.{fewer, pooled_split, strands_split}
use Rattle.bt_laws.proofs.lemmas.parts.PartTexts.{merge_empty, intersect_is, pair_report, subtract_is, pair_joins, pair_empty, join_one}
use Rattle.bt_lines.specs.model.Fault.{FaultValue}
use Rattle.bt_sweep.specs.model.Hits.{decided}
use Rattle.bt_sweep.specs.model.Lines.{subtract_shape}
use Rattle.bt_sweep.specs.declared.hits.hit_rule.HitRule.{HitRule}
use Rattle.bt_sweep.specs.declared.output.shape.Shape.{Shape}
use Rattle.bt_laws.proofs.lemmas.parts.PartSweep.{sweep_report, take_same, report_none}

-- each entry's name is among those of its list
own_names : (es : List Entry) (all : List (List ℕ)) → ((n : List ℕ) → is_among (genome_names es) n ≡ true → is_among all n ≡ true) → AllByRecursion (λ e. is_among all e.name ≡ true) es
own_names [] all f = tt
own_names (e ∷ es) all f = grind (arith, (own_names es all (λ n h. f n (or_right (bytes_eq e.name n) (is_among (genome_names es) n) h))), name_eq)

module _ {T : Type 0} (chrom : T → List ℕ) (ends : Interval → T → Bool) (line : T → List ℕ) (F : List Feature → Entry → List T) where
  -- what is written of a genome file's chromosomes
  abbrev pub whole_of : List Entry → List Feature → List T
  whole_of entries records = flat_map (F records) entries

  abbrev pub is_ended : List (List ℕ) → Interval → T → Bool
  is_ended names last t = comes_first ((rank_order names).compare (chrom t) last.chrom) (ends last t)

  abbrev pub ended : List (List ℕ) → List T → Option Interval → List T
  ended names items None = []
  ended names items (Some last) = filter (is_ended names last) items

  abbrev pub settled_of : List Entry → List Feature → List T
  settled_of entries records = ended (genome_names entries) (whole_of entries records) (last_of (intervals_of records))

  abbrev pub written_of : List Entry → Written Feature
  written_of entries = record { whole = λ records. flat_map line (whole_of entries records); settled = λ records. flat_map line (settled_of entries records) }

  module _ (named : (records : List Feature) (e : Entry) → AllByRecursion (λ t. chrom t ≡ e.name) (F records e))
      (first_same : (ones twos : List Feature) (e : Entry) → has_records e.name (intervals_of twos) ≡ false → F (ones ++ twos) e ≡ F ones e)
      (second_same : (ones twos : List Feature) (e : Entry) → has_records e.name (intervals_of ones) ≡ false → F (ones ++ twos) e ≡ F twos e)
      (e_one e_two : List Entry) (distinct : AreDistinct (genome_names (e_one ++ e_two))) where
    abbrev One-names : List (List ℕ)
    One-names = genome_names e_one

    abbrev Two-names : List (List ℕ)
    Two-names = genome_names e_two

    abbrev Both : List (List ℕ)
    Both = genome_names (e_one ++ e_two)

    apart : (a b : List ℕ) → is_among One-names a ≡ true → is_among Two-names b ≡ true → bytes_eq b a ≡ false
    apart a b one two = grind (arith, name_ne, (no_first One-names Two-names (apart_both e_one e_two distinct) b two))

    -- items lie on chromosomes of their entries
    items_named : (names : List (List ℕ)) (es : List Entry) (records : List Feature) → AllByRecursion (λ e. is_among names e.name ≡ true) es → AllByRecursion (λ t. is_among names (chrom t) ≡ true) (whole_of es records)
    items_named names es records h = grind (arith, all_flat_map, all_so)

    own_one : AllByRecursion (λ e. is_among One-names e.name ≡ true) e_one
    own_one = own_names e_one One-names (λ n h. h)

    own_two : AllByRecursion (λ e. is_among Two-names e.name ≡ true) e_two
    own_two = own_names e_two Two-names (λ n h. h)

    -- each record lies on a chromosome of its part
    module _ (ones twos : List Feature) (in_one : AllByRecursion (λ r. is_among One-names r.chrom ≡ true) (intervals_of ones)) (in_two : AllByRecursion (λ r. is_among Two-names r.chrom ≡ true) (intervals_of twos)) where
      whole_both : whole_of (e_one ++ e_two) (ones ++ twos) ≡ whole_of e_one ones ++ whole_of e_two twos
      whole_both =
          flat_map-append (F (ones ++ twos)) e_one e_two
          ∙ ap₂ (λ a b. a ++ b)
          (flat_map_same (F (ones ++ twos)) (F ones) e_one (all_so _ _ e_one (λ e is. first_same ones twos e (none_has e.name (intervals_of twos) (all_so _ _ (intervals_of twos) (λ s at. apart e.name s.chrom is at) in_two))) own_one))
          (flat_map_same (F (ones ++ twos)) (F twos) e_two (all_so _ _ e_two (λ e is. second_same ones twos e (none_has e.name (intervals_of ones) (all_so _ _ (intervals_of ones) (λ r at. name_ne-sym e.name r.chrom (apart r.chrom e.name at is)) in_one))) own_two))

    -- what the first part's records settle, by either genome file
    settled_first : (ones : List Feature) → AllByRecursion (λ r. is_among One-names r.chrom ≡ true) (intervals_of ones) → settled_of (e_one ++ e_two) ones ≡ settled_of e_one ones
    settled_first [] in_one = refl
    settled_first (q ∷ qs) in_one =
        let last = last_from (interval_of q) (intervals_of qs) in
        let at : is_among One-names last.chrom ≡ true = last_is (λ r. is_among One-names r.chrom ≡ true) (interval_of q) (intervals_of qs) in_one in
        ap (filter (is_ended Both last)) (flat_map-append (F (q ∷ qs)) e_one e_two)
        ∙ filter-append (is_ended Both last) (whole_of e_one (q ∷ qs)) (whole_of e_two (q ∷ qs))
        ∙ ap₂ (λ a b. a ++ b)
        (filter_same (is_ended Both last) (is_ended One-names last) (whole_of e_one (q ∷ qs)) (all_so _ _ (whole_of e_one (q ∷ qs)) (λ t is. ap (λ o. comes_first o (ends last t)) ((agree_first e_one e_two).compare (chrom t) last.chrom (λ w. is) (λ w. at))) (items_named One-names e_one (q ∷ qs) own_one)))
        (filter_none (is_ended Both last) (whole_of e_two (q ∷ qs)) (all_so _ _ (whole_of e_two (q ∷ qs))
        (λ t is. ap (λ o. comes_first o (ends last t)) (entry_less e_one e_two distinct last.chrom (chrom t) at is).1) (items_named Two-names e_two (q ∷ qs) own_two)))
        ∙ append-nil (filter (is_ended One-names last) (whole_of e_one (q ∷ qs)))

    settled_both : (ones : List Feature) (s : Feature) (twos : List Feature) → AllByRecursion (λ r. is_among One-names r.chrom ≡ true) (intervals_of ones) → AllByRecursion (λ r. is_among Two-names r.chrom ≡ true) (intervals_of (s ∷ twos))
        → settled_of (e_one ++ e_two) (ones ++ s ∷ twos) ≡ whole_of e_one ones ++ settled_of e_two (s ∷ twos)
    settled_both ones s twos in_one in_two =
        let last = last_from (interval_of s) (intervals_of twos) in
        let at : is_among Two-names last.chrom ≡ true = last_is (λ r. is_among Two-names r.chrom ≡ true) (interval_of s) (intervals_of twos) in_two in
        ap (ended Both (whole_of (e_one ++ e_two) (ones ++ s ∷ twos))) (ap last_of (map-append interval_of ones (s ∷ twos)) ∙ last_behind (intervals_of ones) (interval_of s) (intervals_of twos))
        ∙ ap (filter (is_ended Both last)) (whole_both ones (s ∷ twos) in_one in_two)
        ∙ filter-append (is_ended Both last) (whole_of e_one ones) (whole_of e_two (s ∷ twos))
        ∙ ap₂ (λ a b. a ++ b)
        (filter_all (is_ended Both last) (whole_of e_one ones) (all_so _ _ (whole_of e_one ones)
        (λ t is. ap (λ o. comes_first o (ends last t)) (entry_less e_one e_two distinct (chrom t) last.chrom is at).0) (items_named One-names e_one ones own_one)))
        (filter_same (is_ended Both last) (is_ended Two-names last) (whole_of e_two (s ∷ twos)) (all_so _ _ (whole_of e_two (s ∷ twos)) (λ t is. ap (λ o. comes_first o (ends last t)) ((agree_second e_one e_two distinct).compare (chrom t) last.chrom (λ w. is) (λ w. at))) (items_named Two-names e_two (s ∷ twos) own_two)))

    begin_by : (ones twos : List Feature) → AllByRecursion (λ r. is_among One-names r.chrom ≡ true) (intervals_of ones) → AllByRecursion (λ r. is_among Two-names r.chrom ≡ true) (intervals_of twos)
        → ((rest : List T) × (whole_of e_one ones ≡ settled_of e_one ones ++ rest))
        → (rest : List ℕ) × (flat_map line (whole_of e_one ones) ++ flat_map line (settled_of e_two twos) ≡ flat_map line (settled_of (e_one ++ e_two) (ones ++ twos)) ++ rest)
    begin_by ones [] in_one in_two begins = grind (arith, (append-nil (flat_map line (whole_of e_one ones))), (flat_map-append line (settled_of e_one ones) begins.0), (settled_first ones in_one), (append-nil ones))
    begin_by ones (s ∷ twos) in_one in_two begins = grind (arith, append-nil, settled_both, flat_map-append)

    pub chromosomes_split : {ones twos : List Feature} → AllByRecursion (λ r. is_among One-names r.chrom ≡ true) (intervals_of ones) → AllByRecursion (λ r. is_among Two-names r.chrom ≡ true) (intervals_of twos)
        → ((rest : List T) × (whole_of e_one ones ≡ settled_of e_one ones ++ rest))
        → Splits (written_of e_one) (written_of e_two) (written_of (e_one ++ e_two)) ones twos
    chromosomes_split {ones} {twos} in_one in_two begins = grind (arith, (whole_both ones twos in_one in_two), (flat_map-append line (whole_of e_one ones) (whole_of e_two twos)), (settled_first ones in_one), (begin_by ones twos in_one in_two begins))

-- ---- gaps

flat_filter : {A B : Type 0} (g : A → List B) (t : A → Bool) (xs : List A) → flat_map g (filter t xs) ≡ flat_map (λ x. cond (t x) (g x) []) xs
flat_filter g t [] = refl
flat_filter g t (x ∷ xs) = grind (arith, (flat_filter g t xs))

-- records of parts, each known to its own genome file
pub record OwnParts (e_one e_two : List Entry) (ones twos : List Feature) : Type 0 where
  pub distinct : AreDistinct (genome_names (e_one ++ e_two))
  pub in_one : AllByRecursion (λ r. is_among (genome_names e_one) r.chrom ≡ true) (intervals_of ones)
  pub in_two : AllByRecursion (λ r. is_among (genome_names e_two) r.chrom ≡ true) (intervals_of twos)
  pub taken : AreInGenomeOrder e_one ones
  pub placed : ArePlaced (rank_order (genome_names e_two)) (intervals_of twos)
  pub first_placed : ArePlaced (rank_order (genome_names (e_one ++ e_two))) (intervals_of ones)
  pub second_placed : ArePlaced (rank_order (genome_names (e_one ++ e_two))) (intervals_of twos)
  pub early : Earlier (rank_order (genome_names (e_one ++ e_two))) (ranks_total (genome_names (e_one ++ e_two))) ones twos

module _ (limit : Bool) where
  gaps_here : List Feature → Entry → List Interval
  gaps_here records e = cond (is_asked limit (intervals_of records) e) (gaps_on (intervals_of records) e) []

  abbrev gap_ends : Interval → Interval → Bool
  gap_ends last gap = nat_le gap.stop last.start

  abbrev gap_chrom : Interval → List ℕ
  gap_chrom gap = gap.chrom

  gaps_settled : (entries : List Entry) (records : List Feature) → settled_gaps limit entries records ≡ settled_of gap_chrom gap_ends interval_line gaps_here entries records
  unfolding settled_gaps complement gaps_here
  gaps_settled entries records = grind (arith, flat_filter)

  gaps_named : (records : List Feature) (e : Entry) → AllByRecursion (λ gap. gap.chrom ≡ e.name) (gaps_here records e)
  unfolding gaps_here
  gaps_named records e = grind (arith, all_map, all_any)

  gaps_first : (ones twos : List Feature) (e : Entry) → has_records e.name (intervals_of twos) ≡ false → gaps_here (ones ++ twos) e ≡ gaps_here ones e
  unfolding gaps_here
  gaps_first ones twos e none = grind (arith, map-append, has_append, spans_on-append, spans_on-none, append-nil)

  gaps_second : (ones twos : List Feature) (e : Entry) → has_records e.name (intervals_of ones) ≡ false → gaps_here (ones ++ twos) e ≡ gaps_here twos e
  unfolding gaps_here
  gaps_second ones twos e none = grind (arith, map-append, has_append, spans_on-append, spans_on-none)

  gaps_begin : (entries : List Entry) (ones : List Feature) → AreInGenomeOrder entries ones → (rest : List Interval) × (whole_of gap_chrom gap_ends interval_line gaps_here entries ones ≡ settled_of gap_chrom gap_ends interval_line gaps_here entries ones ++ rest)
  unfolding complement gaps_here
  gaps_begin entries ones taken = grind (arith, (settles_gaps limit entries), flat_filter, (gaps_settled entries ones))

  pub gaps_split : (e_one e_two : List Entry) (ones twos : List Feature) → OwnParts e_one e_two ones twos → Splits (complement_written e_one limit) (complement_written e_two limit) (complement_written (e_one ++ e_two) limit) ones twos
  unfolding complement gaps_here
  gaps_split e_one e_two ones twos own = grind (arith, flat_filter, gaps_settled, (chromosomes_split gap_chrom gap_ends interval_line gaps_here gaps_named gaps_first gaps_second e_one e_two own.distinct own.in_one own.in_two (gaps_begin e_one ones own.taken)))

-- ---- depths

module _ (zeros : Bool) (strand : Option Strand) where
  abbrev depth_chrom : DepthInterval → List ℕ
  depth_chrom item = item.chrom

  abbrev depth_ends : Interval → DepthInterval → Bool
  depth_ends last item = nat_lt item.stop last.start

  abbrev depths_here : List Feature → Entry → List DepthInterval
  depths_here records e = depths_on zeros strand records e

  depths_named : (records : List Feature) (e : Entry) → AllByRecursion (λ item. item.chrom ≡ e.name) (depths_here records e)
  depths_named records e = grind (arith, all_map, all_any)

  abbrev counts : Feature → Bool
  counts r = is_counted_by strand r.strand

  depths_first : (ones twos : List Feature) (e : Entry) → has_records e.name (intervals_of twos) ≡ false → depths_here (ones ++ twos) e ≡ depths_here ones e
  depths_first ones twos e none = grind (arith, filter-append, map-append, spans_on-append, spans_on-none, append-nil, fewer)

  depths_second : (ones twos : List Feature) (e : Entry) → has_records e.name (intervals_of ones) ≡ false → depths_here (ones ++ twos) e ≡ depths_here twos e
  depths_second ones twos e none = grind (arith, filter-append, map-append, spans_on-append, spans_on-none, fewer)

  depths_begin : (entries : List Entry) (ones : List Feature) → AreInGenomeOrder entries ones → (rest : List DepthInterval) × (whole_of depth_chrom depth_ends depth_line depths_here entries ones ≡ settled_of depth_chrom depth_ends depth_line depths_here entries ones ++ rest)
  unfolding coverage settled_depths
  depths_begin entries ones taken = grind (arith, (settles_depths zeros strand entries))

  pub depths_split : (e_one e_two : List Entry) (ones twos : List Feature) → OwnParts e_one e_two ones twos → Splits (coverage_written e_one zeros strand) (coverage_written e_two zeros strand) (coverage_written (e_one ++ e_two) zeros strand) ones twos
  unfolding coverage settled_depths
  depths_split e_one e_two ones twos own = grind (arith, (chromosomes_split depth_chrom depth_ends depth_line depths_here depths_named depths_first depths_second e_one e_two own.distinct own.in_one own.in_two (depths_begin e_one ones own.taken)))

-- ---- merged runs

module _ (d : ℕ) where
  -- the runs in either order
  module _ (strand : MergeStrand) where
    runs_as : (mine yours : List (List ℕ)) (records : List Feature) → ArePlaced (rank_order mine) (intervals_of records) → ArePlaced (rank_order yours) (intervals_of records)
        → ordered_runs (rank_order mine) d strand records ≡ ordered_runs (rank_order yours) d strand records
    runs_as mine yours records one two = ordered_come (rank_order mine) d strand records (ranks_total mine) one ∙ sym (ordered_come (rank_order yours) d strand records (ranks_total yours) two)

    pooled_own : (e_one e_two : List Entry) (ones twos : List Feature) → OwnParts e_one e_two ones twos
        → Splits (pooled_written (rank_order (genome_names e_one)) d strand) (pooled_written (rank_order (genome_names e_two)) d strand) (pooled_written (rank_order (genome_names (e_one ++ e_two))) d strand) ones twos
    pooled_own e_one e_two ones twos own =
        let both = genome_names (e_one ++ e_two) in
        grind (arith, (runs_as (genome_names e_one) both ones own.taken.placed own.first_placed), (runs_as (genome_names e_two) both twos own.placed own.second_placed), (pooled_split d strand (rank_order both) (ranks_total both) ones twos own.first_placed own.second_placed own.taken.full own.early))

  pub merge_own : (strand : MergeStrand) (e_one e_two : List Entry) (ones twos : List Feature) → OwnParts e_one e_two ones twos
      → Splits (merge_written (rank_order (genome_names e_one)) d strand) (merge_written (rank_order (genome_names e_two)) d strand) (merge_written (rank_order (genome_names (e_one ++ e_two))) d strand) ones twos
  merge_own All = pooled_own All
  merge_own (One strand) = pooled_own (One strand)
  merge_own Each = λ e_one e_two ones twos own. strands_split d ones twos (records_away (rank_order (genome_names (e_one ++ e_two))) (ranks_total (genome_names (e_one ++ e_two))) ones twos own.first_placed own.early)

-- ---- parts with their own parts of the genome file

pub distinct_in : (genome : Handed) (entries : List Entry) → chromosomes_of (Some genome) ≡ Ok (Some entries) → AreDistinct (genome_names entries)
distinct_in genome entries e = grind (arith, distinct_genome)

front_distinct : (xs ys : List (List ℕ)) → AreDistinct (xs ++ ys) → AreDistinct xs
front_distinct [] ys d = tt
front_distinct (x ∷ xs) ys d = ((or_parts (is_among xs x) (is_among ys x) (sym (among_append xs ys x) ∙ d.0)).0, front_distinct xs ys d.1)

back_distinct : (xs ys : List (List ℕ)) → AreDistinct (xs ++ ys) → AreDistinct ys
back_distinct [] ys d = d
back_distinct (x ∷ xs) ys d = back_distinct xs ys d.1

-- what holds of the records of each text, holds of those of all
pub joined_all : (P : Feature → Type 0) (texts : List (List ℕ)) → AreOfLines texts → AllByRecursion (λ text. AllByRecursion P (said_records text)) texts → AllByRecursion P (said_records (joined texts))
unfolding lines_from
joined_all P [] lines h = tt
joined_all P (t ∷ []) lines h = grind (arith, append-nil)
joined_all P (t ∷ u ∷ ts) lines h = grind (arith, (joined_all P (u ∷ ts) lines.1 h.1), records_both, all_both)

-- parts of any kind, of which two join, if their chromosomes differ and each part's records lie on its own
module _ {X : Type 0} (entries : X → List Entry) (records : X → List Feature) (AreLines : List X → Type 0) (join : List X → X) (report : X → Report)
    (less : (x : X) (xs : List X) → AreLines (x ∷ xs) → AreLines xs)
    (records_all : (P : Feature → Type 0) (xs : List X) → AreLines xs → AllByRecursion (λ x. AllByRecursion P (records x)) xs → AllByRecursion P (records (join xs)))
    (empty : report (join []) ≡ nothing) (alone : (x : X) → report (join (x ∷ [])) ≡ report x)
    (two : (x y : X) (xs : List X) → AreLines (x ∷ y ∷ xs) → let later = flat_map entries (y ∷ xs) in let all = entries x ++ later in
    AreDistinct (genome_names all) → AllByRecursion (LiesWithin (entries x) all) (records x) → AllByRecursion (LiesWithin later all) (records (join (y ∷ xs)))
    → Joins (report x) (report (join (y ∷ xs))) (report (join (x ∷ y ∷ xs)))) where
  -- each part's records lie on chromosomes of all parts
  within_all : (whole : List Entry) (xs : List X) → AllByRecursion (λ x. AllByRecursion (LiesWithin (entries x) whole) (records x)) xs → AllByRecursion (λ x. AllByRecursion (LiesWithin (flat_map entries xs) whole) (records x)) xs
  within_all whole [] h = tt
  within_all whole (x ∷ xs) h = grind (arith, all_so, names_both, among_append, (within_all whole xs h.1))

  record Fit (xs : List X) : Type 0 where
    distinct : AreDistinct (genome_names (flat_map entries xs))
    lines : AreLines xs
    within : AllByRecursion (λ x. AllByRecursion (LiesWithin (entries x) (flat_map entries xs)) (records x)) xs

  fit_less : (x : X) (xs : List X) → Fit (x ∷ xs) → Fit xs
  fit_less x xs fit = grind (arith, back_distinct, (names_both (entries x) (flat_map entries xs)), (less x xs fit.lines), all_so, names_both, among_append)

  -- the runs on the parts, and the run on the whole
  pub own_add : (on : X → Report) (whole : Report) (xs : List X) → AllByRecursion (λ x. on x ≡ report x) xs → whole ≡ report (join xs) → AreDistinct (genome_names (flat_map entries xs)) → AreLines xs
      → AllByRecursion (λ x. AllByRecursion (LiesWithin (entries x) (flat_map entries xs)) (records x)) xs → AddUp (map on xs) whole × StopWithin (map on xs) whole
  own_add on whole xs same is distinct lines within =
      rw (map_same on report xs same, is)
      (parts_both join report Fit empty alone fit_less (λ x y xs fit. two x y xs fit.lines fit.distinct fit.within.0 (records_all _ (y ∷ xs) (less x (y ∷ xs) fit.lines) (within_all _ (y ∷ xs) fit.within.1)))
      xs (record { distinct = distinct; lines = lines; within = within }))

-- ---- records without a fault lie on known chromosomes

-- on those of the part's genome file
pub lies : (own whole : List Entry) (input : Input) (text : List ℕ)
    → (good (bed_format (sorting_of (rank_order (genome_names own)))) input (text_lines text)).fault ≡ None
    → AllByRecursion (LiesWithin own whole) (said_records text)
lies own whole input text e = grind (arith, all_so, among_ranked, (sound_from (sorting_of (rank_order (genome_names own))) input None (text_lines text) e), (good_known (rank_order (genome_names own)) (ranks_total (genome_names own)) input text))

-- ---- any command that writes so

module _ (W : List Entry → Written Feature) (command : Command)
    (is : (entries : List Entry) (first : Handed) → report_on command (Ok (Some entries)) first None ≡ members_report (W entries) (bed_format (sorting_of (rank_order (genome_names entries)))) first) where
  abbrev good_of : List Entry → List ℕ → Good Feature
  good_of entries text = good (bed_format (sorting_of (rank_order (genome_names entries)))) First (text_lines text)

  abbrev report_in : List Entry → List ℕ → Report
  report_in entries text = good_report (W entries) (good_of entries text)

  -- a run by the genome file
  pub text_report : (genome : Handed) (entries : List Entry) (text : List ℕ) → chromosomes_of (Some genome) ≡ Ok (Some entries) → on_text command (Some genome) text ≡ report_in entries text
  unfolding report_of
  text_report genome entries text has = grind (arith, (good_whole (bed_format (sorting_of (rank_order (genome_names entries)))) First text))

  known_in : (entries : List Entry) (text : List ℕ) → AllByRecursion (λ r. is_among (genome_names entries) r.chrom ≡ true) (intervals_of (items_in (good_of entries text)))
  known_in entries text = grind (arith, all_map, all_so, among_ranked, (good_known (rank_order (genome_names entries)) (ranks_total (genome_names entries)) First text))

  module _ (e_one e_two : List Entry) (one two : List ℕ) (ends : StandsBefore one two) (distinct : AreDistinct (genome_names (e_one ++ e_two)))
      (within_one : AllByRecursion (LiesWithin e_one (e_one ++ e_two)) (said_records one)) (within_two : AllByRecursion (LiesWithin e_two (e_one ++ e_two)) (said_records two)) where
    one_same : good_of (e_one ++ e_two) one ≡ good_of e_one one
    one_same = agree_good _ _ _ (agree_first e_one e_two) First None (text_lines one) tt within_one

    two_same : good_of (e_one ++ e_two) two ≡ good_of e_two two
    two_same = agree_good _ _ _ (agree_second e_one e_two distinct) First None (text_lines two) tt within_two

    abbrev order_of_both : Order
    order_of_both = rank_order (genome_names (e_one ++ e_two))

    abbrev total_of_both : IsTotal (rank_order (genome_names (e_one ++ e_two)))
    total_of_both = ranks_total (genome_names (e_one ++ e_two))

    joint : IsJoint (good_of e_one one) (good_of e_two two) (good_of (e_one ++ e_two) (one ++ two))
    joint = rw (← one_same, ← two_same) (bed_joint order_of_both total_of_both one two (within_before e_one e_two distinct (said_records one) (said_records two) within_one within_two) First ends)

    own : OwnParts e_one e_two (items_in (good_of e_one one)) (items_in (good_of e_two two))
    own = record {
      distinct = distinct;
      in_one = known_in e_one one;
      in_two = known_in e_two two;
      taken = record {
        distinct = front_distinct (genome_names e_one) (genome_names e_two) (subst AreDistinct (names_both e_one e_two) distinct);
        placed = placed_lines First (rank_order (genome_names e_one)) (text_lines one) (ranks_total (genome_names e_one));
        full = non_empty_from First (sorting_of (rank_order (genome_names e_one))) None (text_lines one);
      };
      placed = placed_lines First (rank_order (genome_names e_two)) (text_lines two) (ranks_total (genome_names e_two));
      first_placed = rw (← one_same) (placed_lines First order_of_both (text_lines one) total_of_both);
      second_placed = rw (← two_same) (placed_lines First order_of_both (text_lines two) total_of_both);
      early = rw (← one_same, ← two_same) (good_earlier order_of_both total_of_both one two (within_before e_one e_two distinct (said_records one) (said_records two) within_one within_two) First First);
    }

    both_reports : Splits (W e_one) (W e_two) (W (e_one ++ e_two)) (items_in (good_of e_one one)) (items_in (good_of e_two two)) → Joins (report_in e_one one) (report_in e_two two) (report_in (e_one ++ e_two) (one ++ two))
    both_reports = good_joins (W e_one) (W e_two) (W (e_one ++ e_two)) (good_of e_one one) (good_of e_two two) (good_of (e_one ++ e_two) (one ++ two)) joint

  pub shards_add : ((e_one e_two : List Entry) (ones twos : List Feature) → OwnParts e_one e_two ones twos → Splits (W e_one) (W e_two) (W (e_one ++ e_two)) ones twos) → report_in [] [] ≡ nothing
      → (genome : Handed) (shards : List Shard) → AreShards genome shards → ShardsAddUp command genome shards
  shards_add splits empty genome shards are =
      own_add (λ s. s.entries) (λ s. said_records s.text) (λ ss. AreOfLines (shard_texts ss)) (λ ss. record { genome = genome; entries = all_entries ss; text = joined (shard_texts ss) }) (λ s. report_in s.entries s.text)
      (λ s ss lines. lines.1) (λ P ss lines h. joined_all P (shard_texts ss) lines (all_map _ _ ss h)) empty (λ s. ap₂ report_in (append-nil s.entries) (append-nil s.text))
      (λ s t ss lines distinct one two.
      let later = all_entries (t ∷ ss) in
      let rest = joined (shard_texts (t ∷ ss)) in
      both_reports s.entries later s.text rest lines.0 distinct one two (splits s.entries later (items_in (good_of s.entries s.text)) (items_in (good_of later rest)) (own s.entries later s.text rest lines.0 distinct one two)))
      (λ s. on_text command (Some s.genome) s.text) (on_text command (Some genome) (joined (shard_texts shards))) shards (all_so _ _ shards (λ s has. text_report s.genome s.entries s.text has) are.parts)
      (text_report genome (all_entries shards) (joined (shard_texts shards)) are.whole) (distinct_in genome (all_entries shards) are.whole) are.lines are.within

  -- runs on the parts without a fault suffice
  shard_lies : (whole : List Entry) (shard : Shard) → chromosomes_of (Some shard.genome) ≡ Ok (Some shard.entries) → (on_text command (Some shard.genome) shard.text).fault ≡ None
      → AllByRecursion (LiesWithin shard.entries whole) (said_records shard.text)
  shard_lies whole shard has e =
      lies shard.entries whole First shard.text
      (sym (grind arith) ∙ ap (λ (r : Report). r.fault) (sym (text_report shard.genome shard.entries shard.text has)) ∙ e)

  pub shards_suffice : ((genome : Handed) (shards : List Shard) → AreShards genome shards → ShardsAddUp command genome shards) → ShardsSuffice command
  shards_suffice add genome shards are all =
      grind (arith, (all_zip _ _ _ shards (λ shard has e. shard_lies (all_entries shards) shard has e) are.parts (all_unmap _ _ shards all)))

pub complement_parts : complement_divides
unfolding lines_from good_after complement
complement_parts limit = shards_add (λ entries. complement_written entries limit) (Complement limit) (λ entries first. refl) (gaps_split limit) refl

pub genomecov_parts : genomecov_divides
unfolding lines_from good_after coverage
genomecov_parts zeros strand = shards_add (λ entries. coverage_written entries zeros strand) (Coverage zeros strand) (λ entries first. refl) (depths_split zeros strand) refl

pub merge_genome_parts : merge_genomes_divide
merge_genome_parts d strand = shards_add (λ entries. merge_written (rank_order (genome_names entries)) d strand) (Merge d strand) (λ entries first. refl) (merge_own d strand) (merge_empty (rank_order []) (ranks_total []) d strand)

-- Two inputs of which each part has its own part of the genome file.

-- ---- two rules that agree

all_same : {A : Type 0} (t u : A → Bool) (xs : List A) → AllByRecursion (λ x. t x ≡ u x) xs → list_all t xs ≡ list_all u xs
all_same t u [] h = refl
all_same t u (x ∷ xs) h = ap₂ (λ a b. a && b) h.0 (all_same t u xs h.1)

-- ---- a part's report, by its own genome file

module _ (mine yours : List (List ℕ)) (agree : Agree (rank_order mine) (rank_order yours) (Within yours mine)) (shape : Shape) (rule : HitRule) where
  abbrev In : Feature → Type 0
  In r = Within yours mine r.chrom

  good_same : (input : Input) (text : List ℕ) → AllByRecursion In (said_records text)
      → good (bed_format (sorting_of (rank_order mine))) input (text_lines text) ≡ good (bed_format (sorting_of (rank_order yours))) input (text_lines text)
  good_same input text h = agree_good (rank_order mine) (rank_order yours) (Within yours mine) agree input None (text_lines text) tt h

  good_within : (input : Input) (text : List ℕ) → AllByRecursion In (said_records text) → AllByRecursion In (items_in (good (bed_format (sorting_of (rank_order yours))) input (text_lines text)))
  good_within input text h = items_all (sorting_of (rank_order yours)) input In None (text_lines text) (all_so _ _ (said_records text) (λ r i known. i) h)

  decided_same : (a : Feature) (bs : List Feature) → In a → AllByRecursion In bs → decided (rank_order mine) a bs ≡ decided (rank_order yours) a bs
  decided_same a bs one h = grind (arith, any_same, all_so)

  sweep_same : (given : List Feature) (fa : Option FaultValue) (bs : List Feature) (fb : Option FaultValue) → AllByRecursion In given → AllByRecursion In bs
      → sweep_report (rank_order mine) shape rule given fa bs fb ≡ sweep_report (rank_order yours) shape rule given fa bs fb
  sweep_same given fa bs fb one two = grind (arith, all_same, take_same, all_so, decided_same)

  pub own_report : (texts : Texts) → AllByRecursion In (records_of texts)
      → pair_report (rank_order mine) (ranks_total mine) shape rule texts.first texts.second ≡ pair_report (rank_order yours) (ranks_total yours) shape rule texts.first texts.second
  own_report texts h =
      let first = all_front _ (said_records texts.first) (said_records texts.second) h in
      let second = all_back _ (said_records texts.first) (said_records texts.second) h in
      ap₂ (λ (a b : Good Feature). sweep_report (rank_order mine) shape rule (items_in a) a.fault (items_in b) b.fault) (good_same First texts.first first) (good_same Second texts.second second)
      ∙ sweep_same _ _ _ _ (good_within First texts.first first) (good_within Second texts.second second)

-- ---- parts of two inputs

lines_behind : (shard : PairShard) (shards : List PairShard) → ArePairs (pair_texts (shard ∷ shards)) → ArePairs (pair_texts shards)
lines_behind shard shards lines = (lines.0.1, lines.1.1)

-- what holds of the records of each part, holds of those of all
pairs_all : (P : Feature → Type 0) (shards : List PairShard) → ArePairs (pair_texts shards) → AllByRecursion (λ shard. AllByRecursion P (records_of shard.texts)) shards → AllByRecursion P (records_of (joined_texts (pair_texts shards)))
pairs_all P shards lines h =
    let firsts = map (λ (p : Texts). p.first) (pair_texts shards) in
    let seconds = map (λ (p : Texts). p.second) (pair_texts shards) in
    all_both P (said_records (joined firsts)) (said_records (joined seconds))
    (joined_all P firsts lines.0 (all_map _ _ (pair_texts shards) (all_map _ _ shards (all_so _ _ shards (λ s k. all_front P (said_records s.texts.first) (said_records s.texts.second) k) h))))
    (joined_all P seconds lines.1 (all_map _ _ (pair_texts shards) (all_map _ _ shards (all_so _ _ shards (λ s k. all_back P (said_records s.texts.first) (said_records s.texts.second) k) h))))

-- a command that writes such a report, of parts with their own genome files
module _ (command : Command) (shape : Shape) (rule : HitRule)
    (is : (genome : Handed) (entries : List Entry) → chromosomes_of (Some genome) ≡ Ok (Some entries) → (texts : Texts) → on_texts command (Some genome) texts ≡ pair_report (rank_order (genome_names entries)) (ranks_total (genome_names entries)) shape rule texts.first texts.second) where
  pair_in : List Entry → Texts → Report
  pair_in entries texts = pair_report (rank_order (genome_names entries)) (ranks_total (genome_names entries)) shape rule texts.first texts.second

  two_parts : (e_one e_two : List Entry) (one two : Texts) → StandsBefore one.first two.first → StandsBefore one.second two.second → AreDistinct (genome_names (e_one ++ e_two))
      → AllByRecursion (LiesWithin e_one (e_one ++ e_two)) (records_of one) → AllByRecursion (LiesWithin e_two (e_one ++ e_two)) (records_of two)
      → Joins (pair_in e_one one) (pair_in e_two two) (pair_in (e_one ++ e_two) (record { first = one.first ++ two.first; second = one.second ++ two.second }))
  unfolding pair_in
  two_parts e_one e_two one two first second distinct within_one within_two =
      let both = genome_names (e_one ++ e_two) in
      let whole = pair_in (e_one ++ e_two) (record { first = one.first ++ two.first; second = one.second ++ two.second }) in
      subst (λ r. Joins r (pair_in e_two two) whole) (own_report both (genome_names e_one) (agree_first e_one e_two) shape rule one within_one)
      (subst (λ r. Joins (pair_in (e_one ++ e_two) one) r whole) (own_report both (genome_names e_two) (agree_second e_one e_two distinct) shape rule two within_two)
      (pair_joins (rank_order both) (ranks_total both) shape rule one.first one.second two.first two.second first second (within_before e_one e_two distinct (records_of one) (records_of two) within_one within_two)))

  own_parts : PairShardsAddUp command
  unfolding pair_in
  own_parts genome shards are lies =
      own_add (λ s. s.entries) (λ s. records_of s.texts) (λ ss. ArePairs (pair_texts ss)) (λ ss. record { genome = genome; entries = pair_entries ss; texts = joined_texts (pair_texts ss) }) (λ s. pair_in s.entries s.texts)
      lines_behind pairs_all (pair_empty (rank_order []) (ranks_total []) shape rule) (λ s. ap₂ pair_in (append-nil s.entries) (join_one s.texts))
      (λ s t ss lines. two_parts s.entries (pair_entries (t ∷ ss)) s.texts (joined_texts (pair_texts (t ∷ ss))) lines.0.0 lines.1.0)
      (λ s. on_texts command (Some s.genome) s.texts) (on_pairs command genome shards) shards (all_so _ _ shards (λ s has. is s.genome s.entries has s.texts) are.parts)
      (is genome (pair_entries shards) are.whole (joined_texts (pair_texts shards))) (distinct_in genome (pair_entries shards) are.whole) are.lines lies

  pair_lies : (whole : List Entry) (shard : PairShard) → chromosomes_of (Some shard.genome) ≡ Ok (Some shard.entries) → (on_texts command (Some shard.genome) shard.texts).fault ≡ None
      → AllByRecursion (LiesWithin shard.entries whole) (records_of shard.texts)
  pair_lies whole shard has e =
      let order = rank_order (genome_names shard.entries) in
      let first = good (bed_format (sorting_of order)) First (text_lines shard.texts.first) in
      let second = good (bed_format (sorting_of order)) Second (text_lines shard.texts.second) in
      let none = report_none order shape rule (items_in first) first.fault (items_in second) second.fault (ap (λ (r : Report). r.fault) (sym (is shard.genome shard.entries has shard.texts)) ∙ e) in
      all_both _ (said_records shard.texts.first) (said_records shard.texts.second) (lies shard.entries whole First shard.texts.first none.0) (lies shard.entries whole Second shard.texts.second none.1)

  pairs_suffice : PairShardsSuffice command
  pairs_suffice genome shards are all =
      grind (arith, own_parts, (all_zip _ _ _ shards (λ shard has e. pair_lies (pair_entries shards) shard has e) are.parts (all_unmap _ _ shards all)))

pub intersect_genome_parts : intersect_genomes_divide
intersect_genome_parts shape rule = own_parts (Intersect shape rule None) shape rule (λ genome entries has. intersect_is (Some genome) (Some entries) has shape rule)

pub subtract_genome_parts : subtract_genomes_divide
subtract_genome_parts whole rule = own_parts (Subtract whole rule None) (subtract_shape whole) rule (λ genome entries has. subtract_is (Some genome) (Some entries) has whole rule)

-- ---- runs on the parts without a fault

pub merge_suffice : merge_shards_suffice
merge_suffice d strand = shards_suffice (λ entries. merge_written (rank_order (genome_names entries)) d strand) (Merge d strand) (λ entries first. refl) (merge_genome_parts d strand)

pub complement_suffice : complement_shards_suffice
complement_suffice limit = shards_suffice (λ entries. complement_written entries limit) (Complement limit) (λ entries first. refl) (complement_parts limit)

pub genomecov_suffice : genomecov_shards_suffice
genomecov_suffice zeros strand = shards_suffice (λ entries. coverage_written entries zeros strand) (Coverage zeros strand) (λ entries first. refl) (genomecov_parts zeros strand)

pub intersect_suffice : intersect_shards_suffice
intersect_suffice shape rule =
    pairs_suffice (Intersect shape rule None) shape rule (λ genome entries has. intersect_is (Some genome) (Some entries) has shape rule)

pub subtract_suffice : subtract_shards_suffice
subtract_suffice whole rule =
    pairs_suffice (Subtract whole rule None) (subtract_shape whole) rule (λ genome entries has. subtract_is (Some genome) (Some entries) has whole rule)
