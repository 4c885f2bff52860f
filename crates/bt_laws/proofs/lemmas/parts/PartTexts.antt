-- The reports of bamtobed, merge, intersect and subtract on two concatenated texts, and on any number.
use Rattle.bt_lines.proofs.Std.{common_steps, rules, arith, ◌≡◌, ℕ, Bool, List, [], ◌∷◌, ◌++◌, append-nil, Option, Some, None, refl, sym, ap, ◌∙◌, map, Ok, flat_map-append, IsTrue, AllByRecursion, ◌⊎◌, append_assoc, inl, subst, flat_map, flat_map-map, inr}
use Rattle.bt_lines.specs.model.Lines.{lines_from, text_lines, Handed}
use Rattle.bt_lines.specs.declared.fault.Input.TheVariants.{First, Second}
use Rattle.bt_bed.specs.model.Good.{Good, good, good_after, items_in, bed_format}
use Rattle.bt_seq.specs.model.Alignment.{Alignment, alignment_of, sam_format}
use Rattle.bt_laws.specs.Parts.{AreOfLines, StandsBefore, joined, ComeBefore, said_records, bamtobed_divides, on_text, ArePairs, PairsAscend, Texts, TextsAscend, intersect_divides, joined_texts, merge_divides, on_texts, subtract_divides, PairsAddUp, AreAtHeaders, WritesOn, MaskTheirOwn, NoneMoves, begins_sequence, maskfasta_divides, repeated_names_divide, AddUp, StopWithin, outputs_to_fault}
use Rattle.bt_bed.specs.model.Meeting.{Report}
use Rattle.bt_tool.specs.model.Written.{Written, good_report, alignments_written, merge_written}
use Rattle.bt_tool.specs.model.Report.{report_of, chromosomes_of}
use Rattle.bt_tool.specs.model.Behaviour.{order_in_use}
use Rattle.bt_tool.specs.declared.planning.plan_type.Command.TheVariants.{BamToBed, Intersect, Merge, Subtract, MaskFasta}
use Rattle.bt_laws.proofs.lemmas.parts.PartLines.{good_joint, Earlier, bed_joint, good_earlier, good_known}
use Rattle.bt_laws.proofs.lemmas.parts.PartReports.{Splits, parts_both, Joins, good_joins, nothing, together, parts_add, stop_more, stop_one}
use Rattle.bt_runs.proofs.lemmas.Lists.{all_back, all_front, all_so, all_unmap}
use Rattle.bt_lines.specs.declared.fault.Input.{Input}
use Rattle.bt_bed.specs.model.Order.{Order}
use Rattle.bt_bed.specs.calls.Orders.{bytes_total, IsTotal, ArePlaced}
use Rattle.bt_bed.specs.model.Feature.{Feature, intervals_of}
use Rattle.bt_bed.specs.model.Genome.{Entry, genome_names}
use Rattle.bt_bed.specs.model.Sorted.{sorting_of}
use Rattle.bt_bed.specs.inside.RankTotal.{ranks_total}
use Rattle.bt_bed.proofs.lemmas.Definitions.{non_empty_from, placed_lines}
use Rattle.bt_runs.specs.model.Merged.{merged, ordered_runs, strand_runs}
use Rattle.bt_runs.specs.declared.merge.merge_strand.MergeStrand.{MergeStrand}
use Rattle.bt_runs.specs.declared.merge.merge_strand.MergeStrand.TheVariants.{All, Each, One}
use Rattle.bt_sweep.specs.model.Lines.{subtract_shape}
use Rattle.bt_sweep.specs.declared.hits.hit_rule.HitRule.{HitRule}
use Rattle.bt_sweep.specs.declared.output.shape.Shape.{Shape}
use Rattle.bt_laws.proofs.lemmas.parts.PartMerge.{pooled_split, strands_split}
use Rattle.bt_laws.proofs.lemmas.parts.PartGenomes.{names_apart, names_behind, records_away}
use Rattle.bt_laws.proofs.lemmas.parts.PartSweep.{AreSplit, sweep_report, sweep_joins}
use Rattle.bt_tool.specs.declared.planning.plan_type.Command.{Command}
use Rattle.bt_lines.specs.model.Fault.{FaultValue}
use Rattle.bt_seq.specs.declared.mask.mask_how.MaskHow.{MaskHow}
use Rattle.bt_laws.proofs.lemmas.parts.PartMaskReports.{mask_is, Lacks, faulty_first, lacks_kind, sound_goes, sound_stops, AreTwo, mask_adds, report_on, two_suffice}

module _ (split cigar : Bool) where
  abbrev sam_of : List ℕ → Good Alignment
  sam_of text = good sam_format First (text_lines text)

  abbrev sam_written : Written Alignment
  sam_written = alignments_written split cigar

  sam_is : (text : List ℕ) → on_text (BamToBed split cigar) None text ≡ good_report sam_written (sam_of text)
  unfolding report_of
  sam_is text = grind arith

  lines_split : (ones twos : List Alignment) → Splits sam_written sam_written sam_written ones twos
  lines_split ones twos = grind (arith, flat_map-append, append-nil)

  text_joins : (one two : List ℕ) → StandsBefore one two
      → Joins (on_text (BamToBed split cigar) None one) (on_text (BamToBed split cigar) None two) (on_text (BamToBed split cigar) None (one ++ two))
  text_joins one two ends =
      rw (sam_is one, sam_is two, sam_is (one ++ two))
      (good_joins sam_written sam_written sam_written (sam_of one) (sam_of two) (sam_of (one ++ two))
      (good_joint sam_format First one two ends (λ state l m e d. ap alignment_of e) (λ n. refl)) (lines_split _ _))

pub sam_divides : bamtobed_divides
unfolding report_of lines_from good_after
sam_divides split cigar texts lines =
    parts_both joined (on_text (BamToBed split cigar) None) AreOfLines refl (λ t. ap (on_text (BamToBed split cigar) None) (append-nil t)) (λ t ts lines. lines.1)
    (λ t u ts fits. text_joins split cigar t (joined (u ∷ ts)) fits.0) texts lines

-- ---- records

pub order_total : (chromosomes : Option (List Entry)) → IsTotal (order_in_use chromosomes)
order_total None = bytes_total
order_total (Some entries) = ranks_total (genome_names entries)

module _ (order : Order) (total : IsTotal order) where
  -- what is good of a text of records
  abbrev pub bed_text_good : Input → List ℕ → Good Feature
  bed_text_good input text = good (bed_format (sorting_of order)) input (text_lines text)

  abbrev pub text_records : Input → List ℕ → List Feature
  text_records input text = items_in (bed_text_good input text)

  pub text_placed : (input : Input) (text : List ℕ) → ArePlaced order (intervals_of (text_records input text))
  text_placed input text = placed_lines input order (text_lines text) total

  -- ---- merge

  pub merge_split : (d : ℕ) (strand : MergeStrand) (one two : List ℕ) → Earlier order total (text_records First one) (text_records First two)
      → Splits (merge_written order d strand) (merge_written order d strand) (merge_written order d strand) (text_records First one) (text_records First two)
  merge_split d All one two early = pooled_split d All order total (text_records First one) (text_records First two) (text_placed First one) (text_placed First two) (non_empty_from First (sorting_of order) None (text_lines one)) early
  merge_split d (One strand) one two early = pooled_split d (One strand) order total (text_records First one) (text_records First two) (text_placed First one) (text_placed First two) (non_empty_from First (sorting_of order) None (text_lines one)) early
  merge_split d Each one two early = strands_split d (text_records First one) (text_records First two) (records_away order total (text_records First one) (text_records First two) (text_placed First one) early)

  abbrev pub merge_report : ℕ → MergeStrand → List ℕ → Report
  merge_report d strand text = good_report (merge_written order d strand) (bed_text_good First text)

  module _ (d : ℕ) (strand : MergeStrand) (one two : List ℕ) (ends : StandsBefore one two) (before : ComeBefore order (said_records one) (said_records two)) where
    pub merge_joins : Joins (merge_report d strand one) (merge_report d strand two) (merge_report d strand (one ++ two))
    merge_joins = grind (arith, common_steps, (bed_joint order total one two before First ends), (merge_split d strand one two (good_earlier order total one two before First First)))

  -- ---- intersect

  abbrev pub pair_report : Shape → HitRule → List ℕ → List ℕ → Report
  pair_report shape rule first second = sweep_report order shape rule (text_records First first) (bed_text_good First first).fault (text_records Second second) (bed_text_good Second second).fault

  module _ (shape : Shape) (rule : HitRule) (a_one b_one a_two b_two : List ℕ) (a_ends : StandsBefore a_one a_two) (b_ends : StandsBefore b_one b_two)
      (before : ComeBefore order (said_records a_one ++ said_records b_one) (said_records a_two ++ said_records b_two)) where
    parts : ComeBefore order (said_records a_one) (said_records a_two) × ComeBefore order (said_records a_one) (said_records b_two) × ComeBefore order (said_records b_one) (said_records a_two) × ComeBefore order (said_records b_one) (said_records b_two)
    parts = grind (arith, all_front, all_back, all_so)

    split : AreSplit order total (text_records First a_one) (text_records First a_two) (text_records Second b_one) (text_records Second b_two)
    split =
        let early = good_earlier order total a_one b_two parts.1 First Second in
        let late = good_earlier order total b_one a_two parts.2 Second First in
        record {
          known = good_known order total Second b_two;
          known_first = good_known order total First a_one;
          first_second = early;
          second_first = late;
          apart_first = names_apart order total (text_records First a_one) (text_records Second b_two) (good_known order total First a_one) early;
          apart_second = names_behind order total (text_records Second b_one) (text_records First a_two) (good_known order total Second b_one) late;
        }

    pub pair_joins : Joins (pair_report shape rule a_one b_one) (pair_report shape rule a_two b_two) (pair_report shape rule (a_one ++ a_two) (b_one ++ b_two))
    pair_joins = sweep_joins shape rule split _ _ _ _ _ _ _ _
        (together _ (bed_text_good First a_one) (bed_text_good First a_two) (bed_text_good First (a_one ++ a_two)) (bed_joint order total a_one a_two parts.0 First a_ends))
        (together _ (bed_text_good Second b_one) (bed_text_good Second b_two) (bed_text_good Second (b_one ++ b_two)) (bed_joint order total b_one b_two parts.3 Second b_ends))

-- ---- the reports of the commands

module _ (genome : Option Handed) (chromosomes : Option (List Entry)) (has : chromosomes_of genome ≡ Ok chromosomes) where
  pub merge_is : (d : ℕ) (strand : MergeStrand) (text : List ℕ) → on_text (Merge d strand) genome text ≡ merge_report (order_in_use chromosomes) (order_total chromosomes) d strand text
  unfolding report_of
  merge_is d strand text = grind arith

  pub intersect_is : (shape : Shape) (rule : HitRule) (texts : Texts) → on_texts (Intersect shape rule None) genome texts ≡ pair_report (order_in_use chromosomes) (order_total chromosomes) shape rule texts.first texts.second
  unfolding report_of
  intersect_is shape rule texts = grind arith

  pub subtract_is : (whole : Bool) (rule : HitRule) (texts : Texts) → on_texts (Subtract whole rule None) genome texts ≡ pair_report (order_in_use chromosomes) (order_total chromosomes) (subtract_shape whole) rule texts.first texts.second
  unfolding report_of
  subtract_is whole rule texts = grind arith

pub join_one : (part : Texts) → joined_texts (part ∷ []) ≡ part
join_one part = grind (arith, append-nil)

module _ (order : Order) (total : IsTotal order) where
  pub merge_empty : (d : ℕ) (strand : MergeStrand) → merge_report order total d strand [] ≡ nothing
  unfolding lines_from good_after ordered_runs merged strand_runs
  merge_empty d strand = grind arith

  pub pair_empty : (shape : Shape) (rule : HitRule) → pair_report order total shape rule [] [] ≡ nothing
  unfolding lines_from good_after
  pair_empty shape rule = refl

pub merge_parts : merge_divides
merge_parts d strand genome chromosomes texts has lines ascend =
    let order = order_in_use chromosomes in
    let total = order_total chromosomes in
    let is : (text : List ℕ) → on_text (Merge d strand) genome text ≡ merge_report order total d strand text = merge_is genome chromosomes has d strand in
    parts_both joined (on_text (Merge d strand) genome) (λ ts. AreOfLines ts × TextsAscend order ts) (is [] ∙ merge_empty order total d strand) (λ t. ap (on_text (Merge d strand) genome) (append-nil t)) (λ t ts f. (f.0.1, f.1.1))
    (λ t u ts f.
    let more = joined (u ∷ ts) in
    rw (is t, is more, is (t ++ more)) (merge_joins order total d strand t more f.0.0 f.1.0))
    texts (lines, ascend)

-- a command that writes such a report
sweep_parts : (command : Command) (shape : Shape) (rule : HitRule) (genome : Option Handed) (order : Order) (total : IsTotal order) → ((texts : Texts) → on_texts command genome texts ≡ pair_report order total shape rule texts.first texts.second)
    → (parts : List Texts) → ArePairs parts → PairsAscend order parts → PairsAddUp command genome parts
sweep_parts command shape rule genome order total is parts lines ascend =
    parts_both joined_texts (on_texts command genome) (λ ts. ArePairs ts × PairsAscend order ts) (is (joined_texts []) ∙ pair_empty order total shape rule) (λ t. ap (on_texts command genome) (join_one t)) (λ t ts f. ((f.0.0.1, f.0.1.1), f.1.1))
    (λ t u ts f.
    let more = joined_texts (u ∷ ts) in
    rw (is t, is more, is (joined_texts (t ∷ u ∷ ts))) (pair_joins order total shape rule t.first t.second more.first more.second f.0.0.0 f.0.1.0 f.1.0))
    parts (lines, ascend)

pub intersect_parts : intersect_divides
intersect_parts shape rule genome chromosomes parts has =
    sweep_parts (Intersect shape rule None) shape rule genome (order_in_use chromosomes) (order_total chromosomes) (intersect_is genome chromosomes has shape rule) parts

pub subtract_parts : subtract_divides
subtract_parts whole rule genome chromosomes parts has =
    sweep_parts (Subtract whole rule None) (subtract_shape whole) rule genome (order_in_use chromosomes) (order_total chromosomes) (subtract_is genome chromosomes has whole rule) parts

-- maskfasta over any number of parts.

module _ (how : MaskHow) (full : Bool) where
  abbrev T : Texts → Report
  T texts = report_on how full texts

  on_is : (parts : List Texts) → map (on_texts (MaskFasta how full) None) parts ≡ map T parts
  on_is parts = grind (arith, mask_is)

  empty : T (joined_texts []) ≡ nothing
  unfolding lines_from good_after
  empty = refl

  alone : (t : Texts) → T (joined_texts (t ∷ [])) ≡ T t
  alone t = ap T (join_one t)

  -- parts of complete lines, divided at headers
  abbrev AreMasked : List Texts → Type 0
  AreMasked parts = ArePairs parts × AreAtHeaders parts

  masked_less : (t : Texts) (ts : List Texts) → AreMasked (t ∷ ts) → AreMasked ts
  masked_less t ts fit = grind arith

  begins_joined : (parts : List Texts) → AllByRecursion (λ later. IsTrue (begins_sequence later.first)) parts → IsTrue (begins_sequence (joined_texts parts).first)
  begins_joined [] h = refl
  begins_joined (t ∷ ts) h = grind (arith, (begins_joined ts h.1))

  are_two : (t u : Texts) (ts : List Texts) → AreMasked (t ∷ u ∷ ts) → AreTwo how full t (joined_texts (u ∷ ts))
  are_two t u ts fit = grind (arith, (begins_joined (u ∷ ts) fit.1))

  -- ---- names of one part alone

  own_add : (parts : List Texts) → AreMasked parts × MaskTheirOwn full parts → AddUp (map T parts) (T (joined_texts parts))
  own_add = parts_add joined_texts T (λ ts. AreMasked ts × MaskTheirOwn full ts) empty alone (λ t ts own. (masked_less t ts own.0, own.1.2))
      (λ t u ts own. mask_adds how full t (joined_texts (u ∷ ts)) (are_two t u ts own.0) own.1.0 own.1.1)

  -- what the single run writes begins what the parts write, or begins with it
  abbrev Ends : List Texts → Type 0
  Ends parts = StopWithin (map T parts) (T (joined_texts parts))
      ⊎ (Lacks how full (joined_texts parts) × ((more : List ℕ) × ((T (joined_texts parts)).output ≡ outputs_to_fault (map T parts) ++ more)))

  module _ (t u : Texts) (ts : List Texts) (fit : AreMasked (t ∷ u ∷ ts)) (own : MaskTheirOwn full (t ∷ u ∷ ts)) where
    abbrev Rest : Texts
    Rest = joined_texts (u ∷ ts)

    end_by : (fault : Option FaultValue) → (T t).fault ≡ fault → Ends (u ∷ ts) → Ends (t ∷ u ∷ ts)
    end_by (Some fault) e ends = grind (arith, (faulty_first how full t Rest (are_two t u ts fit) own.0 own.1 (λ none. grind arith)), rules)
    end_by None e (inl stops) = inl (stop_more (T t) (map T (u ∷ ts)) (T Rest) (T (joined_texts (t ∷ u ∷ ts))) stops (sound_stops how full t Rest (are_two t u ts fit) own.0 own.1 e))
    end_by None e (inr goes) = grind (arith, (sound_goes how full t Rest (are_two t u ts fit) own.0 own.1 e goes.0), (append_assoc (T t).output (outputs_to_fault (map T (u ∷ ts))) goes.1.0))

  ends_all : (parts : List Texts) → AreMasked parts → MaskTheirOwn full parts → Ends parts
  ends_all [] fit own = grind (arith, empty)
  ends_all (t ∷ []) fit own = inl (subst (λ r. StopWithin (T t ∷ []) r) (sym (alone t)) (stop_one (T t)))
  ends_all (t ∷ u ∷ ts) fit own = end_by t u ts fit own (T t).fault refl (ends_all (u ∷ ts) (masked_less t (u ∷ ts) fit) own.2)

  ends_on : (texts : List Texts) → Ends texts → StopWithin (map T texts) (T (joined_texts texts)) ⊎ WritesOn (map T texts) (T (joined_texts texts))
  ends_on texts (inl stops) = inl stops
  ends_on texts (inr goes) = inr (lacks_kind how full (joined_texts texts) goes.0, goes.1)

  -- ---- names of several parts

  suffice_all : (parts : List Texts) → AreMasked parts → NoneMoves full parts → AllByRecursion (λ part. (T part).fault ≡ None) parts
      → ((T (joined_texts parts)).fault ≡ None) × ((T (joined_texts parts)).output ≡ flat_map (λ part. (T part).output) parts)
  suffice_all [] fit none all = grind (arith, empty)
  suffice_all (t ∷ []) fit none all = grind (arith, append-nil)
  suffice_all (t ∷ u ∷ ts) fit none all =
      let more = suffice_all (u ∷ ts) (masked_less t (u ∷ ts) fit) none.1 all.1 in
      grind (arith, (two_suffice how full t (joined_texts (u ∷ ts)) (are_two t u ts fit) none.0 all.0 more.0))

pub mask_divides : maskfasta_divides
mask_divides how full parts lines headers own =
    rw (on_is how full parts, mask_is how full (joined_texts parts))
    (own_add how full parts ((lines, headers), own), ends_on how full parts (ends_all how full parts (lines, headers) own))

pub repeated_divide : repeated_names_divide
repeated_divide how full parts lines headers none all =
    let whole = suffice_all how full parts (lines, headers) none (all_unmap _ (report_on how full) parts (rw (on_is how full parts) at all)) in
    rw (on_is how full parts, mask_is how full (joined_texts parts))
    (whole.0, whole.1 ∙ sym (flat_map-map (λ (part : Report). part.output) (report_on how full) parts))
