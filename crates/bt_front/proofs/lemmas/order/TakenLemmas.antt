-- What the verdict takes is finished.
use Rattle.bt_lines.proofs.Std.{arith, ◌≡◌, ℕ, Bool, true, false, ◌&&◌, not, List, [], ◌∷◌, Option, Some, None, Result, Ok, Err, and_parts, ap, cond, false≢true, list_all, map, option_map, option_to_list, refl, subst, sym, ◌∙◌}
use Rattle.std.specs.Option.{option_or}
use Rattle.std.specs.Ordering.{is_lt, nat_cmp}
use Rattle.std.specs.Cmp.Lexicographic.{slice_cmp}
use Rattle.bt_lines.specs.model.Fault.{FaultValue}
use Rattle.bt_lines.specs.model.Lines.{Handed, lines_from, text_lines, whole_text}
use Rattle.bt_lines.specs.declared.fault.Input.{Input}
use Rattle.bt_lines.specs.declared.fault.Input.TheVariants.{First, Second}
use Rattle.bt_bed.specs.model.Feature.{Feature, intervals_of}
use Rattle.bt_bed.specs.model.Genome.{Entry, genome_names}
use Rattle.bt_bed.specs.model.Good.{Good, bed_good, good_after, items_in, or_else}
use Rattle.bt_bed.specs.model.Meeting.{Report}
use Rattle.bt_bed.specs.model.Order.{Order, byte_order, rank_order}
use Rattle.bt_bed.specs.calls.Orders.{AreDistinct, IsTotal, bytes_total}
use Rattle.bt_bed.specs.inside.RankTotal.{ranks_total}
use Rattle.bt_sweep.specs.model.Lines.{intersect_met, subtract_shape}
use Rattle.bt_sweep.specs.declared.hits.hit_rule.HitRule.{HitRule}
use Rattle.bt_sweep.specs.declared.output.shape.Shape.{Shape}
use Rattle.bt_tool.specs.model.Report.{chromosomes_of, of_file, report_of, report_on}
use Rattle.bt_tool.specs.model.Behaviour.{behaviour_of, entries_in, or_empty, order_in_use}
use Rattle.bt_tool.specs.model.Written.{Written, complement_written, coverage_written, merge_written, report_by}
use Rattle.bt_tool.specs.model.TwoInputs.{intersect_report}
use Rattle.bt_tool.specs.declared.planning.plan_type.Command.{Command}
use Rattle.bt_tool.specs.declared.planning.plan_type.Command.TheVariants.{Merge, Complement, Intersect, Subtract, Coverage, BamToBed, MaskFasta}
use Rattle.bt_front.specs.declared.survey.Survey.{Survey}
use Rattle.bt_front.specs.declared.words.Asked.{Asked}
use Rattle.bt_front.specs.declared.verdict.reason.InOrderOf.{InOrderOf}
use Rattle.bt_front.specs.declared.verdict.reason.InOrderOf.TheVariants.{Bytes, GenomeFile, Found}
use Rattle.bt_front.specs.declared.verdict.reason.Reason.{Reason}
use Rattle.bt_front.specs.model.Extents.{extents_in, names_in, ascend_by_bytes}
use Rattle.bt_front.specs.calls.Orders.{IsCommonOrder}
use Rattle.bt_front.specs.calls.OrderText.{AreLineNames, longest_entry}
use Rattle.bt_front.specs.calls.Verdicts.{AreSurveysOf, GoesBy, IsSurveyOfAny, found_order_is_used, limit_of, taken_is_finished}
use Rattle.bt_front.specs.model.Fitting.{are_in_order, common_names}
use Rattle.bt_front.specs.model.Survey.{IsSurveyOf, are_together, chroms_of, distinct, read_of}
use Rattle.bt_front.specs.model.Verdict.{are_by_bytes, genome_rows, has_survey, have_common_order, is_by_genome, names_seen, open_order, open_rows, order_of, second_names, text_rows, texts_of, verdict_of}
use Rattle.bt_front.specs.model.Words.{Row, first_of, or_reason}
use Rattle.bt_front.proofs.lemmas.order.BlockLemmas.{FollowOn, good_alike, steps_on}
use Rattle.bt_front.proofs.lemmas.order.LineNameLemmas.{both_named, names_of_text}
use Rattle.bt_front.proofs.lemmas.order.OrderLaws.{found_fits}
use Rattle.bt_front.proofs.lemmas.order.OrderTextLemmas.{order_read}
use Rattle.bt_front.proofs.lemmas.survey.ExtentLemmas.{extent_names}
use Rattle.bt_front.proofs.lemmas.survey.TogetherLemmas.{distinct_once}

-- A text in an order that fits its chromosomes.

names_are : (text : List ℕ) (survey : Survey) → IsSurveyOf text survey
    → names_seen survey ≡ distinct (chroms_of (intervals_of (items_in (read_of text))))
names_are text survey is = ap chroms_of is.records.chromosomes ∙ extent_names (intervals_of (items_in (read_of text)))

follows : (order : Order) (cs : List (List ℕ)) → are_together cs ≡ true → are_in_order order (distinct cs) ≡ true → FollowOn order None cs
follows order [] together sorted = tt
follows order (c ∷ cs) together sorted = steps_on order c cs together sorted

pub quiet_in_order : (order : Order) → IsTotal order → (text : List ℕ) (survey : Survey) → IsSurveyOf text survey
    → are_in_order order (names_seen survey) ≡ true → (input : Input) → (bed_good input order (whole_text text)).fault ≡ None
quiet_in_order order total text survey is sorted input =
    let chroms = chroms_of (intervals_of (items_in (read_of text))) in
    let on = follows order chroms is.records.together (ap (are_in_order order) (sym (names_are text survey is)) ∙ sorted) in
    let same = good_alike order total First input (text_lines text) None is.faultless on in
    ap (λ (good : Good Feature). or_else good.fault None) same ∙ ap (λ fault. or_else fault None) is.faultless

quiet_empty : (order : Order) (input : Input) → (bed_good input order (whole_text [])).fault ≡ None
unfolding lines_from good_after
quiet_empty order input = refl

-- Reports without a fault.

quiet_report : {A : Type 0} (written : Written A) (members : List A) (fault : Option FaultValue) → fault ≡ None
    → (report_by written members fault).fault ≡ None
quiet_report written members fault e = rw e refl

met_by : (all : Bool) (one two : List ℕ) (first second : Option FaultValue) → first ≡ None → second ≡ None
    → (cond {A = Report} all (record { output = one; fault = option_or first second }) (record { output = two; fault = second })).fault ≡ None
met_by true one two first second e f = rw (e, f) refl
met_by false one two first second e f = f

quiet_met : (order : Order) (shape : Shape) (rule : HitRule) (first second : Good Feature) → first.fault ≡ None → second.fault ≡ None
    → (intersect_met order shape rule first second).fault ≡ None
quiet_met order shape rule first second e f = met_by _ _ _ first.fault second.fault e f

-- What the tables say of what is taken.

taken_by : {A : Type 0} (reason : Option Reason) (result : Result A Reason) (x : A) → or_reason reason result ≡ Ok x
    → (reason ≡ None) × (result ≡ Ok x)
taken_by None result x e = (refl, e)
taken_by (Some reason) result x e = absurd (cc)

no_reason : (test : Bool) (reason : Reason) (rows : List (Row Reason)) → first_of ((test, reason) ∷ rows) ≡ None
    → (test ≡ false) × (first_of rows ≡ None)
no_reason true reason rows e = absurd (cc)
no_reason false reason rows e = (refl, e)

holds : (b : Bool) → not b ≡ false → b ≡ true
holds true e = refl
holds false e = absurd (false≢true (sym e))

bytes_ascend : (ns : List (List ℕ)) → ascend_by_bytes ns ≡ are_in_order byte_order ns
bytes_ascend [] = refl
bytes_ascend (n ∷ []) = refl
bytes_ascend (n ∷ m ∷ ms) = ap (λ b. is_lt (slice_cmp nat_cmp n m) && b) (bytes_ascend (m ∷ ms))

-- a verdict that takes
abbrev by_order : InOrderOf → Result InOrderOf Reason
by_order order = Ok order

-- the chromosomes of the texts are in this order
record Fit (order : Order) (one : Survey) (other : Option Survey) : Type 0 where
  first : are_in_order order (names_seen one) ≡ true
  second : are_in_order order (second_names other) ≡ true

fit_both : (order : Order) (test : Survey → Bool) → ((text : Survey) → test text ≡ are_in_order order (names_seen text))
    → (one : Survey) (other : Option Survey) → list_all test (texts_of one other) ≡ true → Fit order one other
fit_both order test same one None e =
    record { first = sym (same one) ∙ (and_parts (test one) true e).0; second = refl }
fit_both order test same one (Some two) e =
    let parts = and_parts (test one) (test two && true) e in
    record { first = sym (same one) ∙ parts.0; second = sym (same two) ∙ (and_parts (test two) true parts.1).0 }

distinct_first : (text : List ℕ) (survey : Survey) → IsSurveyOf text survey → AreDistinct (names_seen survey)
distinct_first text survey is =
    subst AreDistinct (sym (names_are text survey is)) (distinct_once (chroms_of (intervals_of (items_in (read_of text)))))

distinct_second : (text : Option (List ℕ)) (survey : Option Survey) → IsSurveyOfAny text survey → AreDistinct (second_names survey)
distinct_second None None is = tt
distinct_second None (Some survey) is = absurd is
distinct_second (Some text) None is = absurd is
distinct_second (Some text) (Some survey) is = distinct_first text survey is

module _ (asked : Asked) (first : List ℕ) (second : Option (List ℕ)) (one : Survey) (other : Option Survey)
    (are : AreSurveysOf first second one other) where
  by_found : (by_bytes : Bool) → are_by_bytes one other ≡ by_bytes → (order : InOrderOf) → by_order (open_order by_bytes) ≡ by_order order
      → (used : Option (List Entry)) → GoesBy order None one other used → Fit (order_in_use used) one other
  by_found true bytes Bytes e used goes =
      subst (λ (u : Option (List Entry)). Fit (order_in_use u) one other) (sym goes)
      (fit_both byte_order (λ text. ascend_by_bytes (names_seen text)) (λ text. bytes_ascend (names_seen text)) one other bytes)
  by_found true bytes GenomeFile e used goes = absurd (cc)
  by_found true bytes Found e used goes = absurd (cc)
  by_found false bytes Bytes e used goes = absurd (cc)
  by_found false bytes GenomeFile e used goes = absurd (cc)
  by_found false bytes Found e used goes =
      let fits = found_fits (names_seen one) (second_names other) (genome_names goes.0) (distinct_first first one are.first_is)
      (distinct_second second other are.second_is) goes.2 in
      subst (λ (u : Option (List Entry)). Fit (order_in_use u) one other) (sym goes.1)
      (record { first = fits.fits_first; second = fits.fits_second })

  by_given : (entries : List Entry) (order : InOrderOf) → by_order GenomeFile ≡ by_order order → (used : Option (List Entry))
      → GoesBy order (Some entries) one other used → list_all (is_by_genome entries) (texts_of one other) ≡ true
      → Fit (order_in_use used) one other
  by_given entries Bytes e used goes all = absurd (cc)
  by_given entries Found e used goes all = absurd (cc)
  by_given entries GenomeFile e used goes all =
      subst (λ (u : Option (List Entry)). Fit (order_in_use u) one other) (sym goes)
      (fit_both (rank_order (genome_names entries)) (is_by_genome entries) (λ text. refl) one other all)

  fit : (given used : Option (List Entry)) (order : InOrderOf) → order_of asked one other given ≡ Ok order
      → GoesBy order given one other used → Fit (order_in_use used) one other
  fit None used order e goes =
      by_found (are_by_bytes one other) refl order (taken_by (first_of (open_rows asked one other)) _ order e).1 used goes
  fit (Some entries) used order e goes =
      let parts = taken_by (first_of (genome_rows asked.command one other entries)) _ order e in
      by_given entries order parts.1 used goes (holds (list_all (is_by_genome entries) (texts_of one other)) (no_reason _ _ _ parts.0).0)

total_in_use : (used : Option (List Entry)) → IsTotal (order_in_use used)
total_in_use None = bytes_total
total_in_use (Some entries) = ranks_total (genome_names entries)

module _ (used : Option (List Entry)) (first : List ℕ) (second : Option (List ℕ)) (one : Survey) (other : Option Survey)
    (are : AreSurveysOf first second one other) (fits : Fit (order_in_use used) one other) where
  quiet_first : (input : Input) → (bed_good input (order_in_use used) (whole_text first)).fault ≡ None
  quiet_first input = quiet_in_order (order_in_use used) (total_in_use used) first one are.first_is fits.first input

  quiet_any : (order : Order) → IsTotal order → (text : Option (List ℕ)) (survey : Option Survey) → IsSurveyOfAny text survey
      → are_in_order order (second_names survey) ≡ true
      → (bed_good Second order (or_empty (option_map whole_text text))).fault ≡ None
  quiet_any order total None survey is sorted = quiet_empty order Second
  quiet_any order total (Some text) None is sorted = absurd is
  quiet_any order total (Some text) (Some survey) is sorted = quiet_in_order order total text survey is sorted Second

  quiet_second : (bed_good Second (order_in_use used) (or_empty (option_map whole_text second))).fault ≡ None
  quiet_second = quiet_any (order_in_use used) (total_in_use used) second other are.second_is fits.second

  abbrev order : Order
  order = order_in_use used

  abbrev one_good : Good Feature
  one_good = bed_good First order (whole_text first)

  abbrev other_good : Good Feature
  other_good = bed_good Second order (or_empty (option_map whole_text second))

  quiet_run : (command : Command) → has_survey command ≡ true → limit_of command ≡ None
      → ((behaviour_of command used).report (whole_text first) (option_map whole_text second)).fault ≡ None
  quiet_run (Merge gap strand) known free = quiet_report (merge_written order gap strand) (items_in one_good) one_good.fault (quiet_first First)
  quiet_run (Complement limit) known free =
      quiet_report (complement_written (entries_in used) limit) (items_in one_good) one_good.fault (quiet_first First)
  quiet_run (Coverage zeros strand) known free =
      quiet_report (coverage_written (entries_in used) zeros strand) (items_in one_good) one_good.fault (quiet_first First)
  quiet_run (Intersect shape rule None) known free = quiet_met order shape rule one_good other_good (quiet_first First) quiet_second
  quiet_run (Intersect shape rule (Some most)) known free = absurd (cc)
  quiet_run (Subtract whole rule None) known free =
      quiet_met order (subtract_shape whole) rule one_good other_good (quiet_first First) quiet_second
  quiet_run (Subtract whole rule (Some most)) known free = absurd (cc)
  quiet_run (BamToBed split cigar) known free = absurd (false≢true known)
  quiet_run (MaskFasta how full) known free = absurd (false≢true known)

pub finished : taken_is_finished
unfolding report_of
finished asked first second one other given used order genome are taken goes read free =
    let parts = taken_by (first_of (text_rows asked.command one other)) (order_of asked one other given) order taken in
    let known = holds (has_survey asked.command) (no_reason _ _ _ parts.0).0 in
    let fits = fit asked first second one other are given used order parts.1 goes in
    rw read (quiet_run used first second one other are fits asked.command known free)

-- The order that is found is used.

named_first : (text : List ℕ) (survey : Survey) → IsSurveyOf text survey → AreLineNames (names_seen survey)
named_first text survey is = subst AreLineNames (sym (names_are text survey is)) (names_of_text text)

named_second : (text : Option (List ℕ)) (survey : Option Survey) → IsSurveyOfAny text survey → AreLineNames (second_names survey)
named_second None None is = tt
named_second None (Some survey) is = absurd is
named_second (Some text) None is = absurd is
named_second (Some text) (Some survey) is = named_first text survey is

named_back : (names : List (List ℕ)) → genome_names (map longest_entry names) ≡ names
named_back [] = refl
named_back (n ∷ ns) = ap (λ (ms : List (List ℕ)). n ∷ ms) (named_back ns)

pub found_used : found_order_is_used
found_used first second one other names are found =
    let fits = found_fits (names_seen one) (second_names other) names (distinct_first first one are.first_is)
    (distinct_second second other are.second_is) found in
    let named = both_named (names_seen one) (second_names other) names (named_first first one are.first_is)
    (named_second second other are.second_is) fits.no_others in
    let entries = map longest_entry names in
    let read = order_read names named fits.distinct in
    (Some entries, (entries, refl, found ∙ ap (λ (ns : List (List ℕ)). Some ns) (sym (named_back names))), ap of_file read)
