-- What maskfasta writes and tells of two parts, and of both.
use Rattle.bt_lines.proofs.Std.{arith, ◌≡◌, ℕ, Bool, true, false, List, [], ◌∷◌, ◌++◌, map, append-nil, append_assoc, Option, Some, None, refl, sym, ap, ap₂, ◌∙◌, flat_map, is_some, AllByRecursion, flat_map-append, flat_map-map, subst, ◌||◌, ◌⊎◌, inl, inr, IsTrue, is_none, option_map, list_all, list_any, list_any-append}
use Rattle.bt_lines.specs.model.Fault.{FaultValue}
use Rattle.bt_lines.specs.model.Lines.{text_lines, TextLine}
use Rattle.bt_lines.specs.declared.fault.Input.TheVariants.{First, Second}
use Rattle.bt_lines.specs.declared.fault.Kind.TheVariants.{NoSequence}
use Rattle.bt_bed.specs.model.Feature.{Feature}
use Rattle.bt_bed.specs.model.BedLine.{fault_at_line}
use Rattle.bt_bed.specs.model.Good.{Good, Member, good, items_in, block_format, good_after, line_says}
use Rattle.bt_bed.specs.model.Meeting.{Rule, join_report, written, Report}
use Rattle.bt_bed.proofs.lemmas.Definitions.{met_fault_all, all_written, met_output, written_at}
use Rattle.bt_seq.proofs.lemmas.definitions.KnowsLemmas.{leave, leave_all}
use Rattle.bt_laws.proofs.lemmas.single.Sequences.{faultless_masked, all_decided}
use Rattle.bt_seq.proofs.lemmas.definitions.MaskPrefixLemmas.{first_is_told, lack_none, items, none_leaves, decided_by_tags, unnamed_own}
use Rattle.bt_seq.specs.model.Masked.{is_unnamed, mask_met, mask_rule, masked_line, names_of_sequences, no_sequence, line_decided}
use Rattle.bt_seq.specs.model.Fasta.{SequenceLine, sequence_format, bases_up_to}
use Rattle.bt_seq.specs.declared.mask.mask_how.MaskHow.{MaskHow}
use Rattle.bt_tool.specs.model.Report.{report_of}
use Rattle.bt_laws.specs.Parts.{Texts, on_texts, BelongsToNone, MasksNone, begins_sequence, sequence_names, StandsBefore, said_records}
use Rattle.bt_tool.specs.declared.planning.plan_type.Command.TheVariants.{MaskFasta}
use Rattle.bt_runs.proofs.lemmas.Lists.{all_so, flat_map_same, all_any, all_map}
use Rattle.bt_laws.proofs.lemmas.parts.PartGenomes.{IsLost, lost_fewer, own_first, own_second, AreOff, apart_next, both_owned, leave_append, lost_more, lost_off, any_behind, any_lost, any_second, later_leave, none_behind, left_fewer, tags_first}
use Rattle.bt_laws.proofs.lemmas.parts.PartSequences.{line_after, BeginsElsewhere, calm_joint, fresh_joint, sound_from, faulty_same, first_front, fasta_both, names_begin, names_both, names_grown, second_named, second_sound, unnamed_from, among, named_more}
use Rattle.bt_seq.proofs.lemmas.mask.steps.LineStepLemmas.{some_list}
use Rattle.bt_seq.proofs.lemmas.Sam.{last_from, tag_decides, tags_of}
use Rattle.bt_laws.proofs.lemmas.parts.PartLines.{records_on}
use Rattle.bt_laws.proofs.lemmas.parts.PartReports.{Adds, Stops}
use Rattle.bt_laws.proofs.lemmas.parts.PartSweep.{all_true, meets, written_before}

-- ---- which fault is reported

module _ (how : MaskHow) where
  -- the report on lines of sequences, and on the records of the second input
  abbrev pub mask_good : Good SequenceLine → Good Feature → Report
  mask_good first second = (mask_met how first second)

  pub mask_is : (full : Bool) (texts : Texts) → on_texts (MaskFasta how full) None texts ≡ mask_good (good (sequence_format full) First (text_lines texts.first)) (good block_format Second (text_lines texts.second))
  unfolding report_of
  mask_is full texts = grind arith

  -- the rule of records and their fault
  abbrev pub rule_of : List (List ℕ) → List (Member Feature) → Option FaultValue → Rule SequenceLine
  rule_of names members fault = mask_rule how names (record { members = members; fault = fault })

  met_sound : (names : List (List ℕ)) (lines : List SequenceLine) (fault : Option FaultValue) (members : List (Member Feature)) (second : Option FaultValue)
      → (join_report (rule_of names members second) lines fault).fault ≡ None → (fault ≡ None) × (second ≡ None) × (no_sequence names members ≡ None)
  met_sound names lines fault members None e =
      grind (arith, (met_fault_all (rule_of names members None) lines fault (all_decided how names (record { members = members; fault = None }) lines refl)))
  met_sound names lines fault members (Some f) e = absurd (grind arith)

-- ---- records without a sequence

-- the first record that belongs to none
record FirstLost (names : List (List ℕ)) (ms : List (Member Feature)) : Type 0 where
  past : List (Member Feature)
  it : Member Feature
  more : List (Member Feature)
  is : ms ≡ past ++ it ∷ more
  kept : is_some (leave (Some names) None (items past)) ≡ true
  lost : leave (Some names) None (items (past ++ it ∷ [])) ≡ None

find_lost : (names : List (List ℕ)) (past ms : List (Member Feature)) → is_some (leave (Some names) None (items past)) ≡ true → leave (Some names) None (items (past ++ ms)) ≡ None → FirstLost names (past ++ ms)
find_lost names past [] kept lost = grind (arith, append-nil)
find_lost names past (m ∷ ms) kept lost = grind (arith, leave, items, append_assoc, (find_lost names (past ++ m ∷ []) ms))

-- it is reported that there is no sequence for it
pub told_lost : (names : List (List ℕ)) (ms : List (Member Feature)) → leave (Some names) None (items ms) ≡ None → (line : ℕ) × (no_sequence names ms ≡ Some (fault_at_line Second line NoSequence))
told_lost names ms lost =
    let f = find_lost names [] ms refl lost in (
      f.it.line,
      ap (no_sequence names) f.is
          ∙ first_is_told names f.past f.more f.it
          (ap is_some (sym (leave_all (Some names) (items f.past))) ∙ f.kept)
          (sym (leave_all (Some names) (items (f.past ++ f.it ∷ []))) ∙ f.lost),
    )

pub none_owned : (names : List (List ℕ)) (ms : List (Member Feature)) → no_sequence names ms ≡ None → is_some (leave (Some names) None (items ms)) ≡ true
none_owned names ms e = grind (arith, (leave (Some names) None (items ms)), told_lost)

-- ---- a report without a fault

-- no line is at fault, and each record has a sequence
pub record IsSound (first : Good SequenceLine) (second : Good Feature) : Type 0 where
  pub lines : first.fault ≡ None
  pub records : second.fault ≡ None
  pub owned : is_some (leave (Some (names_of_sequences (items_in first))) None (items_in second)) ≡ true

module _ (how : MaskHow) (first : Good SequenceLine) (second : Good Feature) where
  pub report_sound : (mask_good how first second).fault ≡ None → IsSound first second
  report_sound e =
      let all = met_sound how (names_of_sequences (items_in first)) (items_in first) first.fault second.members second.fault e in
      record { lines = all.0; records = all.1; owned = none_owned (names_of_sequences (items_in first)) second.members all.2 }

  pub sound_report : IsSound first second → (mask_good how first second).fault ≡ None
  sound_report s = grind (arith, lack_none, leave_all)

  pub sound_output : second.fault ≡ None → (mask_good how first second).output ≡ flat_map (masked_line how (items_in second)) (items_in first)
  sound_output e = faultless_masked how (names_of_sequences (items_in first)) (items_in first) first.fault second e

-- ---- masked lines of both parts

module _ (how : MaskHow) where
  -- of the second
  pub line_second : (names rest : List (List ℕ)) (ones twos : List Feature) → leave (Some names) None ones ≡ Some rest → IsLost names ones twos → (line : SequenceLine) → is_unnamed line.names ≡ false
      → masked_line how (ones ++ twos) (line_after names line) ≡ masked_line how twos line
  line_second names rest ones twos kept lost line named = grind (arith, own_second)

  -- the lines of the first part
  pub lines_first : (names : List (List ℕ)) (ones twos : List Feature) (ls : List SequenceLine) → IsLost names ones twos → AllByRecursion (λ line. (more : List (List ℕ)) × (names ≡ line.names ++ more)) ls
      → AllByRecursion (λ line. masked_line how (ones ++ twos) line ≡ masked_line how ones line) ls
  lines_first names ones twos ls lost begins = all_so _ _ ls (λ line b. grind (arith, own_first, lost_fewer)) begins

  -- the lines of both parts
  pub lines_both : (names rest : List (List ℕ)) (ones twos : List Feature) (ls ms : List SequenceLine) → leave (Some names) None ones ≡ Some rest → IsLost names ones twos
      → AllByRecursion (λ line. (more : List (List ℕ)) × (names ≡ line.names ++ more)) ls → AllByRecursion (λ line. is_unnamed line.names ≡ false) ms
      → flat_map (masked_line how (ones ++ twos)) (ls ++ map (line_after names) ms) ≡ flat_map (masked_line how ones) ls ++ flat_map (masked_line how twos) ms
  lines_both names rest ones twos ls ms kept lost begins named =
      flat_map-append (masked_line how (ones ++ twos)) ls (map (line_after names) ms)
      ∙ ap₂ (λ a b. a ++ b) (flat_map_same _ _ ls (lines_first names ones twos ls lost begins))
      (flat_map-map (masked_line how (ones ++ twos)) (line_after names) ms ∙ flat_map_same _ _ ms (all_so _ _ ms (λ line n. grind (arith, own_second)) named))

-- The reports of maskfasta on two parts, and on both.

-- records that belong to none begin on another chromosome
begins_elsewhere : (names rest : List (List ℕ)) (ones : List Feature) → leave (Some names) None ones ≡ Some rest → (twos : List Feature) → IsLost names ones twos → BeginsElsewhere (last_from None ones) twos
begins_elsewhere names rest ones kept [] lost = tt
begins_elsewhere names rest ones kept (r ∷ rs) lost = apart_next names rest ones kept r rs lost

-- if the first record that the lines say belongs to none, so does the first good one
lost_good : (names : List (List ℕ)) (ones : List Feature) (ms : List TextLine) → IsLost names ones (records_on ms) → IsLost names ones (items_in (good_after block_format Second None ms))
unfolding good_after line_says
lost_good names ones [] lost = tt
lost_good names ones (m ∷ ms) lost = grind (arith, (lost_good names ones ms))

-- ---- written lines

module _ (mine yours : Rule SequenceLine) (move : SequenceLine → SequenceLine) where
  -- lines that were moved, by a rule that says the same of them
  written_moved : (xs : List SequenceLine) → AllByRecursion (λ x. (mine.decided (move x) ≡ yours.decided x) × (mine.lines (move x) ≡ yours.lines x)) xs → written mine (map move xs) ≡ written yours xs
  written_moved [] h = refl
  written_moved (x ∷ xs) h =
      grind
      (arith, (written_at mine (move x) (map move xs) (mine.decided (move x)) refl), (written_at yours x xs (yours.decided x) refl), (written_moved xs h.1))

module _ (how : MaskHow) (full : Bool) where
  -- what is good of FASTA text, and of records in blocks
  abbrev pub F : List ℕ → Good SequenceLine
  F text = good (sequence_format full) First (text_lines text)

  abbrev pub B : List ℕ → Good Feature
  B text = good block_format Second (text_lines text)

  abbrev pub report_on : Texts → Report
  report_on texts = mask_good how (F texts.first) (B texts.second)

  -- the names, and the records
  abbrev pub N : List ℕ → List (List ℕ)
  N text = names_of_sequences (items_in (F text))

  abbrev pub R : List ℕ → List Feature
  R text = items_in (B text)

  -- the rule for two texts
  abbrev rule_on : Texts → Rule SequenceLine
  rule_on texts = mask_rule how (N texts.first) (B texts.second)

  -- a record has no sequence, and no line before the first header is at fault
  pub record Lacks (texts : Texts) : Type 0 where
    pub lines : (F texts.first).fault ≡ None
    pub lost : leave (Some (N texts.first)) None (R texts.second) ≡ None

  lacks_decided : (texts : Texts) → Lacks texts → list_all (rule_on texts).decided (items_in (F texts.first)) ≡ true
  lacks_decided texts lacks = grind (arith, all_true, all_so, names_begin, decided_by_tags, any_lost)

  -- then all lines are written
  lacks_output : (texts : Texts) → Lacks texts → (report_on texts).output ≡ flat_map (masked_line how (R texts.second)) (items_in (F texts.first))
  lacks_output texts lacks = grind (arith, met_output, (all_written (rule_on texts) (items_in (F texts.first)) (lacks_decided texts lacks)), (lacks_decided texts lacks))

  -- and this is reported
  pub lacks_kind : (texts : Texts) → Lacks texts → option_map (λ fault. fault.kind) (report_on texts).fault ≡ Some NoSequence
  lacks_kind texts lacks = grind (arith, (lacks_decided texts lacks), (told_lost (N texts.first) (B texts.second).members lacks.lost))

  -- two parts, and both
  pub record AreTwo (one two : Texts) : Type 0 where
    pub first : StandsBefore one.first two.first
    pub second : StandsBefore one.second two.second
    pub begins : IsTrue (begins_sequence two.first)

  abbrev pub joined_two : Texts → Texts → Texts
  joined_two one two = record { first = one.first ++ two.first; second = one.second ++ two.second }

  module _ (one two : Texts) (are : AreTwo one two) where
    abbrev both : Texts
    both = joined_two one two

    -- the lines of both, if the first part has no fault
    pub lines_of_both : (F one.first).fault ≡ None
        → (items_in (F (one.first ++ two.first)) ≡ items_in (F one.first) ++ map (line_after (N one.first)) (items_in (F two.first)))
        × ((F (one.first ++ two.first)).fault ≡ None)
    lines_of_both e = grind (arith, (fasta_both full First one.first two.first are.first are.begins))

    pub names_of_both : (F one.first).fault ≡ None → N (one.first ++ two.first) ≡ N one.first ++ N two.first
    names_of_both e = grind (arith, lines_of_both, names_both)

    named_two : AllByRecursion (λ line. is_unnamed line.names ≡ false) (items_in (F two.first))
    named_two = second_named full First one.first two.first are.first are.begins

    -- ---- text before its first header

    module _ (fault : FaultValue) (e : (F one.first).fault ≡ Some fault) where
      unnamed : AllByRecursion (λ line. is_unnamed line.names ≡ true) (items_in (F one.first))
      unnamed = grind (arith, unnamed_from)

      stops_unnamed : (report_on one).output ≡ (report_on both).output
      stops_unnamed = grind (arith, (fasta_both full First one.first two.first are.first are.begins), all_true, all_so, unnamed, flat_map_same, unnamed_own)

    -- ---- its records have sequences

    module _ (lines : (F one.first).fault ≡ None) (rest : List (List ℕ)) (kept : leave (Some (N one.first)) None (R one.second) ≡ Some rest) where
      -- records of the first part alone decide no line of the second
      undecided : (second : Good Feature) → is_none second.fault ≡ false → items_in second ≡ R one.second → (names : List (List ℕ))
          → AllByRecursion (λ line. (mask_rule how names second).decided line ≡ false) (map (line_after (N one.first)) (items_in (F two.first)))
      undecided second e same names = all_map _ (line_after (N one.first)) (items_in (F two.first)) (all_so _ _ (items_in (F two.first)) (λ line u. each line u) named_two)
        where
          by_names : (line : SequenceLine) (own : List (List ℕ)) → line.names ≡ own → is_unnamed own ≡ false → (is_unnamed (N one.first ++ line.names) || list_any (tag_decides (bases_up_to line)) (tags_of (N one.first ++ line.names) (R one.second))) ≡ false
          by_names line [] is u = cc
          by_names line (n ∷ ns) is u = grind (arith, (named_more (N one.first) (n ∷ ns) refl), any_behind)

          each : (line : SequenceLine) → is_unnamed line.names ≡ false → (mask_rule how names second).decided (line_after (N one.first) line) ≡ false
          each line u = ap₂ (λ b records. b || line_decided (line_after (N one.first) line) records) e same ∙ decided_by_tags (line_after (N one.first) line) (R one.second) ∙ by_names line line.names refl u

      -- a record of it is at fault
      stops_faulty : (fault : FaultValue) → (B one.second).fault ≡ Some fault → (report_on one).output ≡ (report_on both).output
      stops_faulty fault e = grind (arith, (faulty_same Second one.second two.second are.second fault e), (met_output (rule_on one) (items_in (F one.first)) (F one.first).fault), (met_output (rule_on both) (items_in (F (one.first ++ two.first))) (F (one.first ++ two.first)).fault), (lines_of_both lines), (written_before (mask_rule how (N (one.first ++ two.first)) (B one.second)) (items_in (F one.first)) (map (line_after (N one.first)) (items_in (F two.first))) (undecided (B one.second) (ap is_none e) refl (N (one.first ++ two.first)))))

      -- none is, and no record of the second part belongs to a sequence of it
      module _ (records : (B one.second).fault ≡ None) (said : IsLost (N one.first) (R one.second) (said_records two.second)) where
        lost_here : IsLost (N one.first) (R one.second) (R two.second)
        lost_here = grind (arith, lost_good)

        joint : (R (one.second ++ two.second) ≡ R one.second ++ R two.second) × (is_none (B (one.second ++ two.second)).fault ≡ is_none (B two.second).fault)
        joint =
            fresh_joint Second one.second two.second are.second records
            (begins_elsewhere (N one.first) rest (R one.second) kept (said_records two.second) said)

        first_output : (report_on one).output ≡ flat_map (masked_line how (R one.second)) (items_in (F one.first))
        first_output = sound_output how (F one.first) (B one.second) records

        all_lines : flat_map (masked_line how (R (one.second ++ two.second))) (items_in (F (one.first ++ two.first)))
            ≡ flat_map (masked_line how (R one.second)) (items_in (F one.first)) ++ flat_map (masked_line how (R two.second)) (items_in (F two.first))
        all_lines = grind (arith, joint, lines_of_both, lines_both, lost_here, names_begin, named_two)

        -- the second part lacks a sequence: so does the whole
        both_lack : Lacks two → Lacks both
        both_lack lacks = grind (arith, lines_of_both, names_of_both, joint, later_leave, lost_here)

        both_lines : Lacks two → (report_on both).output ≡ (report_on one).output ++ (report_on two).output
        both_lines lacks = lacks_output both (both_lack lacks) ∙ all_lines ∙ sym (ap₂ (λ a b. a ++ b) first_output (lacks_output two lacks))

        -- no record of it is at fault
        none_of_both : (B two.second).fault ≡ None → (B (one.second ++ two.second)).fault ≡ None
        none_of_both e = grind (arith, joint)

        no_fault : (B two.second).fault ≡ None → (report_on both).output ≡ (report_on one).output ++ (report_on two).output
        no_fault e =
            sound_output how (F (one.first ++ two.first)) (B (one.second ++ two.second)) (none_of_both e)
            ∙ all_lines
            ∙ sym (ap₂ (λ a b. a ++ b) first_output (sound_output how (F two.first) (B two.second) e))

        -- or one is
        abbrev W : Rule SequenceLine
        W = rule_on both

        first_same : AllByRecursion (λ line. W.lines line ≡ masked_line how (R one.second) line) (items_in (F one.first))
        first_same = grind (arith, all_so, joint, lost_here, names_begin, (lines_first how (N one.first) (R one.second) (R two.second) (items_in (F one.first)) lost_here (names_begin full First (text_lines one.first))))

        second_same : written W (map (line_after (N one.first)) (items_in (F two.first))) ≡ (report_on two).output
        second_same =
            written_moved W (rule_on two) (line_after (N one.first)) (items_in (F two.first)) (all_so _ _ (items_in (F two.first)) (λ line u. same line u) named_two)
            ∙ sym (met_output (rule_on two) (items_in (F two.first)) (F two.first).fault)
          where
            by_names : (line : SequenceLine) (own : List (List ℕ)) → line.names ≡ own → is_unnamed own ≡ false
                → (is_unnamed (N one.first ++ line.names) || list_any (tag_decides (bases_up_to line)) (tags_of (N one.first ++ line.names) (R one.second ++ R two.second)))
                ≡ (is_unnamed line.names || list_any (tag_decides (bases_up_to line)) (tags_of line.names (R two.second)))
            by_names line [] is u = cc
            by_names line (n ∷ ns) is u = grind (arith, (named_more (N one.first) (n ∷ ns) refl), any_second, lost_here)

            same : (line : SequenceLine) → is_unnamed line.names ≡ false → (W.decided (line_after (N one.first) line) ≡ (rule_on two).decided line) × (W.lines (line_after (N one.first) line) ≡ (rule_on two).lines line)
            same line u = (
              ap₂ (λ a b. a || b) joint.1
                  (ap (line_decided (line_after (N one.first) line)) joint.0 ∙ decided_by_tags (line_after (N one.first) line) (R one.second ++ R two.second) ∙ by_names line line.names refl u ∙ sym (decided_by_tags line (R two.second))),
              ap (λ records. masked_line how records (line_after (N one.first) line)) joint.0 ∙ line_second how (N one.first) rest (R one.second) (R two.second) kept lost_here line u,
            )

        -- all lines of the first part are decided, or none of the second
        either : (g : Option FaultValue) → (B two.second).fault ≡ g → (rs : List Feature) → R two.second ≡ rs
            → (list_all W.decided (items_in (F one.first)) ≡ true) ⊎ AllByRecursion (λ line. W.decided line ≡ false) (map (line_after (N one.first)) (items_in (F two.first)))
        either None e rs is = grind (arith, all_true, all_any, joint)
        either (Some fault) e [] is = inr (undecided (B (one.second ++ two.second)) (joint.1 ∙ ap is_none e) (joint.0 ∙ ap (λ twos. R one.second ++ twos) is ∙ append-nil (R one.second)) (N (one.first ++ two.first)))
        either (Some fault) e (r ∷ rs) is = grind (arith, all_true, all_so, names_begin, joint, decided_by_tags, tags_first, list_any-append, left_fewer, lost_here)

        pub stops_sound : (report_on one).fault ≡ None → Stops (report_on one) (report_on two) (report_on both)
        stops_sound none =
            let more = meets (rule_on one) W (items_in (F one.first)) (map (line_after (N one.first)) (items_in (F two.first))) (report_on two).output first_same second_same (either (B two.second).fault refl (R two.second) refl) in
            (more.0, grind (arith, first_output, (met_output W (items_in (F (one.first ++ two.first))) (F (one.first ++ two.first)).fault), lines_of_both))

    -- both parts are sound
    both_sound : IsSound (F one.first) (B one.second) → IsSound (F two.first) (B two.second) → IsLost (N one.first) (R one.second) (said_records two.second)
        → IsSound (F (one.first ++ two.first)) (B (one.second ++ two.second))
        × ((report_on both).output ≡ (report_on one).output ++ (report_on two).output)
    both_sound first second said = grind (arith, lines_of_both, joint, names_of_both, both_owned, lost_here, no_fault)

    -- both parts are without a fault
    both_hold : (IsSound (F one.first) (B one.second) → IsLost (N one.first) (R one.second) (said_records two.second)) → (report_on one).fault ≡ None → (report_on two).fault ≡ None
        → ((report_on both).fault ≡ None) × ((report_on both).output ≡ (report_on one).output ++ (report_on two).output)
    both_hold lost e d =
        let first = report_sound how (F one.first) (B one.second) e in
        let all = both_sound first (report_sound how (F two.first) (B two.second) d) (lost first) in
        (sound_report how (F (one.first ++ two.first)) (B (one.second ++ two.second)) all.0, all.1)

    -- names may be repeated
    pub two_suffice : BelongsToNone (sequence_names full one.first) (said_records one.second) (said_records two.second) → (report_on one).fault ≡ None
        → (report_on two).fault ≡ None
        → ((report_on both).fault ≡ None) × ((report_on both).output ≡ (report_on one).output ++ (report_on two).output)
    two_suffice has = grind (arith, both_hold, names_grown, sound_from, leave_all)

    -- no record is named as a sequence of the other part
    module _ (off_two : MasksNone full one two) (off_one : MasksNone full two one) where
      ones_away : AreOff (N two.first) (R one.second)
      ones_away =
          subst (λ names. AreOff names (R one.second))
          (sym (names_grown full First two.first (second_sound full First one.first two.first are.first are.begins)))
          (among Second _ (text_lines one.second) off_two)

      said_lost : (F one.first).fault ≡ None → IsLost (N one.first) (R one.second) (said_records two.second)
      said_lost e = subst (λ names. IsLost names (R one.second) (said_records two.second)) (sym (names_grown full First one.first e)) (lost_off _ (R one.second) (said_records two.second) off_one)

      -- if both are sound, so is each part
      module _ (whole : IsSound (F (one.first ++ two.first)) (B (one.second ++ two.second))) where
        lines_one : (F one.first).fault ≡ None
        lines_one = grind (arith, (fasta_both full First one.first two.first are.first are.begins), ((F one.first).fault))

        calm : ((B one.second).fault ≡ None) × ((B two.second).fault ≡ None) × (R (one.second ++ two.second) ≡ R one.second ++ R two.second)
        calm = grind (arith, calm_joint)

        owned_both : is_some (leave (Some (N one.first ++ N two.first)) None (R one.second ++ R two.second)) ≡ true
        owned_both = grind (arith, names_of_both, lines_one, calm)

        twos_lost : IsLost (N one.first) (R one.second) (R two.second)
        twos_lost = grind (arith, lost_good, said_lost, lines_one)

        sound_by : (o : Option (List (List ℕ))) → leave (Some (N one.first)) None (R one.second) ≡ o
            → IsSound (F one.first) (B one.second) × IsSound (F two.first) (B two.second)
        sound_by None is = grind (arith, lost_more, ones_away, leave_append, none_leaves, owned_both)
        sound_by (Some rest) is = (
          record { lines = lines_one; records = calm.0; owned = ap is_some is },
          record {
            lines = second_sound full First one.first two.first are.first are.begins;
            records = calm.1;
            owned = sym (both_owned (N one.first) rest (R one.second) is (N two.first) (R two.second) twos_lost) ∙ owned_both;
          },
        )

        pub parts_sound : IsSound (F one.first) (B one.second) × IsSound (F two.first) (B two.second)
        parts_sound = grind (arith, sound_by)

      pub mask_adds : Adds (report_on one) (report_on two) (report_on both)
      mask_adds = record {
        parts = λ e.
            let sound = parts_sound (report_sound how (F (one.first ++ two.first)) (B (one.second ++ two.second)) e) in
            (sound_report how (F one.first) (B one.second) sound.0, sound_report how (F two.first) (B two.second) sound.1);
        both = λ e d. (both_hold (λ first. said_lost first.lines) e d).0;
        output = λ e d. (both_hold (λ first. said_lost first.lines) e d).1;
      }

      -- ---- the first part lacks a sequence

      module _ (lacks : Lacks one) where
        whole_lacks : Lacks both
        whole_lacks = record {
          lines = (lines_of_both lacks.lines).1;
          lost =
              let more = first_front Second one.second two.second are.second in
              ap₂ (λ names records. leave (Some names) None records) (names_of_both lacks.lines) more.1
              ∙ none_behind (N one.first ++ N two.first) (R one.second) more.0
              (lost_more (N one.first) (N two.first) None (R one.second) ones_away lacks.lost);
        }

        goes_on : (more : List ℕ) × ((report_on both).output ≡ (report_on one).output ++ more)
        goes_on =
            let more = first_front Second one.second two.second are.second in
            let later = map (line_after (N one.first)) (items_in (F two.first)) in (
              flat_map (masked_line how (R one.second ++ more.0)) later,
              lacks_output both whole_lacks
                  ∙ ap₂ (λ records lines. flat_map (masked_line how records) lines) more.1 (lines_of_both lacks.lines).0
                  ∙ flat_map-append (masked_line how (R one.second ++ more.0)) (items_in (F one.first)) later
                  ∙ ap (λ l. l ++ flat_map (masked_line how (R one.second ++ more.0)) later)
                  (flat_map_same _ _ (items_in (F one.first)) (lines_first how (N one.first) (R one.second) more.0 (items_in (F one.first)) (grind (arith, none_behind)) (names_begin full First (text_lines one.first)))
                  ∙ sym (lacks_output one lacks)),
            )

      -- ---- any fault of the first part

      -- it stops the whole, or the whole goes on without a sequence for some record
      abbrev pub StopsOrGoes : Type 0
      StopsOrGoes = ((rest : List ℕ) × ((report_on one).output ≡ (report_on both).output ++ rest))
          ⊎ (Lacks both × ((more : List ℕ) × ((report_on both).output ≡ (report_on one).output ++ more)))

      pub faulty_first : ((report_on one).fault ≡ None → ⊥) → StopsOrGoes
      faulty_first some = by_lines (F one.first).fault refl
        where
          by_records : (g : Option FaultValue) → (B one.second).fault ≡ g → (F one.first).fault ≡ None → (rest : List (List ℕ)) → leave (Some (N one.first)) None (R one.second) ≡ Some rest → StopsOrGoes
          by_records None e lines rest kept = absurd (some (sound_report how (F one.first) (B one.second) (record { lines = lines; records = e; owned = ap is_some kept })))
          by_records (Some fault) e lines rest kept = inl ([], stops_faulty lines rest kept fault e ∙ sym (append-nil (report_on both).output))

          by_left : (o : Option (List (List ℕ))) → leave (Some (N one.first)) None (R one.second) ≡ o → (F one.first).fault ≡ None → StopsOrGoes
          by_left None e lines = let lacks : Lacks one = record { lines = lines; lost = e } in inr (whole_lacks lacks, goes_on lacks)
          by_left (Some rest) e lines = by_records (B one.second).fault refl lines rest e

          by_lines : (g : Option FaultValue) → (F one.first).fault ≡ g → StopsOrGoes
          by_lines None e = by_left (leave (Some (N one.first)) None (R one.second)) refl e
          by_lines (Some fault) e = inl ([], stops_unnamed fault e ∙ sym (append-nil (report_on both).output))

      -- the first part has none: what the second part does, the whole does
      pub sound_stops : (report_on one).fault ≡ None → Stops (report_on one) (report_on two) (report_on both)
      sound_stops none =
          let first = report_sound how (F one.first) (B one.second) none in
          let left = some_list (leave (Some (N one.first)) None (R one.second)) first.owned in
          stops_sound first.lines left.0 left.1 first.records (said_lost first.lines) none

      pub sound_goes : (report_on one).fault ≡ None → Lacks two → Lacks both × ((report_on both).output ≡ (report_on one).output ++ (report_on two).output)
      sound_goes none lacks =
          let first = report_sound how (F one.first) (B one.second) none in
          let left = some_list (leave (Some (N one.first)) None (R one.second)) first.owned in
          (both_lack first.lines left.0 left.1 first.records (said_lost first.lines) lacks, both_lines first.lines left.0 left.1 first.records (said_lost first.lines) lacks)
