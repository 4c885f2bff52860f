-- What giving an engine that masks does, by the parts of a run.
use Rattle.bt_lines.proofs.Std.{◌⊎◌, rules, ◌≡◌, arith, ℕ, ◌+◌, ◌*◌, ◌<◌, ◌≤◌, Option, Some, Result, Ok, Err, is_some, length, suc, Bool, true, false, not, List, [], ◌∷◌, ◌++◌, None, refl, sym, ap, ◌∙◌, subst, append-nil, append_assoc, option_to_list, inl, inr, IsTrue, false≢true, or_right, map-append}
use Rattle.bt_lines.specs.declared.device.Source.{Ghosts as Source}
use Rattle.bt_lines.specs.model.Fault.{FaultValue}
use Rattle.bt_lines.specs.calls.Names.{fault_value}
use Rattle.bt_lines.specs.calls.Output.{Output, FailsToAdd, Grown}
use Rattle.bt_lines.specs.calls.Reader.{buffered_bytes, room as line_room, GivesEnd, GivesFault, IsKept, MakesLine, has_ended, lines_given}
use Rattle.bt_lines.specs.declared.fault.Fault.{Fault}
use Rattle.bt_lines.specs.declared.reader.line_reader.LineReader.{LineReader}
use Rattle.bt_bed.specs.model.Feature.{Feature}
use Rattle.bt_bed.specs.model.BedLine.{fault_at_line}
use Rattle.bt_bed.specs.model.Sorted.{Locus}
use Rattle.bt_bed.specs.calls.Reading.{MemberReader, room, ahead_in, first_from, coming, state_behind}
use Rattle.bt_bed.specs.calls.Stage.{given}
use Rattle.bt_seq.specs.calls.MaskStage.{MaskStage, reached, reached_by, mask_want_of, with_bed_ended, with_lines_ended}
use Rattle.bt_seq.specs.calls.MaskState.{Masking, left_after}
use Rattle.bt_seq.specs.model.Masked.{line_decided, masked_line, names_of_sequences, no_sequence}
use Rattle.bt_seq.specs.model.Fasta.{Reached, SequenceLine, sequence_says, sequence_format}
use Rattle.bt_seq.specs.declared.mask.MaskWant.{MaskWant}
use Rattle.bt_tool.specs.declared.loops.masking.MaskRun.{MaskRun}
use Rattle.bt_tool.specs.inside.Feed.{IsKeptBelow, member_items}
use Rattle.bt_tool.specs.inside.Pair.{PairEnds, JoinDef, Pair, SettlesPair, item_ahead, AsksFor, Comes}
use Rattle.bt_tool.specs.inside.MaskLoop.{LoopGoesOn, begun_pair, mask_join, mask_rounds, wanted_by, AreOwned, Masks, leaves_some_line, line_members, nothing_reached}
use Rattle.bt_tool.specs.inside.Rounds.{IsBuffered}
use Rattle.std.specs.List.{last_or}
use Rattle.bt_lines.specs.model.Lines.{TextLine}
use Rattle.bt_lines.specs.declared.fault.Input.TheVariants.{Second}
use Rattle.bt_lines.specs.declared.fault.Kind.{Kind}
use Rattle.bt_lines.specs.declared.fault.Kind.TheVariants.{NoSequence}
use Rattle.bt_bed.specs.calls.Blocks.{view_of}
use Rattle.bt_bed.specs.model.Good.{Format, Good, Member}
use Rattle.bt_seq.proofs.lemmas.definitions.MaskPrefixLemmas.{decided_stays, masked_before, first_is_told, lack_none}
use Rattle.bt_seq.specs.calls.MaskSteps.{FailsAtRecord, MaskMovesTo, MaskStandsAt}
use Rattle.bt_bed.specs.calls.Orders.{AreInBlocks}
use Rattle.bt_seq.proofs.lemmas.mask.steps.CopyLemmas.{last_waits, wants_bed, wants_line}
use Rattle.bt_seq.proofs.lemmas.mask.steps.AdvanceLemmas.{going}
use Rattle.bt_seq.specs.declared.mask.mask_how.MaskHow.{MaskHow}
use Rattle.bt_seq.specs.declared.mask.MaskWant.TheVariants.{Line as WantLine, Bed as WantBed, Nothing}
use Rattle.bt_tool.specs.model.TwoInputs.{is_fasta_kind, is_mask_kind}
use Rattle.bt_tool.proofs.lemmas.running.members.MemberLemmas.{IsFilled, IsOver, IsStopped}
use Rattle.bt_tool.proofs.lemmas.running.members.BlockMembers.{gives_over, gives_unread, passes_made, wrong_is_text}
use Rattle.bt_tool.proofs.lemmas.running.mask.MaskFacts.{ahead_first, first_of, says_of_blocks}
use Rattle.bt_tool.proofs.lemmas.running.pair.PairTurns.{settles_with}
use Rattle.bt_tool.proofs.lemmas.running.pair.PairStops as stop
use Rattle.bt_tool.proofs.lemmas.running.pair.PairTurns as turned

module _ {A B : Type 0} (lines : LineReader A) (second : MemberReader B Feature (Option Locus)) where
  abbrev pub mask_left : Masking → ℕ
  mask_left mask = 4 * (line_room lines + room second) + mask_rounds (is_some mask.waiting) mask.want

  -- what is wanted is buffered
  abbrev pub IsMaskReady : MaskWant → Type 0
  IsMaskReady want = IsBuffered (wanted_by want) (length (buffered_bytes lines)) (length second.buffered)

module _ {A B : Type 0} (source_a : Source A) (source_b : Source B) (start : MaskRun A B) (out : Output) where
  -- masking has ended
  abbrev pub MaskEnds : Option FaultValue → LineReader A → MemberReader B Feature (Option Locus) → Output → Type 0
  MaskEnds fault lines second grown = (members : MemberReader A SequenceLine Reached) × (members.below ≡ lines)
      × PairEnds (mask_join start.mask.how) (begun_pair source_a source_b start out) out fault members second grown
      × IsKeptBelow members lines

  -- what is buffered was given, as far as it is wanted
  abbrev pub AdvancesMask : {T : Type 0} → LineReader A → MemberReader B Feature (Option Locus) → Masking → Result T Fault → LineReader A → MemberReader B Feature (Option Locus) → Masking → Output → Type 0
  AdvancesMask old old_second old_mask (Ok done) lines second mask grown =
      LoopGoesOn source_a source_b start out lines second mask grown × (mask_left lines second mask ≤ mask_left old old_second old_mask)
      × (IsMaskReady old old_second old_mask.want → mask_left lines second mask < mask_left old old_second old_mask)
  AdvancesMask old old_second old_mask (Err fault) lines second mask grown = MaskEnds (Some (fault_value fault)) lines second grown

-- Lemmas on how far a masking engine over two readers has come: what it wants, and what its inputs still have then.

-- what is wanted shows what waits
wants_none : (w : Option SequenceLine) (lines_ended bed_ended : Bool) → mask_want_of (is_some w) lines_ended bed_ended ≡ Nothing → (w ≡ None) × (lines_ended ≡ true) × (bed_ended ≡ true)
wants_none w lines_ended bed_ended e = grind arith

-- how far the lines given have come is what is known after them
reached_said : (full : Bool) (line : SequenceLine) (lines : List SequenceLine) (state : Reached)
    → state_behind (sequence_format full) state (line ∷ lines) ≡ reached_by (last_or None (line ∷ lines))
reached_said full line [] state = refl
reached_said full line (next ∷ lines) state = reached_said full next lines ((sequence_format full).after state line)

pub reached_behind : (full : Bool) (lines : List SequenceLine) → state_behind (sequence_format full) (record { names = []; bases = 0 }) lines ≡ reached_by (last_or None lines)
reached_behind full [] = refl
reached_behind full (line ∷ lines) = reached_said full line lines (record { names = []; bases = 0 })

-- the last line is one of them
last_leaves : (lines : List SequenceLine) (line : SequenceLine) (records : List Feature) → last_or None lines ≡ Some line → line_decided line records ≡ false → IsTrue (leaves_some_line lines records)
last_leaves [] line records e open_at = cc
last_leaves (x ∷ []) line records e open_at = grind arith
last_leaves (x ∷ next ∷ lines) line records e open_at = or_right (not (line_decided x records)) (leaves_some_line (next ∷ lines) records) (last_leaves (next ∷ lines) line records e open_at)

-- if records were taken, they leave one of the lines given undecided
asked_at : {stage : MaskStage} {mask : Masking} → MaskStandsAt stage mask → stage.inputs.first_ended ≡ false → (stage.inputs.taken ≡ []) ⊎ IsTrue (leaves_some_line (given stage.inputs) stage.inputs.taken)
asked_at stands going = grind (arith, last_leaves)

-- a line that waits isn't decided by what was taken
undecided_at : {stage : MaskStage} {mask : Masking} → MaskStandsAt stage mask → (line : SequenceLine) → stage.inputs.waiting ≡ Some line → line_decided line stage.inputs.taken ≡ false
undecided_at {stage} stands line waits = grind (arith, (last_waits stage line waits))

-- the first record without a sequence
told_by : (names : List (List ℕ)) (good : Good Feature) (past : List (Member Feature)) (m : Member Feature) (fault : FaultValue) → fault ≡ fault_at_line Second m.line NoSequence
    → is_some (left_after names (member_items past)) ≡ true → left_after names (member_items (past ++ m ∷ [])) ≡ None
    → (rest : List (Member Feature)) × (good.members ≡ (past ++ m ∷ []) ++ rest) → no_sequence names good.members ≡ Some fault
told_by names good past m fault is owned unowned begins = grind (arith, append_assoc, first_is_told)

-- a record that was ahead still is
kept_filled : {S State : Type 0} (device : Source S) (now new : MemberReader S Feature State) (r : Feature) → item_ahead now ≡ Some r → IsFilled device now new → item_ahead new ≡ Some r
kept_filled {S} {State} device now new r was filled = grind arith

-- none is if nothing is buffered
none_ahead : {S State : Type 0} (now : MemberReader S Feature State) (r : Feature) → now.buffered ≡ [] → item_ahead now ≡ Some r → ⊥
none_ahead now r none was = let apart : None ≡ Some r = sym (ahead_first now ∙ ap first_of none) ∙ was in cc

pub wrong_first : (full : Bool) (state : Reached) (line : TextLine) (kind : Kind) → sequence_says full state line ≡ Err kind → is_fasta_kind kind ≡ true
wrong_first full state line kind e = rw (wrong_is_text full state line kind e) refl

-- a line that the next record decides stays as it is, whatever follows
stays_before : (how : MaskHow) (line : SequenceLine) (taken : List Feature) (r : Feature) (next : Option Feature) → next ≡ Some r → line_decided line (taken ++ r ∷ []) ≡ true → (rest : List Feature) → AreInBlocks ((taken ++ option_to_list next) ++ rest)
    → (line_decided line ((taken ++ option_to_list next) ++ rest) ≡ true) × (masked_line how ((taken ++ option_to_list next) ++ rest) line ≡ masked_line how taken line)
stays_before how line taken r next e decides rest ordered = grind (arith, append_assoc, decided_stays, masked_before)

-- masking has come so far
module _ {A B : Type 0} {source_a : Source A} {source_b : Source B} {start : MaskRun A B} {before : Output} {at : Reached} {lines : LineReader A} {second : MemberReader B Feature (Option Locus)}
    {mask : Masking} {grown : Output} (s : Masks source_a source_b start before at lines second mask grown) where
  abbrev join : JoinDef SequenceLine Feature
  join = mask_join start.mask.how

  abbrev pair : Pair A B SequenceLine Feature Reached (Option Locus)
  pair = begun_pair source_a source_b start before

  abbrev Going : Reached → LineReader A → MemberReader B Feature (Option Locus) → Masking → Output → Type 0
  Going = Masks source_a source_b start before

  abbrev EndsAt : Option FaultValue → LineReader A → MemberReader B Feature (Option Locus) → Output → Type 0
  EndsAt = MaskEnds source_a source_b start before

  -- it ends where the lines have come so far
  pub ends_at : {fault : Option FaultValue} (reached : Reached) {new : LineReader A} {second_now : MemberReader B Feature (Option Locus)} {now : Output}
      → PairEnds join pair before fault (line_members start.mask.full reached new) second_now now → EndsAt fault new second_now now
  ends_at reached {new} ends = (line_members start.mask.full reached new, refl, ends, λ input line e. e)

  wrong_second : (state : Option Locus) (line : TextLine) (kind : Kind) → (view_of start.records).format.says state line ≡ Err kind → is_mask_kind kind ≡ true
  wrong_second state line kind e = says_of_blocks state line.text kind (ap (λ (f : Format Feature (Option Locus)). f.says state line) (sym s.blocks_is) ∙ e)

  abbrev stage : MaskStage
  stage = s.stage

  -- the lines given have come as far as is known
  pub come_so_far : at ≡ reached stage
  come_so_far = grind (arith, reached_behind)

  pub asked : stage.inputs.first_ended ≡ false → join.Asks (given stage.inputs) stage.inputs.taken
  asked going_on = asked_at s.stands going_on

  pub asks_for : stage.inputs.first_ended ≡ false → AsksFor join pair before s.comes.first_passes.bytes.0 s.comes.second_passes.bytes.0 s.past_first second
  asks_for going_on = stop.asks_now s.comes (asked going_on)

  as_it_is : MaskMovesTo mask.how mask.full stage mask
  as_it_is = record { stands = s.stands; how_is = refl; full_is = refl }

  -- no more was given, and the engine is at another stage
  goes_on : {new : LineReader A} {second_now : MemberReader B Feature (Option Locus)} {masked : Masking} {now : Output} {next : MaskStage} → MaskMovesTo mask.how mask.full next masked
      → Comes join pair before next.inputs s.past_first s.past_second (line_members start.mask.full at new) second_now now
      → ((r : Feature) → next.ahead ≡ Some r → item_ahead second_now ≡ Some r) → (next.inputs.first_ended ≡ true → has_ended new ≡ true) → Going at new second_now masked now
  goes_on moves comes kept_ahead lines_over = grind arith

  -- if no line waits, the block of each record taken belongs to a sequence of the lines
  module _ (none : stage.inputs.waiting ≡ None) where
    owned_alone : AreOwned stage.inputs.written (member_items s.past_second)
    owned_alone = search rules

    none_lacks : join.last stage.inputs.written s.past_second ≡ None
    none_lacks = lack_none (names_of_sequences stage.inputs.written) s.past_second (search rules)

  -- a line that waits isn't decided by what was taken
  undecided : (line : SequenceLine) → stage.inputs.waiting ≡ Some line → line_decided line stage.inputs.taken ≡ false
  undecided line waits = undecided_at s.stands line waits

  -- a line is wanted
  module _ (wants : mask.want ≡ WantLine) where
    pub no_line : (stage.inputs.waiting ≡ None) × (stage.inputs.first_ended ≡ false)
    no_line = wants_line stage.inputs.waiting stage.inputs.first_ended stage.inputs.second_ended (sym s.stands.want_is ∙ wants)

    -- one is buffered now
    pub line_made : (new : LineReader A) → MakesLine source_a lines new → (IsKept source_a lines → IsKept source_a new) → Going at new second mask grown
    line_made new makes kept =
        goes_on as_it_is
        (turned.reads_first s.comes no_line.0 no_line.1 (line_members start.mask.full at new)
        (passes_made source_a start.mask.full (line_members start.mask.full nothing_reached start.lines) s.past_first at lines new s.comes.first_passes makes kept))
        s.kept_ahead (λ e. absurd (false≢true (sym no_line.1 ∙ e)))

    -- the end of the lines was given
    pub ends_lines : (new : LineReader A) (masked : Masking) → GivesEnd source_a lines new → (IsKept source_a lines → IsKept source_a new) → MaskMovesTo mask.how mask.full (with_lines_ended stage) masked → Going at new second masked grown
    ends_lines new masked ends kept stands =
        let over = gives_over source_a start.mask.full at lines new kept ends in
        grind (arith, (goes_on stands (turned.ends_first s.comes no_line.0 no_line.1 (line_members start.mask.full at new) over) s.kept_ahead (λ e. over.ends.ends)))

    -- a line couldn't be read
    pub stops_lines : (fault : FaultValue) (new : LineReader A) → GivesFault source_a lines fault new → (IsKept source_a lines → IsKept source_a new) → EndsAt (Some fault) new second grown
    stops_lines fault new gives kept =
        ends_at at (stop.stops_first s.comes asks_for tt (wrong_first start.mask.full) no_line.0 no_line.1 fault (line_members start.mask.full at new)
        (gives_unread source_a start.mask.full at lines new kept fault gives))

  -- a record is wanted, only while they may come
  module _ (wants : mask.want ≡ WantBed) where
    goes : stage.inputs.second_ended ≡ false
    goes = going s.stands wants stage.inputs.waiting refl

    pub lines_done : stage.inputs.waiting ≡ None → stage.inputs.first_ended ≡ true
    lines_done e = (wants_bed stage.inputs.first_ended stage.inputs.second_ended (rw e at (sym s.stands.want_is ∙ wants))).0

    -- one is buffered now
    pub record_made : (second_now : MemberReader B Feature (Option Locus)) → IsFilled source_b second second_now → Going at lines second_now mask grown
    record_made second_now filled =
        goes_on as_it_is
        (turned.fills_second s.comes goes second_now filled) (λ r e. kept_filled source_b second second_now r (s.kept_ahead r e) filled) s.lines_over

    -- the end of the records was given
    module _ (second_now : MemberReader B Feature (Option Locus)) (over : IsOver source_b second second_now) where
      -- and the waiting line was written
      pub ends_waiting : (a : SequenceLine) → stage.inputs.waiting ≡ Some a → (masked : Masking) (now : Output) → MaskMovesTo mask.how mask.full (with_bed_ended stage) masked → Grown grown (masked_line mask.how stage.inputs.taken a) now
          → Going at lines second_now masked now
      ends_waiting a waits masked now stands adds =
          goes_on stands
          (turned.ends_waiting s.comes goes second_now over a waits now (subst (λ (h : MaskHow). Grown grown (masked_line h stage.inputs.taken a) now) s.how_is adds))
          (λ r e. absurd (none_ahead second r over.ends.was_none (s.kept_ahead r e))) s.lines_over

      -- or none waited
      pub ends_alone : stage.inputs.waiting ≡ None → (masked : Masking) → MaskMovesTo mask.how mask.full (with_bed_ended stage) masked → Going at lines second_now masked grown
      ends_alone none masked stands =
          goes_on stands
          (turned.ends_alone s.comes goes second_now over none) (λ r e. absurd (none_ahead second r over.ends.was_none (s.kept_ahead r e))) s.lines_over

      -- the waiting line wasn't written
      pub fails_at_end : (a : SequenceLine) → stage.inputs.waiting ≡ Some a → (fault : FaultValue) (now : Output) → FailsToAdd grown (masked_line mask.how stage.inputs.taken a) fault now → EndsAt (Some fault) lines second_now now
      fails_at_end a waits fault now fails =
          ends_at at (stop.fails_at_end s.comes asks_for tt waits (asked (s.stands.waits a waits).lines) goes fault second_now now over
          (subst (λ (h : MaskHow). FailsToAdd grown (masked_line h stage.inputs.taken a) fault now) s.how_is fails))

    -- the second input couldn't give a record
    stops_by : (o : Option SequenceLine) → stage.inputs.waiting ≡ o → (fault : FaultValue) (second_now : MemberReader B Feature (Option Locus)) → IsStopped source_b second fault second_now → EndsAt (Some fault) lines second_now grown
    stops_by None e fault second_now stopped =
        ends_at at (stop.stops_behind s.comes asks_for tt (lines_done e) wrong_second goes (none_lacks e) fault second_now stopped)
    stops_by (Some a) e fault second_now stopped =
        ends_at at (stop.stops_second s.comes asks_for tt e wrong_second (asked (s.stands.waits a e).lines) goes (λ none. undecided a e) fault second_now stopped)

    pub stops_records : (fault : FaultValue) (second_now : MemberReader B Feature (Option Locus)) → IsStopped source_b second fault second_now → EndsAt (Some fault) lines second_now grown
    stops_records fault second_now stopped = stops_by stage.inputs.waiting refl fault second_now stopped

  -- a record is buffered, and failed
  module _ (wants : mask.want ≡ WantBed) (r : Feature) (behind : List Feature) (buffered : second.buffered ≡ r ∷ behind) where
    abbrev m : Member Feature
    m = record { line = suc (lines_given second.below); item = r }

    next : item_ahead second ≡ Some r
    next = ahead_first second ∙ ap first_of buffered

    m_ahead : ahead_in second ≡ Some m
    m_ahead = ap (first_from (suc (lines_given second.below))) buffered

    -- if it decides the waiting line, that stays as it is
    settles_decided : (a : SequenceLine) → line_decided a (stage.inputs.taken ++ r ∷ []) ≡ true → SettlesPair join (stage.inputs.written ++ a ∷ []) (s.comes.bytes ++ masked_line start.mask.how stage.inputs.taken a) (stage.inputs.taken ++ option_to_list (item_ahead second)) stage.inputs.second_ended
    settles_decided a decides =
        settles_with join stage.inputs.written s.comes.bytes (stage.inputs.taken ++ option_to_list (item_ahead second)) stage.inputs.second_ended a (masked_line start.mask.how stage.inputs.taken a) s.comes.settles
        (stays_before start.mask.how a stage.inputs.taken r (item_ahead second) next decides)

    fails_by : (o : Option SequenceLine) → stage.inputs.waiting ≡ o → (fault : FaultValue) (now : Output) → FailsAtRecord start.mask.how start.mask.full o stage r (suc (lines_given second.below)) grown fault now → EndsAt (Some fault) lines second now
    fails_by None none fault now lacks =
        ends_at at (rw lacks.same_output
        (stop.ends_rest s.comes asks_for tt (lines_done wants none) second
        s.comes.second_passes.bytes (stop.no_later s.comes) s.past_second (Some fault)
        (inr (inr (
          fault,
          refl,
          record {
            line = m.line;
            kind = NoSequence;
            is = lacks.is;
            of_kind = refl;
            told = λ rest follows. told_by (names_of_sequences stage.inputs.written) (coming (s.comes.second_passes.bytes.0 ++ rest) (view_of start.records)) s.past_second m fault lacks.is (owned_alone none) (grind (arith, map-append, append-nil))
                (stop.seen_begins (coming (s.comes.second_passes.bytes.0 ++ rest) (view_of start.records)) second rest follows s.past_second (Some m) m_ahead (s.comes.second_passes.come rest follows) s.comes.second_passes.ahead);
            serves = stop.second_serves s.comes;
          },
        )))))
    fails_by (Some a) waits fault now (inl writes) =
        ends_at at (stop.fails_waiting s.comes asks_for tt a waits (masked_line start.mask.how stage.inputs.taken a) (settles_decided a writes.decides) fault now writes.fails)
    fails_by (Some a) waits fault now (inr holds) =
        ends_at at (rw holds.same_output (stop.lacks_memory s.comes asks_for tt fault holds.is))

    pub fails_record : (fault : FaultValue) (now : Output) → FailsAtRecord start.mask.how start.mask.full stage.inputs.waiting stage r (suc (lines_given second.below)) grown fault now → EndsAt (Some fault) lines second now
    fails_record fault now fails = fails_by stage.inputs.waiting refl fault now fails

  -- both inputs have ended
  pub finishes : mask.want ≡ Nothing → EndsAt None lines second grown
  finishes wants =
      let ends = wants_none stage.inputs.waiting stage.inputs.first_ended stage.inputs.second_ended (sym s.stands.want_is ∙ wants) in
      ends_at at (stop.ends_all s.comes asks_for tt ends.1 ends.2 (none_lacks ends.0))
