-- Lemmas on the rounds of masking over two readers.
use Rattle.bt_lines.proofs.Std.{◌≡◌, Bool, true, false, Option, None, Some, Result, Ok, Err, refl, ◌∙◌, subst, ◌≤◌, ◌<◌, [], ap, arith, inl, inr, suc, IsErrAnd, ◌⊎◌, is_some, false≢true}
use Rattle.bt_lines.specs.declared.device.Source.{Ghosts as Source}
use Rattle.bt_lines.specs.model.Fault.{FaultValue}
use Rattle.bt_lines.specs.calls.Names.{fault_value}
use Rattle.bt_lines.specs.calls.Output.{Output, HoldsBlock}
use Rattle.bt_lines.specs.calls.Reader.{FillsLines, fault_kept as line_fault, GivesEnd, IsKept, MakesLine, input_of, lines_given, room as room_of_lines}
use Rattle.bt_lines.specs.declared.fault.Fault.{Fault}
use Rattle.bt_lines.specs.declared.reader.line_reader.LineReader.{LineReader}
use Rattle.bt_bed.specs.calls.Blocks.{FillsBlocks, below, fault_kept, view_of}
use Rattle.bt_bed.specs.declared.read.blocks.Blocks.{Blocks}
use Rattle.bt_bed.proofs.lemmas.order.TableLemmas.{passed_on}
use Rattle.bt_seq.specs.calls.MaskStage.{MaskStage, with_lines_ended, mask_want_of, first_stage}
use Rattle.bt_seq.specs.calls.MaskState.{Masking}
use Rattle.bt_seq.specs.calls.MaskSteps.{MaskMovesTo, MaskStandsAt, EndsCheck, EndsRecords}
use Rattle.bt_seq.specs.model.Fasta.{SequenceLine, Reached}
use Rattle.bt_seq.specs.declared.mask.MaskWant.{MaskWant}
use Rattle.bt_seq.specs.declared.mask.MaskWant.TheVariants.{Nothing, Line as WantLine, Bed as WantBed}
use Rattle.bt_sweep.specs.declared.sweep.Want.{Want}
use Rattle.bt_sweep.specs.declared.sweep.Want.TheVariants.{A as WantA, B as WantB, Nothing as WantNothing}
use Rattle.bt_tool.specs.declared.loops.masking.MaskRun.{MaskRun}
use Rattle.bt_tool.specs.calls.Run.{TellsNoRead}
use Rattle.bt_tool.specs.inside.Feed.{IsKeptBelow, IsFresh}
use Rattle.bt_tool.proofs.lemmas.running.members.MemberLemmas.{IsFilled, IsOver, passes_start}
use Rattle.bt_tool.specs.inside.MaskLoop.{LoopGoesOn, MaskComes, MaskIsOver, mask_run, wanted_by, Masks, mask_rounds, line_members, mask_join, mask_pair, nothing_reached}
use Rattle.bt_tool.proofs.lemmas.running.mask.MaskedLemmas.{AdvancesMask, MaskEnds, IsMaskReady, mask_left, finishes, stops_lines, stops_records, ends_alone, ends_lines, ends_waiting, fails_at_end, line_made, lines_done, no_line, record_made}
use Rattle.bt_tool.specs.inside.Rounds.{IsLessOrReady, IsLessIfReady, LeadsTo}
use Rattle.bt_tool.proofs.lemmas.running.members.BlockMembers.{block_filled, block_over, block_stopped}
use Rattle.bt_tool.proofs.lemmas.running.whole.OwnFailureLemmas.{kept_there, line_none, none_below, none_tells, told_kept, told_none}
use Rattle.bt_bed.proofs.lemmas.read.good.ReadingLemmas.{same_room}
use Rattle.bt_bed.specs.model.Feature.{Feature}
use Rattle.bt_bed.specs.model.Good.{block_format}
use Rattle.bt_bed.specs.model.Sorted.{Locus}
use Rattle.bt_bed.specs.calls.Reading.{MemberReader}
use Rattle.bt_tool.proofs.lemmas.running.mask.MaskBoth.{rounds_few, waits_is}
use Rattle.bt_lines.specs.declared.fault.Input.TheVariants.{First}
use Rattle.bt_bed.specs.calls.SortedReader.{view_with}
use Rattle.bt_seq.specs.declared.mask.mask_how.MaskHow.{MaskHow}
use Rattle.bt_tool.specs.inside.Pair.{IsOverWith}
use Rattle.bt_tool.proofs.lemmas.running.pair.PairTurns.{comes_start, some_buffered}

at_waiting : (waits : Bool) (want : MaskWant) → waits ≡ true → want ≡ WantBed → mask_rounds waits want ≡ 3
at_waiting waits want e w = ap (λ b. mask_rounds b want) e ∙ ap (mask_rounds true) w

at_records : (waits : Bool) (want : MaskWant) → waits ≡ false → want ≡ WantBed → mask_rounds waits want ≡ 1
at_records waits want e w = ap (λ b. mask_rounds b want) e ∙ ap (mask_rounds false) w

at_end : (waits : Bool) (want : MaskWant) → want ≡ Nothing → mask_rounds waits want ≡ 0
at_end waits want e = ap (mask_rounds waits) e

-- after the end of the lines, of which none waits
rounds_at_end : (waiting : Option SequenceLine) (bed_ended waits : Bool) (want : MaskWant) → waiting ≡ None → waits ≡ is_some waiting → want ≡ mask_want_of (is_some waiting) true bed_ended → mask_rounds waits want ≤ 1
rounds_at_end None false waits want none e w = omega (arith, at_records waits want e w)
rounds_at_end None true waits want none e w = omega (arith, at_end waits want w)
rounds_at_end (Some line) bed_ended waits want none e w = cc

module _ {A B : Type 0} {source_a : Source A} {source_b : Source B} {start : MaskRun A B} {before : Output} {at : Reached} {lines : LineReader A} {second : MemberReader B Feature (Option Locus)}
    {mask : Masking} {out : Output} (s : Masks source_a source_b start before at lines second mask out) where
  -- what is wanted was made buffered, or the end of that input was given
  abbrev Fills : LineReader A → MemberReader B Feature (Option Locus) → Masking → Output → Type 0
  Fills new second_now masked grown =
      LoopGoesOn source_a source_b start before new second_now masked grown
      × ((mask_left new second_now masked < mask_left lines second mask) ⊎ ((mask_left new second_now masked ≤ mask_left lines second mask) × IsMaskReady new second_now masked.want))

  module _ (wants : mask.want ≡ WantLine) (new : LineReader A) (kept : IsKept source_a lines → IsKept source_a new) where
    pub line_filled : MakesLine source_a lines new → Fills new second mask out
    line_filled makes = grind (arith, (line_made s wants new makes kept), (same_room source_a lines new new makes))

    pub lines_ended : GivesEnd source_a lines new → (masked : Masking) → MaskMovesTo mask.how mask.full (with_lines_ended s.stage) masked → Fills new second masked out
    lines_ended ends masked stands =
        let counted = ends.bytes.1.counted in
        let fewer : room_of_lines new ≤ room_of_lines lines = rw ends.nothing_held (omega arith) in
        let rounds = rounds_at_end s.stage.inputs.waiting s.stage.inputs.second_ended (is_some masked.waiting) masked.want (no_line s wants).0 (waits_is stands.stands) stands.stands.want_is in
        let were : mask_rounds (is_some mask.waiting) mask.want ≡ 2 = ap (mask_rounds (is_some mask.waiting)) wants in
        ((at, ends_lines s wants new masked ends kept stands), inl (omega (arith, fewer, rounds, were)))

  module _ (wants : mask.want ≡ WantBed) (second_now : MemberReader B Feature (Option Locus)) where
    pub record_filled : IsFilled source_b second second_now → Fills lines second_now mask out
    record_filled filled = (
      (at, record_made s wants second_now filled),
      inr (omega (arith, filled.gives.shrinks), rw wants (some_buffered (suc (lines_given second_now.below)) second_now.buffered filled.m filled.gives.ahead)),
    )

    module _ (over : IsOver source_b second second_now) (masked : Masking) (now : Output) where
      ends_by : (o : Option SequenceLine) → s.stage.inputs.waiting ≡ o → {T : Type 0} (done : T)
          → ((waiting : SequenceLine) → s.stage.inputs.waiting ≡ Some waiting → EndsRecords mask.how mask.full s.stage waiting out (Ok done) masked now) → (s.stage.inputs.waiting ≡ None → EndsCheck mask.how mask.full s.stage out (Ok done) masked now)
          → Fills lines second_now masked now
      ends_by (Some a) e done waits none =
          let ends = waits a e in (
            (at, ends_waiting s wants second_now over a e masked now ends.0 ends.1),
            inl (omega (
              arith,
              over.ends.shrinks,
              at_waiting (is_some mask.waiting) mask.want (waits_is s.stands ∙ ap is_some e) wants,
              rounds_few (is_some masked.waiting) masked.want (waits_is ends.0.stands),
            )),
          )
      ends_by None e done waits none =
          let ends = none e in
          let finished = lines_done s wants e in (
            (at, rw ends.1 (ends_alone s wants second_now over e masked ends.0)),
            inl (omega (
              arith,
              over.ends.shrinks,
              at_records (is_some mask.waiting) mask.want (waits_is s.stands ∙ ap is_some e) wants,
              at_end (is_some masked.waiting) masked.want (ends.0.stands.want_is ∙ ap (λ b. mask_want_of false b true) finished),
            )),
          )

      pub records_ended : {T : Type 0} (done : T) → ((waiting : SequenceLine) → s.stage.inputs.waiting ≡ Some waiting → EndsRecords mask.how mask.full s.stage waiting out (Ok done) masked now) → (s.stage.inputs.waiting ≡ None → EndsCheck mask.how mask.full s.stage out (Ok done) masked now)
          → Fills lines second_now masked now
      records_ended done waits none = ends_by s.stage.inputs.waiting refl done waits none

      unended_by : (o : Option SequenceLine) → s.stage.inputs.waiting ≡ o → (fault : Fault)
          → ((waiting : SequenceLine) → s.stage.inputs.waiting ≡ Some waiting → EndsRecords {A = Unit {0}} mask.how mask.full s.stage waiting out (Err fault) masked now) → (s.stage.inputs.waiting ≡ None → EndsCheck {A = Unit {0}} mask.how mask.full s.stage out (Err fault) masked now)
          → MaskEnds source_a source_b start before (Some (fault_value fault)) lines second_now now
      unended_by (Some a) e fault waits none = fails_at_end s wants second_now over a e (fault_value fault) now (waits a e).1
      unended_by None e fault waits none = absurd (none e)

      pub records_unended : (fault : Fault) → ((waiting : SequenceLine) → s.stage.inputs.waiting ≡ Some waiting → EndsRecords {A = Unit {0}} mask.how mask.full s.stage waiting out (Err fault) masked now)
          → (s.stage.inputs.waiting ≡ None → EndsCheck {A = Unit {0}} mask.how mask.full s.stage out (Err fault) masked now) → MaskEnds source_a source_b start before (Some (fault_value fault)) lines second_now now
      records_unended fault waits none = unended_by s.stage.inputs.waiting refl fault waits none

-- what the engine wants, by what is wanted of two inputs
abbrev wanted_of : Want → MaskWant
wanted_of WantA = WantLine
wanted_of WantB = WantBed
wanted_of WantNothing = Nothing

pub is_wanted : (want : MaskWant) (of_two : Want) → wanted_by want ≡ of_two → want ≡ wanted_of of_two
is_wanted want of_two e = grind arith

module _ {A B : Type 0} {source_a : Source A} {source_b : Source B} {start : MaskRun A B} {out : Output} {old : MaskRun A B} {grown : Output} (s : MaskComes source_a source_b start out old grown) where
  pub none_first : line_fault old.lines ≡ None
  none_first = s.goes.1.comes.first_passes.clear

  pub none_second : fault_kept old.records ≡ None
  none_second = s.goes.1.comes.second_passes.going

  clear_first : TellsNoRead (line_fault old.lines)
  clear_first = none_tells (line_fault old.lines) none_first

  clear_second : TellsNoRead (line_fault (below old.records))
  clear_second = none_tells (line_fault (below old.records)) s.goes.1.comes.second_passes.clear

  kept_second : IsKeptBelow (view_of old.records) (below old.records)
  kept_second = none_below (view_of old.records) (below old.records) none_second

  -- it has ended with these
  abbrev pub ended : (fault : Option FaultValue) (new : MaskRun A B) (later : Output) → MaskEnds source_a source_b start out fault new.lines (view_of new.records) later
      → (TellsNoRead fault → TellsNoRead (line_fault new.lines) × TellsNoRead (line_fault (below new.records)))
      → IsKeptBelow (view_of new.records) (below new.records) → MaskIsOver source_a source_b start out fault new later
  ended fault new later ends none kept = (
    ends.0,
    ends.1,
    record {
      finishes = ends.2;
      none_kept = λ never. (rw ends.1 (none never).0, (none never).1);
      kept_first = kept_there ends.0 new.lines ends.1 ends.3;
      kept_second = kept;
    },
  )

  abbrev Filled : MaskRun A B → Type 0
  Filled = IsLessOrReady (mask_run source_a source_b) old

  abbrev Leads : {T : Type 0} → (MaskRun A B → Type 0) → Result T Fault → MaskRun A B → Output → Type 0
  Leads = LeadsTo (mask_run source_a source_b) start out

  -- ---- the lines are read on

  module _ (wants : wanted_by old.mask.want ≡ WantA) (lines_now : LineReader A) where
    abbrev with_lines : MaskRun A B
    with_lines = record old { lines = lines_now }

    pub lines_filled : FillsLines source_a old.lines (Ok true) lines_now → MaskComes source_a source_b start out with_lines grown × Filled with_lines
    lines_filled fills =
        let f = line_filled s.goes.1 (is_wanted old.mask.want WantA wants) lines_now fills.kept fills.answers in
        (record { goes = f.0 }, f.1)

    pub lines_over : FillsLines source_a old.lines (Ok false) lines_now → (masked : Masking)
        → ((stage : MaskStage) → MaskStandsAt stage old.mask → MaskMovesTo old.mask.how old.mask.full (with_lines_ended stage) masked)
        → MaskComes source_a source_b start out (record old { lines = lines_now; mask = masked }) grown × Filled (record old { lines = lines_now; mask = masked })
    lines_over fills masked stands =
        let f = lines_ended s.goes.1 (is_wanted old.mask.want WantA wants) lines_now fills.kept fills.answers masked (stands s.goes.1.stage s.goes.1.stands) in
        (record { goes = f.0 }, f.1)

    pub lines_stopped : {T : Type 0} (fault : Fault) (result : Result T Fault) → IsErrAnd result (λ e. e ≡ fault) → FillsLines source_a old.lines (Err fault) lines_now → Leads Filled result with_lines grown
    lines_stopped {T} fault result is fills =
        passed_on (λ (r : Result T Fault). Leads Filled r with_lines grown) result fault is
        (ended (Some (fault_value fault)) with_lines grown
        (stops_lines s.goes.1 (is_wanted old.mask.want WantA wants) (fault_value fault) lines_now fills.answers fills.kept)
        (λ never. (line_none (line_fault lines_now) (fault_value fault) fills.answers.kept never, clear_second)) kept_second)

  -- ---- the records are

  module _ (wants : wanted_by old.mask.want ≡ WantB) (records_now : Blocks B) where
    abbrev with_records : MaskRun A B
    with_records = record old { records = records_now }

    pub records_filled : FillsBlocks source_b old.records (Ok true) records_now → MaskComes source_a source_b start out with_records grown × Filled with_records
    records_filled fills =
        let f = record_filled s.goes.1 (is_wanted old.mask.want WantB wants) (view_of records_now) (block_filled source_b old.records records_now fills) in
        (record { goes = f.0 }, f.1)

    pub records_stopped : {T : Type 0} (fault : Fault) (result : Result T Fault) → IsErrAnd result (λ e. e ≡ fault) → FillsBlocks source_b old.records (Err fault) records_now → Leads Filled result with_records grown
    records_stopped {T} fault result is fills =
        passed_on (λ (r : Result T Fault). Leads Filled r with_records grown) result fault is
        (ended (Some (fault_value fault)) with_records grown
        (stops_records s.goes.1 (is_wanted old.mask.want WantB wants) (fault_value fault) (view_of records_now) (block_stopped source_b old.records records_now fault fills))
        (λ never. (clear_first, told_none none_second fills.answers never)) (told_kept none_second fills.answers))

    module _ (fills : FillsBlocks source_b old.records (Ok false) records_now) (masked : Masking) (later : Output) where
      abbrev with_end : MaskRun A B
      with_end = record old { records = records_now; mask = masked }

      pub records_over : {T : Type 0} (answer : Result T Fault) → ((stage : MaskStage) (waiting : SequenceLine) → MaskStandsAt stage old.mask → stage.inputs.waiting ≡ Some waiting → EndsRecords old.mask.how old.mask.full stage waiting grown answer masked later)
          → ((stage : MaskStage) → MaskStandsAt stage old.mask → stage.inputs.waiting ≡ None → EndsCheck old.mask.how old.mask.full stage grown answer masked later) → Leads Filled answer with_end later
      records_over (Ok done) waits none =
          let f = records_ended s.goes.1 (is_wanted old.mask.want WantB wants) (view_of records_now) (block_over source_b old.records records_now fills) masked later done
          (λ waiting e. waits s.goes.1.stage waiting s.goes.1.stands e) (λ e. none s.goes.1.stage s.goes.1.stands e) in
          (record { goes = f.0 }, f.1)
      records_over (Err fault) waits none =
          ended (Some (fault_value fault)) with_end later
          (records_unended s.goes.1 (is_wanted old.mask.want WantB wants) (view_of records_now) (block_over source_b old.records records_now fills) masked later fault
          (λ waiting e. waits s.goes.1.stage waiting s.goes.1.stands e) (λ e. none s.goes.1.stage s.goes.1.stands e))
          (λ never. (clear_first, none_tells (line_fault (below records_now)) fills.answers.below_goes))
          (none_below (view_of records_now) (below records_now) fills.answers.goes)

  -- ---- what both have buffered was given

  module _ (new : MaskRun A B) (later : Output) (keeps : line_fault new.lines ≡ line_fault old.lines) (keeps_second : fault_kept new.records ≡ fault_kept old.records)
      (keeps_below : line_fault (below new.records) ≡ line_fault (below old.records)) where
    gave_by : {T : Type 0} (answer : Result T Fault) → AdvancesMask source_a source_b start out old.lines (view_of old.records) old.mask answer new.lines (view_of new.records) new.mask later → Leads (IsLessIfReady (mask_run source_a source_b) old) answer new later
    gave_by (Ok done) gives = (record { goes = gives.0 }, (gives.1, gives.2))
    gave_by (Err fault) ends =
        ended (Some (fault_value fault)) new later ends
        (λ never. (none_tells (line_fault new.lines) (keeps ∙ none_first), none_tells (line_fault (below new.records)) (keeps_below ∙ s.goes.1.comes.second_passes.clear)))
        (none_below (view_of new.records) (below new.records) (keeps_second ∙ none_second))

    pub gave_both : {T : Type 0} (answer : Result T Fault)
        → ((start : MaskRun A B) (out : Output) → LoopGoesOn source_a source_b start out old.lines (view_of old.records) old.mask grown → AdvancesMask source_a source_b start out old.lines (view_of old.records) old.mask answer new.lines (view_of new.records) new.mask later)
        → Leads (IsLessIfReady (mask_run source_a source_b) old) answer new later
    gave_both answer gives = gave_by answer (gives start out s.goes)

  -- both inputs have ended
  pub finished : wanted_by old.mask.want ≡ WantNothing → MaskIsOver source_a source_b start out None old grown
  finished wants =
      ended None old grown (finishes s.goes.1 (is_wanted old.mask.want WantNothing wants)) (λ never. (clear_first, clear_second)) kept_second

blocks_format : {S : Type 0} (records : Blocks S) → (view_of records).format ≡ block_format
unfolding view_of view_with
blocks_format records = refl

module _ {A B : Type 0} (source_a : Source A) (source_b : Source B) where
  -- nothing was given yet
  pub masks_start : (start : MaskRun A B) (out : Output) → input_of start.lines ≡ First
      → IsFresh source_a (line_members start.mask.full nothing_reached start.lines) → IsFresh source_b (view_of start.records)
      → HoldsBlock out.took out.put → MaskStandsAt first_stage start.mask → MaskComes source_a source_b start out start out
  masks_start start out first fresh fresh_second block stands = record {
    goes = (
      nothing_reached,
      record {
        past_first = [];
        past_second = [];
        stage = first_stage;
        stands = stands;
        first_is = first;
        blocks_is = blocks_format start.records;
        how_is = refl;
        full_is = refl;
        comes = comes_start (mask_join start.mask.how) (mask_pair source_a source_b start.mask.full start.lines (view_of start.records)) out
            (passes_start source_a (line_members start.mask.full nothing_reached start.lines) fresh)
            (passes_start source_b (view_of start.records) fresh_second) block;
        kept_ahead = λ r e. absurd (let apart : None ≡ Some r = e in cc);
        lines_over = λ e. absurd (false≢true e);
      },
    );
  }

  -- and how it ends
  abbrev Over : LineReader A → MemberReader B Feature (Option Locus) → Output → Option FaultValue → LineReader A → MemberReader B Feature (Option Locus) → Output → MaskHow → Bool → Type 0
  Over lines second out fault new second_now grown how full = (members : MemberReader A SequenceLine Reached) × (members.below ≡ new)
      × IsOverWith (mask_pair source_a source_b full lines second) (mask_join how) out fault members second_now grown

  pub as_asked : {lines : LineReader A} {second : MemberReader B Feature (Option Locus)} {out : Output} {fault : Option FaultValue} {new : LineReader A} {second_now : MemberReader B Feature (Option Locus)} {grown : Output}
      {own : MaskHow} {own_full : Bool} {how : MaskHow} {full : Bool} → own ≡ how → own_full ≡ full
      → Over lines second out fault new second_now grown own own_full → Over lines second out fault new second_now grown how full
  as_asked {lines} {second} {out} {fault} {new} {second_now} {grown} {own} {full} same same_full ends =
      subst (λ (h : MaskHow). Over lines second out fault new second_now grown h full) same (subst (λ (f : Bool). Over lines second out fault new second_now grown own f) same_full ends)
