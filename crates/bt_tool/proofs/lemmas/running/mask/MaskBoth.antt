-- Lemmas on a round of masking in which lines and records were given together.
use Rattle.bt_lines.proofs.Std.{false≢true, ◌≡◌, ℕ, zero, suc, ◌-◌, length-take, ◌+◌, ◌≤◌, ◌<◌, Bool, true, false, List, [], ◌∷◌, ◌++◌, length, take, Option, None, Some, Result, Ok, Err, refl, sym, ap, ◌∙◌, subst, append-nil, append_assoc, option_to_list, arith, inl, inr, append_cancel_left, nil_from_length, ◌⊎◌, OnOk, is_some}
use Rattle.bt_lines.specs.declared.device.Source.{Ghosts as Source}
use Rattle.bt_lines.proofs.lemmas.reader.block.BufferLemmas.{fed_none}
use Rattle.bt_lines.proofs.lemmas.reader.lines.TextLemmas.{bytes_in-lines, whole_count}
use Rattle.bt_lines.specs.calls.Reader.{BeginsLines, buffered_lines, room as line_room, lines_in, TakenLines, TakesLines, buffered_bytes, buffered_in, has_ended, is_open, lines_given}
use Rattle.bt_lines.specs.model.Fault.{FaultValue}
use Rattle.bt_lines.specs.calls.Faults.{no_memory}
use Rattle.bt_lines.specs.model.Lines.{TextLine}
use Rattle.bt_lines.specs.calls.Line.{AreNumbered}
use Rattle.bt_lines.specs.calls.Names.{fault_value}
use Rattle.bt_lines.specs.calls.Output.{Output, FailsToAdd}
use Rattle.bt_lines.specs.inside.Shape.{IsLast, is_fed}
use Rattle.bt_lines.specs.declared.reader.buffered_lines.BufferedLines.{BufferedLines}
use Rattle.bt_lines.specs.declared.reader.buffered_lines.ConsumedLines.{ConsumedLines}
use Rattle.bt_lines.specs.declared.fault.Fault.{Fault}
use Rattle.bt_lines.specs.declared.reader.line_reader.LineReader.{LineReader}
use Rattle.bt_bed.specs.calls.Batch.{Passes, cursor_in, left, line_in}
use Rattle.bt_bed.specs.calls.CursorOf.{batch_cursor}
use Rattle.bt_bed.specs.model.Feature.{Feature}
use Rattle.bt_bed.specs.model.Sorted.{Locus}
use Rattle.bt_bed.specs.calls.Reading.{MemberReader}
use Rattle.bt_bed.specs.declared.read.batch.Batch.{Batch}
use Rattle.bt_seq.proofs.lemmas.mask.steps.BedStepLemmas.{goes_more, line_goes}
use Rattle.bt_seq.proofs.lemmas.mask.steps.CopyLemmas.{wants_line}
use Rattle.bt_bed.specs.calls.Stage.{Stage, given, with_first}
use Rattle.bt_seq.specs.calls.MaskStage.{GoesOn, MayComeNext, MaskStage, is_written_at_once, mask_want_of, want_at, with_line}
use Rattle.bt_seq.specs.calls.MaskState.{Masking}
use Rattle.bt_seq.specs.calls.MaskSteps.{BothCome, ComesAfter, GivesAhead, FailsAfter, FailsAtLines, FailsAtRecord, HasCome, StopsAt, MaskStandsAt, FailsWithLine, RefusesLine, bytes_with}
use Rattle.bt_seq.specs.model.Fasta.{Reached, SequenceLine}
use Rattle.bt_seq.specs.declared.mask.MaskWant.{MaskWant}
use Rattle.bt_seq.specs.declared.mask.MaskWant.TheVariants.{Line as WantLine, Bed as WantBed, Nothing}
use Rattle.bt_tool.specs.declared.loops.masking.MaskRun.{MaskRun}
use Rattle.bt_tool.specs.inside.MaskLoop.{Masks, mask_join, mask_rounds}
use Rattle.bt_tool.proofs.lemmas.running.mask.MaskedLemmas.{AdvancesMask, IsMaskReady, MaskEnds, mask_left, fails_record}
use Rattle.bt_tool.specs.inside.Pair.{SettlesPair, item_ahead}
use Rattle.bt_tool.specs.inside.Feed.{HasTaken}
use Rattle.bt_tool.proofs.lemmas.running.members.MemberLemmas.{items_from}
use Rattle.bt_tool.proofs.lemmas.running.mask.MaskAdvanced.{come_on, fails_write, lacks_room, refuses_line, settled}
use Rattle.bt_tool.proofs.lemmas.running.pair.PairTurns.{none_new}

-- ---- the record ahead

module _ {S State : Type 0} (second second_now : MemberReader S Feature State) (first last : Batch) (lent : left first ≡ second.buffered) where
  -- the next record that a batch gives is the one ahead
  next_is : (ahead : Option Feature) → ((r : Feature) → ahead ≡ Some r → item_ahead second ≡ Some r) → (r : Feature) (later : Batch) → Passes first (r ∷ []) later → MayComeNext ahead r
  next_is ahead kept r later passes = grind arith

  -- and it is the next one of those that are left
  kept_after : (was : Option Feature) → ((r : Feature) → was ≡ Some r → item_ahead second ≡ Some r) → (taken : List Feature) → second.buffered ≡ taken ++ second_now.buffered → (ahead : Option Feature)
      → ComesAfter batch_cursor was first taken ahead → (r : Feature) → ahead ≡ Some r → item_ahead second_now ≡ Some r
  kept_after was kept taken split ahead comes r e = grind (arith, append_cancel_left)

-- ---- how much is still wanted

pub waits_is : {stage : MaskStage} {mask : Masking} → MaskStandsAt stage mask → is_some mask.waiting ≡ is_some stage.inputs.waiting
waits_is {stage} {mask} stands = ap is_some stands.waiting_is ∙ (grind arith)

rounds_most : (waits : Bool) (want : MaskWant) → mask_rounds waits want ≤ 3
rounds_most waits want = grind arith

rounds_as : (was waits lines_ended bed_ended : Bool) → (was ≡ false → waits ≡ false)
    → (mask_rounds waits (mask_want_of waits lines_ended bed_ended) ≤ mask_rounds was (mask_want_of was lines_ended bed_ended))
    × ((mask_rounds waits (mask_want_of waits lines_ended bed_ended) < mask_rounds was (mask_want_of was lines_ended bed_ended)) ⊎ (mask_want_of waits lines_ended bed_ended ≡ mask_want_of was lines_ended bed_ended))
rounds_as false false lines_ended bed_ended h = (omega arith, inr refl)
rounds_as false true lines_ended bed_ended h = absurd (false≢true (sym (h refl)))
rounds_as true true lines_ended bed_ended h = (omega arith, inr refl)
rounds_as true false false bed_ended h = (omega arith, inl (omega arith))
rounds_as true false true false h = (omega arith, inl (omega arith))
rounds_as true false true true h = (omega arith, inl (omega arith))

none_some : {A : Type 0} (o : Option A) → is_some o ≡ false → o ≡ None
none_some None e = refl
none_some (Some x) e = cc

-- no more rounds are wanted than before, and fewer unless the same is wanted
rounds_fall : {stage final : MaskStage} {mask masked : Masking} → MaskStandsAt stage mask → MaskStandsAt final masked → final.inputs.first_ended ≡ stage.inputs.first_ended → final.inputs.second_ended ≡ stage.inputs.second_ended
    → (stage.inputs.waiting ≡ None → final.inputs.waiting ≡ None) → (mask_rounds (is_some masked.waiting) masked.want ≤ mask_rounds (is_some mask.waiting) mask.want)
    × ((mask_rounds (is_some masked.waiting) masked.want < mask_rounds (is_some mask.waiting) mask.want) ⊎ (masked.want ≡ mask.want))
rounds_fall {stage} {final} {mask} {masked} was is first second none =
    rw (waits_is was, waits_is is, was.want_is, is.want_is, first, second)
    (rounds_as (is_some stage.inputs.waiting) (is_some final.inputs.waiting) stage.inputs.first_ended stage.inputs.second_ended (λ e. ap is_some (none (none_some stage.inputs.waiting e))))

pub rounds_few : (waits : Bool) (want : MaskWant) → waits ≡ false → mask_rounds waits want ≤ 2
rounds_few waits want e = grind arith

-- if bytes are buffered, a line is
no_bytes : (is_open : Bool) (lines : ℕ) (bytes : List ℕ) → is_fed bytes ≡ true → IsLast is_open is_open bytes [] → buffered_lines is_open lines bytes ≡ [] → length bytes ≡ 0
no_bytes false lines bytes fed last none = grind (arith, (fed_none bytes fed (sym (whole_count (suc lines) bytes) ∙ ap length none)))
no_bytes true lines bytes fed last none = grind (arith, (bytes_in-lines (suc lines) (take (length bytes - 1) bytes)), (length-take (length bytes - 1) bytes))

some_buffered : {S : Type 0} (reader : LineReader S) (first : BufferedLines) → BeginsLines (buffered_bytes reader) (lines_given reader) (is_open reader) first → buffered_in reader ≡ [] → 0 < length (buffered_bytes reader) → ⊥
some_buffered reader first begins none some = grind (arith, no_bytes)

module _ {A B : Type 0} {source_a : Source A} {source_b : Source B} {start : MaskRun A B} {before : Output} {at : Reached} {lines : LineReader A} {second : MemberReader B Feature (Option Locus)}
    {mask : Masking} {out : Output} (s : Masks source_a source_b start before at lines second mask out) {first_lines : BufferedLines} (begins : BeginsLines (buffered_bytes lines) (lines_given lines) (is_open lines) first_lines)
    (last_lines : BufferedLines) (texts : List TextLine) (parts : buffered_in lines ≡ texts ++ lines_in last_lines) (numbered : AreNumbered (suc (lines_given lines)) texts)
    {first_beds last_beds : Batch} (lent : left first_beds ≡ second.buffered) (lent_at : (cursor_in first_beds).lines ≡ lines_given second.below) {taken : List Feature} (gave : Passes first_beds taken last_beds)
    {new : LineReader A} (over : has_ended lines ≡ true → buffered_in lines ≡ []) {consumed : ConsumedLines} (are : TakenLines lines consumed (length texts)) (takes : TakesLines source_a lines consumed new)
    {second_now : MemberReader B Feature (Option Locus)} (has : HasTaken source_b second taken second_now) where
  abbrev EndsAt : Option FaultValue → Output → Type 0
  EndsAt fault grown = MaskEnds source_a source_b start before fault new second_now grown

  -- the record ahead is the next one that is given
  comes_next : GivesAhead batch_cursor s.stage.ahead first_beds
  comes_next r later passes = next_is second second_now first_beds last_beds lent s.stage.ahead s.kept_ahead r later passes

  kept_then : (ahead : Option Feature) → ComesAfter batch_cursor s.stage.ahead first_beds taken ahead → (r : Feature) → ahead ≡ Some r → item_ahead second_now ≡ Some r
  kept_then ahead comes = kept_after second second_now first_beds last_beds lent s.stage.ahead s.kept_ahead taken has.takes.buffered ahead comes

  left_then : left last_beds ≡ second_now.buffered
  left_then = append_cancel_left taken (left last_beds) second_now.buffered (sym gave.left_is ∙ lent ∙ has.takes.buffered)

  -- after what was given, something else is wanted
  module _ (masked : Masking) (now : Output) (comes : HasCome start.mask.how start.mask.full s.stage texts taken out masked now) (stops : StopsAt batch_cursor masked.want last_lines last_beds) where
    abbrev final : MaskStage
    final = comes.stage

    same_by : texts ≡ [] → s.stage.inputs.waiting ≡ None → final.inputs.waiting ≡ None
    same_by none waits = grind (arith, append-nil, none_new, append_cancel_left, append_assoc)

    stuck_by : (want : MaskWant) → texts ≡ [] → taken ≡ [] → StopsAt batch_cursor want last_lines last_beds → IsMaskReady lines second want → ⊥
    stuck_by WantLine none unread stops there = some_buffered lines first_lines begins (parts ∙ ap (λ (l : List TextLine). l ++ lines_in last_lines) none ∙ stops) there
    stuck_by WantBed none unread stops there = grind arith
    stuck_by Nothing none unread stops there = there

    stuck : texts ≡ [] → taken ≡ [] → masked.want ≡ mask.want → IsMaskReady lines second mask.want → ⊥
    stuck none unread same there = stuck_by mask.want none unread (subst (λ (w : MaskWant). StopsAt batch_cursor w last_lines last_beds) same stops) there

    room_lines : line_room new + length texts ≤ line_room lines
    room_lines = omega (arith, takes.shrinks, takes.taken_is, are.feeds)

    rounds : (s.stage.inputs.waiting ≡ None → final.inputs.waiting ≡ None) → (mask_rounds (is_some masked.waiting) masked.want ≤ mask_rounds (is_some mask.waiting) mask.want)
        × ((mask_rounds (is_some masked.waiting) masked.want < mask_rounds (is_some mask.waiting) mask.want) ⊎ (masked.want ≡ mask.want))
    rounds = rounds_fall s.stands comes.stands.stands comes.goes_on.follows.first_is comes.goes_on.follows.second_is

    few_by : (n : ℕ) → length texts + length taken ≡ n → (mask_left new second_now masked ≤ mask_left lines second mask) × (IsMaskReady lines second mask.want → mask_left new second_now masked < mask_left lines second mask)
    few_by zero e =
        let none = nil_from_length texts (omega (arith, e)) in
        let unread = nil_from_length taken (omega (arith, e)) in
        let fall = rounds (same_by none) in (
          omega (arith, room_lines, has.takes.shrinks, fall.0),
          λ there. elim fall.1 [
            | inl less ↦ omega (arith, room_lines, has.takes.shrinks, less)
            | inr same ↦ absurd (stuck none unread same there)
          ],
        )
    few_by (suc n) e = (
      omega (arith, room_lines, has.takes.shrinks, rounds_most (is_some masked.waiting) masked.want, e),
      λ there. omega (arith, room_lines, has.takes.shrinks, rounds_most (is_some masked.waiting) masked.want, e),
    )

    gave_both : ComesAfter batch_cursor s.stage.ahead first_beds taken final.ahead → {T : Type 0} (done : T) → AdvancesMask source_a source_b start before lines second mask (Ok done) new second_now masked now
    gave_both after done =
        grind (arith, (few_by (length texts + length taken) refl), (come_on s over takes has comes.goes_on (kept_then final.ahead after) (lines_in last_lines) parts numbered are comes.stands comes.puts))

  -- the last of what was given failed
  module _ (fault : FaultValue) (now : Output) (behind : FailsAfter batch_cursor start.mask.how start.mask.full s.stage texts taken out first_beds fault last_beds now) where
    abbrev comes : HasCome start.mask.how start.mask.full s.stage behind.before taken out behind.mask behind.through
    comes = behind.comes

    kept : (r : Feature) → comes.stage.ahead ≡ Some r → item_ahead second_now ≡ Some r
    kept = kept_then comes.stage.ahead behind.after

    -- lines that are settled weren't all written
    module _ (final : MaskStage) (bytes : List ℕ) (goes : GoesOn start.mask.how start.mask.full comes.stage behind.failing [] final bytes) (ahead_is : final.ahead ≡ comes.stage.ahead) where
      all_go : GoesOn start.mask.how start.mask.full s.stage texts taken final (comes.bytes ++ bytes)
      all_go = grind (arith, (append-nil taken), (goes_more comes.goes_on goes))

      kept_final : (r : Feature) → final.ahead ≡ Some r → item_ahead second_now ≡ Some r
      kept_final r e = kept r (sym ahead_is ∙ e)

      fails_copying : FailsToAdd behind.through bytes fault now → EndsAt (Some fault) now
      fails_copying fails = grind (arith, (fails_write s over takes has all_go kept_final (lines_in last_lines) parts numbered are refl comes.puts fails))

    -- a line failed
    module _ (wants : want_at comes.stage ≡ WantLine) where
      none_waits : comes.stage.inputs.waiting ≡ None
      none_waits = (wants_line comes.stage.inputs.waiting comes.stage.inputs.first_ended comes.stage.inputs.second_ended wants).0

      module _ (line : TextLine) (one : behind.failing ≡ line ∷ []) where
        texts_are : texts ≡ behind.before ++ line ∷ []
        texts_are = behind.parts ∙ ap (λ l. behind.before ++ l) one

        refuses_one : RefusesLine start.mask.how start.mask.full comes.stage line behind.through fault now → EndsAt (Some fault) now
        refuses_one refuses =
            rw refuses.same_output
            (refuses_line s over takes has comes.goes_on kept line (lines_in last_lines)
            (parts ∙ ap (λ l. l ++ lines_in last_lines) texts_are) (subst (AreNumbered (suc (lines_given lines))) texts_are numbered) (subst (λ (l : List TextLine). TakenLines lines consumed (length l)) texts_are are)
            none_waits refuses.says refuses.is comes.puts)

        module _ (fails : FailsWithLine start.mask.how start.mask.full comes.stage line behind.through fault now) where
          with_it : GoesOn start.mask.how start.mask.full comes.stage behind.failing [] (with_line comes.stage fails.item) (bytes_with start.mask.how comes.stage fails.item)
          with_it = grind (arith, line_goes, none_waits)

          -- it waits if memory ran out
          abbrev mid : Stage SequenceLine Feature
          mid = with_first false comes.stage.inputs fails.item

          with_given : (b : Bool) → is_written_at_once comes.stage fails.item ≡ b → given (with_line comes.stage fails.item).inputs ≡ comes.stage.inputs.written ++ fails.item ∷ []
          with_given true e = rw e (ap (λ (o : Option SequenceLine). (comes.stage.inputs.written ++ fails.item ∷ []) ++ option_to_list o) none_waits ∙ append-nil (comes.stage.inputs.written ++ fails.item ∷ []))
          with_given false e = rw e refl

          whole : GoesOn start.mask.how start.mask.full s.stage texts taken (with_line comes.stage fails.item) (comes.bytes ++ bytes_with start.mask.how comes.stage fails.item)
          whole = all_go (with_line comes.stage fails.item) (bytes_with start.mask.how comes.stage fails.item) with_it refl

          lacks_one : fault ≡ no_memory → EndsAt (Some fault) behind.through
          lacks_one is =
              lacks_room s over takes has whole kept (lines_in last_lines) parts numbered are mid (record {
                given_is = sym (with_given (is_written_at_once comes.stage fails.item) refl) ∙ whole.follows.given_is ∙ ap (λ l. given s.stage.inputs ++ l) (sym (items_from (suc (lines_given lines)) whole.items));
                written_is = comes.goes_on.follows.written_is;
                taken_is = comes.goes_on.follows.taken_is ∙ ap (λ l. s.stage.inputs.taken ++ l) (sym (items_from (suc (lines_given second.below)) taken));
                first_is = comes.goes_on.follows.first_is;
                second_is = comes.goes_on.follows.second_is;
              })
              (subst (λ (b : Bool). SettlesPair (mask_join start.mask.how) comes.stage.inputs.written (s.comes.bytes ++ comes.bytes) (comes.stage.inputs.taken ++ option_to_list (item_ahead second_now)) b) (sym comes.goes_on.follows.second_is)
              (settled s over takes has comes.goes_on kept)) comes.puts is

          fails_one : EndsAt (Some fault) now
          fails_one = elim fails.fails [
            | inl adds ↦ fails_copying (with_line comes.stage fails.item) (bytes_with start.mask.how comes.stage fails.item) with_it refl adds
            | inr ran ↦ rw ran.1 (lacks_one ran.0)
          ]

      fails_lines : FailsAtLines start.mask.how start.mask.full comes.stage behind.failing behind.through fault now → EndsAt (Some fault) now
      fails_lines (inl (line, one, inl refuses)) = refuses_one line one refuses
      fails_lines (inl (line, one, inr fails)) = fails_one line one fails
      fails_lines (inr copies) = fails_copying copies.stage copies.bytes copies.goes_on copies.ahead_is copies.fails

    -- the record that comes next failed
    module _ (r : Feature) (later : Batch) (none : behind.failing ≡ []) (wants : want_at comes.stage ≡ WantBed) (passes : Passes last_beds (r ∷ []) later) where
      before_is : texts ≡ behind.before
      before_is = behind.parts ∙ ap (λ l. behind.before ++ l) none ∙ append-nil behind.before

      number_is : line_in later ≡ suc (lines_given second_now.below)
      unfolding line_in cursor_in
      number_is = omega (arith, passes.lines.given, gave.lines.given, lent_at, has.takes.given)

      fails_next : FailsAtRecord start.mask.how start.mask.full comes.stage.inputs.waiting comes.stage r (line_in later) behind.through fault now → EndsAt (Some fault) now
      fails_next fails =
          let here =
          come_on s over takes has comes.goes_on kept (lines_in last_lines)
          (parts ∙ ap (λ l. l ++ lines_in last_lines) before_is) (subst (AreNumbered (suc (lines_given lines))) before_is numbered) (subst (λ (l : List TextLine). TakenLines lines consumed (length l)) before_is are) comes.stands comes.puts in
          fails_record here.0 (comes.stands.stands.want_is ∙ wants) r (left later)
          (sym left_then ∙ passes.left_is) fault now
          (subst (λ (n : ℕ). FailsAtRecord start.mask.how start.mask.full here.0.stage.inputs.waiting here.0.stage r n behind.through fault now) number_is
          (subst (λ (stage : MaskStage). FailsAtRecord start.mask.how start.mask.full stage.inputs.waiting stage r (line_in later) behind.through fault now) (sym here.1) fails))

    fails_both : ((want_at comes.stage ≡ WantLine) × FailsAtLines start.mask.how start.mask.full comes.stage behind.failing behind.through fault now)
        ⊎ ((r : Feature) × (later : Batch) × (behind.failing ≡ []) × (want_at comes.stage ≡ WantBed) × Passes last_beds (r ∷ []) later × FailsAtRecord start.mask.how start.mask.full comes.stage.inputs.waiting comes.stage r (line_in later) behind.through fault now)
        → EndsAt (Some fault) now
    fails_both (inl at_lines) = fails_lines at_lines.0 at_lines.1
    fails_both (inr at_record) = fails_next at_record.0 at_record.1 at_record.2 at_record.3 at_record.4 at_record.5

    failed_both : EndsAt (Some fault) now
    failed_both = fails_both behind.fails

  -- the engine masks as the run says
  as_run : {T : Type 0} (answer : Result T Fault) (masked : Masking) (now : Output) → BothCome batch_cursor mask.how mask.full s.stage texts taken out first_beds answer masked last_beds now
      → BothCome batch_cursor start.mask.how start.mask.full s.stage texts taken out first_beds answer masked last_beds now
  as_run answer masked now both = grind arith

  -- what the result says
  pub gives_both : {T : Type 0} (answer : Result T Fault) (masked : Masking) (now : Output) → (GivesAhead batch_cursor s.stage.ahead first_beds → BothCome batch_cursor mask.how mask.full s.stage texts taken out first_beds answer masked last_beds now)
      → OnOk answer (StopsAt batch_cursor masked.want last_lines last_beds) → AdvancesMask source_a source_b start before lines second mask answer new second_now masked now
  gives_both (Ok done) masked now come stops = let both = as_run (Ok done) masked now (come comes_next) in gave_both masked now both.0 stops both.2 done
  gives_both {T} (Err fault) masked now come stops = let both = as_run {T = T} (Err fault) masked now (come comes_next) in failed_both (fault_value fault) now both.1
