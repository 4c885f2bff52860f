-- Lemmas on lines and records that were given to a masking engine together, over two readers.
use Rattle.bt_lines.proofs.Std.{◌⊎◌, inl, inr, IsTrue, ◌≡◌, ℕ, suc, true, false, false≢true, List, [], ◌∷◌, ◌++◌, length, Option, None, Some, Err, refl, sym, ap, ◌∙◌, subst, append-nil, option_to_list, arith, nil_from_length}
use Rattle.bt_lines.specs.declared.device.Source.{Ghosts as Source}
use Rattle.bt_lines.specs.model.Fault.{FaultValue, read_failed}
use Rattle.bt_lines.specs.calls.Faults.{no_memory}
use Rattle.bt_lines.specs.model.Lines.{TextLine}
use Rattle.bt_lines.specs.calls.Line.{AreNumbered}
use Rattle.bt_lines.specs.calls.Output.{Output, FailsToAdd, Grown}
use Rattle.bt_lines.specs.calls.Reader.{TakenLines, TakesLines, buffered_in, has_ended, input_of, lines_given}
use Rattle.bt_lines.specs.declared.reader.buffered_lines.ConsumedLines.{ConsumedLines}
use Rattle.bt_lines.specs.declared.fault.Input.{Input}
use Rattle.bt_lines.specs.declared.fault.Input.TheVariants.{First}
use Rattle.bt_lines.specs.declared.fault.Kind.{Kind}
use Rattle.bt_lines.specs.declared.fault.Kind.TheVariants.{ReadFailed}
use Rattle.bt_lines.specs.declared.reader.line_reader.LineReader.{LineReader}
use Rattle.bt_bed.specs.calls.Blocks.{view_of}
use Rattle.bt_bed.specs.model.Feature.{Feature}
use Rattle.bt_bed.specs.model.BedLine.{fault_at_line}
use Rattle.bt_bed.specs.model.Good.{Member}
use Rattle.bt_bed.specs.model.Sorted.{Locus}
use Rattle.bt_bed.specs.calls.Reading.{MemberReader, members_from, state_behind}
use Rattle.bt_bed.specs.calls.Stage.{Follows, Stage, given}
use Rattle.bt_seq.specs.calls.MaskStage.{SayEach, GoesOn, MaskStage, reached}
use Rattle.bt_seq.specs.calls.MaskState.{Masking}
use Rattle.bt_seq.specs.calls.MaskSteps.{MaskMovesTo}
use Rattle.bt_seq.specs.model.Fasta.{Reached, SequenceLine, sequence_says, sequence_format}
use Rattle.bt_tool.specs.inside.Feed.{member_items, HasTaken}
use Rattle.bt_tool.specs.model.TwoInputs.{is_fasta_kind}
use Rattle.bt_tool.specs.declared.loops.masking.MaskRun.{MaskRun}
use Rattle.bt_tool.specs.inside.MaskLoop.{Masks, leaves_some_line, begun_pair, mask_join, line_members, nothing_reached}
use Rattle.bt_tool.proofs.lemmas.running.mask.MaskedLemmas.{MaskEnds, asked, asks_for, come_so_far, ends_at, reached_behind, wrong_first}
use Rattle.bt_tool.specs.inside.Pair.{AsksFor, JoinDef, Pair, SettlesPair, item_ahead}
use Rattle.bt_tool.proofs.lemmas.running.pair.PairTurns.{TakesFurther}
use Rattle.bt_tool.proofs.lemmas.running.members.BlockMembers.{has_taken, known_bytes, known_members, passes_known, refused, refuses, refuses_read, say_count}
use Rattle.bt_tool.proofs.lemmas.running.mask.MaskFacts.{asked_of, ahead_first, first_of, settles_given}
use Rattle.bt_tool.proofs.lemmas.running.members.MemberLemmas.{items_from, state_more}
use Rattle.bt_tool.proofs.lemmas.running.pair.PairStops as stop
use Rattle.bt_tool.proofs.lemmas.running.pair.PairTurns as turned

-- the fault of such a line tells no failed read
told_no_read : (kind : Kind) (number : ℕ) (fault : FaultValue) → is_fasta_kind kind ≡ true → fault ≡ fault_at_line First number kind → (input : Input) (line : ℕ) → Some fault ≡ Some (read_failed input line) → ⊥
told_no_read kind number fault of_text is input line e =
    let same : fault ≡ read_failed input line = cc in
    let kinds : ReadFailed ≡ kind = sym (ap (λ (f : FaultValue). f.kind) same) ∙ ap (λ (f : FaultValue). f.kind) is in
    false≢true (ap is_fasta_kind kinds ∙ of_text)

-- more lines leave one undecided too
asked_more : (lines extra : List SequenceLine) (records : List Feature) → (records ≡ []) ⊎ IsTrue (leaves_some_line lines records) → (records ≡ []) ⊎ IsTrue (leaves_some_line (lines ++ extra) records)
asked_more lines extra records (inl none) = inl none
asked_more lines extra records (inr some) = inr (asked_of lines extra records some)

alone : {A : Type 0} (items : List A) (o : Option A) → o ≡ None → items ++ option_to_list o ≡ items
alone items o none = ap (λ o. items ++ option_to_list o) none ∙ append-nil items

-- masking has come so far, and more lines and records are given
module _ {A B : Type 0} {source_a : Source A} {source_b : Source B} {start : MaskRun A B} {before : Output} {at : Reached} {lines : LineReader A} {second : MemberReader B Feature (Option Locus)}
    {mask : Masking} {grown : Output} (s : Masks source_a source_b start before at lines second mask grown) {new : LineReader A} (over : has_ended lines ≡ true → buffered_in lines ≡ []) {consumed : ConsumedLines}
    (takes : TakesLines source_a lines consumed new) {taken : List Feature} {second_now : MemberReader B Feature (Option Locus)} (has : HasTaken source_b second taken second_now) where
  abbrev Going : Reached → LineReader A → MemberReader B Feature (Option Locus) → Masking → Output → Type 0
  Going = Masks source_a source_b start before

  abbrev EndsAt : Option FaultValue → LineReader A → MemberReader B Feature (Option Locus) → Output → Type 0
  EndsAt = MaskEnds source_a source_b start before

  abbrev rule : JoinDef SequenceLine Feature
  rule = mask_join start.mask.how

  abbrev both : Pair A B SequenceLine Feature Reached (Option Locus)
  both = begun_pair source_a source_b start before

  abbrev old_first : MemberReader A SequenceLine Reached
  old_first = line_members start.mask.full nothing_reached start.lines

  abbrev stage : MaskStage
  stage = s.stage

  abbrev more_second : List (Member Feature)
  more_second = members_from (suc (lines_given second.below)) taken

  -- after the end of the records none was taken
  none_more : stage.inputs.second_ended ≡ true → (taken ≡ []) × (second_now.buffered ≡ [])
  none_more e = turned.both_none taken second_now.buffered (sym has.takes.buffered ∙ (s.comes.second_all e).1)

  ended_second : stage.inputs.second_ended ≡ true → (more_second ≡ []) × (second_now.buffered ≡ [])
  ended_second e = let none = none_more e in (ap (members_from (suc (lines_given second.below))) none.0, none.1)

  settled_now : SettlesPair rule stage.inputs.written s.comes.bytes (stage.inputs.taken ++ option_to_list (first_of (taken ++ second_now.buffered))) stage.inputs.second_ended
  settled_now = grind arith

  takes_second : TakesFurther source_b (view_of start.records) s.comes.second_passes.bytes.0 s.past_second more_second second second_now
  takes_second = turned.takes_further source_b (view_of start.records) s.past_second second s.comes.second_passes taken second_now has

  -- some lines and these records led to a stage, and the record ahead is the next one
  module _ {texts : List TextLine} {final : MaskStage} {bytes : List ℕ} (goes : GoesOn start.mask.how start.mask.full stage texts taken final bytes) (kept : (r : Feature) → final.ahead ≡ Some r → item_ahead second_now ≡ Some r) where
    abbrev items : List SequenceLine
    items = goes.items

    abbrev more_first : List (Member SequenceLine)
    more_first = members_from (suc (lines_given lines)) items

    say_here : SayEach start.mask.full at texts items
    say_here = subst (λ (r : Reached). SayEach start.mask.full r texts items) (sym (come_so_far s)) goes.say

    reached_now : state_behind (sequence_format start.mask.full) at items ≡ reached final
    reached_now =
        ap (λ (r : Reached). state_behind (sequence_format start.mask.full) r items) (come_so_far s ∙ sym (reached_behind start.mask.full (given stage.inputs)))
        ∙ sym (state_more (sequence_format start.mask.full) nothing_reached (given stage.inputs) items) ∙ ap (state_behind (sequence_format start.mask.full) nothing_reached) (sym goes.follows.given_is) ∙ reached_behind start.mask.full (given final.inputs)

    given_now : given final.inputs ≡ given stage.inputs ++ member_items more_first
    given_now = goes.follows.given_is ∙ ap (λ l. given stage.inputs ++ l) (sym (items_from (suc (lines_given lines)) items))

    taken_now : final.inputs.taken ≡ stage.inputs.taken ++ member_items more_second
    taken_now = goes.follows.taken_is ∙ ap (λ l. stage.inputs.taken ++ l) (sym (items_from (suc (lines_given second.below)) taken))

    pub settled : SettlesPair rule final.inputs.written (s.comes.bytes ++ bytes) (final.inputs.taken ++ option_to_list (item_ahead second_now)) stage.inputs.second_ended
    settled =
        rw (goes.follows.written_is, goes.follows.taken_is, ahead_first second_now)
        (settles_given start.mask.how start.mask.full settled_now goes none_more (λ r e. sym (ahead_first second_now) ∙ kept r e))

    -- they were taken, and no more
    module _ (more : List TextLine) (parts : buffered_in lines ≡ texts ++ more) (numbered : AreNumbered (suc (lines_given lines)) texts) (are : TakenLines lines consumed (length texts)) where
      abbrev pub first_now : MemberReader A SequenceLine Reached
      first_now = line_members start.mask.full (state_behind (sequence_format start.mask.full) at items) new

      has_first : HasTaken source_a (known_members source_a start.mask.full at items lines) items first_now
      has_first = has_taken source_a start.mask.full at lines new s.comes.first_passes.clear texts more items say_here parts numbered consumed (length texts) are takes (say_count start.mask.full at texts items say_here)

      takes_first : TakesFurther source_a old_first s.comes.first_passes.bytes.0 s.past_first more_first (line_members start.mask.full at lines) first_now
      takes_first =
          let known = passes_known source_a start.mask.full at lines new s.comes.first_passes.clear texts more items say_here parts numbered consumed (length texts) are takes (say_count start.mask.full at texts items say_here) old_first s.past_first s.comes.first_passes in
          let t = turned.takes_further source_a old_first s.past_first (known_members source_a start.mask.full at items lines) known items first_now has_first in
          record { passes = t.passes; same = t.same ∙ known_bytes source_a start.mask.full at lines new s.comes.first_passes.clear texts more items say_here parts numbered consumed (length texts) are takes (say_count start.mask.full at texts items say_here) old_first s.past_first s.comes.first_passes; last = t.last; told = t.told }

      ended_first : stage.inputs.first_ended ≡ true → (more_first ≡ []) × (first_now.buffered ≡ [])
      ended_first e =
          let none : texts ≡ [] = (turned.both_none texts more (sym parts ∙ over (s.lines_over e))).0 in
          (ap (members_from (suc (lines_given lines))) (nil_from_length items (omega (arith, say_count start.mask.full at texts items say_here, ap length none))), refl)

      -- the engine is at the final stage
      pub come_on : {masked : Masking} {now : Output} → MaskMovesTo start.mask.how start.mask.full final masked → Grown grown bytes now
          → (going : Going (state_behind (sequence_format start.mask.full) at items) new second_now masked now) × (going.stage ≡ final)
      come_on {now} stands puts = (
        record {
          past_first = s.past_first ++ more_first;
          past_second = s.past_second ++ more_second;
          stage = final;
          stands = stands.stands;
          first_is = s.first_is;
          blocks_is = s.blocks_is;
          how_is = stands.how_is;
          full_is = stands.full_is;
          comes = turned.goes_on s.comes takes_first takes_second ended_first ended_second
              (record { given_is = given_now; written_is = goes.follows.written_is; taken_is = taken_now; first_is = goes.follows.first_is; second_is = goes.follows.second_is })
              bytes now (rw goes.follows.second_is settled) puts;
          kept_ahead = kept;
          lines_over = λ e. takes.ended_is ∙ s.lines_over (sym goes.follows.first_is ∙ e);
        },
        refl,
      )

      -- what is settled wasn't all written
      pub fails_write : {puts rest : List ℕ} → bytes ≡ puts ++ rest → {through now : Output} {fault : FaultValue} → Grown grown puts through → FailsToAdd through rest fault now → EndsAt (Some fault) new second_now now
      fails_write is adds fails =
          ends_at s (state_behind (sequence_format start.mask.full) at items) (stop.fails_to_write s.comes (asks_for s) tt more_first more_second takes_first takes_second
          (option_to_list final.inputs.waiting) given_now tt ended_second (rw (← taken_now, ← is) settled) adds fails)

      -- memory ran out after others were written
      pub lacks_room : (mid : Stage SequenceLine Feature) {newly : List SequenceLine} → Follows stage.inputs (member_items more_first) newly (member_items more_second) mid → {put : List ℕ} {now : Output}
          → (SettlesPair rule mid.written (s.comes.bytes ++ put) (mid.taken ++ option_to_list (item_ahead second_now)) mid.second_ended) → Grown grown put now → {fault : FaultValue} → fault ≡ no_memory
          → EndsAt (Some fault) new second_now now
      lacks_room mid follows {put} {now} settles adds {fault} is =
          let later = turned.goes_on s.comes takes_first takes_second ended_first ended_second follows put now settles adds in
          let bytes = (turned.goes_bytes s.comes takes_first takes_second ended_first ended_second follows put now settles adds).1 in
          ends_at s (state_behind (sequence_format start.mask.full) at items) (stop.lacks_memory later
          (λ e. subst (λ b. AsksFor rule both before later.first_passes.bytes.0 b (s.past_first ++ more_first) second_now) (sym bytes)
          (stop.asks_then s.comes (asked s (sym follows.first_is ∙ e)) (λ extra asks. asked_more (given stage.inputs) extra stage.inputs.taken asks) more_first more_second second_now takes_second))
          tt fault is)

    -- they were taken, and one more line, which is at fault
    module _ (line : TextLine) (more : List TextLine) (parts : buffered_in lines ≡ (texts ++ line ∷ []) ++ more) (numbered : AreNumbered (suc (lines_given lines)) (texts ++ line ∷ [])) (are : TakenLines lines consumed (length (texts ++ line ∷ [])))
        (none : final.inputs.waiting ≡ None) {kind : Kind} (says : sequence_says start.mask.full (reached final) line ≡ Err kind) {fault : FaultValue} (is : fault ≡ fault_at_line First line.number kind) where
      says_now : sequence_says start.mask.full (state_behind (sequence_format start.mask.full) at items) line ≡ Err kind
      says_now = ap (λ (r : Reached). sequence_says start.mask.full r line) reached_now ∙ says

      is_now : fault ≡ fault_at_line (input_of start.lines) line.number kind
      is_now = is ∙ ap (λ (i : Input). fault_at_line i line.number kind) (sym s.first_is)

      no_end : (xs : List TextLine) → (xs ++ line ∷ []) ++ more ≡ [] → ⊥
      no_end [] e = cc
      no_end (x ∷ xs) e = cc

      going : stage.inputs.first_ended ≡ false
      going = grind (arith, no_end)

      pub refuses_line : {through : Output} → Grown grown bytes through → EndsAt (Some fault) new second_now through
      refuses_line {through} adds =
          let gone = refused source_a start.mask.full old_first s.past_first at lines new s.comes.first_passes texts line more items say_here kind says_now parts numbered consumed are takes fault is_now in (
            gone,
            refl,
            stop.first_fails s.comes (asks_for s) tt going more_first takes_second ended_second
                (rw (← (sym (alone final.inputs.written final.inputs.waiting none) ∙ given_now), ← taken_now) settled) tt
                (refuses source_a start.mask.full old_first s.past_first at lines new s.comes.first_passes texts line more items say_here kind says_now parts numbered consumed are takes fault is_now (λ k. is_fasta_kind k ≡ true)
                (wrong_first start.mask.full (reached final) line kind says))
                (stop.asks_then s.comes (asked s going) (λ extra asks. asked_more (given stage.inputs) extra stage.inputs.taken asks) more_first more_second second_now takes_second)
                (refuses_read source_a start.mask.full old_first s.past_first at lines new s.comes.first_passes texts line more items say_here kind says_now parts numbered consumed are takes fault is_now) adds,
            λ input number e. absurd (told_no_read kind line.number fault (wrong_first start.mask.full (reached final) line kind says) is input number e),
          )
