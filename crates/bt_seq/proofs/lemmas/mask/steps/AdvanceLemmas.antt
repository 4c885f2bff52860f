-- Lemmas on lines and records that are given to a masking engine together.
use Rattle.bt_lines.proofs.Std.{common_steps, rules, ◌≡◌, ◌⊎◌, inl, inr, ℕ, ◌<◌, ◌≤◌, Bool, true, false, false≢true, List, [], ◌∷◌, ◌++◌, length, append-nil, append_assoc, Option, None, Some, Result, Ok, Err, refl, sym, ap, ◌∙◌, arith, flat_map, length-append}
use Rattle.bt_bed.specs.model.Feature.{Feature}
use Rattle.bt_bed.specs.declared.read.cursor.Cursor.{Ghosts as Cursor}
use Rattle.bt_bed.specs.declared.record.taken.Taken.{Taken}
use Rattle.bt_bed.specs.declared.record.taken.Taken.TheVariants.{Yes, No}
use Rattle.bt_lines.proofs.lemmas.Writer.{grown_more, grown_none}
use Rattle.bt_lines.specs.calls.Reader.{PassesLine, lines_in}
use Rattle.bt_lines.specs.model.Lines.{TextLine, spelled}
use Rattle.bt_lines.specs.calls.Names.{fault_value}
use Rattle.bt_lines.specs.calls.Output.{Output, Grown}
use Rattle.bt_lines.specs.declared.reader.buffered_lines.BufferedLines.{BufferedLines}
use Rattle.bt_lines.specs.declared.fault.Fault.{Fault}
use Rattle.bt_seq.proofs.lemmas.mask.steps.CopyLemmas.{none_pass, stays_at, wants_line}
use Rattle.bt_seq.proofs.lemmas.mask.steps.LineStepLemmas.{gives_line}
use Rattle.bt_seq.proofs.lemmas.mask.bases.MaskingLemmas.{passes_line}
use Rattle.bt_seq.proofs.lemmas.mask.steps.BedStepLemmas.{decided_goes, goes_more, goes_nowhere, line_goes, record_goes}
use Rattle.bt_seq.specs.inside.Masking.{CopiesThrough, StayEach, passed_all}
use Rattle.bt_seq.specs.calls.MaskStage.{PassesTextLines, GoesOn, MayComeNext, MaskStage, with_decided, with_line, with_record}
use Rattle.bt_seq.specs.calls.MaskState.{Masking, TakesSequenceLine, passed, stays_as_given}
use Rattle.bt_seq.specs.calls.MaskSteps.{BothCome, ComesAfter, GivesAhead, FailsAtRecord, GivesBoth, HasCome, asks_more, left_to_give, MaskMovesTo, MaskStandsAt, ChecksRecord, GivesBed, TakesNextLine, bytes_with}
use Rattle.bt_seq.specs.model.Masked.{masked_line}
use Rattle.bt_seq.specs.model.Fasta.{SequenceLine}
use Rattle.bt_seq.specs.declared.mask.mask_how.MaskHow.{MaskHow}
use Rattle.bt_seq.specs.declared.mask.MaskWant.{MaskWant}
use Rattle.bt_seq.specs.declared.mask.MaskWant.TheVariants.{Line, Bed, Nothing}

-- an output that has put these bytes, all of which were taken
all_taken : List ℕ → Output
all_taken bytes = record { put = bytes; took = bytes; has_failed = false; sink_has_failed = false; sink_last_failed = false; sink_is_flushed = false }

grown_taken : (bytes : List ℕ) → Grown (all_taken []) bytes (all_taken bytes)
unfolding all_taken
grown_taken bytes = record {
  appends = refl;
  block = λ block. ([], sym (append-nil bytes), omega arith);
  grows = (bytes, refl);
  served = refl;
  sink_served = refl;
  again = λ failed. absurd (false≢true failed);
  nothing = λ none. ap all_taken none;
}

grown_bytes : {bytes more : List ℕ} → Grown (all_taken []) more (all_taken bytes) → bytes ≡ more
unfolding all_taken
grown_bytes g = g.appends

none_waits : {how : MaskHow} {full : Bool} {stage : MaskStage} {m : Masking} → MaskMovesTo how full stage m → m.want ≡ Line → stage.inputs.waiting ≡ None
none_waits {stage} stands wants = (wants_line stage.inputs.waiting stage.inputs.first_ended stage.inputs.second_ended (sym stands.stands.want_is ∙ wants)).0

module _ (how : MaskHow) (full : Bool) where
  line_copied : (stage : MaskStage) (m : Masking) → MaskMovesTo how full stage m → m.want ≡ Line → (line : TextLine) → stays_as_given m line.text ≡ true
      → TakesNextLine how full stage line (all_taken []) (passed m line.text) (all_taken (spelled line))
  line_copied stage m stands wants line stay =
      gives_line how full stage m stands wants line (all_taken []) (passed m line.text) (all_taken (spelled line)) (Ok (tt {0}))
      (passes_line (tt {0}) m (passed m line.text) line.number (record { text = line.text; ending = line.ending }) (all_taken []) (all_taken (spelled line)) (stay, refl, grown_taken (spelled line)))

  -- where lines that are copied through lead to
  pub record LinesCopied (stage : MaskStage) (m : Masking) (lines : List TextLine) : Type 0 where
    pub now : MaskStage
    pub goes : GoesOn how full stage lines [] now (flat_map spelled lines)
    pub stands : MaskMovesTo how full now (passed_all m lines)
    pub ahead : now.ahead ≡ stage.ahead

  pub lines_copied : (lines : List TextLine) (stage : MaskStage) (m : Masking) → MaskMovesTo how full stage m → m.want ≡ Line → StayEach m lines → LinesCopied stage m lines
  lines_copied [] stage m stands wants stay = record { now = stage; goes = goes_nowhere how full stage; stands = stands; ahead = refl }
  lines_copied (line ∷ lines) stage m stands wants stay =
      let one = line_copied stage m stands wants line stay.0 in
      let mid = with_line stage one.item in
      let first : GoesOn how full stage (line ∷ []) [] mid (spelled line) = rw (grown_bytes one.puts) (line_goes how full stage line one.item (none_waits stands wants) one.says) in
      let rest = lines_copied lines mid (passed m line.text) one.stands refl stay.1 in
      record { now = rest.now; goes = goes_more first rest.goes; stands = rest.stands; ahead = rest.ahead ∙ (grind arith) }

-- what was given after that
abbrev come_more : {how : MaskHow} {full : Bool} {old : MaskStage} {lines more : List TextLine} {records further : List Feature} {out mid later : Output} {middle new : Masking}
    → (first : HasCome how full old lines records out middle mid) → (rest : HasCome how full first.stage more further mid new later)
    → HasCome how full old (lines ++ more) (records ++ further) out new later
come_more {out} {mid} {later} first rest = record {
  stage = rest.stage;
  bytes = first.bytes ++ rest.bytes;
  goes_on = goes_more first.goes_on rest.goes_on;
  stands = rest.stands;
  puts = grown_more out mid later first.bytes rest.bytes first.puts rest.puts;
}

abbrev come_nowhere : (stage : MaskStage) (m : Masking) (out : Output) → MaskStandsAt stage m → HasCome m.how m.full stage [] [] out m out
come_nowhere stage m out stands = record { stage = stage; bytes = []; goes_on = goes_nowhere m.how m.full stage; stands = stays_at stage m stands; puts = grown_none out }

passed_wants : (lines : List TextLine) (m : Masking) → m.want ≡ Line → (passed_all m lines).want ≡ Line
passed_wants [] m e = e
passed_wants (line ∷ lines) m e = passed_wants lines (passed m line.text) refl

-- after lines that were copied through a line is wanted
pub wants_more : (old : Masking) (lines : BufferedLines) (out : Output) (wants : old.want ≡ Line) {A : Type 0} (done : A) (mid : Masking) (left : BufferedLines) (between : Output)
    → CopiesThrough old lines out (Ok done) mid left between → mid.want ≡ Line
wants_more old lines out wants done mid left between copies = ap (λ (s : Masking). s.want) copies.writes.0 ∙ passed_wants copies.texts old wants

-- what a call with a record says, if a line waits and if none does
abbrev Waits : Masking → Feature → Output → Result Taken Fault → Masking → Output → Type 0
Waits old r out answer new grown = (stage : MaskStage) (waiting : SequenceLine) → MaskStandsAt stage old → stage.inputs.waiting ≡ Some waiting
    → MayComeNext stage.ahead r → GivesBed old.how old.full stage waiting r out answer new grown

abbrev NoneWaits : Masking → Feature → ℕ → Output → Result Taken Fault → Masking → Output → Type 0
NoneWaits old r number out answer new grown = (stage : MaskStage) → MaskStandsAt stage old → stage.inputs.waiting ≡ None
    → MayComeNext stage.ahead r → ChecksRecord old.how old.full stage r number out answer new grown

-- while a record is wanted, they go on
pub going : {stage : MaskStage} {old : Masking} → MaskStandsAt stage old → old.want ≡ Bed → (o : Option SequenceLine) → stage.inputs.waiting ≡ o → stage.inputs.second_ended ≡ false
going stands wants o e = grind (arith, common_steps)

fails_by : {old : Masking} {r : Feature} {number : ℕ} {out grown : Output} (fault : Fault) (new : Masking) → Waits old r out (Err fault) new grown → NoneWaits old r number out (Err fault) new grown
    → (stage : MaskStage) → MaskStandsAt stage old → MayComeNext stage.ahead r → (o : Option SequenceLine) → stage.inputs.waiting ≡ o
    → (new.want ≡ Nothing) × FailsAtRecord old.how old.full o stage r number out (fault_value fault) grown
fails_by fault new waits none stage stands next None e = none stage stands e next
fails_by fault new waits none stage stands next (Some a) e = waits stage a stands e next

-- a cursor over records, which gave none at first
module _ {C R : Type 0} (cursor : Cursor C R) (gives_none : (at : C) → cursor.gives at [] at) where
  -- lines leave the record ahead
  leave_ahead : (records : C) (was now : Option Feature) → now ≡ was → GivesAhead cursor was records → GivesAhead cursor now records × ComesAfter cursor was records [] now
  leave_ahead records was now same next = (rw same next, λ r is. inl (sym same ∙ is, refl))

  -- lines were given alone
  gave_texts : {A : Type 0} {answer : Result A Fault} {old new : Masking} {lines left : BufferedLines} {records : C} {out grown : Output} (texts : List TextLine) → PassesTextLines lines texts left
      → ((stage : MaskStage) → MaskStandsAt stage old → GivesAhead cursor stage.ahead records → BothCome cursor old.how old.full stage texts [] out records answer new records grown)
      → GivesBoth cursor old lines records out answer new left records grown
  gave_texts {records} texts passes comes = record { texts = texts; passes = passes; taken = []; given = gives_none records; comes = comes }

  -- what giving lines does
  module _ (records : C) (old : Masking) (lines : BufferedLines) (out : Output) (wants : old.want ≡ Line) where
    copied_from : (texts : List TextLine) (stage : MaskStage) → MaskStandsAt stage old → StayEach old texts → LinesCopied old.how old.full stage old texts
    copied_from texts stage stands stay = lines_copied old.how old.full texts stage old (stays_at stage old stands) wants stay

    module _ {A : Type 0} {done : A} {mid : Masking} {left : BufferedLines} {between : Output} (copies : CopiesThrough old lines out (Ok done) mid left between) where
      abbrev come_first : (stage : MaskStage) → MaskStandsAt stage old → HasCome old.how old.full stage copies.texts [] out mid between
      come_first stage stands =
          let c = copied_from copies.texts stage stands copies.stay in
          record { stage = c.now; bytes = flat_map spelled copies.texts; goes_on = c.goes; stands = rw copies.writes.0 c.stands; puts = copies.writes.1 }

      leave_first : (stage : MaskStage) (stands : MaskStandsAt stage old) → GivesAhead cursor stage.ahead records → (now : Option Feature) → now ≡ (come_first stage stands).stage.ahead
          → GivesAhead cursor now records × ComesAfter cursor stage.ahead records [] now
      leave_first stage stands next now same = leave_ahead records stage.ahead now (same ∙ (copied_from copies.texts stage stands copies.stay).ahead) next

      -- no line comes after those that were copied through
      pub gave_copied : {B : Type 0} {given : B} → GivesBoth cursor old lines records out (Ok given) mid left records between
      gave_copied = gave_texts copies.texts copies.passes (λ stage stands next. let same = leave_first stage stands next _ refl in (come_first stage stands, same.0, same.1))

      next_wanted : mid.want ≡ Line
      next_wanted = wants_more old lines out wants done mid left between copies

      -- one does
      module _ (line : TextLine) {last : BufferedLines} (passes : PassesLine left line last) {new : Masking} {grown : Output} where
        pub gave_line : {B D : Type 0} (took : B) {given : D} → TakesSequenceLine mid line.number (record { text = line.text; ending = line.ending }) between (Ok took) new grown
            → GivesBoth cursor old lines records out (Ok given) new last records grown
        gave_line took takes = gave_texts (copies.texts ++ line ∷ []) (grind (arith, append_assoc, length-append)) (λ stage stands next.
            let first = come_first stage stands in
            let now = first.stage in
            let t = gives_line old.how old.full now mid first.stands next_wanted line between new grown (Ok took) takes in
            let one : HasCome old.how old.full now (line ∷ []) [] between new grown = record {
              stage = with_line now t.item;
              bytes = bytes_with old.how now t.item;
              goes_on = line_goes old.how old.full now line t.item (none_waits first.stands next_wanted) t.says;
              stands = t.stands;
              puts = t.puts;
            } in
            let same = leave_first stage stands next _ (grind arith) in
            (come_more first one, same.0, same.1))

        pub failed_line : {D : Type 0} (fault : Fault) → TakesSequenceLine {A = Unit {0}} mid line.number (record { text = line.text; ending = line.ending }) between (Err fault) new grown
            → GivesBoth cursor {A = D} old lines records out (Err fault) new last records grown
        failed_line fault takes = gave_texts (copies.texts ++ line ∷ []) (grind (arith, append_assoc, length-append)) (λ stage stands next.
            let first = come_first stage stands in
            let failed = gives_line old.how old.full first.stage mid first.stands next_wanted line between new grown {A = Unit {0}} (Err fault) takes in
            let same = leave_first stage stands next _ refl in (
              failed.0,
              record {
                before = copies.texts;
                failing = line ∷ [];
                parts = refl;
                mask = mid;
                through = between;
                comes = first;
                next = same.0;
                after = same.1;
                fails = inl (sym first.stands.stands.want_is ∙ next_wanted, inl (line, refl, failed.1));
              },
            ))

    -- lines weren't all copied through
    pub failed_copy : {A B : Type 0} (fault : Fault) {new : Masking} {left : BufferedLines} {grown : Output} → CopiesThrough {A = A} old lines out (Err fault) new left grown
        → GivesBoth cursor {A = B} old lines records out (Err fault) new left records grown
    failed_copy fault copies = gave_texts copies.texts copies.passes (λ stage stands next.
        let c = copied_from copies.texts stage stands copies.stay in (
          copies.writes.0,
          record {
            before = [];
            failing = copies.texts;
            parts = refl;
            mask = old;
            through = out;
            comes = come_nowhere stage old out stands;
            next = next;
            after = λ r is. inl (is, refl);
            fails = inl (sym stands.want_is ∙ wants, inr (record { stage = c.now; bytes = flat_map spelled copies.texts; goes_on = c.goes; ahead_is = c.ahead; fails = copies.writes.1 }));
          },
        ))

  -- nothing comes next
  pub gave_none : {A : Type 0} (done : A) (old : Masking) (lines : BufferedLines) (records : C) (out : Output) → GivesBoth cursor old lines records out (Ok done) old lines records out
  gave_none done old lines records out = gave_texts [] (none_pass lines) (λ stage stands next. (come_nowhere stage old out stands, next, λ r is. inl (is, refl)))

  -- one does, and was given
  module _ {old : Masking} {records later : C} (r : Feature) (given : cursor.gives records (r ∷ []) later)
      {number : ℕ} (number_is : number ≡ cursor.line later) (wants : old.want ≡ Bed) {out grown : Output} {new : Masking} where
    took_by : Waits old r out (Ok Yes) new grown → NoneWaits old r number out (Ok Yes) new grown
        → (stage : MaskStage) → MaskStandsAt stage old → MayComeNext stage.ahead r → (o : Option SequenceLine) → stage.inputs.waiting ≡ o → (grown ≡ out) × MaskMovesTo old.how old.full (with_record stage r) new
    took_by waits none stage stands next None e = let t = none stage stands e next in (t.1, t.0)
    took_by waits none stage stands next (Some a) e = let t = waits stage a stands e next in (t.same_output, t.stands)

    pub gave_taken : {A : Type 0} {done : A} {lines : BufferedLines} → Waits old r out (Ok Yes) new grown → NoneWaits old r number out (Ok Yes) new grown
        → GivesBoth cursor old lines records out (Ok done) new lines later grown
    gave_taken {lines} waits none = record {
      texts = [];
      passes = none_pass lines;
      taken = r ∷ [];
      given = given;
      comes = λ stage stands next.
          let is = next r later given in
          let t = took_by waits none stage stands is stage.inputs.waiting refl in (
            record {
              stage = with_record stage r;
              bytes = [];
              goes_on = record_goes old.how old.full stage r (going stands wants stage.inputs.waiting refl) is;
              stands = t.1;
              puts = rw t.0 (grown_none out);
            },
            λ next further gives_it. tt,
            λ next e. absurd (let apart : None ≡ Some next = e in cc),
          );
    }

    -- the record that was left is the one ahead
    come_left : ((old mid new : C) (x y : Feature) (ys : List Feature) → cursor.gives old (x ∷ []) mid → cursor.gives old (y ∷ ys) new → x ≡ y) → Waits old r out (Ok No) new grown
        → NoneWaits old r number out (Ok No) new grown → {A : Type 0} (done : A) (stage : MaskStage) → MaskStandsAt stage old → MayComeNext stage.ahead r → (o : Option SequenceLine) → stage.inputs.waiting ≡ o
        → BothCome cursor old.how old.full stage [] [] out records (Ok done) new records grown
    come_left gives_same waits none done stage stands next None e = absurd (none stage stands e next)
    come_left gives_same waits none done stage stands next (Some a) e =
        let t = waits stage a stands e next in (
          record {
            stage = with_decided stage r;
            bytes = masked_line old.how stage.inputs.taken a;
            goes_on = decided_goes old.how old.full stage r (going stands wants (Some a) e) next a e t.decides;
            stands = t.stands;
            puts = t.puts;
          },
          λ next further gives_it. gives_same records later further r next [] given gives_it,
          λ next e. inr (records, later, gives_none records, let same : next ≡ r = cc in rw same given),
        )

    pub gave_left : ((old mid new : C) (x y : Feature) (ys : List Feature) → cursor.gives old (x ∷ []) mid → cursor.gives old (y ∷ ys) new → x ≡ y)
        → {A : Type 0} {done : A} {lines : BufferedLines} → Waits old r out (Ok No) new grown → NoneWaits old r number out (Ok No) new grown
        → GivesBoth cursor old lines records out (Ok done) new lines records grown
    gave_left gives_same {done} {lines} waits none =
        gave_texts [] (none_pass lines) (λ stage stands next. come_left gives_same waits none done stage stands (next r later given) stage.inputs.waiting refl)

    pub failed_record : {A : Type 0} (fault : Fault) {lines : BufferedLines} → Waits old r out (Err fault) new grown → NoneWaits old r number out (Err fault) new grown
        → GivesBoth cursor {A = A} old lines records out (Err fault) new lines records grown
    failed_record fault {lines} waits none = gave_texts [] (none_pass lines) (λ stage stands next.
        let f = fails_by fault new waits none stage stands (next r later given) stage.inputs.waiting refl in (
          f.0,
          record {
            before = [];
            failing = [];
            parts = refl;
            mask = old;
            through = out;
            comes = come_nowhere stage old out stands;
            next = next;
            after = λ r is. inl (is, refl);
            fails = inr (r, later, refl, sym stands.want_is ∙ wants, given, rw (← number_is) f.1);
          },
        ))

-- what is given after that
module _ {C R : Type 0} (cursor : Cursor C R) (gives_more : (old mid new : C) (xs ys : List Feature) → cursor.gives old xs mid → cursor.gives mid ys new → cursor.gives old (xs ++ ys) new)
    {A : Type 0} {done : A} {old mid : Masking} {lines between : BufferedLines} {records passing : C} {out through : Output}
    (first : GivesBoth cursor old lines records out (Ok done) mid between passing through) where
  after_both : {was mid_ahead ahead : Option Feature} {taken : List Feature} → ComesAfter cursor was records first.taken mid_ahead → ComesAfter cursor mid_ahead passing taken ahead
      → ComesAfter cursor was records (first.taken ++ taken) ahead
  after_both f c = search rules

  module _ {new : Masking} {left : BufferedLines} {last : C} {grown : Output} where
    -- what was given changes neither how it masks nor how it names sequences
    comes_then : {B : Type 0} {answer : Result B Fault} (rest : GivesBoth cursor mid between passing through answer new left last grown) (stage : MaskStage) (stands : MaskStandsAt stage old)
        (next : GivesAhead cursor stage.ahead records) → BothCome cursor old.how old.full (first.comes stage stands next).0.stage rest.texts rest.taken through passing answer new last grown
    comes_then rest stage stands next = let f = first.comes stage stands next in rw (← f.0.stands.how_is, ← f.0.stands.full_is) (rest.comes f.0.stage f.0.stands.stands f.1)

    both : {B D : Type 0} {answer : Result B Fault} (result : Result D Fault) (rest : GivesBoth cursor mid between passing through answer new left last grown)
        → ((stage : MaskStage) → MaskStandsAt stage old → GivesAhead cursor stage.ahead records
        → BothCome cursor old.how old.full stage (first.texts ++ rest.texts) (first.taken ++ rest.taken) out records result new last grown)
        → GivesBoth cursor old lines records out result new left last grown
    both result rest comes = record {
      texts = first.texts ++ rest.texts;
      passes = grind (arith, append_assoc, length-append);
      taken = first.taken ++ rest.taken;
      given = gives_more records passing last first.taken rest.taken first.given rest.given;
      comes = comes;
    }

    pub both_more : {B D : Type 0} {b : B} (d : D) → GivesBoth cursor mid between passing through (Ok b) new left last grown → GivesBoth cursor old lines records out (Ok d) new left last grown
    both_more d rest = both (Ok d) rest (λ stage stands next.
        let f = first.comes stage stands next in
        let c = comes_then rest stage stands next in
        (come_more f.0 c.0, c.1, after_both f.2 c.2))

    pub both_fail : {B D : Type 0} (fault : Fault) → GivesBoth cursor {A = B} mid between passing through (Err fault) new left last grown
        → GivesBoth cursor {A = D} old lines records out (Err fault) new left last grown
    both_fail fault rest = both (Err fault) rest (λ stage stands next.
        let f = first.comes stage stands next in
        let c = comes_then rest stage stands next in (
          c.0,
          record {
            before = first.texts ++ c.1.before;
            failing = c.1.failing;
            parts = ap (λ l. first.texts ++ l) c.1.parts ∙ sym (append_assoc first.texts c.1.before c.1.failing);
            mask = c.1.mask;
            through = c.1.through;
            comes = come_more f.0 c.1.comes;
            next = c.1.next;
            after = after_both f.2 c.1.after;
            fails = c.1.fails;
          },
        ))

asks_one : (want : MaskWant) → asks_more want ≤ 1
asks_one want = grind arith

-- less may be given then
module _ {C R : Type 0} (cursor : Cursor C R) (old new : Masking) where
  pub line_shrinks : (lines left : BufferedLines) (records : C) → length (lines_in left) < length (lines_in lines) → left_to_give cursor new left records < left_to_give cursor old lines records
  line_shrinks lines left records less = omega (arith, less, asks_one new.want)

  pub record_shrinks : (lines : BufferedLines) (records left : C) → old.want ≡ Bed → (cursor.room left < cursor.room records) ⊎ ((left ≡ records) × (new.want ≡ Line))
      → left_to_give cursor new lines left < left_to_give cursor old lines records
  record_shrinks lines records left wants x4 = grind arith
