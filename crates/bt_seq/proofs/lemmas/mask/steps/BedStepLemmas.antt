-- Lemmas on a masking engine that is given a record, or the end of the records.
use Rattle.bt_lines.proofs.Std.{common_steps, rules, ◌≡◌, ℕ, ◌≤◌, ◌<◌, min, Bool, true, false, cond, ◌&&◌, ◌||◌, nat_lt, List, [], ◌∷◌, ◌++◌, filter, Option, Some, None, Result, Ok, Err, refl, sym, ap, ◌∙◌, subst, append-nil, inl, inr, ◌⊎◌, arith, is_some, option_map, option_to_list, nat_tests, filter-append, append_assoc, false≢true, flat_map-append, list_all-append}
use Rattle.std.specs.List.{last_or}
use Rattle.bt_bed.specs.model.Feature.{Feature}
use Rattle.bt_bed.specs.model.BedLine.{fault_at_line}
use Rattle.bt_lines.specs.calls.Names.{fault_value}
use Rattle.bt_lines.specs.model.Lines.{max_number, TextLine}
use Rattle.bt_lines.specs.calls.Output.{Output, Grown}
use Rattle.bt_lines.specs.declared.fault.Fault.{Fault}
use Rattle.bt_lines.specs.declared.fault.Input.TheVariants.{Second}
use Rattle.bt_lines.specs.declared.fault.Kind.TheVariants.{NoSequence}
use Rattle.bt_seq.proofs.lemmas.mask.steps.LineStepLemmas.{range_more, line_masked, open_undecided}
use Rattle.bt_seq.proofs.lemmas.mask.bases.KnownLemmas.{MayTake, never, next_can_be, none_ahead, own_ahead, owner_next, take_next}
use Rattle.bt_seq.proofs.lemmas.definitions.MaskPrefixLemmas.{blocks_front, decided_stays, held_before, masked_before, masked_stay}
use Rattle.bt_seq.proofs.lemmas.mask.steps.CopyLemmas.{decided_more, own_more, last_waits, stands_at, wants_bed, last_more}
use Rattle.bt_bed.specs.calls.Stage.{Follows, Stage, given, with_first}
use Rattle.bt_seq.specs.calls.MaskStage.{MayComeNext, MaskStage, reached, mask_want_of, with_decided, with_record, SayEach, GoesOn, MayFollow, SettlesLines, is_written_ahead, is_written_at_once, reached_by, with_line, held_for_line}
use Rattle.bt_seq.specs.calls.MaskState.{owner_by, owner_of, Masking, TakesBed, WritesWaiting, decides_line, decides_up_to, holding, holds, holds_by, line_bytes, with_owner, with_held, left_after}
use Rattle.bt_seq.specs.inside.Masking.{Counts, IsDecided, KnowsLast, KnowsNone, decided_up_to}
use Rattle.bt_seq.specs.calls.MaskSteps.{MaskMovesTo, IsAtStage, Waits, kept_line, ChecksRecord, EndsRecords, GivesBed, LacksSequence, WritesLine, bytes_with}
use Rattle.bt_seq.specs.model.Masked.{line_decided, masked_line, is_unnamed}
use Rattle.bt_seq.specs.model.Fasta.{SequenceLine, bases_up_to, Reached, sequence_says}
use Rattle.bt_seq.specs.model.SequenceBlocks.{block_decides, items_if_last, own_records}
use Rattle.bt_seq.specs.inside.Window.{Bounds, limit}
use Rattle.bt_seq.specs.declared.mask.mask_how.MaskHow.{MaskHow}
use Rattle.bt_seq.specs.declared.mask.MaskWant.TheVariants.{Line, Bed}
use Rattle.bt_bed.specs.declared.record.taken.Taken.{Taken}
use Rattle.bt_bed.specs.declared.record.taken.Taken.TheVariants.{Yes, No}
use Rattle.bt_seq.specs.declared.mask.matching.Owner.TheVariants.{Nobody}

held_counts : (last : Option SequenceLine) (w : Bounds) (b : Bool) (r : Feature) → Counts last w → Counts last (with_held b w r)
held_counts last w b r c = grind arith

module _ (line : SequenceLine) (r : Feature) (range : r.stop ≤ max_number) where
  abbrev reaches : Feature → Bool
  reaches r = nat_lt r.start (bases_up_to line) && nat_lt line.before r.stop

  -- one more record may be held
  held_more : (rs : List Feature) → held_for_line line (rs ++ r ∷ []) ≡ held_for_line line rs ++ filter reaches (items_if_last (left_after line.names (rs ++ r ∷ [])) (r ∷ []))
  held_more rs = ap (filter reaches) (own_more line.names rs r) ∙ filter-append reaches (own_records line.names rs) (items_if_last (left_after line.names (rs ++ r ∷ [])) (r ∷ []))

  module _ (w : Bounds) (before : w.before ≡ min line.before limit) where
    held_one : (left : Option (List (List ℕ))) → block_decides (bases_up_to line) left (r ∷ []) ≡ false
        → (with_held (holds_by (owner_by left) w r) w r).held ≡ w.held ++ filter reaches (items_if_last left (r ∷ []))
    held_one left e = grind (arith, append-nil)

    hold_item : (left : Option (List (List ℕ))) → block_decides (bases_up_to line) left (r ∷ []) ≡ false → holds_by (owner_by left) w r ≡ true → filter reaches (items_if_last left (r ∷ [])) ≡ r ∷ []
    hold_item left e d = grind arith

-- the block of a record that decides a line belongs to the last sequence or to none
decides_left : (bases : ℕ) (left : Option (List (List ℕ))) (r : Feature) → block_decides bases left (r ∷ []) ≡ true → (left ≡ None) ⊎ (left ≡ Some [])
decides_left bases left r e = grind arith

-- a line waits
module _ (how : MaskHow) (full : Bool) (stage : MaskStage) (line : SequenceLine) (waits : stage.inputs.waiting ≡ Some line) (old : Masking) (stands : MaskMovesTo how full stage old) where
  at_last : IsAtStage stage (Some line) old
  at_last = subst (λ (l : Option SequenceLine). IsAtStage stage l old) (last_waits stage line waits) stands.stands

  as_waits : Waits stage line
  as_waits = stands.stands.waits line waits

  pub kept_is : old.waiting ≡ Some (kept_line line)
  kept_is = stands.stands.waiting_is ∙ ap (λ (w : Option SequenceLine). option_map kept_line w) waits

  undecided_yet : line_decided line stage.inputs.taken ≡ false
  undecided_yet = open_undecided line stage.inputs.taken as_waits.named (at_last.is_open as_waits.lines)

  bytes_are : line_bytes old (kept_line line) ≡ masked_line how stage.inputs.taken line
  bytes_are = grind (arith, line_masked, at_last)

  given_last : last_or None ((stage.inputs.written ++ option_to_list stage.inputs.waiting) ++ []) ≡ Some line
  given_last = ap (last_or None) (append-nil (stage.inputs.written ++ option_to_list stage.inputs.waiting)) ∙ last_waits stage line waits

  module _ (r : Feature) (some : r.start < r.stop) (range : r.stop ≤ max_number) (next : MayComeNext stage.ahead r) where
    abbrev left : Option (List (List ℕ))
    left = left_after line.names (stage.inputs.taken ++ r ∷ [])

    can : KnowsNone line.names stage.inputs.taken old.matched ⊎ (MayTake line.names stage.inputs.taken r old.matched ⊎ KnowsLast line.names (stage.inputs.taken ++ r ∷ []) old.matched)
    can = next_can_be line.names stage.inputs.taken r old.matched (is_some stage.inputs.waiting) stage.ahead (at_last.inside.knows as_waits.bed) next

    owner_is : owner_of old.matched r.chrom ≡ owner_by left
    owner_is = owner_next line.names stage.inputs.taken r old.matched can at_last.inside.name_is

    decides_is : decides_line old r ≡ block_decides (bases_up_to line) left (r ∷ [])
    decides_is = grind (arith, nat_tests, owner_is, at_last)

    decided_is : line_decided line (stage.inputs.taken ++ r ∷ []) ≡ decides_line old r
    decided_is = decided_more line stage.inputs.taken r ∙ ap (λ b. b || block_decides (bases_up_to line) left (r ∷ [])) undecided_yet ∙ sym decides_is

    holds_is : holds old r ≡ holds_by (owner_by left) old.window r
    holds_is = ap (λ o. holds_by o old.window r) owner_is

    taken_stands : decides_line old r ≡ false → MaskMovesTo how full (with_record stage r) (holding old r)
    taken_stands e =
        let undecided : block_decides (bases_up_to line) left (r ∷ []) ≡ false = sym decides_is ∙ e in
        let owned : is_some left ≡ true = grind arith in
        let held : old.window.held ≡ held_for_line line stage.inputs.taken =
        at_last.holds (inl as_waits.lines) in
        stands_at how full (with_record stage r) (holding old r) (Some line) (last_waits stage line waits) stands.how_is stands.full_is (record {
          waiting_is = at_last.waiting_is;
          want_is = at_last.want_is;
          bed_ended_is = at_last.bed_ended_is;
          waits = λ l d. let w = stands.stands.waits l d in record { lines = w.lines; bed = w.bed; named = w.named; header = w.header };
          holds = λ d.
              ap (λ h. (with_held h old.window r).held) holds_is
              ∙ held_one line r range old.window at_last.inside.counts.before left undecided
              ∙ ap (λ (l : List Feature). l ++ filter (reaches line r range) (items_if_last left (r ∷ []))) held
              ∙ sym (held_more line r range stage.inputs.taken);
          is_open = λ d. inr (decided_is ∙ e);
          owned = owned;
          inside = record {
            counts = held_counts (Some line) old.window (holds old r) r at_last.inside.counts;
            name_is = (grind arith) ∙ at_last.inside.name_is;
            is_decided = λ n. absurd (let apart : Some line ≡ None = sym waits ∙ n in cc);
            in_range = range_more stage.inputs.taken r at_last.inside.in_range range;
            knows = λ d. inr (take_next line.names stage.inputs.taken r old.matched can owned);
            has_ahead = λ d. absurd (let apart : Bed ≡ Line = sym (ap (λ (w : Option SequenceLine). mask_want_of (is_some w) stage.inputs.first_ended stage.inputs.second_ended) waits) ∙ d in cc);
            ahead_in_range = λ a d. absurd (let apart : None ≡ Some a = d in cc);
            decided_to_is = λ n going a d. absurd (let apart : None ≡ Some a = d in cc);
          };
        })

    abbrev after_decided : Masking
    after_decided = record (with_owner old r.chrom) {
      waiting = None;
      want = Line;
      decided_to = decides_up_to (owner_of old.matched r.chrom) r.start;
    }

    decided_stands : decides_line old r ≡ true → MaskMovesTo how full (with_decided stage r) after_decided
    decided_stands e =
        stands_at how full (with_decided stage r) after_decided (Some line) given_last stands.how_is stands.full_is (record {
          waiting_is = refl;
          want_is = sym (ap (λ b. mask_want_of false b stage.inputs.second_ended) as_waits.lines);
          bed_ended_is = at_last.bed_ended_is;
          waits = λ l d. absurd (let apart : None ≡ Some l = d in cc);
          holds = at_last.holds;
          is_open = at_last.is_open;
          owned = at_last.owned;
          inside = record {
            counts = at_last.inside.counts;
            name_is = (grind arith) ∙ at_last.inside.name_is;
            is_decided = λ n going. decided_is ∙ e;
            in_range = at_last.inside.in_range;
            knows = λ d. elim (decides_left (bases_up_to line) left r (sym decides_is ∙ e)) [
              | inl none ↦ none_ahead line.names stage.inputs.taken r old.matched can as_waits.named none
              | inr own ↦ own_ahead line.names stage.inputs.taken r old.matched can own
            ];
            has_ahead = λ d going u. refl;
            ahead_in_range = λ a d. let same : r ≡ a = cc in subst (λ (a : Feature). a.start < limit) same (omega arith);
            decided_to_is = λ n going a d.
                let same : r ≡ a = cc in
                ap (λ o. decides_up_to o r.start) owner_is ∙ (grind arith)
                ∙ ap (λ (a : Feature). decided_up_to (left_after line.names (stage.inputs.taken ++ a ∷ [])) a) same;
          };
        })

    module _ (out : Output) (new : Masking) (grown : Output) where
      writes_line : (decides_line old r ≡ true) → Grown out (line_bytes old (kept_line line)) grown → new ≡ after_decided → WritesLine how full stage line r out new grown
      writes_line e puts is = record {
        decides = decided_is ∙ e;
        stands = subst (MaskMovesTo how full (with_decided stage r)) (sym is) (decided_stands e);
        puts = subst (λ bytes. Grown out bytes grown) bytes_are puts;
        settled = masked_before how line stage.inputs.taken r (decided_is ∙ e);
      }

      pub gives_bed : (answer : Result Taken Fault) → TakesBed old (kept_line line) r out answer new grown → GivesBed how full stage line r out answer new grown
      gives_bed (Ok Yes) t = grind (arith, decided_is, taken_stands)
      gives_bed (Ok No) t = writes_line t.0 t.2 t.1
      gives_bed (Err fault) t = grind (arith, decided_is, bytes_are, masked_before, held_more, hold_item, at_last, decides_is, holds_is)

  pub ends_bed : {A : Type 0} (answer : Result A Fault) (out : Output) (new : Masking) (grown : Output) → WritesWaiting (record old { bed_ended = true }) (kept_line line) out answer new grown → EndsRecords how full stage line out answer new grown
  ends_bed answer out new grown w = grind (arith, bytes_are, given_last, at_last)

-- after the last line
module _ (how : MaskHow) (full : Bool) (stage : MaskStage) (none : stage.inputs.waiting ≡ None) (old : Masking) (stands : MaskMovesTo how full stage old) (wants : old.want ≡ Bed) where
  ended : (stage.inputs.first_ended ≡ true) × (stage.inputs.second_ended ≡ false)
  ended = wants_bed stage.inputs.first_ended stage.inputs.second_ended (sym (ap (λ (w : Option SequenceLine). mask_want_of (is_some w) stage.inputs.first_ended stage.inputs.second_ended) none) ∙ sym stands.stands.want_is ∙ wants)

  module _ (r : Feature) (range : r.stop ≤ max_number) (next : MayComeNext stage.ahead r) where
    abbrev names : List (List ℕ)
    names = (reached stage).names

    abbrev left_now : Option (List (List ℕ))
    left_now = left_after names (stage.inputs.taken ++ r ∷ [])

    can_now : KnowsNone names stage.inputs.taken old.matched ⊎ (MayTake names stage.inputs.taken r old.matched ⊎ KnowsLast names (stage.inputs.taken ++ r ∷ []) old.matched)
    can_now = next_can_be names stage.inputs.taken r old.matched (is_some stage.inputs.waiting) stage.ahead (stands.stands.inside.knows ended.1) next

    owner_now : owner_of old.matched r.chrom ≡ owner_by left_now
    owner_now = owner_next names stage.inputs.taken r old.matched can_now stands.stands.inside.name_is

    abbrev last : Option SequenceLine
    last = last_or None (given stage.inputs)

    decided_now : IsDecided last (stage.inputs.taken ++ r ∷ [])
    decided_now = grind (arith, decided_stays, append-nil)

    checked_stands : is_some left_now ≡ true → MaskMovesTo how full (with_record stage r) (with_owner old r.chrom)
    checked_stands owned = record {
      how_is = stands.how_is;
      full_is = stands.full_is;
      stands = record {
        waiting_is = stands.stands.waiting_is;
        want_is = stands.stands.want_is;
        bed_ended_is = stands.stands.bed_ended_is;
        waits = λ l d. absurd (let apart : None ≡ Some l = sym none ∙ d in cc);
        holds = λ d. elim d [
          | inl lasts ↦ absurd (never (sym lasts ∙ ended.0))
          | inr placed ↦ grind (arith, blocks_front, held_before, decided_now)
        ];
        is_open = λ d. absurd (never (sym d ∙ ended.0));
        owned = owned;
        inside = record {
          counts = stands.stands.inside.counts;
          name_is = (grind arith) ∙ stands.stands.inside.name_is;
          is_decided = λ n going. subst (λ (rs : List Feature). IsDecided last rs)
              (sym (append-nil (stage.inputs.taken ++ r ∷ []))) decided_now;
          in_range = range_more stage.inputs.taken r stands.stands.inside.in_range range;
          knows = λ d. inr (take_next names stage.inputs.taken r old.matched can_now owned);
          has_ahead = λ d. absurd (let apart : Bed ≡ Line = sym wants ∙ stands.stands.want_is ∙ d in cc);
          ahead_in_range = λ a d. absurd (let apart : None ≡ Some a = d in cc);
          decided_to_is = λ n going a d. absurd (let apart : None ≡ Some a = d in cc);
        };
      };
    }

    pub checks_bed : (number : ℕ) (out : Output) (new : Masking) → (owner_of old.matched r.chrom ≡ Nobody → ⊥) → new ≡ with_owner old r.chrom → ChecksRecord how full stage r number out (Ok Yes) new out
    checks_bed number out new owner is = grind (arith, owner_now, checked_stands)

    pub lacks_sequence : (number : ℕ) (out : Output) (fault : Fault) → owner_of old.matched r.chrom ≡ Nobody → fault_value fault ≡ fault_at_line Second number NoSequence → LacksSequence how full stage r number out (fault_value fault) out
    lacks_sequence number out fault nobody is = grind (arith, owner_now)

-- Lemmas on how a masking engine goes on from one stage to another.

-- how far lines have come after others
abbrev reached_behind : Reached → List SequenceLine → Reached
reached_behind reached [] = reached
reached_behind reached (item ∷ items) = reached_behind (reached_by (Some item)) items

reached_more : (before items : List SequenceLine) → reached_by (last_or None (before ++ items)) ≡ reached_behind (reached_by (last_or None before)) items
reached_more before [] = ap (λ (l : List SequenceLine). reached_by (last_or None l)) (append-nil before)
reached_more before (item ∷ items) = grind (arith, append_assoc, last_more, reached_more (before ++ item ∷ []) items)

say_more : (full : Bool) (reached : Reached) (lines more : List TextLine) (items later : List SequenceLine) → SayEach full reached lines items
    → SayEach full (reached_behind reached items) more later → SayEach full reached (lines ++ more) (items ++ later)
say_more full reached [] more [] later first rest = rest
say_more full reached [] more (item ∷ items) later first rest = absurd (let apart : item ∷ items ≡ [] = first in cc)
say_more full reached (line ∷ lines) more [] later first rest = absurd first
say_more full reached (line ∷ lines) more (item ∷ items) later first rest = grind (arith, (say_more full (reached_by (Some item)) lines more items later first.1 rest))

none_settled : (how : MaskHow) (stage : MaskStage) → SettlesLines how stage [] []
none_settled how stage = record { are_decided = λ records follows going. refl; bytes_are = λ records ordered follows. refl }

settled_later : (how : MaskHow) (old new : MaskStage) (lines : List SequenceLine) (bytes : List ℕ) → new.inputs.second_ended ≡ old.inputs.second_ended
    → ((records : List Feature) → MayFollow new records → MayFollow old records) → SettlesLines how old lines bytes → SettlesLines how new lines bytes
settled_later how old new lines bytes same sees s = grind arith

settled_both : (how : MaskHow) (stage : MaskStage) (lines more : List SequenceLine) (bytes further : List ℕ) → SettlesLines how stage lines bytes
    → SettlesLines how stage more further → SettlesLines how stage (lines ++ more) (bytes ++ further)
settled_both how stage lines more bytes further first rest = grind (arith, list_all-append, flat_map-append)

follows_more : {old mid new : Stage SequenceLine Feature} {items later newly further : List SequenceLine} {records more : List Feature} → Follows old items newly records mid → Follows mid later further more new
    → Follows old (items ++ later) (newly ++ further) (records ++ more) new
follows_more first rest = grind (arith, append_assoc)

pub goes_more : {how : MaskHow} {full : Bool} {old mid new : MaskStage} {lines more : List TextLine} {records further : List Feature} {x y : List ℕ} → GoesOn how full old lines records mid x
    → GoesOn how full mid more further new y → GoesOn how full old (lines ++ more) (records ++ further) new (x ++ y)
goes_more {how} {full} {old} {mid} {new} {lines} {more} {records} {further} {x} {y} first rest =
    let reached_mid : reached mid ≡ reached_behind (reached old) first.items = ap (λ (l : List SequenceLine). reached_by (last_or None l)) first.follows.given_is ∙ reached_more (given old.inputs) first.items in
    record {
      items = first.items ++ rest.items;
      say = say_more full (reached old) lines more first.items rest.items first.say (subst (λ (r : Reached). SayEach full r more rest.items) reached_mid rest.say);
      newly = first.newly ++ rest.newly;
      follows = follows_more first.follows rest.follows;
      settles = settled_both how new first.newly rest.newly x y (settled_later how mid new first.newly x rest.follows.second_is rest.sees first.settles) rest.settles;
      sees = λ later follow. first.sees later (rest.sees later follow);
    }

module _ (how : MaskHow) (full : Bool) where
  pub goes_nowhere : (stage : MaskStage) → GoesOn how full stage [] [] stage []
  goes_nowhere stage = search rules

  -- a line that is written at once is settled
  module _ (stage : MaskStage) (line : SequenceLine) where
    settled_at_once : (bed unnamed : Bool) → stage.inputs.second_ended ≡ bed → is_unnamed line.names ≡ unnamed → (bed || (unnamed || is_written_ahead stage.ahead stage.inputs.taken line)) ≡ true
        → SettlesLines how stage (line ∷ []) (masked_line how stage.inputs.taken line)
    settled_at_once true unnamed e u now = grind (arith, common_steps)
    settled_at_once false true e u now = grind (arith, common_steps, blocks_front, masked_stay)
    settled_at_once false false e u now = grind (arith, decided_stays, append_assoc, masked_before)

  -- one more line
  module _ (stage : MaskStage) (line : TextLine) (item : SequenceLine) (none : stage.inputs.waiting ≡ None) (says : sequence_says full (reached stage) line ≡ Ok (Some item)) where
    given_alone : given stage.inputs ≡ stage.inputs.written
    given_alone = ap (λ (o : Option SequenceLine). stage.inputs.written ++ option_to_list o) none ∙ append-nil stage.inputs.written

    line_by : (b : Bool) → is_written_at_once stage item ≡ b
        → GoesOn how full stage (line ∷ []) [] (record stage { inputs = with_first b stage.inputs item }) (cond b (masked_line how stage.inputs.taken item) [])
    line_by true now = grind (arith, (append-nil (stage.inputs.written ++ item ∷ [])), given_alone, (append-nil stage.inputs.taken), (settled_at_once stage item stage.inputs.second_ended (is_unnamed item.names) refl refl now))
    line_by false later = record {
      items = item ∷ [];
      say = (says, refl);
      newly = [];
      follows = record {
        given_is = ap (λ l. l ++ item ∷ []) (sym given_alone);
        written_is = sym (append-nil stage.inputs.written);
        taken_is = sym (append-nil stage.inputs.taken);
        first_is = refl;
        second_is = refl;
      };
      settles = none_settled how (record stage { inputs = with_first false stage.inputs item });
      sees = λ records follows. record { more = follows.more; begins = follows.begins; all = follows.all };
    }

    pub line_goes : GoesOn how full stage (line ∷ []) [] (with_line stage item) (bytes_with how stage item)
    line_goes = line_by (is_written_at_once stage item) refl

  -- a record that was taken or is ahead comes after those seen
  module _ (stage : MaskStage) (r : Feature) (going : stage.inputs.second_ended ≡ false) where
    seen_by : (o : Option Feature) → stage.ahead ≡ o → MayComeNext o r → (records more : List Feature) → records ≡ (stage.inputs.taken ++ r ∷ []) ++ more → MayFollow stage records
    seen_by None is next records more e = record {
      more = r ∷ more;
      begins = e ∙ append_assoc stage.inputs.taken (r ∷ []) more ∙ ap (λ l. l ++ r ∷ more) (sym (append-nil stage.inputs.taken))
          ∙ ap (λ (o : Option Feature). (stage.inputs.taken ++ option_to_list o) ++ r ∷ more) (sym is)
          ∙ ap (λ (b : Bool). (stage.inputs.taken ++ cond b [] (option_to_list stage.ahead)) ++ r ∷ more) (sym going);
      all = λ over. absurd (false≢true (sym going ∙ over));
    }
    seen_by (Some a) is next records more e = record {
      more = more;
      begins = e ∙ ap (λ (x : Feature). (stage.inputs.taken ++ x ∷ []) ++ more) (sym next)
          ∙ ap (λ (o : Option Feature). (stage.inputs.taken ++ option_to_list o) ++ more) (sym is)
          ∙ ap (λ (b : Bool). (stage.inputs.taken ++ cond b [] (option_to_list stage.ahead)) ++ more) (sym going);
      all = λ over. absurd (false≢true (sym going ∙ over));
    }

    -- it was taken
    pub record_goes : MayComeNext stage.ahead r → GoesOn how full stage [] (r ∷ []) (with_record stage r) []
    record_goes next = grind (arith, append-nil, seen_by)

    -- it decided the line that waits
    pub decided_goes : MayComeNext stage.ahead r → (a : SequenceLine) → stage.inputs.waiting ≡ Some a → line_decided a (stage.inputs.taken ++ r ∷ []) ≡ true
        → GoesOn how full stage [] [] (with_decided stage r) (masked_line how stage.inputs.taken a)
    decided_goes next a waits decides_line = grind (arith, append-nil, decided_stays, append_assoc, masked_before, seen_by)
