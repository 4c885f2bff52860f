-- Lemmas on a reader of records in blocks as one of members, and on a reader of lines at its end.
use Rattle.bt_lines.proofs.Std.{◌≡◌, ℕ, Bool, true, false, List, [], take, None, Ok, Err, refl, ap, ◌∙◌, subst, suc, ◌+◌, ◌-◌, ◌≤◌, ◌∷◌, ◌++◌, length, drop, Some, sym, append_assoc, append-nil, length-append, arith, All, drop-append_seam, All-append, inl}
use Rattle.bt_lines.specs.declared.device.Source.{Ghosts as Source}
use Rattle.bt_lines.proofs.lemmas.reader.lines.BufferedLemmas.{none_left}
use Rattle.bt_lines.specs.calls.Reader.{buffered_bytes, buffered_in, fault_kept as line_fault, has_ended, is_open, lines_given, GivesEnd, GivesFault, IsKept, MakesLine, MayStillCome, TakenLines, TakesLines, held, input_of, lines_coming}
use Rattle.bt_lines.specs.calls.Names.{fault_value}
use Rattle.bt_lines.specs.declared.fault.Fault.{Fault}
use Rattle.bt_lines.specs.declared.reader.line_reader.LineReader.{LineReader}
use Rattle.bt_bed.proofs.lemmas.read.good.SaidRuns.{taken_are, LinesSay, good_said, say_front}
use Rattle.bt_bed.specs.calls.Batch.{IsWhere, Passes as PassesBatch, cursor_in, left}
use Rattle.bt_bed.specs.calls.SortedReader.{view_with}
use Rattle.bt_bed.specs.declared.read.batch.Consumed.{Consumed}
use Rattle.bt_bed.specs.calls.Blocks.{FillsBlocks, count_in, Lends, TakesBlocks, below, buffered_in as records_in, view_of}
use Rattle.bt_bed.specs.model.Feature.{Feature}
use Rattle.bt_bed.specs.model.BedLine.{fault_at_line}
use Rattle.bt_bed.specs.calls.Reading.{BeginsComing, IsBeyond, AreSaid, MemberReader, Takes, coming, first_from, good_behind, members_from, state_behind, with_members}
use Rattle.bt_bed.specs.declared.read.batch.Batch.{Batch}
use Rattle.bt_bed.specs.declared.read.blocks.Blocks.{Blocks}
use Rattle.bt_tool.specs.inside.Feed.{HasTaken, IsReadFor, PassesMembers, StopsAfter, WhateverComes}
use Rattle.bt_tool.proofs.lemmas.running.members.MemberLemmas.{IsFilled, IsOver, IsStopped, bytes_still, come_then, lines_then, members_low}
use Rattle.bt_tool.proofs.lemmas.running.members.PassedLemmas.{consumed_of}
use Rattle.bt_lines.proofs.lemmas.reader.block.ReadsLemmas.{hands_both}
use Rattle.bt_lines.proofs.lemmas.reader.lines.ComingLemmas.{made_coming}
use Rattle.bt_lines.proofs.lemmas.reader.lines.TakingLemmas.{sound_near, near_next, prefix_of}
use Rattle.bt_lines.specs.model.Fault.{FaultValue}
use Rattle.bt_lines.specs.model.Lines.{TextLine}
use Rattle.bt_lines.specs.calls.Line.{AreNumbered}
use Rattle.bt_lines.specs.calls.Output.{block_size}
use Rattle.bt_lines.specs.declared.reader.buffered_lines.ConsumedLines.{ConsumedLines}
use Rattle.bt_lines.specs.declared.fault.Kind.{Kind}
use Rattle.bt_lines.specs.declared.fault.Kind.TheVariants.{TextBeforeHeader}
use Rattle.bt_bed.proofs.lemmas.read.good.ReadingLemmas.{numbered_coming, some_bytes, Going, going_end, going_start, going_unread}
use Rattle.bt_bed.specs.model.Good.{Good, Member, good_after}
use Rattle.bt_seq.specs.calls.MaskStage.{SayEach}
use Rattle.bt_seq.specs.model.Fasta.{Reached, SequenceLine, sequence_says, sequence_format}
use Rattle.bt_tool.specs.inside.MaskLoop.{line_members}
use Rattle.bt_tool.proofs.lemmas.running.feed.WritingLemmas.{lines_on, near_from_start, up_to}

-- after the end no line is buffered
pub none_over : {S : Type 0} (reader : LineReader S) → has_ended reader ≡ true → buffered_in reader ≡ []
unfolding has_ended is_open buffered_bytes
none_over reader e = grind (arith, none_left)

-- what was consumed of a batch is what was taken
pub blocks_given : {S : Type 0} (records : Blocks S) (first last : Batch) (taken : List Feature) (consumed : Consumed) → Lends records first → PassesBatch first taken last → IsWhere last consumed → take (count_in records consumed) (records_in records) ≡ taken
unfolding view_of view_with
blocks_given records first last taken consumed lends passes is = taken_are records.sorted first last taken consumed lends passes is

-- what a batch has is what is buffered
pub lent_are : {S : Type 0} (records : Blocks S) (batch : Batch) → Lends records batch → left batch ≡ records_in records
unfolding view_of view_with
lent_are records batch lends = lends.left_is

pub lent_at : {S : Type 0} (records : Blocks S) (batch : Batch) → Lends records batch → (cursor_in batch).lines ≡ lines_given (below records)
unfolding view_of view_with
lent_at records batch lends = lends.given

module _ {S : Type 0} (device : Source S) (now new : Blocks S) where
  pub block_filled : FillsBlocks device now (Ok true) new → IsFilled device (view_of now) (view_of new)
  block_filled fills = record { m = fills.answers.0; gives = fills.answers.1; kept = fills.kept }

  pub block_over : FillsBlocks device now (Ok false) new → IsOver device (view_of now) (view_of new)
  block_over fills = record { ends = fills.answers; kept = fills.kept }

  pub block_stopped : (fault : Fault) → FillsBlocks device now (Err fault) new → IsStopped device (view_of now) (fault_value fault) (view_of new)
  block_stopped fault fills = record { answers = fills.answers; kept = fills.kept }

-- records were consumed of those that are buffered
pub blocks_taken : {S : Type 0} (device : Source S) (now new : Blocks S) (count : ℕ) (records : List Feature) → take count (records_in now) ≡ records
    → BeginsComing (view_of now) → TakesBlocks device now count new → HasTaken device (view_of now) records (view_of new)
blocks_taken device now new count records are comes takes = consumed_of device (view_of now) (view_of new) records comes (subst (λ (l : List Feature). Takes device (view_of now) l (view_of new)) are takes.takes)

-- Lemmas on a reader of lines as one of lines of sequences.

pub wrong_is_text : (full : Bool) (reached : Reached) (line : TextLine) (kind : Kind) → sequence_says full reached line ≡ Err kind → kind ≡ TextBeforeHeader
wrong_is_text full reached line kind e = grind arith

-- ---- lines that each say a line of a sequence

module _ (full : Bool) where
  pub say_count : (reached : Reached) (texts : List TextLine) (items : List SequenceLine) → SayEach full reached texts items → length texts ≡ length items
  say_count reached [] items say = sym (ap length say)
  say_count reached (line ∷ texts) [] say = absurd say
  say_count reached (line ∷ texts) (item ∷ items) say = ap suc (say_count ((sequence_format full).after reached item) texts items say.1)

  say_said : (reached : Reached) (texts : List TextLine) (items : List SequenceLine) → SayEach full reached texts items → AreSaid (sequence_format full) reached items
  say_said reached [] items say = subst (AreSaid (sequence_format full) reached) (sym say) tt
  say_said reached (line ∷ texts) [] say = absurd say
  say_said reached (line ∷ texts) (item ∷ items) say = ((line, say.0), say_said ((sequence_format full).after reached item) texts items say.1)

  say_lines : (reached : Reached) (texts more : List TextLine) (items : List SequenceLine) → SayEach full reached texts items → LinesSay (sequence_format full) reached (texts ++ more) items
  say_lines reached [] more items say = subst (LinesSay (sequence_format full) reached more) (sym say) tt
  say_lines reached (line ∷ texts) more [] say = absurd say
  say_lines reached (line ∷ texts) more (item ∷ items) say = (say.0, say_lines ((sequence_format full).after reached item) texts more items say.1)

-- ---- known lines

front_of : (front more all : List TextLine) → take (length (front ++ more)) all ≡ front ++ more → (rest : List TextLine) × (all ≡ front ++ rest)
front_of [] more all e = (all, refl)
front_of (x ∷ front) more [] e = cc
front_of (x ∷ front) more (y ∷ all) e = grind (arith, (front_of front more all (cc)))

-- the first of some members, and others
first_member : {A : Type 0} (from : ℕ) (items : List A) (m : Member A) (good : Good A) → first_from from items ≡ Some m → (more : List (Member A)) × ((with_members (members_from from items) good).members ≡ m ∷ more)
first_member from [] m good e = cc
first_member {A} from (x ∷ items) m good e =
    let is : record { line = from; item = x } ≡ m = cc in
    (members_from (suc from) items ++ good.members, ap (λ (m : Member A). m ∷ (members_from (suc from) items ++ good.members)) is)

module _ {S : Type 0} (device : Source S) (full : Bool) where
  -- lines of which these are known to be lines of sequences
  abbrev pub known_members : Reached → List SequenceLine → LineReader S → MemberReader S SequenceLine Reached
  known_members reached items lines = record {
    format = sequence_format full;
    below = lines;
    state = reached;
    buffered = items;
    fault = line_fault lines;
  }

  good_lines : (reached : Reached) (items : List SequenceLine) (lines : LineReader S) → line_fault lines ≡ None → (rest : List ℕ)
      → coming rest (known_members reached items lines) ≡ good_after (sequence_format full) (input_of lines) reached (lines_coming rest lines)
  unfolding coming
  good_lines reached items lines none rest = ap (λ fault. good_behind (sequence_format full) (input_of lines) fault reached (lines_coming rest lines)) none

  -- a line was made buffered
  module _ (old : MemberReader S SequenceLine Reached) (past : List (Member SequenceLine)) (reached : Reached) (lines new : LineReader S) (g : PassesMembers device old past (line_members full reached lines)) where
    module _ (makes : MakesLine device lines new) where
      lines_made : (rest : List ℕ) → MayStillCome new rest → lines_coming rest new ≡ drop (lines_given new) (lines_coming ((g.bytes.0 ++ makes.bytes.0) ++ rest) old.below)
      lines_made rest follows =
          sym (made_coming device lines new makes rest) ∙ lines_then device old past (line_members full reached lines) g makes.bytes.1 rest follows
          ∙ ap (λ n. drop n (lines_coming ((g.bytes.0 ++ makes.bytes.0) ++ rest) old.below)) (sym makes.counted)

      good_made : (rest : List ℕ) → coming (makes.bytes.0 ++ rest) (line_members full reached lines) ≡ coming rest (line_members full reached new)
      good_made rest =
          good_lines reached [] lines g.clear (makes.bytes.0 ++ rest)
          ∙ ap (good_after (sequence_format full) (input_of lines) reached) (made_coming device lines new makes rest)
          ∙ ap (λ input. good_after (sequence_format full) input reached (lines_coming rest new)) (sym makes.bytes.1.same_input)
          ∙ sym (good_lines reached [] new makes.goes rest)

      pub passes_made : (IsKept device lines → IsKept device new) → PassesMembers device old past (line_members full reached new)
      passes_made kept = record {
        format = g.format;
        bytes = (g.bytes.0 ++ makes.bytes.0, hands_both device old.below lines new g.bytes.0 makes.bytes.0 g.bytes.1 makes.bytes.1);
        said = g.said;
        state = g.state;
        come = λ rest follows. come_then device old past (line_members full reached lines) g makes.bytes.1 rest follows ∙ ap (with_members past) (good_made rest);
        behind = up_to (lines_given lines) (lines_given new) past (omega (arith, makes.counted)) g.behind;
        lines = lines_made;
        going = makes.goes;
        clear = makes.goes;
        kept = kept g.kept;
        served = makes.served ∙ g.served;
        ahead = λ m is. absurd (let apart : None ≡ Some m = is in cc);
        near = λ rest follows. near_from_start (lines_coming ((g.bytes.0 ++ makes.bytes.0) ++ rest) old.below) (lines_coming rest new) (lines_given new) (lines_given new) (length rest + block_size) (omega arith) (lines_made rest follows)
            (rw one (near_next new rest follows));
      }
        where
          one : suc (lines_given new) - lines_given new ≡ 1
          one = omega arith

  -- the lines have ended
  module _ (reached : Reached) (lines new : LineReader S) (kept : IsKept device lines → IsKept device new) where
    start : Going device (line_members full reached lines) (line_members full reached lines)
    start = going_start device (line_members full reached lines) refl refl

    pub gives_over : GivesEnd device lines new → IsOver device (line_members full reached lines) (line_members full reached new)
    gives_over ends = record {
      ends = going_end device (line_members full reached lines) (line_members full reached lines) (line_members full reached new) start ends refl refl (record { state = refl; format = refl })
          (λ same was. ap (line_members full reached) same);
      kept = kept;
    }

    -- or couldn't be read
    pub gives_unread : (fault : FaultValue) → GivesFault device lines fault new → IsStopped device (line_members full reached lines) fault (line_members full reached new)
    gives_unread fault gives = record {
      answers = going_unread device (line_members full reached lines) (line_members full reached lines) (line_members full reached new) fault start gives gives.kept refl (record { state = refl; format = refl })
          (λ same was. ap (line_members full reached) same);
      kept = kept;
    }

  -- lines were taken
  module _ (reached : Reached) (lines new : LineReader S) (going : line_fault lines ≡ None) (texts more : List TextLine) (items : List SequenceLine) (say : SayEach full reached texts items)
      (parts : buffered_in lines ≡ texts ++ more) (numbered : AreNumbered (suc (lines_given lines)) texts) (consumed : ConsumedLines) (count : ℕ) (are : TakenLines lines consumed count) (takes : TakesLines device lines consumed new) where
    abbrev pub reached_then : Reached
    reached_then = state_behind (sequence_format full) reached items

    -- no more than those
    module _ (all : count ≡ length items) where
      clear_then : line_fault new ≡ None
      clear_then = takes.fault_is ∙ going

      gone : (rest : List ℕ) → MayStillCome new rest → lines_coming rest new ≡ drop (length items) (lines_coming rest lines)
      gone rest follows = takes.left_is rest follows ∙ ap (λ k. drop k (lines_coming rest lines)) (are.feeds ∙ all)

      says_those : (rest : List ℕ) → MayStillCome new rest → LinesSay (sequence_format full) reached (lines_coming rest lines) items
      says_those rest follows =
          say_front (sequence_format full) reached (buffered_in lines) (lines_coming rest lines) items (prefix_of lines rest (λ told. follows (takes.told_is ∙ told)))
          (subst (λ l. LinesSay (sequence_format full) reached l items) (sym parts) (say_lines full reached texts more items say))

      good_then : (rest : List ℕ) → MayStillCome new rest
          → coming rest (known_members reached items lines) ≡ with_members (members_from (suc (lines_given lines)) items) (coming rest (line_members full reached_then new))
      unfolding coming
      good_then rest follows =
          rw (going, clear_then, takes.input_is, gone rest follows)
          (sym (good_said (sequence_format full) (input_of lines) (suc (lines_given lines)) reached (lines_coming rest lines) items (numbered_coming lines rest) (says_those rest follows)))

      taken : Takes device (known_members reached items lines) items (line_members full reached_then new)
      taken = record {
        buffered = sym (append-nil items);
        said = say_said full reached texts items say;
        state = refl;
        good = good_then;
        goes = takes.fault_is;
        below_stays = takes.fault_is;
        format = refl;
        given = omega (arith, takes.given, are.given, all);
        below = takes.below;
        hands = takes.hands;
        source = takes.source_is;
        lines = λ rest follows. (let count_is : lines_given new - lines_given lines ≡ length items = omega (arith, takes.given, are.given, all) in rw count_is (gone rest follows));
        kept = takes.kept;
        near = λ some. takes.near (some_bytes consumed.bytes (buffered_bytes lines) (omega (arith, are.feeds, all, some)));
        shrinks = omega (arith, takes.shrinks, takes.taken_is, are.feeds, all);
      }

      pub has_taken : HasTaken device (known_members reached items lines) items (line_members full reached_then new)
      has_taken = record { takes = taken; ahead = λ m is. absurd (let apart : None ≡ Some m = is in cc) }

      -- they were known to come
      pub passes_known : (old : MemberReader S SequenceLine Reached) (past : List (Member SequenceLine)) → PassesMembers device old past (line_members full reached lines) → PassesMembers device old past (known_members reached items lines)
      passes_known old past g = record {
        format = g.format;
        bytes = g.bytes;
        said = g.said;
        state = g.state;
        come = λ rest follows. g.come rest follows ∙ ap (with_members past) (good_lines reached [] lines going rest ∙ sym (good_lines reached items lines going rest));
        behind = g.behind;
        lines = g.lines;
        going = g.going;
        clear = g.clear;
        kept = g.kept;
        served = g.served;
        ahead = λ m is rest follows.
            let first = first_member (suc (lines_given lines)) items m (coming rest (line_members full reached_then new)) is in
            (first.0, ap (λ (good : Good SequenceLine). good.members) (good_then rest (λ told. follows (sym takes.told_is ∙ told))) ∙ first.1);
        near = g.near;
      }

      -- once these bytes were handed over
      pub known_bytes : (old : MemberReader S SequenceLine Reached) (past : List (Member SequenceLine)) (g : PassesMembers device old past (line_members full reached lines)) → (passes_known old past g).bytes.0 ≡ g.bytes.0
      unfolding passes_known
      known_bytes old past g = refl

  -- lines were taken, of which the last one is at fault
  module _ (old : MemberReader S SequenceLine Reached) (past : List (Member SequenceLine)) (reached : Reached) (lines new : LineReader S) (g : PassesMembers device old past (line_members full reached lines))
      (before : List TextLine) (line : TextLine) (more : List TextLine) (items : List SequenceLine) (say : SayEach full reached before items) (kind : Kind) (says : sequence_says full (state_behind (sequence_format full) reached items) line ≡ Err kind)
      (parts : buffered_in lines ≡ (before ++ line ∷ []) ++ more) (numbered : AreNumbered (suc (lines_given lines)) (before ++ line ∷ [])) (consumed : ConsumedLines) (are : TakenLines lines consumed (length (before ++ line ∷ [])))
      (takes : TakesLines device lines consumed new) (fault : FaultValue) (is : fault ≡ fault_at_line (input_of old.below) line.number kind) where
    abbrev pub refused : MemberReader S SequenceLine Reached
    refused = record {
      format = sequence_format full;
      below = new;
      state = state_behind (sequence_format full) reached items;
      buffered = [];
      fault = Some fault;
    }

    abbrev members : List (Member SequenceLine)
    members = members_from (suc (lines_given lines)) items

    number_by : (number : ℕ) (front : List TextLine) → AreNumbered number (front ++ line ∷ []) → line.number ≡ number + length front
    number_by number [] n = omega (arith, n.0)
    number_by number (x ∷ front) n = omega (arith, number_by (suc number) front n.1)

    abbrev count : ℕ
    count = lines_given lines + length items

    given_is : lines_given new ≡ suc count
    given_is = omega (arith, takes.given, are.given, length-append before (line ∷ []), say_count full reached before items say)

    good_stops : (rest : List TextLine) → good_after (sequence_format full) (input_of lines) (state_behind (sequence_format full) reached items) (line ∷ rest) ≡ record { members = []; fault = Some fault }
    unfolding good_after
    good_stops rest = grind arith

    good_known : (all : List TextLine) → take (length (buffered_in lines)) all ≡ buffered_in lines → AreNumbered (suc (lines_given lines)) all
        → good_after (sequence_format full) (input_of lines) reached all ≡ with_members members (record { members = []; fault = Some fault })
    good_known all e n =
        let front = front_of (before ++ line ∷ []) more all (subst (λ l. take (length l) all ≡ l) parts e) in
        let whole : all ≡ before ++ line ∷ front.0 = front.1 ∙ append_assoc before (line ∷ []) front.0 in
        let size : length items ≡ length before = sym (say_count full reached before items say) in
        let left_is : drop (length items) all ≡ line ∷ front.0 = ap (λ k. drop k all) size ∙ ap (drop (length before)) whole ∙ drop-append_seam before (line ∷ front.0) in
        sym (good_said (sequence_format full) (input_of lines) (suc (lines_given lines)) reached all items n (subst (λ l. LinesSay (sequence_format full) reached l items) (sym whole) (say_lines full reached before (line ∷ front.0) items say)))
        ∙ ap (λ l. with_members members (good_after (sequence_format full) (input_of lines) (state_behind (sequence_format full) reached items) l)) left_is
        ∙ ap (with_members members) (good_stops front.0)

    still : (rest : List ℕ) → MayStillCome new rest → MayStillCome lines rest
    still rest follows told = follows (takes.told_is ∙ told)

    pub whole : WhateverComes old g.bytes.0 refused (λ good. (good.members ≡ past ++ members) × (good.fault ≡ Some fault))
    whole rest follows =
        let now : coming rest (line_members full reached lines) ≡ with_members members (record { members = []; fault = Some fault }) =
        good_lines reached [] lines g.clear rest ∙ good_known (lines_coming rest lines) (prefix_of lines rest (still rest follows)) (numbered_coming lines rest) in
        let all = g.come rest (still rest follows) ∙ ap (with_members past) now in (
          ap (λ (good : Good SequenceLine). good.members) all ∙ ap (λ (l : List (Member SequenceLine)). past ++ l) (append-nil members),
          ap (λ (good : Good SequenceLine). good.fault) all,
        )

    pub clear : line_fault new ≡ None
    clear = takes.fault_is ∙ g.clear

    -- so it stops there
    abbrev pub refuses : (Kinds : Kind → Type 0) → Kinds kind → StopsAfter device old Kinds (past ++ members) fault refused
    refuses Kinds of_kind = record {
      bytes = bytes_still device old past (line_members full reached lines) g refused takes.hands;
      cause = inl (inl (record {
        whole = whole;
        line = line.number;
        kind = kind;
        is = is;
        of_kind = of_kind;
        served = ap device.has_failed takes.source_is ∙ g.served;
        clear = clear;
        within = (takes.kept g.kept).within clear;
      }));
    }

    lines_now : (rest : List ℕ) → MayStillCome new rest → lines_coming rest new ≡ drop (lines_given new) (lines_coming (g.bytes.0 ++ rest) old.below)
    lines_now rest follows =
        lines_on (lines_coming (g.bytes.0 ++ rest) old.below) (lines_coming rest lines) (lines_coming rest new) (lines_given lines) (lines_given new) (omega (arith, given_is)) (g.lines rest (still rest follows))
        (takes.left_is rest follows ∙ ap (λ k. drop k (lines_coming rest lines)) (omega (arith, takes.given, are.given, are.feeds)))

    held_block : length (held new) ≤ block_size
    held_block = takes.near (some_bytes consumed.bytes (buffered_bytes lines) (omega (arith, are.feeds, length-append before (line ∷ []))))

    behind_by : (good : Good SequenceLine) → (good.members ≡ past ++ members) × (good.fault ≡ Some fault)
        → (more : List (Member SequenceLine)) × (good.members ≡ (past ++ members) ++ more) × IsBeyond count (record { members = more; fault = good.fault })
    behind_by good w = grind (arith, append-nil, number_by (suc (lines_given lines)) before numbered, say_count full reached before items say)

    low_then : All (λ m. m.line ≤ count) (past ++ members)
    low_then =
        All-append (λ (m : Member SequenceLine). m.line ≤ count) past members (up_to (lines_given lines) count past (omega arith) g.behind) (members_low (lines_given lines) items)

    pub refuses_read : IsReadFor device old g.bytes.0 (past ++ members) (past ++ members) refused
    refuses_read = record {
      to = record {
        count = count;
        near = λ rest follows. rw (← given_is, ← lines_now rest follows)
            (sound_near device new (record { within = (takes.kept g.kept).within; near = λ none. held_block }) clear rest);
        behind = λ rest follows. behind_by (coming (g.bytes.0 ++ rest) old) (whole rest follows);
      };
      low = low_then;
      high = up_to count (suc count) (past ++ members) (omega arith) low_then;
      begins = λ rest follows. ([], (whole rest follows).0 ∙ sym (append-nil (past ++ members)));
    }
