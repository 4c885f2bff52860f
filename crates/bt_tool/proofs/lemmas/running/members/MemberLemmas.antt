-- What a reader that was filled has become.
use Rattle.bt_lines.proofs.Std.{◌≡◌, None, ℕ, suc, ◌+◌, ◌-◌, ◌≤◌, true, false, List, [], ◌∷◌, ◌++◌, length, take, drop, Option, Some, Err, refl, sym, ap, ◌∙◌, subst, append_assoc, append-nil, arith, inl, inr, ◌⊎◌, All, drop-drop, length-append, length-drop, map-append, take-append-drop, All-append, All-nil, Ok, All-push}
use Rattle.bt_lines.specs.declared.device.Source.{Ghosts as Source}
use Rattle.bt_lines.specs.model.Fault.{FaultValue, read_failed}
use Rattle.bt_lines.specs.calls.Reader.{IsKept, Hands, MayStillCome, end_told, has_ended, held, input_of, lines_coming, lines_given, GivesLine}
use Rattle.bt_bed.specs.model.Good.{Member, Format, Good, ends_with, good_after}
use Rattle.bt_bed.specs.model.BedLine.{fault_at_line}
use Rattle.bt_bed.specs.calls.Reading.{AnswersFault, EndsMembers, GivesMember, MemberReader, IsBeyond, AreSaid, Cause, ahead_in, coming, first_from, members_from, state_behind, with_members}
use Rattle.bt_lines.specs.model.Lines.{TextLine, bytes_in, lines_from}
use Rattle.bt_lines.specs.calls.Output.{block_size}
use Rattle.bt_lines.specs.declared.fault.Input.{Input}
use Rattle.bt_lines.specs.declared.fault.Kind.{Kind}
use Rattle.bt_lines.specs.declared.reader.line_reader.LineReader.{LineReader}
use Rattle.bt_lines.specs.inside.ReadBuffer.{unread}
use Rattle.bt_lines.proofs.lemmas.reader.block.ReadsLemmas.{comes_before, hands_none, hands_both}
use Rattle.bt_lines.proofs.lemmas.reader.lines.TakingLemmas.{sound_near}
use Rattle.bt_lines.proofs.lemmas.reader.lines.TextLemmas.{bytes_in-append}
use Rattle.bt_tool.specs.inside.Feed.{IsFresh, AreAll, HasFaultBehind, HasTaken, IsReadFor, LacksMemory, PassesMembers, IsLater, StopsAfter, WhateverComes, member_items}
use Rattle.bt_bed.proofs.lemmas.read.good.ReadingLemmas.{LineCame, good_is, one_passes}
use Rattle.bt_tool.proofs.lemmas.running.feed.WritingLemmas.{begins_beyond, begins_with, cuts_both, lines_on, members_both, near_from_start, up_to}
use Rattle.bt_tool.proofs.lemmas.running.pair.StopLemmas.{beyond_now, stops_faulty}

module _ {S A State : Type 0} (device : Source S) where
  -- the reader has a member buffered
  pub record IsFilled (old new : MemberReader S A State) : Type 0 where
    pub m : Member A
    pub gives : GivesMember device old m new
    pub kept : IsKept device old.below → IsKept device new.below

  -- it has given all members
  pub record IsOver (old new : MemberReader S A State) : Type 0 where
    pub ends : EndsMembers device old new
    pub kept : IsKept device old.below → IsKept device new.below

  -- it reports a fault
  pub record IsStopped (old : MemberReader S A State) (fault : FaultValue)
      (new : MemberReader S A State) : Type 0 where
    pub answers : AnswersFault device old fault new
    pub kept : IsKept device old.below → IsKept device new.below

-- Lemmas on what a reader of members has consumed.

pub nothing_ahead : {S A State : Type 0} (reader : MemberReader S A State) (m : Member A) → reader.buffered ≡ [] → ahead_in reader ≡ Some m → ⊥
nothing_ahead reader m none is = let apart : None ≡ Some m = sym (ap (first_from (suc (lines_given reader.below))) none) ∙ is in cc

pub one_ahead : {A : Type 0} {ahead : Option (Member A)} {m x : Member A} → ahead ≡ Some m → ahead ≡ Some x → m ≡ x
one_ahead e f = let both = sym e ∙ f in cc

-- ---- what follows later

-- nothing was handed over since
pub later_same : {S : Type 0} (bytes : List ℕ) (now new : LineReader S) → (end_told now ≡ true → end_told new ≡ true) → IsLater bytes now bytes new
later_same bytes now new keeps rest follows = (rest, λ told. follows (keeps told), refl)

-- or these bytes were
pub later_then : {S : Type 0} (device : Source S) (bytes : List ℕ) {more : List ℕ} {now new : LineReader S} → Hands device now more new → IsLater bytes now (bytes ++ more) new
later_then device bytes {more} hands rest follows = (more ++ rest, comes_before device hands rest follows, append_assoc bytes more rest)

-- later still
pub later_both : {S : Type 0} (first second third : List ℕ) (old now new : LineReader S) → IsLater first old second now → IsLater second now third new → IsLater first old third new
later_both first second third old now new one two rest follows =
    let far = two rest follows in
    let near = one far.0 far.1 in
    (near.0, near.1, far.2 ∙ near.2)

-- what is so whatever follows is so later
pub whatever_later : {S A State : Type 0} (old now new : MemberReader S A State) (bytes all : List ℕ) (P : Good A → Type 0) → IsLater bytes now.below all new.below → WhateverComes old bytes now P → WhateverComes old all new P
whatever_later old now new bytes all P later so rest follows = let there = later rest follows in subst (λ l. P (coming l old)) (sym there.2) (so there.0 there.1)

-- ---- lists of items and of members

-- what is known after these items and others
pub state_more : {A State : Type 0} (format : Format A State) (state : State) (items more : List A)
    → state_behind format state (items ++ more) ≡ state_behind format (state_behind format state items) more
state_more format state [] more = refl
state_more format state (x ∷ items) more = state_more format (format.after state x) items more

pub said_more : {A State : Type 0} (format : Format A State) (state : State) (items more : List A) → AreSaid format state items
    → AreSaid format (state_behind format state items) more → AreSaid format state (items ++ more)
said_more format state [] more said next = next
said_more format state (x ∷ items) more said next = (said.0, said_more format (format.after state x) items more said.1 next)

pub items_from : {A : Type 0} (from : ℕ) (items : List A) → member_items (members_from from items) ≡ items
items_from from [] = refl
items_from from (x ∷ items) = ap (λ l. x ∷ l) (items_from (suc from) items)

-- the items of members that were taken after others
pub items_take : {A : Type 0} (past : List (Member A)) (from : ℕ) (taken : List A) → member_items (past ++ members_from from taken) ≡ member_items past ++ taken
items_take past from taken = map-append (λ m. m.item) past (members_from from taken) ∙ ap (λ l. member_items past ++ l) (items_from from taken)

-- members numbered from a line on are on as many lines
pub members_low : {A : Type 0} (given : ℕ) (taken : List A) → All (λ m. m.line ≤ given + length taken) (members_from (suc given) taken)
members_low {A} given [] = All-nil (λ (m : Member A). m.line ≤ given + 0)
members_low {A} given (x ∷ taken) = grind (arith, (members_low (suc given) taken))

-- the last of some members
members_last : {A : Type 0} (from : ℕ) (xs : List A) (a : A) → members_from from (xs ++ a ∷ []) ≡ members_from from xs ++ record { line = from + length xs; item = a } ∷ []
members_last {A} from [] a = ap (λ (n : ℕ). record { line = n; item = a } ∷ []) (let none : from ≡ from + 0 = omega arith in none)
members_last {A} from (x ∷ xs) a = grind (arith, (members_last (suc from) xs a))

-- once the end was reached, no line comes
none_coming : {S : Type 0} (reader : LineReader S) → has_ended reader ≡ true → lines_coming [] reader ≡ []
unfolding has_ended held lines_coming lines_from
none_coming reader e = grind arith

-- if no line is left after those given later, there are no more than these
no_more : (start now : List TextLine) (given later : ℕ) → given ≤ later → now ≡ drop given start → drop (later - given) now ≡ [] → length start ≤ later
no_more start now given later h p e = grind (arith, (length-drop given start), (length-drop (later - given) now))

-- more lines leave no more
pub near_more : (lines : List TextLine) (count more bound : ℕ) → count ≤ more → bytes_in (drop count lines) ≤ bound → bytes_in (drop more lines) ≤ bound
near_more lines count more bound up h =
    let both = bytes_in-append (take (more - count) (drop count lines)) (drop (more - count) (drop count lines)) in
    grind (arith, take-append-drop, drop-drop)

-- a line at fault comes after the members that were taken
all_behind : {A : Type 0} (old now : Good A) (past : List (Member A)) (fault : Option FaultValue) → old ≡ with_members past now → now ≡ ends_with fault → (old.members ≡ past) × (old.fault ≡ fault)
all_behind old now past fault come wrong = grind (arith, append-nil)

-- the last of some members lies after those lines too, and so does what comes after it
pub behind_last : {A : Type 0} (count : ℕ) (old : Good A) (past : List (Member A)) (m : Member A) → suc count ≡ m.line
    → (more : List (Member A)) × (old.members ≡ (past ++ m ∷ []) ++ more) × IsBeyond (suc count) (record { members = more; fault = old.fault })
    → (more : List (Member A)) × (old.members ≡ past ++ more) × IsBeyond count (record { members = more; fault = old.fault })
behind_last count old past m at b = grind (arith, append_assoc)

module _ {S A State : Type 0} (device : Source S) (old : MemberReader S A State) where
  -- before the first record
  pub passes_start : IsFresh device old → PassesMembers device old [] old
  passes_start fresh = record {
    format = refl;
    bytes = ([], hands_none device old.below);
    said = tt;
    state = refl;
    come = λ rest follows. refl;
    behind = λ k d h. absurd (omega arith);
    lines = λ rest follows. rw fresh.none_given.0 refl;
    going = fresh.going;
    clear = fresh.clear;
    kept = record { within = fresh.sound.within };
    served = refl;
    ahead = λ m is. absurd (nothing_ahead old m fresh.none_buffered is);
    near = λ rest follows. near_more (lines_coming rest old.below) 0 (suc (lines_given old.below)) (length rest + block_size) (omega arith) (sound_near device old.below fresh.sound fresh.clear rest);
  }

  module _ (past : List (Member A)) (now : MemberReader S A State) (g : PassesMembers device old past now) where
    abbrev pub bytes_more : (new : MemberReader S A State) → (bytes : List ℕ) × Hands device now.below bytes new.below → (bytes : List ℕ) × Hands device old.below bytes new.below
    bytes_more new hands = (g.bytes.0 ++ hands.0, hands_both device old.below now.below new.below g.bytes.0 hands.0 g.bytes.1 hands.1)

    -- nothing more was handed over
    abbrev pub bytes_still : (new : MemberReader S A State) → Hands device now.below [] new.below → (bytes : List ℕ) × Hands device old.below bytes new.below
    bytes_still new hands = (
      g.bytes.0,
      subst (λ bytes. Hands device old.below bytes new.below) (append-nil g.bytes.0) (hands_both device old.below now.below new.below g.bytes.0 [] g.bytes.1 hands),
    )

    -- what came before a call comes after the members that were consumed, behind the bytes of the call
    module _ {new : LineReader S} {bytes : List ℕ} (hands : Hands device now.below bytes new) (rest : List ℕ) (follows : MayStillCome new rest) where
      pub come_then : coming ((g.bytes.0 ++ bytes) ++ rest) old ≡ with_members past (coming (bytes ++ rest) now)
      come_then = rw (append_assoc g.bytes.0 bytes rest) (g.come (bytes ++ rest) (comes_before device hands rest follows))

      pub lines_then : lines_coming (bytes ++ rest) now.below ≡ drop (lines_given now.below) (lines_coming ((g.bytes.0 ++ bytes) ++ rest) old.below)
      lines_then = rw (append_assoc g.bytes.0 bytes rest) (g.lines (bytes ++ rest) (comes_before device hands rest follows))

    -- a member is buffered
    unfoldable pub passes_fill : (new : MemberReader S A State) → IsFilled device now new → PassesMembers device old past new
    passes_fill new fills =
        let gives = fills.gives in
        let hands = gives.stays.bytes.1 in
        record {
          format = gives.stays.format ∙ g.format;
          bytes = bytes_more new gives.stays.bytes;
          said = g.said;
          come = λ rest follows. come_then hands rest follows ∙ ap (with_members past) (gives.good rest follows);
          behind = up_to (lines_given now.below) (lines_given new.below) past gives.rises g.behind;
          lines = λ rest follows. lines_on (lines_coming ((g.bytes.0 ++ gives.stays.bytes.0) ++ rest) old.below) (lines_coming (gives.stays.bytes.0 ++ rest) now.below) (lines_coming rest new.below) (lines_given now.below) (lines_given new.below) gives.rises (lines_then hands rest follows) (gives.lines rest follows);
          state = gives.state ∙ g.state;
          going = gives.goes ∙ g.going;
          clear = gives.below_goes;
          kept = fills.kept g.kept;
          served = gives.served ∙ g.served;
          ahead = λ m is rest follows.
              let same : fills.m ≡ m = one_ahead gives.ahead is in
              let first = gives.first rest follows in
              (first.0, ap (λ (good : Good A). good.members) (sym (gives.good rest follows)) ∙ first.1 ∙ ap (λ (m : Member A). m ∷ first.0) same);
          near = λ rest follows. near_from_start (lines_coming ((g.bytes.0 ++ gives.stays.bytes.0) ++ rest) old.below) (lines_coming (gives.stays.bytes.0 ++ rest) now.below) (lines_given now.below) (lines_given new.below) (length rest + block_size) gives.rises (lines_then hands rest follows) (gives.near rest follows);
        }

    -- members were taken
    unfoldable pub passes_take : (taken : List A) (new : MemberReader S A State) → HasTaken device now taken new
        → PassesMembers device old (past ++ members_from (suc (lines_given now.below)) taken) new
    passes_take taken new has =
        let takes = has.takes in
        let items = items_take past (suc (lines_given now.below)) taken in
        let rises : lines_given now.below ≤ lines_given new.below = omega (arith, takes.given) in
        record {
          format = takes.format ∙ g.format;
          bytes = bytes_still new takes.hands;
          said = rw items (said_more old.format old.state (member_items past) taken g.said
              (subst (λ (f : Format A State). AreSaid f (state_behind old.format old.state (member_items past)) taken) g.format
              (subst (λ (s : State). AreSaid now.format s taken) g.state takes.said)));
          come = λ rest follows.
              g.come rest (comes_before device takes.hands rest follows) ∙ ap (with_members past) (takes.good rest follows)
              ∙ members_both past (members_from (suc (lines_given now.below)) taken) (coming rest new);
          behind = All-append (λ (m : Member A). m.line ≤ lines_given new.below) past (members_from (suc (lines_given now.below)) taken)
              (up_to (lines_given now.below) (lines_given new.below) past rises g.behind)
              (up_to (lines_given now.below + length taken) (lines_given new.below) (members_from (suc (lines_given now.below)) taken) (omega (arith, takes.given)) (members_low (lines_given now.below) taken));
          lines = λ rest follows. lines_on (lines_coming (g.bytes.0 ++ rest) old.below) (lines_coming rest now.below) (lines_coming rest new.below) (lines_given now.below) (lines_given new.below) rises (g.lines rest (comes_before device takes.hands rest follows)) (takes.lines rest follows);
          state = takes.state ∙ ap (λ (f : Format A State). state_behind f now.state taken) g.format ∙ ap (λ (s : State). state_behind old.format s taken) g.state
              ∙ sym (state_more old.format old.state (member_items past) taken) ∙ ap (state_behind old.format old.state) (sym items);
          going = takes.goes ∙ g.going;
          clear = takes.below_stays ∙ g.clear;
          kept = takes.kept g.kept;
          served = ap device.has_failed takes.source ∙ g.served;
          ahead = has.ahead;
          near = λ rest follows. near_more (lines_coming (g.bytes.0 ++ rest) old.below) (suc (lines_given now.below)) (suc (lines_given new.below)) (length rest + block_size) (omega (arith, takes.given)) (g.near rest (comes_before device takes.hands rest follows));
        }

    -- the input has ended
    module _ (new : MemberReader S A State) (ended : IsOver device now new) where
      abbrev last_bytes : List ℕ
      last_bytes = ended.ends.stays.bytes.0

      -- nothing follows
      none_follows : (rest : List ℕ) → MayStillCome new.below rest → last_bytes ++ rest ≡ last_bytes
      none_follows rest follows = ap (λ l. last_bytes ++ l) (follows ended.ends.told) ∙ append-nil last_bytes

      pub ends_then : (rest : List ℕ) → MayStillCome new.below rest → coming ((g.bytes.0 ++ last_bytes) ++ rest) old ≡ with_members past (ends_with None)
      ends_then rest follows = come_then ended.ends.stays.bytes.1 rest follows ∙ ap (with_members past) (ap (λ l. coming l now) (none_follows rest follows) ∙ ended.ends.none_left)

      lines_end : (rest : List ℕ) → MayStillCome new.below rest → drop (lines_given new.below - lines_given now.below) (lines_coming (last_bytes ++ rest) now.below) ≡ []
      lines_end rest follows = ap (λ l. drop (lines_given new.below - lines_given now.below) (lines_coming l now.below)) (none_follows rest follows) ∙ ended.ends.lines

      pub none_now : (rest : List ℕ) → MayStillCome new.below rest → lines_coming rest new.below ≡ []
      none_now rest follows = ap (λ l. lines_coming l new.below) (follows ended.ends.told) ∙ none_coming new.below ended.ends.ends

      pub all_lines : (rest : List ℕ) → MayStillCome new.below rest → lines_coming rest new.below ≡ drop (lines_given new.below) (lines_coming ((g.bytes.0 ++ last_bytes) ++ rest) old.below)
      all_lines rest follows = lines_on (lines_coming ((g.bytes.0 ++ last_bytes) ++ rest) old.below) (lines_coming (last_bytes ++ rest) now.below) (lines_coming rest new.below) (lines_given now.below) (lines_given new.below) ended.ends.rises
          (lines_then ended.ends.stays.bytes.1 rest follows) (none_now rest follows ∙ sym (lines_end rest follows))

      pub passes_all : AreAll device old (g.bytes.0 ++ last_bytes) past new
      passes_all rest follows = all_behind (coming ((g.bytes.0 ++ last_bytes) ++ rest) old) (ends_with None) past None (ends_then rest follows) refl

      unfoldable pub passes_end : PassesMembers device old past new
      passes_end = record {
        format = ended.ends.stays.format ∙ g.format;
        bytes = bytes_more new ended.ends.stays.bytes;
        said = g.said;
        come = λ rest follows. ends_then rest follows ∙ ap (with_members past) (sym (ap (λ l. coming l new) (follows ended.ends.told) ∙ ended.ends.none_comes));
        behind = up_to (lines_given now.below) (lines_given new.below) past ended.ends.rises g.behind;
        lines = all_lines;
        state = ended.ends.state ∙ g.state;
        going = ended.ends.goes;
        clear = ended.ends.below_goes;
        kept = ended.kept g.kept;
        served = ended.ends.served ∙ g.served;
        ahead = λ m is. absurd (nothing_ahead new m ended.ends.none_buffered is);
        near = λ rest follows. near_more (lines_coming ((g.bytes.0 ++ last_bytes) ++ rest) old.below) (lines_given new.below) (suc (lines_given new.below)) (length rest + block_size) (omega arith)
            (omega (arith, ap bytes_in (sym (all_lines rest follows) ∙ none_now rest follows)));
      }

    -- nothing is read after the end
    pub fails_before_end : (new : MemberReader S A State) (fault : FaultValue) → IsStopped device now fault new → (input : Input) (line : ℕ) → fault ≡ read_failed input line → end_told now.below ≡ false
    fails_before_end new fault stopped input line e = grind arith

    module _ (kinds : Kind → Type 0) (of_format : (state : State) (line : TextLine) (kind : Kind) → old.format.says state line ≡ Err kind → kinds kind) where
      pub cause_of : (new : MemberReader S A State) (fault : FaultValue) → IsKept device new.below → (answers : AnswersFault device now fault new)
          → Cause device now answers.stays.bytes.0 fault new
          → HasFaultBehind device old kinds (g.bytes.0 ++ answers.stays.bytes.0) past fault new ⊎ LacksMemory device old fault new
      cause_of new fault kept answers (inl at) = inl (inl (record {
        whole = λ rest follows. all_behind (coming ((g.bytes.0 ++ answers.stays.bytes.0) ++ rest) old) (ends_with (Some fault)) past (Some fault)
            (come_then answers.stays.bytes.1 rest follows ∙ ap (with_members past) (at.none_left rest follows)) refl;
        line = lines_given new.below;
        kind = at.kind;
        is = at.place ∙ ap (λ input. fault_at_line input (lines_given new.below) at.kind) (g.bytes.1.same_input);
        of_kind = of_format now.state at.line at.kind (subst (λ (f : Format A State). f.says now.state at.line ≡ Err at.kind) g.format at.says);
        served = at.served ∙ g.served;
        clear = at.going;
        within = kept.within at.going;
      }))
      cause_of new fault kept answers (inr (inl unread)) = inl (inr (record {
        is = unread.fails.is ∙ ap (λ input. read_failed input (suc (lines_given new.below))) (g.bytes.1.same_input);
        kept = answers.kept;
        cause = unread.fails.cause;
        cut = cuts_both device old.below now.below new.below g.bytes.0 g.bytes.1 unread.fails.before_end (g.kept.within g.clear) answers.stays.bytes.0 answers.stays.bytes.1 (unread.fails.cut g.kept);
        members = λ rest follows. begins_beyond (coming ((g.bytes.0 ++ answers.stays.bytes.0) ++ rest) old) (coming (answers.stays.bytes.0 ++ rest) now) past (lines_given new.below)
            (come_then answers.stays.bytes.1 rest follows) (unread.passed rest follows);
        behind = up_to (lines_given now.below) (lines_given new.below) past answers.rises g.behind;
      }))
      cause_of new fault kept answers (inr (inr ran)) = inr (record { is = ran.is; served = ran.served ∙ g.served })

      -- it reports a fault
      abbrev pub passes_stop : (new : MemberReader S A State) (fault : FaultValue) → IsStopped device now fault new
          → StopsAfter device old kinds past fault new
      passes_stop new fault stopped = record {
        bytes = bytes_more new stopped.answers.stays.bytes;
        cause = cause_of new fault (stopped.kept g.kept) stopped.answers (stopped.answers.first g.going);
      }

    -- how far the input was read
    unfoldable pub read_here : IsReadFor device old g.bytes.0 past past now
    read_here = record {
      to = record {
        count = lines_given now.below;
        near = g.near;
        behind = λ rest follows. begins_beyond (coming (g.bytes.0 ++ rest) old) (coming rest now) past (lines_given now.below) (g.come rest follows) (beyond_now device now g.going rest);
      };
      low = g.behind;
      high = up_to (lines_given now.below) (suc (lines_given now.below)) past (omega arith) g.behind;
      begins = λ rest follows. begins_with (coming (g.bytes.0 ++ rest) old) (coming rest now) past (g.come rest follows);
    }

    -- and there are no more lines at its end
    pub ended_after_all : (new : MemberReader S A State) (over : IsOver device now new) → length (lines_coming (g.bytes.0 ++ over.ends.stays.bytes.0) old.below) ≤ lines_given new.below
    ended_after_all new over =
        no_more (lines_coming (g.bytes.0 ++ over.ends.stays.bytes.0) old.below) (lines_coming over.ends.stays.bytes.0 now.below) (lines_given now.below) (lines_given new.below) over.ends.rises
        (g.lines over.ends.stays.bytes.0 (still over.ends.stays.bytes.1)) over.ends.lines
      where
        still : {bytes : List ℕ} → Hands device now.below bytes new.below → MayStillCome now.below bytes
        still {bytes} hands told = sym (append-nil bytes) ∙ comes_before device hands [] (λ e. refl) told

    -- if it stops at a fault
    pub read_at_stop : (new : MemberReader S A State) (fault : FaultValue) (stopped : IsStopped device now fault new) → IsReadFor device old (g.bytes.0 ++ stopped.answers.stays.bytes.0) past past new
    read_at_stop new fault stopped =
        let bytes = stopped.answers.stays.bytes.0 in
        let hands = stopped.answers.stays.bytes.1 in
        let stops = stops_faulty device now g.going g.kept new fault stopped.answers (stopped.kept g.kept) in
        record {
          to = record {
            count = stops.0;
            near = λ rest follows. near_from_start (lines_coming ((g.bytes.0 ++ bytes) ++ rest) old.below) (lines_coming (bytes ++ rest) now.below) (lines_given now.below) stops.0 (length rest + block_size) stops.1.from (lines_then hands rest follows) (stops.1.near rest follows);
            behind = λ rest follows. begins_beyond (coming ((g.bytes.0 ++ bytes) ++ rest) old) (coming (bytes ++ rest) now) past stops.0 (come_then hands rest follows) (stops.1.passed rest follows);
          };
          low = up_to (lines_given now.below) stops.0 past stops.1.from g.behind;
          high = up_to (lines_given now.below) (suc stops.0) past (let from = stops.1.from in omega arith) g.behind;
          begins = λ rest follows. begins_with (coming ((g.bytes.0 ++ bytes) ++ rest) old) (coming (bytes ++ rest) now) past (come_then hands rest follows);
        }

  -- members were taken: how far the input was read beside those before the last one
  module _ (past : List (Member A)) (now : MemberReader S A State) (g : PassesMembers device old past now) (xs : List A) (a : A) (new : MemberReader S A State) (has : HasTaken device now (xs ++ a ∷ []) new) where
    abbrev from : ℕ
    from = suc (lines_given now.below)

    abbrev before : List (Member A)
    before = past ++ members_from from xs

    abbrev m : Member A
    m = record { line = from + length xs; item = a }

    all_is : past ++ members_from from (xs ++ a ∷ []) ≡ before ++ m ∷ []
    all_is = ap (λ (l : List (Member A)). past ++ l) (members_last from xs a) ∙ sym (append_assoc past (members_from from xs) (m ∷ []))

    pub read_before : IsReadFor device old g.bytes.0 before (past ++ members_from from (xs ++ a ∷ [])) new
    unfolding lines_given read_here passes_take
    read_before =
        let p = passes_take past now g (xs ++ a ∷ []) new has in
        let size = length-append xs (a ∷ []) in
        let count = lines_given now.below + length xs in
        let given : suc count ≡ lines_given new.below = omega (arith, has.takes.given, size) in
        let near : (rest : List ℕ) → bytes_in (lines_coming rest new.below) ≤ length rest + block_size =
        λ rest. sound_near device new.below (record { within = p.kept.within; near = λ none. has.takes.near (omega (arith, size)) }) p.clear rest in
        record {
          to = record {
            count = count;
            near = λ rest follows. rw given (rw (p.lines rest follows) at (near rest));
            behind = λ rest follows. behind_last count (coming (g.bytes.0 ++ rest) old) before m (omega arith)
                (rw (← all_is, given) ((read_here (past ++ members_from from (xs ++ a ∷ [])) new p).to.behind rest follows));
          };
          low = All-append (λ (m : Member A). m.line ≤ count) past (members_from from xs) (up_to (lines_given now.below) count past (omega arith) g.behind) (members_low (lines_given now.below) xs);
          high = up_to (lines_given new.below) (suc count) (past ++ members_from from (xs ++ a ∷ [])) (omega (arith, given)) p.behind;
          begins = λ rest follows. begins_with (coming (g.bytes.0 ++ rest) old) (coming rest new) (past ++ members_from from (xs ++ a ∷ [])) (p.come rest follows);
        }

-- how far the input was read beside some members, whatever else was given
pub read_alone : {S A State : Type 0} {device : Source S} {old : MemberReader S A State} {bytes : List ℕ} {past given : List (Member A)} {now : MemberReader S A State}
    → IsReadFor device old bytes past given now → IsReadFor device old bytes past past now
read_alone {past = past} read = record {
  to = read.to;
  low = read.low;
  high = up_to read.to.count (suc read.to.count) past (omega arith) read.low;
  begins = λ rest follows. (let b = read.to.behind rest follows in (b.0, b.1));
}

-- Lemmas on a reader of members that is given the next line: it says a member, or none.

-- a line that was given came
pub came : {S : Type 0} (device : Source S) (old new : LineReader S) (line : TextLine) → GivesLine device old line new → LineCame device old line new
came device old new line gives = record {
  bytes = (gives.bytes.0, gives.bytes.1);
  first = gives.bytes.3;
  number = gives.number;
  counted = gives.counted;
  below = gives.below;
  shrinks = gives.shrinks;
  served = gives.served;
  was_going = gives.was_going;
  goes = gives.goes;
  near = gives.ahead;
}

module _ {A State : Type 0} (format : Format A State) (input : Input) (state : State) where
  none_comes : (a b : List TextLine) (line : TextLine) → a ≡ line ∷ b → format.says state line ≡ Ok None → good_after format input state a ≡ good_after format input state b
  unfolding good_after
  none_comes a b line g e = grind arith

  come_some : (a b : List TextLine) (line : TextLine) (item : A) → a ≡ line ∷ b → format.says state line ≡ Ok (Some item)
      → good_after format input state a ≡ with_members (record { line = line.number; item = item } ∷ []) (good_after format input (format.after state item) b)
  unfolding good_after
  come_some a b line item g e = grind arith

module _ {S A State : Type 0} {device : Source S} {old now : MemberReader S A State} {past : List (Member A)} (g : PassesMembers device old past now) (new : MemberReader S A State) {line : TextLine}
    (gives : GivesLine device now.below line new.below) (kept : IsKept device now.below → IsKept device new.below) (format : new.format ≡ now.format) (none : new.buffered ≡ []) (going : new.fault ≡ None) where
  abbrev bytes : List ℕ
  bytes = gives.bytes.0

  rises : lines_given now.below ≤ lines_given new.below
  rises = omega (arith, gives.counted)

  lines : (rest : List ℕ) → MayStillCome new.below rest → lines_coming rest new.below ≡ drop (lines_given new.below) (lines_coming ((g.bytes.0 ++ bytes) ++ rest) old.below)
  lines rest follows = lines_on (lines_coming ((g.bytes.0 ++ bytes) ++ rest) old.below) (lines_coming (bytes ++ rest) now.below) (lines_coming rest new.below) (lines_given now.below) (lines_given new.below) rises
      (lines_then device old past now g gives.bytes.1 rest follows) (one_passes now.below new.below bytes line gives.bytes.3 gives.counted rest follows)

  -- at most a block is held after it
  near_line : (rest : List ℕ) → MayStillCome new.below rest → bytes_in (drop (lines_given new.below) (lines_coming ((g.bytes.0 ++ bytes) ++ rest) old.below)) ≤ length rest + block_size
  near_line rest follows =
      let was = kept g.kept in
      rw (← lines rest follows) (sound_near device new.below (record { within = was.within; near = λ fine. gives.ahead }) gives.goes rest)

  coming_before : (rest : List ℕ) → MayStillCome new.below rest → coming ((g.bytes.0 ++ bytes) ++ rest) old ≡ with_members past (good_after now.format (input_of now.below) now.state (lines_coming (bytes ++ rest) now.below))
  coming_before rest follows = come_then device old past now g gives.bytes.1 rest follows ∙ ap (with_members past) (good_is device now g.going (bytes ++ rest))

  coming_after : (rest : List ℕ) → coming rest new ≡ good_after now.format (input_of now.below) new.state (lines_coming rest new.below)
  coming_after rest = good_is device new going rest ∙ ap (λ input. good_after new.format input new.state (lines_coming rest new.below)) gives.bytes.1.same_input ∙ ap (λ f. good_after f (input_of now.below) new.state (lines_coming rest new.below)) format

  passes_with : (given : List (Member A)) → AreSaid old.format old.state (member_items given) → new.state ≡ state_behind old.format old.state (member_items given)
      → ((rest : List ℕ) → MayStillCome new.below rest → coming ((g.bytes.0 ++ bytes) ++ rest) old ≡ with_members given (coming rest new)) → All (λ m. m.line ≤ lines_given new.below) given → PassesMembers device old given new
  passes_with given said state come behind = record {
    format = format ∙ g.format;
    bytes = (g.bytes.0 ++ bytes, hands_both device old.below now.below new.below g.bytes.0 bytes g.bytes.1 gives.bytes.1);
    said = said;
    state = state;
    come = come;
    behind = behind;
    lines = lines;
    going = going;
    clear = gives.goes;
    kept = kept g.kept;
    served = gives.served ∙ g.served;
    ahead = λ m is. absurd (nothing_ahead new m none is);
    near = λ rest follows. near_more (lines_coming ((g.bytes.0 ++ bytes) ++ rest) old.below) (lines_given new.below) (suc (lines_given new.below)) (length rest + block_size) (omega arith) (near_line rest follows);
  }

  -- the line says no member
  pub passes_none : now.format.says now.state line ≡ Ok None → new.state ≡ now.state → PassesMembers device old past new
  passes_none says same =
      passes_with past g.said (same ∙ g.state)
      (λ rest follows. coming_before rest follows ∙ ap (with_members past)
      (none_comes now.format (input_of now.below) now.state (lines_coming (bytes ++ rest) now.below) (lines_coming rest new.below) line (gives.bytes.3 rest follows) says
      ∙ ap (λ (s : State). good_after now.format (input_of now.below) s (lines_coming rest new.below)) (sym same) ∙ sym (coming_after rest)))
      (up_to (lines_given now.below) (lines_given new.below) past rises g.behind)

  -- the line says this one
  module _ {item : A} (says : now.format.says now.state line ≡ Ok (Some item)) (after : new.state ≡ now.format.after now.state item) where
    abbrev pub member : Member A
    member = record { line = line.number; item = item }

    items : member_items (past ++ member ∷ []) ≡ member_items past ++ item ∷ []
    items = map-append (λ m. m.item) past (member ∷ [])

    pub passes_some : PassesMembers device old (past ++ member ∷ []) new
    passes_some =
        passes_with (past ++ member ∷ [])
        (rw items (said_more old.format old.state (member_items past) (item ∷ []) g.said
        ((line, subst (λ (f : Format A State). f.says (state_behind old.format old.state (member_items past)) line ≡ Ok (Some item)) g.format (subst (λ (s : State). now.format.says s line ≡ Ok (Some item)) g.state says)), tt)))
        (after ∙ ap (λ (f : Format A State). f.after now.state item) g.format ∙ ap (λ (s : State). old.format.after s item) g.state
        ∙ sym (state_more old.format old.state (member_items past) (item ∷ [])) ∙ ap (state_behind old.format old.state) (sym items))
        (λ rest follows. coming_before rest follows ∙ ap (with_members past)
        (come_some now.format (input_of now.below) now.state (lines_coming (bytes ++ rest) now.below) (lines_coming rest new.below) line item (gives.bytes.3 rest follows) says
        ∙ ap (λ (s : State). with_members (member ∷ []) (good_after now.format (input_of now.below) s (lines_coming rest new.below))) (sym after) ∙ ap (with_members (member ∷ [])) (sym (coming_after rest)))
        ∙ members_both past (member ∷ []) (coming rest new))
        (All-push (λ m. m.line ≤ lines_given new.below) past member (up_to (lines_given now.below) (lines_given new.below) past rises g.behind) (omega (arith, gives.number, gives.counted)))

    -- how far the input was read beside those before it
    pub read_line : IsReadFor device old passes_some.bytes.0 past (past ++ member ∷ []) new
    unfolding lines_given read_here passes_some passes_with
    read_line =
        let count = lines_given now.below in
        let given : suc count ≡ lines_given new.below = sym gives.counted in
        record {
          to = record {
            count = count;
            near = λ rest follows. rw given (near_line rest follows);
            behind = λ rest follows. behind_last count (coming ((g.bytes.0 ++ bytes) ++ rest) old) past member (sym gives.number) (rw given ((read_here device old (past ++ member ∷ []) new passes_some).to.behind rest follows));
          };
          low = g.behind;
          high = up_to (lines_given new.below) (suc count) (past ++ member ∷ []) (omega (arith, given)) passes_some.behind;
          begins = λ rest follows. begins_with (coming ((g.bytes.0 ++ bytes) ++ rest) old) (coming rest new) (past ++ member ∷ []) (passes_some.come rest follows);
        }
