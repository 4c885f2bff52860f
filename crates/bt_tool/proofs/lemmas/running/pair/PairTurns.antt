-- How one stage of two inputs follows another.
use Rattle.bt_lines.proofs.Std.{common_steps, rules, ◌≡◌, true, List, [], ◌∷◌, ◌++◌, ℕ, Bool, false, ◌||◌, Option, None, Some, refl, sym, ap, ◌∙◌, subst, append-nil, append_assoc, flat_map, option_to_list, is_none, option_map, list_all, false≢true, and_from, or_left, or_right, flat_map-append, list_all-append, suc, ◌≤◌, length, drop, ◌+◌, inl, inr, ◌⊎◌, All, append_cancel_left, map-append, same_from_push, ◌<◌, Err, arith, All-push}
use Rattle.bt_lines.specs.declared.device.Source.{Ghosts as Source}
use Rattle.bt_lines.specs.calls.Reader.{end_told, lines_coming, lines_given, Hands}
use Rattle.bt_bed.specs.model.Good.{Member}
use Rattle.bt_bed.specs.calls.Reading.{MemberReader, GivesMember, IsBeyond, ahead_in, coming, first_from, members_from}
use Rattle.bt_tool.specs.inside.Feed.{IsLater, IsReadFor, PassesMembers, HasPut, member_items, AreAll, HasTaken}
use Rattle.bt_tool.specs.inside.Pair.{JoinDef, MayCome, SettlesPair, HasNoMore, Pair, item_ahead, Comes}
use Rattle.bt_bed.specs.calls.Stage.{Follows, Stage, at_start, given, with_first_ended, with_second_ended}
use Rattle.bt_lines.specs.model.Fault.{FaultValue}
use Rattle.bt_lines.specs.model.Lines.{bytes_in, TextLine}
use Rattle.bt_lines.specs.calls.Output.{Output, HoldsBlock, block_size, Grown}
use Rattle.bt_tool.proofs.lemmas.running.members.MemberLemmas.{later_both, later_same, later_then, IsFilled, IsOver, ended_after_all, items_from, passes_all, passes_end, passes_fill, passes_take, read_before, read_here, IsStopped, fails_before_end, passes_stop}
use Rattle.bt_tool.proofs.lemmas.running.feed.FeedLemmas.{put_more, put_none}
use Rattle.bt_lines.specs.declared.fault.Kind.{Kind}
use Rattle.bt_lines.proofs.lemmas.reader.block.ReadsLemmas.{hands_none, hands_both}
use Rattle.bt_tool.specs.inside.SweepLoop.{ChecksUpTo}
use Rattle.bt_tool.proofs.lemmas.running.feed.WritingLemmas.{up_to}

-- nothing is ahead if nothing is buffered
ahead_none : {S A State : Type 0} (reader : MemberReader S A State) → reader.buffered ≡ [] → option_to_list (item_ahead reader) ≡ []
ahead_none reader none = rw none refl

-- a reader that had consumed some members, once these bytes were handed over, consumed more of them, and read nothing
pub record TakesFurther {S A State : Type 0} (device : Source S)
    (old : MemberReader S A State) (bytes : List ℕ) (past more : List (Member A))
    (now new : MemberReader S A State) : Type 0 where
  pub passes : PassesMembers device old (past ++ more) new
  pub same : passes.bytes.0 ≡ bytes
  -- the last of them is on the last line that was given
  pub last : (before : List (Member A)) (m : Member A) → more ≡ before ++ m ∷ []
      → IsReadFor device old passes.bytes.0 (past ++ before) (past ++ more) new
  pub told : end_told now.below ≡ true → end_told new.below ≡ true

-- Lemmas on what some members of a second input settle.

-- one more member is decided and has these bytes
one_more : {X : Type 0} (test : X → Bool) (write : X → List ℕ) (written : List X) (a : X) (bytes more : List ℕ) → (list_all test written ≡ true) × (flat_map write written ≡ bytes)
    → test a ≡ true → write a ≡ more → (list_all test (written ++ a ∷ []) ≡ true) × (flat_map write (written ++ a ∷ []) ≡ bytes ++ more)
one_more test write written a bytes more was here is = grind (arith, list_all-append, flat_map-append, append-nil)

-- if something is so, or a test holds of each, either is so of each
pub all_or : {X : Type 0} (test : X → Bool) (b : Bool) (xs : List X) → (b || list_all test xs) ≡ true → list_all (λ x. b || test x) xs ≡ true
all_or test b [] e = refl
all_or test true (x ∷ xs) e = all_or test true xs refl
all_or test false (x ∷ xs) e = e

module _ {X Y : Type 0} (join : JoinDef X Y) where
  pub settles_nothing : (seen : List Y) (ended : Bool) → SettlesPair join [] [] seen ended
  settles_nothing seen ended = record { whatever = λ second fault ordered may. (refl, refl) }

  -- one more member of the second input is seen
  pub settles_seen : (written : List X) (bytes : List ℕ) (seen more : List Y) → SettlesPair join written bytes seen false → SettlesPair join written bytes (seen ++ more) false
  settles_seen written bytes seen more s = record {
    whatever = λ second fault ordered may. s.whatever second fault ordered
        (record { begins = (more ++ may.begins.0, may.begins.1 ∙ append_assoc seen more may.begins.0); all = λ e. absurd (false≢true e) });
  }

  -- none comes after those seen
  pub settles_close : (written : List X) (bytes : List ℕ) (seen : List Y) → SettlesPair join written bytes seen false → SettlesPair join written bytes seen true
  settles_close written bytes seen s = record {
    whatever = λ second fault ordered may. s.whatever second fault ordered (record { begins = may.begins; all = λ e. absurd (false≢true e) });
  }

  -- one more member of the first is decided by those seen, and its bytes stay whatever follows them in order
  pub settles_with : (written : List X) (bytes : List ℕ) (seen : List Y) (ended : Bool) (a : X) (more : List ℕ) → SettlesPair join written bytes seen ended
      → ((rest : List Y) → join.InOrder (seen ++ rest) → (join.decided a (seen ++ rest) ≡ true) × (join.bytes a (seen ++ rest) ≡ more))
      → SettlesPair join (written ++ a ∷ []) (bytes ++ more) seen ended
  settles_with written bytes seen ended a more s stays = record {
    whatever = λ second fault ordered may.
        let here = stays may.begins.0 (subst join.InOrder may.begins.1 ordered) in
        one_more (λ x. is_none fault || join.decided x second) (λ x. join.bytes x second) written a bytes more (s.whatever second fault ordered may)
        (or_right (is_none fault) (join.decided a second) (ap (join.decided a) may.begins.1 ∙ here.0))
        (ap (join.bytes a) may.begins.1 ∙ here.1);
  }

  -- more members of the first are decided and have these bytes, whatever the second still has
  pub settles_list : (written newly : List X) (bytes more : List ℕ) (seen : List Y) (ended : Bool) → SettlesPair join written bytes seen ended
      → ((second : List Y) (fault : Option FaultValue) → join.InOrder second → MayCome seen ended second fault
      → (list_all (λ x. is_none fault || join.decided x second) newly ≡ true) × (flat_map (λ x. join.bytes x second) newly ≡ more))
      → SettlesPair join (written ++ newly) (bytes ++ more) seen ended
  settles_list written newly bytes more seen ended s now = record {
    whatever = λ second fault ordered may.
        let was = s.whatever second fault ordered may in
        let here = now second fault ordered may in (
          list_all-append (λ x. is_none fault || join.decided x second) written newly
              ∙ and_from (list_all (λ x. is_none fault || join.decided x second) written) (list_all (λ x. is_none fault || join.decided x second) newly) was.0 here.0,
          flat_map-append (λ x. join.bytes x second) written newly ∙ ap (λ l. l ++ flat_map (λ x. join.bytes x second) newly) was.1 ∙ ap (λ l. bytes ++ l) here.1,
        );
  }

  -- the second input has ended
  pub settles_end : (written : List X) (bytes : List ℕ) (taken : List Y) (ended : Bool) (a : X) → SettlesPair join written bytes taken ended
      → SettlesPair join (written ++ a ∷ []) (bytes ++ join.bytes a taken) taken true
  settles_end written bytes taken ended a s = record {
    whatever = λ second fault ordered may.
        let all = may.all refl in
        one_more (λ x. is_none fault || join.decided x second) (λ x. join.bytes x second) written a bytes (join.bytes a taken)
        (s.whatever second fault ordered (record { begins = may.begins; all = λ e. all }))
        (or_left (is_none fault) (join.decided a second) (ap is_none all.1))
        (ap (join.bytes a) all.0);
  }

  -- the member ahead is seen
  pub seen_by : {S State : Type 0} (device : Source S) (now new : MemberReader S Y State) (m : Member Y) (o : Option (Member Y)) → ahead_in now ≡ o → GivesMember device now m new
      → (written : List X) (bytes : List ℕ) (taken : List Y) → SettlesPair join written bytes (taken ++ option_to_list (option_map (λ m. m.item) o)) false
      → SettlesPair join written bytes (taken ++ m.item ∷ []) false
  seen_by device now new m o e gives written bytes taken s = grind (arith, settles_seen, append-nil)

-- Lemmas on how a run over two readers of members goes on: as members are buffered and taken, and at the ends.

pub none_pushed : {A : Type 0} (front : List A) (x : A) → [] ≡ front ++ x ∷ [] → ⊥
none_pushed [] x e = cc
none_pushed (y ∷ front) x e = cc

from_push : {A : Type 0} (line : ℕ) (items : List A) (x : A) → (m : Member A) × (members_from line (items ++ x ∷ []) ≡ members_from line items ++ m ∷ [])
from_push line [] x = (record { line = line; item = x }, refl)
from_push line (y ∷ items) x = let rest = from_push (suc line) items x in (rest.0, ap (λ l. record { line = line; item = y } ∷ l) rest.1)

-- a reader of members took some
module _ {S A State : Type 0} (device : Source S) (old : MemberReader S A State) (past : List (Member A)) (now : MemberReader S A State) (p : PassesMembers device old past now) where
  abbrev n : ℕ
  n = suc (lines_given now.below)

  pub takes_further : (taken : List A) (new : MemberReader S A State) → HasTaken device now taken new → TakesFurther device old p.bytes.0 past (members_from n taken) now new
  unfolding passes_take
  takes_further taken new has = record {
    passes = passes_take device old past now p taken new has;
    same = refl;
    last = λ before m e.
        let xs = member_items before in
        let parts : taken ≡ xs ++ m.item ∷ [] = sym (items_from n taken) ∙ ap member_items e ∙ map-append (λ m. m.item) before (m ∷ []) in
        let push = from_push n xs m.item in
        let fronts : before ++ m ∷ [] ≡ members_from n xs ++ push.0 ∷ [] = sym e ∙ ap (members_from n) parts ∙ push.1 in
        subst (λ (l : List (Member A)). IsReadFor device old p.bytes.0 (past ++ l) (past ++ members_from n taken) new) (sym (same_from_push before (members_from n xs) m push.0 fronts).0)
        (subst (λ (l : List A). IsReadFor device old p.bytes.0 (past ++ members_from n xs) (past ++ members_from n l) new) (sym parts)
        (read_before device old past now p xs m.item new (subst (λ (l : List A). HasTaken device now l new) parts has)));
    told = has.takes.hands.told_stays;
  }

  -- none, so far
  pub takes_nothing : TakesFurther device old p.bytes.0 past [] now now
  takes_nothing =
      let with_none = subst (λ (l : List (Member A)). (q : PassesMembers device old l now) × (q.bytes.0 ≡ p.bytes.0)) (sym (append-nil past)) (p, refl) in
      record { passes = with_none.0; same = with_none.1; last = λ before m e. absurd (none_pushed before m e); told = λ told. told }

-- a list is empty, or has a last element
pub last_of : {A : Type 0} (xs : List A) → (xs ≡ []) ⊎ ((front : List A) × (x : A) × (xs ≡ front ++ x ∷ []))
last_of [] = inl refl
last_of {A} (x ∷ xs) =
    elim (last_of xs) [
      | inl none ↦ inr ([], x, ap (λ (l : List A). x ∷ l) none)
      | inr some ↦ inr (x ∷ some.0, some.1, ap (λ (l : List A). x ∷ l) some.2)
    ]

-- at most one waits
few_waited : {A : Type 0} (newly : List A) (x : A) (o : Option A) → newly ++ x ∷ [] ≡ option_to_list o → newly ≡ []
few_waited newly x o e = grind (arith, common_steps)

pub both_none : {A : Type 0} (xs ys : List A) → xs ++ ys ≡ [] → (xs ≡ []) × (ys ≡ [])
both_none [] ys e = (refl, e)
both_none (x ∷ xs) ys e = cc

pub none_new : {A : Type 0} (newly : List A) (o : Option A) → newly ++ option_to_list o ≡ [] → (newly ≡ []) × (o ≡ None)
none_new [] None e = (refl, refl)
none_new [] (Some x) e = cc
none_new (y ∷ newly) o e = cc

-- the same reads, by a reader that read nothing since
unfoldable pub read_same : {S A State : Type 0} (device : Source S) (old : MemberReader S A State) {bytes all : List ℕ} (past given more : List (Member A)) (now new : MemberReader S A State) → (end_told now.below ≡ true → end_told new.below ≡ true) → all ≡ bytes → given ≡ more
    → IsReadFor device old bytes past given now → IsReadFor device old all past more new
read_same {S} {A} {State} device old {bytes} {all} past given more now new keeps same e read = record {
  to = record {
    count = read.to.count;
    near = λ rest follows. subst (λ b. bytes_in (drop (suc read.to.count) (lines_coming (b ++ rest) old.below)) ≤ length rest + block_size) (sym same) (read.to.near rest (λ told. follows (keeps told)));
    behind = λ rest follows. subst (λ b. (left : List (Member A)) × ((coming (b ++ rest) old).members ≡ past ++ left) × IsBeyond read.to.count (record { members = left; fault = (coming (b ++ rest) old).fault })) (sym same) (read.to.behind rest (λ told. follows (keeps told)));
  };
  low = read.low;
  high = subst (λ (l : List (Member A)). All (λ m. m.line ≤ suc read.to.count) l) e read.high;
  begins = λ rest follows. subst (λ b. (left : List (Member A)) × ((coming (b ++ rest) old).members ≡ more ++ left)) (sym same)
      (subst (λ (l : List (Member A)). (left : List (Member A)) × ((coming (bytes ++ rest) old).members ≡ l ++ left)) e (read.begins rest (λ told. follows (keeps told))));
}

-- and what is all stays all
pub all_same : {S A State : Type 0} (device : Source S) (old : MemberReader S A State) {bytes all : List ℕ} (past more : List (Member A)) (now new : MemberReader S A State) → (end_told now.below ≡ true → end_told new.below ≡ true) → all ≡ bytes → past ≡ more
    → AreAll device old bytes past now → AreAll device old all more new
all_same {A} device old past more now new keeps same e whole rest follows =
    subst (λ b. ((coming (b ++ rest) old).members ≡ more) × ((coming (b ++ rest) old).fault ≡ None)) (sym same)
    (let was = whole rest (λ told. follows (keeps told)) in (was.0 ∙ e, was.1))

-- if nothing is buffered, nothing is ahead
pub seen_alone : {S A State : Type 0} (taken : List A) (now : MemberReader S A State) → now.buffered ≡ [] → taken ++ option_to_list (item_ahead now) ≡ taken
seen_alone {S} {A} {State} taken now none = grind (arith, append-nil)

module _ {A B X Y U V : Type 0} (join : JoinDef X Y) (pair : Pair A B X Y U V) (out : Output) where
  -- nothing was given yet
  pub comes_start : PassesMembers pair.source_a pair.first [] pair.first → PassesMembers pair.source_b pair.second [] pair.second
      → HoldsBlock out.took out.put → Comes join pair out at_start [] [] pair.first pair.second out
  comes_start passes passes_second block = record {
    first_passes = passes;
    second_passes = passes_second;
    all_given = refl;
    all_taken = refl;
    bytes = [];
    settles = settles_nothing join ([] ++ option_to_list (item_ahead pair.second)) false;
    first_all = λ e. absurd (false≢true e);
    second_all = λ e. absurd (false≢true e);
    put = put_none out block;
    near_first = ([], refl, read_here pair.source_a pair.first [] pair.first passes, λ e. absurd (false≢true e));
  }

-- a run has come so far
module _ {A B X Y U V : Type 0} {join : JoinDef X Y} {pair : Pair A B X Y U V} {out : Output} {stage : Stage X Y} {past_first : List (Member X)} {past_second : List (Member Y)}
    {first : MemberReader A X U} {second : MemberReader B Y V} {grown : Output} (s : Comes join pair out stage past_first past_second first second grown) where
  -- if none waits, all are written
  pub all_written : stage.waiting ≡ None → stage.written ≡ member_items past_first
  all_written none = sym (append-nil stage.written) ∙ ap (λ (o : Option X). stage.written ++ option_to_list o) (sym none) ∙ s.all_given

  -- the first input was read on, perhaps to its end
  with_first : (b : Bool) → stage.waiting ≡ None → (first_now : MemberReader A X U) (p : PassesMembers pair.source_a pair.first past_first first_now)
      → (b ≡ true → AreAll pair.source_a pair.first p.bytes.0 past_first first_now × (first_now.buffered ≡ []) × (end_told first_now.below ≡ true))
      → (b ≡ true → HasNoMore pair p.bytes.0 first_now (read_here pair.source_a pair.first past_first first_now p).to.count)
      → Comes join pair out (record stage { first_ended = b }) past_first past_second first_now second grown
  with_first b none first_now p all no_more = record {
    first_passes = p;
    second_passes = s.second_passes;
    all_given = s.all_given;
    all_taken = s.all_taken;
    bytes = s.bytes;
    settles = s.settles;
    first_all = λ e. let over = all e in (over.0, none, over.1, over.2);
    second_all = s.second_all;
    put = s.put;
    near_first = (past_first, sym (all_written none), read_here pair.source_a pair.first past_first first_now p, no_more);
  }

  pub reads_first : stage.waiting ≡ None → stage.first_ended ≡ false → (first_now : MemberReader A X U) → PassesMembers pair.source_a pair.first past_first first_now
      → Comes join pair out stage past_first past_second first_now second grown
  reads_first none going first_now p = with_first stage.first_ended none first_now p (λ e. absurd (false≢true (sym going ∙ e))) (λ e. absurd (false≢true (sym going ∙ e)))

  -- a member of it is buffered
  pub fills_first : stage.waiting ≡ None → stage.first_ended ≡ false → (first_now : MemberReader A X U) → IsFilled pair.source_a first first_now
      → Comes join pair out stage past_first past_second first_now second grown
  fills_first none going first_now filled = reads_first none going first_now (passes_fill pair.source_a pair.first past_first first s.first_passes first_now filled)

  -- a member of the second is
  pub fills_second : stage.second_ended ≡ false → (second_now : MemberReader B Y V) → IsFilled pair.source_b second second_now
      → Comes join pair out stage past_first past_second first second_now grown
  fills_second going second_now filled = record {
    first_passes = s.first_passes;
    second_passes = passes_fill pair.source_b pair.second past_second second s.second_passes second_now filled;
    all_given = s.all_given;
    all_taken = s.all_taken;
    bytes = s.bytes;
    settles =
        let was = subst (λ b. SettlesPair join stage.written s.bytes (stage.taken ++ option_to_list (item_ahead second)) b) going s.settles in
        let seen = seen_by join pair.source_b second second_now filled.m (ahead_in second) refl filled.gives stage.written s.bytes stage.taken was in
        rw (filled.gives.ahead, going) seen;
    first_all = s.first_all;
    second_all = λ e. absurd (false≢true (sym going ∙ e));
    put = s.put;
    near_first = s.near_first;
  }

  -- more members of both were taken, after their ends none, and these bytes were put for those that are written now
  module _ {more_first : List (Member X)} {more_second : List (Member Y)} {first_now : MemberReader A X U} {second_now : MemberReader B Y V}
      (takes : TakesFurther pair.source_a pair.first s.first_passes.bytes.0 past_first more_first first first_now)
      (takes_second : TakesFurther pair.source_b pair.second s.second_passes.bytes.0 past_second more_second second second_now)
      (ended : stage.first_ended ≡ true → (more_first ≡ []) × (first_now.buffered ≡ [])) (ended_second : stage.second_ended ≡ true → (more_second ≡ []) × (second_now.buffered ≡ []))
      {newly : List X} {new : Stage X Y} (follows : Follows stage (member_items more_first) newly (member_items more_second) new) where
    all_now : given new ≡ member_items (past_first ++ more_first)
    all_now = follows.given_is ∙ ap (λ l. l ++ member_items more_first) s.all_given ∙ sym (map-append (λ m. m.item) past_first more_first)

    none_more : {T : Type 0} (past more : List T) → more ≡ [] → past ≡ past ++ more
    none_more {T} past more e = sym (append-nil past) ∙ ap (λ (l : List T). past ++ l) (sym e)

    -- what waited before, and what is given now
    parts : option_to_list stage.waiting ++ member_items more_first ≡ newly ++ option_to_list new.waiting
    parts = grind (arith, append_cancel_left, append_assoc)

    unless_more : more_first ≡ [] → option_to_list stage.waiting ≡ newly ++ option_to_list new.waiting
    unless_more e = sym (append-nil (option_to_list stage.waiting)) ∙ ap (λ (l : List (Member X)). option_to_list stage.waiting ++ member_items l) (sym e) ∙ parts

    none_then : stage.first_ended ≡ true → (newly ≡ []) × (new.waiting ≡ None)
    none_then e = none_new newly new.waiting (sym (unless_more (ended e).0) ∙ ap (λ (o : Option X). option_to_list o) (s.first_all e).1)

    abbrev Near : Type 0
    Near =
        (past : List (Member X)) × (member_items past ≡ new.written)
        × (read : IsReadFor pair.source_a pair.first takes.passes.bytes.0 past (past_first ++ more_first) first_now)
        × (new.first_ended ≡ true → HasNoMore pair takes.passes.bytes.0 first_now read.to.count)

    -- no more was given of the first
    near_same : more_first ≡ [] → newly ≡ [] → Near
    unfolding read_same
    near_same none unwritten =
        let was = s.near_first in (
          was.0,
          was.1 ∙ (none_more stage.written newly unwritten ∙ sym follows.written_is),
          read_same pair.source_a pair.first was.0 past_first (past_first ++ more_first) first first_now takes.told takes.same (none_more past_first more_first none) was.2,
          λ e. let all = was.3 (sym follows.first_is ∙ e) in (takes.told all.0, omega (arith, all.1, ap (λ b. length (lines_coming b pair.first.below)) takes.same)),
        )

    near_waiting : (x : X) → new.waiting ≡ Some x → stage.first_ended ≡ false → Near
    near_waiting x waits going = elim (last_of more_first) [
      | inl none ↦ near_same none (few_waited newly x stage.waiting (ap (λ (o : Option X). newly ++ option_to_list o) (sym waits) ∙ sym (unless_more none)))
      | inr some ↦ (
        past_first ++ some.0,
        sym (same_from_push new.written (member_items (past_first ++ some.0)) x some.1.item
            (ap (λ (o : Option X). new.written ++ option_to_list o) (sym waits) ∙ all_now ∙ ap (λ (l : List (Member X)). member_items (past_first ++ l)) some.2
            ∙ ap member_items (sym (append_assoc past_first some.0 (some.1 ∷ []))) ∙ map-append (λ m. m.item) (past_first ++ some.0) (some.1 ∷ []))).0,
        takes.last some.0 some.1 some.2,
        λ e. absurd (false≢true (sym going ∙ sym follows.first_is ∙ e)),
      )
    ]

    near_by : (w : Option X) → new.waiting ≡ w → (b : Bool) → stage.first_ended ≡ b → Near
    near_by w e true done = near_same (ended done).0 (none_then done).0
    near_by (Some x) e false going = near_waiting x e going
    near_by None e false going = (
      past_first ++ more_first,
      sym all_now ∙ ap (λ (o : Option X). new.written ++ option_to_list o) e ∙ append-nil new.written,
      read_here pair.source_a pair.first (past_first ++ more_first) first_now takes.passes,
      λ e. absurd (false≢true (sym going ∙ sym follows.first_is ∙ e)),
    )

    pub goes_on : (more : List ℕ) (now : Output) → (SettlesPair join new.written (s.bytes ++ more) (new.taken ++ option_to_list (item_ahead second_now)) new.second_ended)
        → Grown grown more now → Comes join pair out new (past_first ++ more_first) (past_second ++ more_second) first_now second_now now
    goes_on more now settles adds = record {
      first_passes = takes.passes;
      second_passes = takes_second.passes;
      all_given = all_now;
      all_taken = follows.taken_is ∙ ap (λ l. l ++ member_items more_second) s.all_taken ∙ sym (map-append (λ m. m.item) past_second more_second);
      bytes = s.bytes ++ more;
      settles = settles;
      first_all = λ e.
          let was = sym follows.first_is ∙ e in
          let all = s.first_all was in (
            all_same pair.source_a pair.first past_first (past_first ++ more_first) first first_now takes.told takes.same (none_more past_first more_first (ended was).0) all.0,
            (none_then was).1,
            (ended was).1,
            takes.told all.3,
          );
      second_all = λ e.
          let was = sym follows.second_is ∙ e in
          let all = s.second_all was in (
            all_same pair.source_b pair.second past_second (past_second ++ more_second) second second_now takes_second.told takes_second.same (none_more past_second more_second (ended_second was).0) all.0,
            (ended_second was).1,
            takes_second.told all.2,
          );
      put = put_more out grown now s.bytes more s.put adds;
      near_first = near_by new.waiting refl stage.first_ended refl;
    }

    -- once these bytes were handed over
    pub goes_bytes : (more : List ℕ) (now : Output) (settles : SettlesPair join new.written (s.bytes ++ more) (new.taken ++ option_to_list (item_ahead second_now)) new.second_ended) (adds : Grown grown more now)
        → ((goes_on more now settles adds).first_passes.bytes.0 ≡ takes.passes.bytes.0) × ((goes_on more now settles adds).second_passes.bytes.0 ≡ takes_second.passes.bytes.0)
    unfolding goes_on
    goes_bytes more now settles adds = (refl, refl)

  -- the first input has ended
  module _ (none : stage.waiting ≡ None) (going : stage.first_ended ≡ false) (first_now : MemberReader A X U) (over : IsOver pair.source_a first first_now) where
    abbrev ended_passes : PassesMembers pair.source_a pair.first past_first first_now
    ended_passes = passes_end pair.source_a pair.first past_first first s.first_passes first_now over

    no_more_first : HasNoMore pair ended_passes.bytes.0 first_now (read_here pair.source_a pair.first past_first first_now ended_passes).to.count
    unfolding read_here passes_end
    no_more_first = (over.ends.told, ended_after_all pair.source_a pair.first past_first first s.first_passes first_now over)

    pub ends_first : Comes join pair out (with_first_ended stage) past_first past_second first_now second grown
    unfolding passes_end
    ends_first = with_first true none first_now ended_passes (λ e. (passes_all pair.source_a pair.first past_first first s.first_passes first_now over, over.ends.none_buffered, over.ends.told)) (λ e. no_more_first)

  pub first_waits : (a : X) → stage.waiting ≡ Some a → stage.first_ended ≡ false
  first_waits a waits = grind arith

  -- if the second input ends now
  module _ (goes : stage.second_ended ≡ false) (second_now : MemberReader B Y V) (over : IsOver pair.source_b second second_now) where
    -- those written are settled by what was taken
    pub settles_ended : SettlesPair join stage.written s.bytes stage.taken false
    settles_ended = search rules

    none_ahead : option_to_list (item_ahead second_now) ≡ []
    none_ahead = ahead_none second_now over.ends.none_buffered

    -- its end was given
    ends_by : (now : Output) (bytes : List ℕ) → (SettlesPair join (given stage) bytes stage.taken true) → HasPut out bytes now
        → ((past : List (Member X)) × (member_items past ≡ given stage)
        × (read : IsReadFor pair.source_a pair.first s.first_passes.bytes.0 past past_first first) × (stage.first_ended ≡ true → HasNoMore pair s.first_passes.bytes.0 first read.to.count))
        → Comes join pair out (with_second_ended stage) past_first past_second first second_now now
    unfolding passes_end
    ends_by now bytes settles put near = record {
      first_passes = s.first_passes;
      second_passes = passes_end pair.source_b pair.second past_second second s.second_passes second_now over;
      all_given = append-nil (given stage) ∙ s.all_given;
      all_taken = s.all_taken;
      bytes = bytes;
      settles = subst (λ (l : List Y). SettlesPair join (given stage) bytes l true) (sym (ap (λ (l : List Y). stage.taken ++ l) none_ahead ∙ append-nil stage.taken)) settles;
      first_all = λ e. (let all = s.first_all e in (all.0, refl, all.2, all.3));
      second_all = λ e. (passes_all pair.source_b pair.second past_second second s.second_passes second_now over, over.ends.none_buffered, over.ends.told);
      put = put;
      near_first = near;
    }

    -- the waiting member was written
    pub ends_waiting : (a : X) → stage.waiting ≡ Some a → (now : Output) → Grown grown (join.bytes a stage.taken) now
        → Comes join pair out (with_second_ended stage) past_first past_second first second_now now
    ends_waiting a waits now adds =
        let more = join.bytes a stage.taken in
        let with_waiting : given stage ≡ stage.written ++ a ∷ [] = ap (λ (o : Option X). stage.written ++ option_to_list o) waits in
        ends_by now (s.bytes ++ more)
        (subst (λ (w : List X). SettlesPair join w (s.bytes ++ more) stage.taken true) (sym with_waiting) (settles_end join stage.written s.bytes stage.taken false a (search rules)))
        (put_more out grown now s.bytes more s.put adds) (past_first, sym s.all_given, read_here pair.source_a pair.first past_first first s.first_passes, λ e. absurd (false≢true (sym (first_waits a waits) ∙ e)))

    -- or none waited
    pub ends_alone : stage.waiting ≡ None → Comes join pair out (with_second_ended stage) past_first past_second first second_now grown
    ends_alone none =
        let all : stage.written ≡ given stage = sym (append-nil stage.written) ∙ ap (λ (o : Option X). stage.written ++ option_to_list o) (sym none) in
        let near = s.near_first in
        ends_by grown s.bytes
        (subst (λ (w : List X). SettlesPair join w s.bytes stage.taken true) all (settles_close join stage.written s.bytes stage.taken (search rules)))
        s.put (near.0, near.1 ∙ all, near.2, near.3)

-- Lemmas on reading an input to its end, from wherever its reader is.

-- something is buffered if a member is ahead
pub some_buffered : {A : Type 0} (line : ℕ) (items : List A) (m : Member A) → first_from line items ≡ Some m → 0 < length items
some_buffered line items m e = grind arith

-- and it is on the line after those given
first_line : {A : Type 0} (line : ℕ) (items : List A) (m : Member A) → first_from line items ≡ Some m → m.line ≡ line
first_line line items m e = grind arith

-- these members were consumed, some of them since these bytes were handed over
pub record PassesOn {S A State : Type 0} (device : Source S) (old : MemberReader S A State) (bytes : List ℕ) (past : List (Member A)) (before now : MemberReader S A State) : Type 0 where
  pub passed : PassesMembers device old past now
  pub later : IsLater bytes before.below passed.bytes.0 now.below

-- how far a reader has come
pub record IsReadOn {S A State : Type 0} (device : Source S) (before now : MemberReader S A State) : Type 0 where
  pub bytes : (bytes : List ℕ) × Hands device before.below bytes now.below
  pub rises : lines_given before.below ≤ lines_given now.below
  -- the member that was ahead is consumed, if any is
  pub moves : (now ≡ before) ⊎ (lines_given before.below < lines_given now.below)
  pub going : before.fault ≡ None → now.fault ≡ None
  pub passes : (old : MemberReader S A State) (past : List (Member A)) → (p : PassesMembers device old past before) → (more : List (Member A)) × PassesOn device old p.bytes.0 (past ++ more) before now

module _ {S A State : Type 0} (device : Source S) (before : MemberReader S A State) where
  pub reads_start : IsReadOn device before before
  reads_start = record {
    bytes = ([], hands_none device before.below);
    rises = omega arith;
    moves = inl refl;
    going = λ e. e;
    passes = λ old past p. ([], subst (λ (l : List (Member A)). PassesOn device old p.bytes.0 l before before) (sym (append-nil past)) (record { passed = p; later = later_same p.bytes.0 before.below before.below (λ told. told) }));
  }

  module _ (now : MemberReader S A State) (on : IsReadOn device before now) where
    takes_on : (filled next : MemberReader S A State) (fills : IsFilled device now filled) → HasTaken device filled filled.buffered next → (old : MemberReader S A State) (bytes : List ℕ) (past : List (Member A))
        → PassesOn device old bytes past before now → PassesOn device old bytes (past ++ members_from (suc (lines_given filled.below)) filled.buffered) before next
    unfolding passes_take passes_fill
    takes_on filled next fills has old bytes past was = record {
      passed = passes_take device old past filled (passes_fill device old past now was.passed filled fills) filled.buffered next has;
      later = later_both bytes was.passed.bytes.0 (was.passed.bytes.0 ++ fills.gives.stays.bytes.0) before.below now.below next.below was.later
          (later_both was.passed.bytes.0 (was.passed.bytes.0 ++ fills.gives.stays.bytes.0) (was.passed.bytes.0 ++ fills.gives.stays.bytes.0) now.below filled.below next.below
          (later_then device was.passed.bytes.0 fills.gives.stays.bytes.1) (later_same (was.passed.bytes.0 ++ fills.gives.stays.bytes.0) filled.below next.below has.takes.hands.told_stays));
    }

    -- what was made buffered was taken
    pub reads_more : (filled next : MemberReader S A State) → IsFilled device now filled → HasTaken device filled filled.buffered next → IsReadOn device before next
    reads_more filled next fills has =
        let gives = fills.gives in
        let hands = gives.stays.bytes in
        let more = members_from (suc (lines_given filled.below)) filled.buffered in
        let some = some_buffered (suc (lines_given filled.below)) filled.buffered fills.m gives.ahead in
        let less : lines_given before.below < lines_given next.below = omega (arith, on.rises, gives.rises, has.takes.given, some) in
        record {
          bytes = (
            (on.bytes.0 ++ hands.0) ++ [],
            hands_both device before.below filled.below next.below (on.bytes.0 ++ hands.0) [] (hands_both device before.below now.below filled.below on.bytes.0 hands.0 on.bytes.1 hands.1) has.takes.hands,
          );
          rises = omega (arith, less);
          moves = inr less;
          going = λ none. has.takes.goes ∙ gives.goes ∙ on.going none;
          passes = λ old past p.
              let was = on.passes old past p in
              (was.0 ++ more, subst (λ (l : List (Member A)). PassesOn device old p.bytes.0 l before next) (append_assoc past was.0 more) (takes_on filled next fills has old p.bytes.0 (past ++ was.0) was.1));
        }

    -- at its end
    end_on : (new : MemberReader S A State) (over : IsOver device now new) (old : MemberReader S A State) (bytes : List ℕ) (past : List (Member A)) → PassesOn device old bytes past before now
        → (passes : PassesMembers device old past new) × AreAll device old passes.bytes.0 past new × IsLater bytes before.below passes.bytes.0 new.below
    unfolding passes_end
    end_on new over old bytes past was = (
      passes_end device old past now was.passed new over,
      passes_all device old past now was.passed new over,
      later_both bytes was.passed.bytes.0 (was.passed.bytes.0 ++ over.ends.stays.bytes.0) before.below now.below new.below was.later (later_then device was.passed.bytes.0 over.ends.stays.bytes.1),
    )

    pub reads_end : (new : MemberReader S A State) → IsOver device now new → (old : MemberReader S A State) (past : List (Member A))
        → (p : PassesMembers device old past before) → (more : List (Member A)) × (passes : PassesMembers device old (past ++ more) new) × AreAll device old passes.bytes.0 (past ++ more) new
        × IsLater p.bytes.0 before.below passes.bytes.0 new.below × (end_told new.below ≡ true)
    reads_end new over old past p =
        let was = on.passes old past p in
        let ends = end_on new over old p.bytes.0 (past ++ was.0) was.1 in
        (was.0, ends.0, ends.1, ends.2, over.ends.told)

    -- the member that was ahead at first was consumed
    low_ahead : (new : MemberReader S A State) → lines_given now.below ≤ lines_given new.below → now.buffered ≡ [] → (o : Option (Member A)) → ahead_in before ≡ o → (past : List (Member A)) → All (λ m. m.line ≤ lines_given new.below) past
        → All (λ m. m.line ≤ lines_given new.below) (past ++ option_to_list o)
    low_ahead new up none None e past low = subst (λ (l : List (Member A)). All (λ m. m.line ≤ lines_given new.below) l) (sym (append-nil past)) low
    low_ahead new up none (Some m) e past low =
        elim on.moves [
          | inl same ↦ absurd (let gone : Some m ≡ None = sym e ∙ ap (λ (r : MemberReader S A State). first_from (suc (lines_given before.below)) r.buffered) (sym same) ∙ ap (first_from (suc (lines_given before.below))) none in cc)
          | inr less ↦ All-push (λ (m : Member A). m.line ≤ lines_given new.below) past m low (omega (arith, less, up, first_line (suc (lines_given before.below)) before.buffered m e))
        ]

    pub reads_stop : (kinds : Kind → Type 0) (new : MemberReader S A State) (fault : FaultValue) → IsStopped device now fault new → (old : MemberReader S A State) (past : List (Member A))
        → (p : PassesMembers device old past before) → ((state : State) (line : TextLine) (kind : Kind) → old.format.says state line ≡ Err kind → kinds kind)
        → ChecksUpTo device old p.bytes.0 past before kinds fault new
    reads_stop kinds new fault stopped old past p wrong =
        let was = on.passes old past p in
        record {
          more = was.0;
          stops = passes_stop device old (past ++ was.0) now was.1.passed kinds wrong new fault stopped;
          later = later_both p.bytes.0 was.1.passed.bytes.0 (was.1.passed.bytes.0 ++ stopped.answers.stays.bytes.0) before.below now.below new.below was.1.later (later_then device was.1.passed.bytes.0 stopped.answers.stays.bytes.1);
          low = low_ahead new stopped.answers.rises stopped.answers.was_none (ahead_in before) refl past
              (up_to (lines_given before.below) (lines_given new.below) past (omega (arith, on.rises, stopped.answers.rises)) p.behind);
          before_end = λ told input line e. false≢true (sym (fails_before_end device old (past ++ was.0) now was.1.passed new fault stopped input line e) ∙ on.bytes.1.told_stays told);
        }
