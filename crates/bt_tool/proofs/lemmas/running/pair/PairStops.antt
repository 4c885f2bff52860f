-- Lemmas on how a run over two readers of members stops.
use Rattle.bt_lines.proofs.Std.{◌≡◌, ℕ, suc, ◌+◌, ◌≤◌, Bool, true, false, List, [], ◌∷◌, ◌++◌, Option, None, Some, Err, refl, sym, ap, ◌∙◌, subst, append-nil, append_assoc, option_to_list, inl, inr, drop, length, ◌⊎◌, All, IsSome, is_some, option_map, false≢true, map-append, arith}
use Rattle.bt_lines.specs.declared.device.Source.{Ghosts as Source}
use Rattle.bt_lines.proofs.lemmas.Writer.{grows_both, grown_none}
use Rattle.bt_lines.specs.model.Fault.{FaultValue, read_failed}
use Rattle.bt_lines.specs.calls.Faults.{no_memory}
use Rattle.bt_lines.specs.model.Lines.{TextLine, bytes_in}
use Rattle.bt_lines.specs.calls.Output.{Output, Grows, block_size, FailsToAdd, Grown}
use Rattle.bt_lines.specs.calls.Reader.{Hands, MayStillCome, end_told, lines_coming, lines_given}
use Rattle.bt_lines.specs.declared.fault.Input.{Input}
use Rattle.bt_lines.specs.declared.fault.Input.TheVariants.{Second}
use Rattle.bt_lines.specs.declared.fault.Kind.{Kind}
use Rattle.bt_bed.specs.model.Good.{Good, Member, items_in}
use Rattle.bt_bed.specs.model.BedLine.{fault_at_line}
use Rattle.bt_bed.specs.calls.Reading.{IsBeyond, MemberReader, ahead_in, coming, first_from, with_members}
use Rattle.bt_tool.specs.inside.Feed.{AheadComes, IsLater, BeginsWith, CutsLines, HasFaultBehind, HasPut, LacksMemory, WhateverComes, member_items, AreAll, IsReadFor, PassesMembers, StopsAfter}
use Rattle.bt_tool.specs.inside.Pair.{JoinDef, Pair, Serves, SettlesPair, item_ahead, Comes, AsksFor, PairEnds, LastTold, SecondFails, StaysNear, Why, Wrote}
use Rattle.bt_bed.specs.calls.Stage.{given, Stage}
use Rattle.bt_tool.proofs.lemmas.running.pair.PairTurns.{TakesFurther, all_same, settles_end, all_written, read_same, seen_alone, settles_ended, takes_nothing}
use Rattle.bt_tool.proofs.lemmas.running.members.MemberLemmas.{IsOver, IsStopped, later_same, later_then, whatever_later, passes_all, passes_end, passes_stop, read_at_stop, read_here}
use Rattle.bt_tool.proofs.lemmas.running.feed.WritingLemmas.{begins_with, up_to}
use Rattle.bt_tool.proofs.lemmas.running.feed.FeedLemmas.{GoesOn, goes_failed, goes_same, put_more, took_later, took_lines}
use Rattle.bt_tool.proofs.lemmas.running.members.SeenLemmas.{cuts_more, items_begin}

-- the members that were consumed and the one ahead come first
pub seen_begins : {S A State : Type 0} (old : Good A) (now : MemberReader S A State) (rest : List ℕ) → MayStillCome now.below rest → (past : List (Member A)) (o : Option (Member A)) → ahead_in now ≡ o
    → old ≡ with_members past (coming rest now) → AheadComes now → (more : List (Member A)) × (old.members ≡ (past ++ option_to_list o) ++ more)
seen_begins old now rest follows past None e come first = ((coming rest now).members, ap (λ g. g.members) come ∙ ap (λ l. l ++ (coming rest now).members) (sym (append-nil past)))
seen_begins {A = A} old now rest follows past (Some m) e come first =
    let there = first m e rest follows in
    (there.0, ap (λ g. g.members) come ∙ ap (λ (l : List (Member A)). past ++ l) there.1 ∙ sym (append_assoc past (m ∷ []) there.0))

-- if nothing is buffered, the members seen are on the lines given
seen_low : {S A State : Type 0} (past : List (Member A)) (now : MemberReader S A State) (count : ℕ) → ahead_in now ≡ None → All (λ m. m.line ≤ count) past → All (λ m. m.line ≤ count) (past ++ option_to_list (ahead_in now))
seen_low {S} {A} {State} past now count none low = subst (λ (l : List (Member A)). All (λ m. m.line ≤ count) l) (sym (ap (λ (o : Option (Member A)). past ++ option_to_list o) none ∙ append-nil past)) low

-- the good members of an input begin with some items, whatever follows
abbrev BeginsItems : {S A State : Type 0} → MemberReader S A State → List ℕ → List A → MemberReader S A State → Type 0
BeginsItems {A = A} old bytes items now = WhateverComes old bytes now (λ good. (rest : List A) × (items_in good ≡ items ++ rest))

-- some bytes of it were handed over
abbrev HandsOver : {S A State : Type 0} → Source S → MemberReader S A State → MemberReader S A State → Type 0
HandsOver device old new = (bytes : List ℕ) × Hands device old.below bytes new.below

begins_items : {S A State : Type 0} (old : MemberReader S A State) (bytes : List ℕ) (now : MemberReader S A State) (past : List (Member A)) (items rest : List A) → member_items past ≡ items ++ rest
    → BeginsWith old bytes past now → BeginsItems old bytes items now
begins_items old bytes now past items rest e begins more follows =
    let there = items_begin (coming (bytes ++ more) old) past items rest e (begins more follows) in
    (rest ++ there.0, there.1)

-- what was written, by the second reader where it is, and what was read of it later
wrote_by : {A B X Y U V : Type 0} {join : JoinDef X Y} {pair : Pair A B X Y U V} {out : Output} {first_bytes second_bytes : List ℕ} {past : List (Member Y)}
    {now new : MemberReader B Y V} {first : MemberReader A X U} {written : List X} {bytes : List ℕ} {grown : Output}
    → (p : PassesMembers pair.source_b pair.second past now)
    → (IsSome new.fault → All (λ m. m.line ≤ lines_given new.below) (past ++ option_to_list (ahead_in now)))
    → IsLater p.bytes.0 now.below second_bytes new.below → (ended : Bool)
    → SettlesPair join written bytes (member_items past ++ option_to_list (item_ahead now)) ended
    → BeginsItems pair.first first_bytes written first → (ended ≡ true → AreAll pair.source_b pair.second p.bytes.0 past now × (ahead_in now ≡ None)) → Grows out.took grown.took
    → (given : List X) → BeginsItems pair.first first_bytes given first → join.Fits given past
    → Wrote join pair out first_bytes second_bytes written bytes first new grown
wrote_by {Y = Y} {join = join} {pair = pair} {second_bytes = second_bytes} {past = past} {now = now} {new = new} {written = written} {bytes = bytes} p low later ended settles begins all grows given given_begin fits = record {
  seen = past ++ option_to_list (ahead_in now);
  ended = ended;
  settles = subst (λ (l : List Y). SettlesPair join written bytes l ended) (sym (seen_items (ahead_in now) refl)) settles;
  first_begins = begins;
  second_begins = whatever_later pair.second now new p.bytes.0 second_bytes (λ good. (more : List (Member Y)) × (good.members ≡ (past ++ option_to_list (ahead_in now)) ++ more)) later
      (λ rest follows. seen_begins (coming (p.bytes.0 ++ rest) pair.second) now rest follows past (ahead_in now) refl (p.come rest follows) p.ahead);
  low = low;
  second_all = λ e.
      let whole = all e in
      whatever_later pair.second now new p.bytes.0 second_bytes (λ good. (good.members ≡ past ++ option_to_list (ahead_in now)) × (good.fault ≡ None)) later
      (λ rest follows. (let so = whole.0 rest follows in (so.0 ∙ sym (ap (λ (o : Option (Member Y)). past ++ option_to_list o) whole.1 ∙ append-nil past), so.1)));
  given = given;
  taken = past;
  ahead = ahead_in now;
  sees = refl;
  none_ahead = λ e. (all e).1;
  given_begin = given_begin;
  fits = fits;
  grows = grows;
}
  where
    seen_items : (o : Option (Member Y)) → ahead_in now ≡ o → member_items (past ++ option_to_list o) ≡ member_items past ++ option_to_list (option_map (λ m. m.item) o)
    seen_items None e = map-append (λ m. m.item) past []
    seen_items (Some m) e = map-append (λ m. m.item) past (m ∷ [])

-- a reader that goes on has no fault
pub none_low : {P S A State : Type 0} (new : MemberReader S A State) → new.fault ≡ None → IsSome new.fault → P
none_low new none some = absurd (false≢true (ap is_some (sym none) ∙ some))

-- a run has come so far
module _ {A B X Y U V : Type 0} {join : JoinDef X Y} {pair : Pair A B X Y U V} {out : Output} {stage : Stage X Y} {past_first : List (Member X)} {past_second : List (Member Y)}
    {first : MemberReader A X U} {second : MemberReader B Y V} {grown : Output} (s : Comes join pair out stage past_first past_second first second grown) where
  abbrev Ends : Option FaultValue → MemberReader A X U → MemberReader B Y V → Output → Type 0
  Ends = PairEnds join pair out

  reached_items : (given_first : List (Member X)) → given stage ≡ member_items given_first → join.Asks (given stage) stage.taken
      → join.Asks (member_items given_first) (member_items past_second)
  reached_items given_first e asks = subst (λ (l : List X). join.Asks l (member_items past_second)) e (subst (λ (l : List Y). join.Asks (given stage) l) s.all_taken asks)

  -- of the second input was taken what the first needs
  pub asks_now : join.Asks (given stage) stage.taken → AsksFor join pair out s.first_passes.bytes.0 s.second_passes.bytes.0 past_first second
  asks_now asks = record {
    past = past_second;
    reached = reached_items past_first s.all_given asks;
    near = (read_here pair.source_b pair.second past_second second s.second_passes).to;
  }

  -- what was given and taken with more members
  given_with : (more : List (Member X)) → given stage ++ member_items more ≡ member_items (past_first ++ more)
  given_with more = ap (λ l. l ++ member_items more) s.all_given ∙ sym (map-append (λ m. m.item) past_first more)

  taken_with : (more : List (Member Y)) → stage.taken ++ member_items more ≡ member_items (past_second ++ more)
  taken_with more = ap (λ l. l ++ member_items more) s.all_taken ∙ sym (map-append (λ m. m.item) past_second more)

  -- the second input is still wanted after more members were taken of both
  pub asks_then : {first_bytes : List ℕ} → join.Asks (given stage) stage.taken → ((more : List X) → join.Asks (given stage) stage.taken → join.Asks (given stage ++ more) stage.taken)
      → (more_first : List (Member X)) (more_second : List (Member Y)) (second_now : MemberReader B Y V) (takes : TakesFurther pair.source_b pair.second s.second_passes.bytes.0 past_second more_second second second_now)
      → AsksFor join pair out first_bytes takes.passes.bytes.0 (past_first ++ more_first) second_now
  unfolding read_same
  asks_then asks wider more_first more_second second_now takes = record {
    past = past_second;
    reached = subst (λ (l : List X). join.Asks l (member_items past_second)) (given_with more_first) (subst (λ (l : List Y). join.Asks (given stage ++ member_items more_first) l) s.all_taken (wider (member_items more_first) asks));
    near = (read_same pair.source_b pair.second past_second past_second past_second second second_now takes.told takes.same refl (read_here pair.source_b pair.second past_second second s.second_passes)).to;
  }

  pub second_serves : Serves pair.source_b.has_failed pair.second second
  second_serves = record { served = s.second_passes.served; clear = s.second_passes.clear; within = s.second_passes.kept.within s.second_passes.clear }

  first_serves : Serves pair.source_a.has_failed pair.first first
  first_serves = record { served = s.first_passes.served; clear = s.first_passes.clear; within = s.first_passes.kept.within s.first_passes.clear }

  settled_now : SettlesPair join stage.written s.bytes (member_items past_second ++ option_to_list (item_ahead second)) stage.second_ended
  settled_now = subst (λ (l : List Y). SettlesPair join stage.written s.bytes (l ++ option_to_list (item_ahead second)) stage.second_ended) s.all_taken s.settles

  came_first : BeginsWith pair.first s.first_passes.bytes.0 past_first first
  came_first rest follows = begins_with (coming (s.first_passes.bytes.0 ++ rest) pair.first) (coming rest first) past_first (s.first_passes.come rest follows)

  begins_now : BeginsItems pair.first s.first_passes.bytes.0 stage.written first
  begins_now = begins_items pair.first s.first_passes.bytes.0 first past_first stage.written (option_to_list stage.waiting) (sym s.all_given) came_first

  -- the good members of the first input begin with those that were given
  given_now : BeginsItems pair.first s.first_passes.bytes.0 (given stage) first
  given_now = begins_items pair.first s.first_passes.bytes.0 first past_first (given stage) [] (sym s.all_given ∙ sym (append-nil (given stage))) came_first

  none_buffered : second.buffered ≡ [] → ahead_in second ≡ None
  none_buffered none = ap (λ (l : List Y). first_from (suc (lines_given second.below)) l) none

  ended_now : stage.second_ended ≡ true → AreAll pair.source_b pair.second s.second_passes.bytes.0 past_second second × (ahead_in second ≡ None)
  ended_now e = let all = s.second_all e in (all.0, none_buffered all.1)

  -- what was read of the second input later, beside what was read so far
  pub record ReadsLater (second_bytes : List ℕ) (second_now : MemberReader B Y V) : Type 0 where
    pub later : IsLater s.second_passes.bytes.0 second.below second_bytes second_now.below
    pub low : IsSome second_now.fault → All (λ m. m.line ≤ lines_given second_now.below) (past_second ++ option_to_list (ahead_in second))

  pub no_later : ReadsLater s.second_passes.bytes.0 second
  no_later = record { later = later_same s.second_passes.bytes.0 second.below second.below (λ told. told); low = none_low second s.second_passes.going }

  module _ (asks : stage.first_ended ≡ false → AsksFor join pair out s.first_passes.bytes.0 s.second_passes.bytes.0 past_first second) (fits : join.Fits (given stage) past_second) where
    -- the bytes so far, and what was read of the inputs later
    wrote_later : {first_bytes second_bytes : List ℕ} (first_now : MemberReader A X U) → IsLater s.first_passes.bytes.0 first.below first_bytes first_now.below → (second_now : MemberReader B Y V) → ReadsLater second_bytes second_now
        → Wrote join pair out first_bytes second_bytes stage.written s.bytes first_now second_now grown
    wrote_later {first_bytes} first_now later second_now on =
        wrote_by s.second_passes on.low on.later stage.second_ended settled_now
        (whatever_later pair.first first first_now s.first_passes.bytes.0 first_bytes (λ good. (rest : List X) × (items_in good ≡ stage.written ++ rest)) later begins_now)
        ended_now s.put.grows (given stage)
        (whatever_later pair.first first first_now s.first_passes.bytes.0 first_bytes (λ good. (rest : List X) × (items_in good ≡ given stage ++ rest)) later given_now) fits

    -- the sink took all but a block of the bytes so far
    near_by : {first_bytes second_bytes : List ℕ} (first_now : MemberReader A X U) (second_now : MemberReader B Y V) (now : Output) → Wrote join pair out first_bytes second_bytes stage.written s.bytes first_now second_now grown → GoesOn grown now
        → (end_told first.below ≡ true → end_told first_now.below ≡ true) → first_bytes ≡ s.first_passes.bytes.0
        → ((stage.first_ended ≡ true) ⊎ AsksFor join pair out first_bytes second_bytes past_first second_now) → StaysNear join pair out first_bytes second_bytes first_now second_now now
    unfolding read_same
    near_by first_now second_now now wrote more keeps same beside = record {
      at = grown;
      written = stage.written;
      bytes = s.bytes;
      wrote = wrote;
      took = took_later out grown now s.bytes s.put.grows more (took_lines out grown s.bytes s.put);
      past = s.near_first.0;
      given_first = past_first;
      items = s.near_first.1;
      first_near = read_same pair.source_a pair.first s.near_first.0 past_first past_first first first_now keeps same refl s.near_first.2;
      beside = elim beside [
        | inl ended ↦ inl (let all = s.near_first.3 ended in (keeps all.0, omega (arith, all.1, ap (λ b. length (lines_coming b pair.first.below)) same)))
        | inr asks ↦ inr asks
      ];
    }

    beside_by : (b : Bool) → stage.first_ended ≡ b → {first_bytes second_bytes : List ℕ} (second_now : MemberReader B Y V) → (AsksFor join pair out s.first_passes.bytes.0 s.second_passes.bytes.0 past_first second → AsksFor join pair out first_bytes second_bytes past_first second_now)
        → (stage.first_ended ≡ true) ⊎ AsksFor join pair out first_bytes second_bytes past_first second_now
    beside_by true e second_now asked = inl e
    beside_by false e second_now asked = inr (asked (asks e))

    -- more was taken of the second
    asks_later : {first_bytes : List ℕ} {given_first : List (Member X)} {more_second : List (Member Y)} (second_now : MemberReader B Y V) (takes : TakesFurther pair.source_b pair.second s.second_passes.bytes.0 past_second more_second second second_now)
        → AsksFor join pair out s.first_passes.bytes.0 s.second_passes.bytes.0 given_first second → AsksFor join pair out first_bytes takes.passes.bytes.0 given_first second_now
    asks_later second_now takes asked = record {
      past = asked.past;
      reached = asked.reached;
      near = record {
        count = asked.near.count;
        near = λ rest follows. subst (λ b. bytes_in (drop (suc asked.near.count) (lines_coming (b ++ rest) pair.second.below)) ≤ length rest + block_size) (sym takes.same) (asked.near.near rest (λ told. follows (takes.told told)));
        behind = λ rest follows. subst (λ b. (left : List (Member Y)) × ((coming (b ++ rest) pair.second).members ≡ asked.past ++ left) × IsBeyond asked.near.count (record { members = left; fault = (coming (b ++ rest) pair.second).fault })) (sym takes.same) (asked.near.behind rest (λ told. follows (takes.told told)));
      };
    }

    beside_if : {first_bytes : List ℕ} {more_second : List (Member Y)} (second_now : MemberReader B Y V) (takes : TakesFurther pair.source_b pair.second s.second_passes.bytes.0 past_second more_second second second_now)
        → (stage.first_ended ≡ true) ⊎ AsksFor join pair out first_bytes takes.passes.bytes.0 past_first second_now
    beside_if second_now takes = beside_by stage.first_ended refl second_now (asks_later second_now takes)

    beside_now : (stage.first_ended ≡ true) ⊎ AsksFor join pair out s.first_passes.bytes.0 s.second_passes.bytes.0 past_first second
    beside_now = beside_by stage.first_ended refl second (λ asked. asked)

    no_more : GoesOn grown grown
    no_more = goes_same grown

    -- it ends with the bytes so far
    ends_so : (fault : Option FaultValue) (second_now : MemberReader B Y V) (handed : HandsOver pair.source_b pair.second second_now) → ReadsLater handed.0 second_now → (stage.first_ended ≡ true) ⊎ AsksFor join pair out s.first_passes.bytes.0 handed.0 past_first second_now
        → Why join pair out s.first_passes.bytes.0 handed.0 stage.written s.bytes (given stage) stage.second_ended first second_now fault grown → Ends fault first second_now grown
    unfolding wrote_later wrote_by near_by
    ends_so fault second_now handed on beside why =
        let wrote = wrote_later first (later_same s.first_passes.bytes.0 first.below first.below (λ told. told)) second_now on in
        record {
          first_bytes = s.first_passes.bytes;
          second_bytes = handed;
          written = stage.written;
          bytes = s.bytes;
          wrote = wrote;
          why = why;
          near = near_by first second_now grown wrote no_more (λ told. told) refl beside;
          exact = λ stops. s.put.puts;
        }

    ends_here : (fault : Option FaultValue) → Why join pair out s.first_passes.bytes.0 s.second_passes.bytes.0 stage.written s.bytes (given stage) stage.second_ended first second fault grown → Ends fault first second grown
    ends_here fault why = ends_so fault second s.second_passes.bytes no_later beside_now why

    -- more members of both were taken, then the first input stopped: all members of it were written
    -- all of the second, if it has ended
    all_then : {more_second : List (Member Y)} {second_now : MemberReader B Y V} (takes : TakesFurther pair.source_b pair.second s.second_passes.bytes.0 past_second more_second second second_now) → (stage.second_ended ≡ true → (more_second ≡ []) × (second_now.buffered ≡ []))
        → stage.second_ended ≡ true → AreAll pair.source_b pair.second takes.passes.bytes.0 (past_second ++ more_second) second_now × (ahead_in second_now ≡ None)
    all_then {more_second} {second_now} takes ended e = (
      all_same pair.source_b pair.second past_second (past_second ++ more_second) second second_now takes.told takes.same (sym (append-nil past_second) ∙ ap (λ (l : List (Member Y)). past_second ++ l) (sym (ended e).0)) (s.second_all e).0,
      ap (λ (l : List Y). first_from (suc (lines_given second_now.below)) l) (ended e).1,
    )

    module _ (going : stage.first_ended ≡ false) (more_first : List (Member X)) {more_second : List (Member Y)} {second_now : MemberReader B Y V}
        (takes_second : TakesFurther pair.source_b pair.second s.second_passes.bytes.0 past_second more_second second second_now) (ended : stage.second_ended ≡ true → (more_second ≡ []) × (second_now.buffered ≡ [])) {more : List ℕ}
        (settles : SettlesPair join (given stage ++ member_items more_first) (s.bytes ++ more) ((stage.taken ++ member_items more_second) ++ option_to_list (item_ahead second_now)) stage.second_ended)
        (fits_now : join.Fits (given stage ++ member_items more_first) (past_second ++ more_second))
        {fault : FaultValue} {first_now : MemberReader A X U} (stops : StopsAfter pair.source_a pair.first join.first_kinds (past_first ++ more_first) fault first_now) (asks_first : AsksFor join pair out stops.bytes.0 takes_second.passes.bytes.0 (past_first ++ more_first) second_now)
        (read : IsReadFor pair.source_a pair.first stops.bytes.0 (past_first ++ more_first) (past_first ++ more_first) first_now) {now : Output} (adds : Grown grown more now) where
      abbrev written : List X
      written = given stage ++ member_items more_first

      all_written_now : written ≡ member_items (past_first ++ more_first)
      all_written_now = given_with more_first

      serves_now : Serves pair.source_b.has_failed pair.second second_now
      serves_now = record { served = takes_second.passes.served; clear = takes_second.passes.clear; within = takes_second.passes.kept.within takes_second.passes.clear }

      put_now : HasPut out (s.bytes ++ more) now
      put_now = put_more out grown now s.bytes more s.put adds

      wrote_first : Wrote join pair out stops.bytes.0 takes_second.passes.bytes.0 written (s.bytes ++ more) first_now second_now now
      wrote_first =
          wrote_by takes_second.passes (none_low second_now takes_second.passes.going) (later_same takes_second.passes.bytes.0 second_now.below second_now.below (λ told. told)) stage.second_ended
          (subst (λ (l : List Y). SettlesPair join written (s.bytes ++ more) (l ++ option_to_list (item_ahead second_now)) stage.second_ended) (taken_with more_second) settles)
          (begins_items pair.first stops.bytes.0 first_now (past_first ++ more_first) written [] (sym all_written_now ∙ sym (append-nil written)) read.begins)
          (all_then takes_second ended)
          put_now.grows written (begins_items pair.first stops.bytes.0 first_now (past_first ++ more_first) written [] (sym all_written_now ∙ sym (append-nil written)) read.begins) fits_now

      stops_why : Why join pair out stops.bytes.0 takes_second.passes.bytes.0 written (s.bytes ++ more) written stage.second_ended first_now second_now (Some fault) now
      stops_why =
          elim stops.cause [
            | inl fails ↦ inl (inl (fault, refl, record { past = past_first ++ more_first; all = all_written_now; all_given = all_written_now; cause = fails; serves = serves_now }), put_now.puts, put_now.works)
            | inr ran ↦ inr (inl (ap Some ran.is, put_now.puts, put_now.works))
          ]

      pub first_fails : Ends (Some fault) first_now second_now now
      unfolding wrote_first wrote_by
      first_fails = record {
        first_bytes = stops.bytes;
        second_bytes = takes_second.passes.bytes;
        written = written;
        bytes = s.bytes ++ more;
        wrote = wrote_first;
        why = stops_why;
        near = record {
          at = now;
          written = written;
          bytes = s.bytes ++ more;
          wrote = wrote_first;
          took = took_lines out now (s.bytes ++ more) put_now;
          past = past_first ++ more_first;
          given_first = past_first ++ more_first;
          items = sym all_written_now;
          first_near = read;
          beside = inr asks_first;
        };
        exact = λ stops. put_now.puts;
      }

    -- the first input couldn't give a member
    pub stops_first : ((state : U) (line : TextLine) (kind : Kind) → pair.first.format.says state line ≡ Err kind → join.first_kinds kind)
        → stage.waiting ≡ None → stage.first_ended ≡ false → (fault : FaultValue) (first_now : MemberReader A X U) → IsStopped pair.source_a first fault first_now
        → Ends (Some fault) first_now second grown
    stops_first wrong waits going fault first_now stopped =
        let none = takes_nothing pair.source_b pair.second past_second second s.second_passes in
        let stops = passes_stop pair.source_a pair.first past_first first s.first_passes join.first_kinds wrong first_now fault stopped in
        let read = read_at_stop pair.source_a pair.first past_first first s.first_passes first_now fault stopped in
        let all = subst (λ (l : List (Member X)). (stops : StopsAfter pair.source_a pair.first join.first_kinds l fault first_now) × IsReadFor pair.source_a pair.first stops.bytes.0 l l first_now × AsksFor join pair out stops.bytes.0 none.passes.bytes.0 l second)
        (sym (append-nil past_first)) (stops, read, asks_later second none (asks going)) in
        let alone : given stage ++ [] ≡ stage.written = append-nil (given stage) ∙ ap (λ (o : Option X). stage.written ++ option_to_list o) waits ∙ append-nil stage.written in
        first_fails going [] none (λ e. (refl, (s.second_all e).1)) (rw (alone, append-nil s.bytes, append-nil stage.taken) s.settles)
        (subst (λ (l : List X). join.Fits l (past_second ++ [])) (sym (append-nil (given stage))) (subst (λ (l : List (Member Y)). join.Fits (given stage) l) (sym (append-nil past_second)) fits))
        all.0 all.2 all.1 (grown_none grown)

    -- memory ran out
    pub lacks_memory : (fault : FaultValue) → fault ≡ no_memory → Ends (Some fault) first second grown
    lacks_memory fault is = ends_here (Some fault) (inr (inl (ap Some is, s.put.puts, s.put.works)))

    -- more members of both were taken, and some lines that are settled then weren't all written
    pub fails_to_write : (more_first : List (Member X)) (more_second : List (Member Y)) {first_now : MemberReader A X U} {second_now : MemberReader B Y V}
        → TakesFurther pair.source_a pair.first s.first_passes.bytes.0 past_first more_first first first_now
        → TakesFurther pair.source_b pair.second s.second_passes.bytes.0 past_second more_second second second_now
        → {written : List X} (rest : List X) → written ++ rest ≡ given stage ++ member_items more_first
        → (join.Fits (given stage ++ member_items more_first) (past_second ++ more_second))
        → (stage.second_ended ≡ true → (more_second ≡ []) × (second_now.buffered ≡ []))
        → {puts more : List ℕ} → (SettlesPair join written (s.bytes ++ (puts ++ more)) ((stage.taken ++ member_items more_second) ++ option_to_list (item_ahead second_now)) stage.second_ended)
        → {through now : Output} {fault : FaultValue} → Grown grown puts through → FailsToAdd through more fault now → Ends (Some fault) first_now second_now now
    fails_to_write more_first more_second {first_now} {second_now} takes takes_second {written} rest parts fits_now ended {puts} {more} settles {through} {now} {fault} adds fails =
        let all = given_with more_first in
        let first_bytes = takes.passes.bytes.0 in
        let begun : BeginsWith pair.first first_bytes (past_first ++ more_first) first_now = λ rest follows. begins_with (coming (first_bytes ++ rest) pair.first) (coming rest first_now) (past_first ++ more_first) (takes.passes.come rest follows) in
        let grows = grows_both out.took through.took now.took (grows_both out.took grown.took through.took s.put.grows adds.grows) fails.puts.grows in
        record {
          first_bytes = takes.passes.bytes;
          second_bytes = takes_second.passes.bytes;
          written = written;
          bytes = s.bytes ++ (puts ++ more);
          wrote = wrote_by takes_second.passes (none_low second_now takes_second.passes.going) (later_same takes_second.passes.bytes.0 second_now.below second_now.below (λ told. told)) stage.second_ended
              (subst (λ (l : List Y). SettlesPair join written (s.bytes ++ (puts ++ more)) (l ++ option_to_list (item_ahead second_now)) stage.second_ended) (taken_with more_second) settles)
              (begins_items pair.first first_bytes first_now (past_first ++ more_first) written rest (sym all ∙ sym parts) begun)
              (all_then takes_second ended)
              grows (given stage ++ member_items more_first)
              (begins_items pair.first first_bytes first_now (past_first ++ more_first) (given stage ++ member_items more_first) [] (sym all ∙ sym (append-nil (given stage ++ member_items more_first))) begun)
              fits_now;
          why = inr (inr (
            ap Some fails.puts.is,
            subst (λ (l : List ℕ). CutsLines out l now) (append_assoc s.bytes puts more) (cuts_more out through now (s.bytes ++ puts) more fault (put_more out grown through s.bytes puts s.put adds).puts fails),
          ));
          near = near_by first_now second_now now
              (wrote_later first_now (subst (λ b. IsLater s.first_passes.bytes.0 first.below b first_now.below) (sym takes.same) (later_same s.first_passes.bytes.0 first.below first_now.below takes.told)) second_now
              (record { later = subst (λ b. IsLater s.second_passes.bytes.0 second.below b second_now.below) (sym takes_second.same) (later_same s.second_passes.bytes.0 second.below second_now.below takes_second.told); low = none_low second_now takes_second.passes.going }))
              (goes_failed grown now (grows_both grown.took through.took now.took adds.grows fails.puts.grows) fails.puts.failed) takes.told takes.same (beside_if second_now takes_second);
          exact = λ stops. absurd (stops.1 (ap Some fails.puts.is));
        }

    -- the same of the member that waits
    pub fails_waiting : (a : X) → stage.waiting ≡ Some a → (more : List ℕ) → (SettlesPair join (stage.written ++ a ∷ []) (s.bytes ++ more) (stage.taken ++ option_to_list (item_ahead second)) stage.second_ended)
        → (fault : FaultValue) (now : Output) → FailsToAdd grown more fault now → Ends (Some fault) first second now
    fails_waiting a waits more settles fault now fails =
        fails_to_write [] [] (takes_nothing pair.source_a pair.first past_first first s.first_passes) (takes_nothing pair.source_b pair.second past_second second s.second_passes)
        [] (ap (λ l. l ++ []) (ap (λ (o : Option X). stage.written ++ option_to_list o) (sym waits)))
        (subst (λ (l : List X). join.Fits l (past_second ++ [])) (sym (append-nil (given stage))) (subst (λ (l : List (Member Y)). join.Fits (given stage) l) (sym (append-nil past_second)) fits))
        (λ e. (refl, (s.second_all e).1))
        (subst (λ (l : List Y). SettlesPair join (stage.written ++ a ∷ []) (s.bytes ++ more) (l ++ option_to_list (item_ahead second)) stage.second_ended) (sym (append-nil stage.taken)) settles)
        (grown_none grown) fails

    -- while one of the first waits
    module _ {a : X} (waits : stage.waiting ≡ Some a) where
      begins_before : WhateverComes pair.first s.first_passes.bytes.0 first (λ good. (rest : List X) × (items_in good ≡ stage.written ++ a ∷ rest))
      begins_before rest follows =
          items_begin (coming (s.first_passes.bytes.0 ++ rest) pair.first) past_first stage.written (a ∷ []) (sym s.all_given ∙ ap (λ (o : Option X). stage.written ++ option_to_list o) waits) (came_first rest follows)

      with_waiting : given stage ≡ stage.written ++ a ∷ []
      with_waiting = ap (λ (o : Option X). stage.written ++ option_to_list o) waits

      -- with the member ahead of the second too many would be held for the one that waits
      pub passes_limit : (m : Member Y) → ahead_in second ≡ Some m
          → (kind : Kind) → join.second_kinds kind → (fault : FaultValue) → fault ≡ fault_at_line Second m.line kind → join.decided a (member_items (past_second ++ m ∷ [])) ≡ false
          → ((later : List X) (more : List (Member Y)) (other : Option FaultValue)
          → join.within_limit (stage.written ++ a ∷ later) (record { members = (past_second ++ m ∷ []) ++ more; fault = other }) ≡ record { members = past_second ++ m ∷ []; fault = Some fault })
          → Ends (Some fault) first second grown
      passes_limit m ahead kind of_kind fault is undecided cuts =
          ends_here (Some fault) (inl (
            inr (inr (inr (
              fault,
              refl,
              record {
                past = past_second;
                m = m;
                waiting = a;
                begins = begins_before;
                comes = λ rest follows. seen_begins (coming (s.second_passes.bytes.0 ++ rest) pair.second) second rest follows past_second (Some m) ahead (s.second_passes.come rest follows) s.second_passes.ahead;
                undecided = undecided;
                cuts = cuts;
                kind = kind;
                is = is;
                of_kind = of_kind;
                serves = first_serves;
                serves_second = second_serves;
              },
            ))),
            s.put.puts,
            s.put.works,
          ))

      -- the second input couldn't give a member
      module _ (wrong : (state : V) (line : TextLine) (kind : Kind) → pair.second.format.says state line ≡ Err kind → join.second_kinds kind)
          (reached : join.Asks (given stage) stage.taken) (goes : stage.second_ended ≡ false) (opens : second.buffered ≡ [] → join.decided a stage.taken ≡ false)
          (fault : FaultValue) (second_now : MemberReader B Y V) (stopped : IsStopped pair.source_b second fault second_now) where
        abbrev stop_bytes : List ℕ
        stop_bytes = s.second_passes.bytes.0 ++ stopped.answers.stays.bytes.0

        low_stopped : IsSome second_now.fault → All (λ m. m.line ≤ lines_given second_now.below) (past_second ++ option_to_list (ahead_in second))
        low_stopped some = seen_low past_second second (lines_given second_now.below) (none_buffered stopped.answers.was_none) (up_to (lines_given second.below) (lines_given second_now.below) past_second stopped.answers.rises s.second_passes.behind)

        second_why : SecondFails join pair out s.first_passes.bytes.0 stop_bytes stage.second_ended past_second second_now fault → Why join pair out s.first_passes.bytes.0 stop_bytes stage.written s.bytes (given stage) stage.second_ended first second_now (Some fault) grown
        second_why fails =
            inl (
              inr (inl (
                fault,
                refl,
                record {
                  past = past_second;
                  waiting = a;
                  begins = begins_before;
                  undecided = ap (join.decided a) (sym s.all_taken) ∙ opens stopped.answers.was_none;
                  fails = fails;
                  fits = subst (λ (l : List X). join.Fits l past_second) with_waiting fits;
                  serves = first_serves;
                },
              )),
              s.put.puts,
              s.put.works,
            )

        second_stops : HasFaultBehind pair.source_b pair.second join.second_kinds stop_bytes past_second fault second_now ⊎ LacksMemory pair.source_b pair.second fault second_now
            → Why join pair out s.first_passes.bytes.0 stop_bytes stage.written s.bytes (given stage) stage.second_ended first second_now (Some fault) grown
        second_stops (inl fails) = second_why (record { cause = fails; before_end = λ e. absurd (false≢true (sym goes ∙ e)) })
        second_stops (inr ran) = inr (inl (ap Some ran.is, s.put.puts, s.put.works))

        pub stops_second : Ends (Some fault) first second_now grown
        stops_second =
            let stops = passes_stop pair.source_b pair.second past_second second s.second_passes join.second_kinds wrong second_now fault stopped in
            ends_so (Some fault) second_now stops.bytes (record { later = later_then pair.source_b s.second_passes.bytes.0 stopped.answers.stays.bytes.1; low = low_stopped }) (inr (record {
              past = past_second;
              reached = reached_items past_first s.all_given reached;
              near = (read_at_stop pair.source_b pair.second past_second second s.second_passes second_now fault stopped).to;
            })) (second_stops stops.cause)

      -- at its end the waiting member wasn't written
      pub fails_at_end : join.Asks (given stage) stage.taken → stage.second_ended ≡ false
          → (fault : FaultValue) (second_now : MemberReader B Y V) (now : Output) → IsOver pair.source_b second second_now
          → FailsToAdd grown (join.bytes a stage.taken) fault now → Ends (Some fault) first second_now now
      unfolding passes_end
      fails_at_end reached goes fault second_now now over fails =
          let p = passes_end pair.source_b pair.second past_second second s.second_passes second_now over in
          let more = join.bytes a stage.taken in
          let seen : member_items past_second ++ option_to_list (item_ahead second_now) ≡ stage.taken = seen_alone (member_items past_second) second_now over.ends.none_buffered ∙ sym s.all_taken in
          record {
            first_bytes = s.first_passes.bytes;
            second_bytes = p.bytes;
            written = stage.written ++ a ∷ [];
            bytes = s.bytes ++ more;
            wrote = wrote_by p (none_low second_now p.going) (later_same p.bytes.0 second_now.below second_now.below (λ told. told)) true
                (rw seen (settles_end join stage.written s.bytes stage.taken false a (settles_ended s goes second_now over)))
                (begins_items pair.first s.first_passes.bytes.0 first past_first (stage.written ++ a ∷ []) [] (sym s.all_given ∙ with_waiting ∙ sym (append-nil (stage.written ++ a ∷ []))) came_first)
                (λ e. (passes_all pair.source_b pair.second past_second second s.second_passes second_now over, ap (λ (l : List Y). first_from (suc (lines_given second_now.below)) l) over.ends.none_buffered))
                (grows_both out.took grown.took now.took s.put.grows fails.puts.grows) (given stage) given_now fits;
            why = inr (inr (ap Some fails.puts.is, cuts_more out grown now s.bytes more fault s.put.puts fails));
            near = near_by first second_now now
                (wrote_later first (later_same s.first_passes.bytes.0 first.below first.below (λ told. told)) second_now (record { later = later_then pair.source_b s.second_passes.bytes.0 over.ends.stays.bytes.1; low = none_low second_now p.going }))
                (goes_failed grown now fails.puts.grows fails.puts.failed) (λ told. told) refl (inr (record {
                  past = past_second;
                  reached = reached_items past_first s.all_given reached;
                  near = (read_here pair.source_b pair.second past_second second_now p).to;
                }));
            exact = λ stops. absurd (stops.1 (ap Some fails.puts.is));
          }

    -- if all of the first input is written
    module _ (done : stage.first_ended ≡ true) where
      module _ (second_now : MemberReader B Y V) (handed : HandsOver pair.source_b pair.second second_now) (on : ReadsLater handed.0 second_now) where
        -- the second was read on
        pub ends_rest : (past : List (Member Y)) (fault : Option FaultValue)
            → ((fault ≡ None) × AreAll pair.source_b pair.second handed.0 past second_now × Serves pair.source_b.has_failed pair.second second_now × (join.last stage.written past ≡ None) × (end_told second_now.below ≡ true))
            ⊎ (((other : FaultValue) × (fault ≡ Some other) × SecondFails join pair out s.first_passes.bytes.0 handed.0 stage.second_ended past second_now other × (join.last stage.written past ≡ None))
            ⊎ ((other : FaultValue) × (fault ≡ Some other) × LastTold join pair out s.first_passes.bytes.0 handed.0 stage.written second_now other))
            → Ends fault first second_now grown
        ends_rest past fault rest =
            let whole = s.first_all done in
            ends_so fault second_now handed on (inl done) (inl (
              inr (inr (inl (record {
                past = past_first;
                past_second = past;
                all = all_written s whole.1;
                whole = whole.0;
                serves = first_serves;
                told = whole.3;
                rest = rest;
              }))),
              s.put.puts,
              s.put.works,
            ))

        runs_out : (fault : FaultValue) → fault ≡ no_memory → Ends (Some fault) first second_now grown
        runs_out fault is = ends_so (Some fault) second_now handed on (inl done) (inr (inl (ap Some is, s.put.puts, s.put.works)))

      -- both inputs have ended
      pub ends_all : stage.second_ended ≡ true → join.last stage.written past_second ≡ None → Ends None first second grown
      ends_all done_second none = ends_rest second s.second_passes.bytes no_later past_second None (inl (let all = s.second_all done_second in (refl, all.0, second_serves, none, all.2)))

      -- the rest of the second input stopped
      pub stops_rest : (second_now : MemberReader B Y V) (past : List (Member Y)) (fault : FaultValue)
          → (stops : StopsAfter pair.source_b pair.second join.second_kinds past fault second_now) → ReadsLater stops.bytes.0 second_now
          → (stage.second_ended ≡ true → (input : Input) (line : ℕ) → fault ≡ read_failed input line → ⊥) → join.last stage.written past ≡ None → Ends (Some fault) first second_now grown
      stops_rest second_now past fault stops on before_end none =
          elim stops.cause [
            | inl fails ↦ ends_rest second_now stops.bytes on past (Some fault) (inr (inl (fault, refl, record { cause = fails; before_end = before_end }, none)))
            | inr ran ↦ runs_out second_now stops.bytes on fault ran.is
          ]

      -- after the last member of the first the second couldn't give one
      pub stops_behind : ((state : V) (line : TextLine) (kind : Kind) → pair.second.format.says state line ≡ Err kind → join.second_kinds kind)
          → stage.second_ended ≡ false → join.last stage.written past_second ≡ None
          → (fault : FaultValue) (second_now : MemberReader B Y V) → IsStopped pair.source_b second fault second_now → Ends (Some fault) first second_now grown
      stops_behind wrong goes none fault second_now stopped =
          stops_rest second_now past_second fault
          (passes_stop pair.source_b pair.second past_second second s.second_passes join.second_kinds wrong second_now fault stopped)
          (record {
            later = later_then pair.source_b s.second_passes.bytes.0 stopped.answers.stays.bytes.1;
            low = λ some. seen_low past_second second (lines_given second_now.below) (none_buffered stopped.answers.was_none) (up_to (lines_given second.below) (lines_given second_now.below) past_second stopped.answers.rises s.second_passes.behind);
          }) (λ e. absurd (false≢true (sym goes ∙ e))) none
