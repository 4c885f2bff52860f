-- Runs over two readers: how far they come, and how they end.
use Rattle.std.specs.Prelude.{◌≡◌, ℕ, ◌^◌, ◌<◌, ◌≤◌, ◌||◌, Bool, true, List, [], ◌++◌, flat_map, length, Option, None, IsSome, is_none, option_map, option_to_list, ◌⊎◌, All, false, ◌∷◌, Some}
use Rattle.std.specs.List.{list_all}
use Rattle.bt_lines.specs.declared.device.Source.{Ghosts as Source}
use Rattle.bt_lines.specs.model.Fault.{FaultValue, read_failed}
use Rattle.bt_lines.specs.calls.Faults.{no_memory, write_failed}
use Rattle.bt_lines.specs.model.Lines.{TextLine}
use Rattle.bt_lines.specs.calls.Output.{Output, Grows, WorksAsBefore}
use Rattle.bt_lines.specs.calls.Reader.{bytes_taken, end_told, fault_kept as line_fault, lines_coming, source_of, Hands, lines_given}
use Rattle.bt_lines.specs.declared.fault.Kind.{Kind}
use Rattle.bt_bed.specs.model.Good.{Good, Member, items_in}
use Rattle.bt_bed.specs.calls.Stage.{Stage, given}
use Rattle.bt_bed.specs.calls.Reading.{MemberReader, ahead_in}
use Rattle.bt_tool.specs.inside.Feed.{BeginsWith, HasPut, WhateverComes, member_items, AreAll, IsReadFor, PassesMembers, CutsLines, PutsLines, TookButBlock, HasFaultBehind, IsKeptBelow, IsReadTo}
use Rattle.bt_lines.specs.declared.fault.Input.{Input}
use Rattle.bt_lines.specs.declared.fault.Input.TheVariants.{Second}
use Rattle.bt_bed.specs.model.BedLine.{fault_at_line}
use Rattle.bt_tool.specs.calls.Run.{IsFaultButWrite, TellsNoRead}

-- Two readers of members, what a command makes of the members of the first by those of the
-- second, and how far a run over them has come.

-- what a command makes of the members of the first input by good members of the second
pub record JoinDef (X Y : Type 0) : Type 1 where
  -- whether they decide a member
  pub decided : X → List Y → Bool
  -- its bytes against them
  pub bytes : X → List Y → List ℕ
  -- what of the second input these members of the first meet, by a limit on what is held of it
  pub within_limit : List X → Good Y → Good Y
  -- by these members of the first, no limit lies among these of the second
  pub Fits : List X → List (Member Y) → Type 0
  -- what is reported when all members of the first input are written, before the fault of the second
  pub last : List X → List (Member Y) → Option FaultValue
  -- how many bytes of the lines of the second input, by its good members and its fault, these members of the first need
  pub reaches : List X → Good Y → List TextLine → ℕ
  -- these members of the first input need these of the second
  pub Asks : List X → List Y → Type 0
  -- the order in which they come
  pub InOrder : List Y → Type 0
  -- the kinds of fault that a line of each input can have
  pub first_kinds : Kind → Type 0
  pub second_kinds : Kind → Type 0

-- two sources, and the first states of the readers of their members
pub record Pair (A B X Y U V : Type 0) : Type 1 where
  pub source_a : Source A
  pub source_b : Source B
  pub first : MemberReader A X U
  pub second : MemberReader B Y V

-- these may be the good members of the second input and its fault, if the first of them were
-- seen, and no others once it has ended
pub record MayCome {Y : Type 0} (seen : List Y) (ended : Bool) (second : List Y)
    (fault : Option FaultValue) : Type 0 where
  pub begins : (more : List Y) × (second ≡ seen ++ more)
  pub all : ended ≡ true → (second ≡ seen) × (fault ≡ None)

-- an input worked, and its text isn't too long
pub record Serves {S A State : Type 0} (failed : S → Bool)
    (old new : MemberReader S A State) : Type 0 where
  pub served : failed (source_of new.below) ≡ failed (source_of old.below)
  pub clear : line_fault new.below ≡ None
  pub within : bytes_taken new.below < 2 ^ 63

-- the item of the member that a reader has ahead
abbrev pub item_ahead : {S A State : Type 0} → MemberReader S A State → Option A
item_ahead reader = option_map (λ m. m.item) (ahead_in reader)

module _ {X Y : Type 0} (join : JoinDef X Y) where
  -- whatever the second input still has, these members of the first are decided and have these bytes
  pub record SettlesPair (written : List X) (bytes : List ℕ) (seen : List Y)
      (ended : Bool) : Type 0 where
    pub whatever : (second : List Y) (fault : Option FaultValue) → join.InOrder second
        → MayCome seen ended second fault
        → (list_all (λ x. is_none fault || join.decided x second) written ≡ true)
        × (flat_map (λ x. join.bytes x second) written ≡ bytes)

-- the first input reported its end, and the bytes that it handed over have at most `count` lines
abbrev pub HasNoMore : {A B X Y U V : Type 0} → Pair A B X Y U V → List ℕ → MemberReader A X U → ℕ → Type 0
HasNoMore pair bytes first count =
    (end_told first.below ≡ true) × (length (lines_coming bytes pair.first.below) ≤ count)

module _ {A B X Y U V : Type 0} (join : JoinDef X Y) (pair : Pair A B X Y U V) (out : Output)
    (stage : Stage X Y) (past_first : List (Member X)) (past_second : List (Member Y)) where
  -- these members were given
  pub record Comes (first : MemberReader A X U) (second : MemberReader B Y V)
      (grown : Output) : Type 0 where
    pub first_passes : PassesMembers pair.source_a pair.first past_first first
    pub second_passes : PassesMembers pair.source_b pair.second past_second second
    pub all_given : given stage ≡ member_items past_first
    pub all_taken : stage.taken ≡ member_items past_second
    pub bytes : List ℕ
    pub settles : SettlesPair join stage.written bytes
        (stage.taken ++ option_to_list (item_ahead second)) stage.second_ended
    pub first_all : stage.first_ended ≡ true
        → AreAll pair.source_a pair.first first_passes.bytes.0 past_first first
        × (stage.waiting ≡ None) × (first.buffered ≡ []) × (end_told first.below ≡ true)
    pub second_all : stage.second_ended ≡ true
        → AreAll pair.source_b pair.second second_passes.bytes.0 past_second second
        × (second.buffered ≡ []) × (end_told second.below ≡ true)
    pub put : HasPut out bytes grown
    -- the first input was read as far as the members written need
    pub near_first : (past : List (Member X)) × (member_items past ≡ stage.written)
        × (read : IsReadFor pair.source_a pair.first first_passes.bytes.0 past past_first first)
        × (stage.first_ended ≡ true → HasNoMore pair first_passes.bytes.0 first read.to.count)

-- How a run over two readers of members ends.

module _ {A B X Y U V : Type 0} (join : JoinDef X Y) (pair : Pair A B X Y U V)
    (out : Output) (first_bytes second_bytes : List ℕ) where
  -- what is written at the end: these members of the first input, whatever the second has
  pub record Wrote (written : List X) (bytes : List ℕ) (first : MemberReader A X U)
      (second : MemberReader B Y V) (grown : Output) : Type 0 where
    pub seen : List (Member Y)
    pub ended : Bool
    pub settles : SettlesPair join written bytes (member_items seen) ended
    pub first_begins : WhateverComes pair.first first_bytes first (λ good. (rest : List X) × (items_in good ≡ written ++ rest))
    pub second_begins : BeginsWith pair.second second_bytes seen second
    -- where the reader stopped they are on the lines given
    pub low : IsSome second.fault → All (λ m. m.line ≤ lines_given second.below) seen
    pub second_all : ended ≡ true → AreAll pair.source_b pair.second second_bytes seen second
    -- the members that were given, those that were taken, and the one ahead
    pub given : List X
    pub taken : List (Member Y)
    pub ahead : Option (Member Y)
    pub sees : seen ≡ taken ++ option_to_list ahead
    pub none_ahead : ended ≡ true → ahead ≡ None
    pub given_begin : WhateverComes pair.first first_bytes first (λ good. (rest : List X) × (items_in good ≡ given ++ rest))
    pub fits : join.Fits given taken
    pub grows : Grows out.took grown.took

  -- all good members of the first input are written, and its fault is reported
  pub record FirstStops (written given : List X) (first : MemberReader A X U)
      (second : MemberReader B Y V) (fault : FaultValue) : Type 0 where
    pub past : List (Member X)
    pub all : written ≡ member_items past
    pub all_given : given ≡ member_items past
    pub cause : HasFaultBehind pair.source_a pair.first join.first_kinds first_bytes past fault first
    pub serves : Serves pair.source_b.has_failed pair.second second

  -- the fault of the second input, after these members
  pub record SecondFails (ended : Bool) (past : List (Member Y)) (second : MemberReader B Y V)
      (fault : FaultValue) : Type 0 where
    pub cause : HasFaultBehind pair.source_b pair.second join.second_kinds second_bytes
        past fault second
    pub before_end : ended ≡ true → (input : Input) (line : ℕ) → fault ≡ read_failed input line → ⊥

  -- a member of the first waits that the good members of the second don't decide,
  -- and its fault is reported
  pub record SecondStops (written : List X) (ended : Bool) (first : MemberReader A X U)
      (second : MemberReader B Y V) (fault : FaultValue) : Type 0 where
    pub past : List (Member Y)
    pub waiting : X
    pub begins : WhateverComes pair.first first_bytes first
        (λ good. (rest : List X) × (items_in good ≡ written ++ waiting ∷ rest))
    pub undecided : join.decided waiting (member_items past) ≡ false
    pub fails : SecondFails ended past second fault
    pub fits : join.Fits (written ++ waiting ∷ []) past
    pub serves : Serves pair.source_a.has_failed pair.first first

  -- a member of the first waits that the members of the second up to one don't decide, and the
  -- limit's fault is reported at the line of that one
  pub record LimitStops (written : List X) (first : MemberReader A X U)
      (second : MemberReader B Y V) (fault : FaultValue) : Type 0 where
    pub past : List (Member Y)
    pub m : Member Y
    pub waiting : X
    pub begins : WhateverComes pair.first first_bytes first
        (λ good. (rest : List X) × (items_in good ≡ written ++ waiting ∷ rest))
    pub comes : BeginsWith pair.second second_bytes (past ++ m ∷ []) second
    pub undecided : join.decided waiting (member_items (past ++ m ∷ [])) ≡ false
    pub cuts : (later : List X) (more : List (Member Y)) (other : Option FaultValue)
        → join.within_limit (written ++ waiting ∷ later)
        (record { members = (past ++ m ∷ []) ++ more; fault = other })
        ≡ record { members = past ++ m ∷ []; fault = Some fault }
    pub kind : Kind
    pub is : fault ≡ fault_at_line Second m.line kind
    pub of_kind : join.second_kinds kind
    pub serves : Serves pair.source_a.has_failed pair.first first
    pub serves_second : Serves pair.source_b.has_failed pair.second second

  -- what is reported at the end, at a line of the second input
  pub record LastTold (written : List X) (second : MemberReader B Y V) (fault : FaultValue) : Type 0 where
    pub line : ℕ
    pub kind : Kind
    pub is : fault ≡ fault_at_line Second line kind
    pub of_kind : join.second_kinds kind
    pub told : WhateverComes pair.second second_bytes second (λ good. join.last written good.members ≡ Some fault)
    pub serves : Serves pair.source_b.has_failed pair.second second

  -- all of the first is written, and the second was read to its end, to its fault
  -- or to what is reported at the end
  pub record RestStops (written : List X) (ended : Bool) (first : MemberReader A X U)
      (second : MemberReader B Y V) (fault : Option FaultValue) : Type 0 where
    pub past : List (Member X)
    pub past_second : List (Member Y)
    pub all : written ≡ member_items past
    pub whole : AreAll pair.source_a pair.first first_bytes past first
    pub serves : Serves pair.source_a.has_failed pair.first first
    pub told : end_told first.below ≡ true
    pub rest : ((fault ≡ None)
        × AreAll pair.source_b pair.second second_bytes past_second second
        × Serves pair.source_b.has_failed pair.second second × (join.last written past_second ≡ None)
        × (end_told second.below ≡ true))
        ⊎ (((other : FaultValue) × (fault ≡ Some other) × SecondFails ended past_second second other
        × (join.last written past_second ≡ None))
        ⊎ ((other : FaultValue) × (fault ≡ Some other) × LastTold written second other))

  -- the inputs say how it ends
  abbrev pub InputsEnd : List X → List X → Bool → MemberReader A X U → MemberReader B Y V
      → Option FaultValue → Type 0
  InputsEnd written given ended first second fault =
      ((other : FaultValue) × (fault ≡ Some other) × FirstStops written given first second other)
      ⊎ (((other : FaultValue) × (fault ≡ Some other) × SecondStops written ended first second other)
      ⊎ (RestStops written ended first second fault
      ⊎ ((other : FaultValue) × (fault ≡ Some other) × LimitStops written first second other)))

  -- why it ends
  abbrev pub Why : List X → List ℕ → List X → Bool → MemberReader A X U → MemberReader B Y V
      → Option FaultValue → Output → Type 0
  Why written bytes given ended first second fault grown =
      (InputsEnd written given ended first second fault × PutsLines out bytes grown
      × WorksAsBefore out grown)
      ⊎ (((fault ≡ Some no_memory) × PutsLines out bytes grown × WorksAsBefore out grown)
      ⊎ ((fault ≡ Some write_failed) × CutsLines out bytes grown))

  -- of the second input nothing was read except what these members of the first need
  pub record AsksFor (given_first : List (Member X)) (second : MemberReader B Y V) : Type 0 where
    pub past : List (Member Y)
    pub reached : join.Asks (member_items given_first) (member_items past)
    pub near : IsReadTo pair.source_b pair.second second_bytes past second

  -- how far the inputs were read beside what was written
  pub record StaysNear (first : MemberReader A X U) (second : MemberReader B Y V)
      (grown : Output) : Type 0 where
    pub at : Output
    pub written : List X
    pub bytes : List ℕ
    pub wrote : Wrote written bytes first second at
    pub took : TookButBlock out bytes grown
    pub past : List (Member X)
    pub given_first : List (Member X)
    pub items : member_items past ≡ written
    pub first_near : IsReadFor pair.source_a pair.first first_bytes past given_first first
    pub beside : HasNoMore pair first_bytes first first_near.to.count ⊎ AsksFor given_first second

module _ {A B X Y U V : Type 0} (join : JoinDef X Y) (pair : Pair A B X Y U V)
    (out : Output) where
  -- the run is over, and its inputs handed over these bytes
  pub record PairEnds (fault : Option FaultValue) (first : MemberReader A X U)
      (second : MemberReader B Y V) (grown : Output) : Type 0 where
    pub first_bytes : (bytes : List ℕ) × Hands pair.source_a pair.first.below bytes first.below
    pub second_bytes : (bytes : List ℕ) × Hands pair.source_b pair.second.below bytes second.below
    pub written : List X
    pub bytes : List ℕ
    pub wrote : Wrote join pair out first_bytes.0 second_bytes.0 written bytes first second grown
    pub why : Why join pair out first_bytes.0 second_bytes.0 written bytes wrote.given wrote.ended first second fault grown
    pub near : StaysNear join pair out first_bytes.0 second_bytes.0 first second grown
    -- at a fault, unless a write failed, those bytes were put
    pub exact : IsFaultButWrite fault → PutsLines out near.bytes grown

module _ {A B X Y U V : Type 0} (pair : Pair A B X Y U V) where
  -- the run is over; if no failed read is reported, neither reader keeps one, and one that a reader of members keeps
  -- is kept by its reader of lines
  pub record IsOverWith (join : JoinDef X Y) (out : Output) (fault : Option FaultValue)
      (first : MemberReader A X U) (second : MemberReader B Y V) (grown : Output) : Type 0 where
    pub finishes : PairEnds join pair out fault first second grown
    pub none_kept : TellsNoRead fault → TellsNoRead (line_fault first.below) × TellsNoRead (line_fault second.below)
    pub kept_first : IsKeptBelow first first.below
    pub kept_second : IsKeptBelow second second.below
