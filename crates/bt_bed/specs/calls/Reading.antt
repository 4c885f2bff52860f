-- What a reader of the members of an input holds, and what its calls do.
use Rattle.std.specs.Prelude.{◌≡◌, ℕ, suc, ◌+◌, ◌-◌, ◌^◌, ◌<◌, ◌≤◌, ◌⊎◌, Bool, true, false, List, [], ◌∷◌, ◌++◌, drop, length, Option, Some, None, option_map, Result, Ok, All, Err, IsSome, IfSome, ⊤}
use Rattle.bt_lines.specs.declared.device.Source.{Ghosts as Source}
use Rattle.bt_lines.specs.model.Fault.{FaultValue, read_failed}
use Rattle.bt_lines.specs.calls.Faults.{no_memory}
use Rattle.bt_lines.specs.model.Lines.{TextLine}
use Rattle.bt_lines.specs.calls.Names.{fault_value}
use Rattle.bt_lines.specs.calls.Output.{block_size}
use Rattle.bt_lines.specs.calls.Reader.{CutsOff, Hands, IsKept, IsNear, IsReadFailed, MayStillCome, end_told, held, input_of, source_of, lines_coming, lines_given, bytes_taken, has_ended, room as line_room, fault_kept as line_fault}
use Rattle.bt_lines.specs.declared.fault.Fault.{Fault}
use Rattle.bt_lines.specs.declared.fault.Input.{Input}
use Rattle.bt_lines.specs.declared.fault.Kind.{Kind}
use Rattle.bt_lines.specs.declared.fault.Place.{Place}
use Rattle.bt_lines.specs.declared.reader.line_reader.LineReader.{LineReader}
use Rattle.bt_lines.specs.declared.fault.Kind.TheVariants.{ReadFailed, WriteFailed, NoMemory}
use Rattle.bt_bed.specs.model.Good.{Format, Good, Member, ends_with, good_after}
use Rattle.bt_bed.specs.model.BedLine.{fault_at_line}

-- whether a line can be at fault so by what it says, and not by a device that failed or by running out of memory
abbrev pub is_of_line : Kind → Bool
is_of_line ReadFailed = false
is_of_line WriteFailed = false
is_of_line NoMemory = false
is_of_line _ = true

-- each member's line comes after that of the one before, and none before the line given
abbrev pub AreAscending : {A : Type 0} → ℕ → List (Member A) → Type 0
AreAscending line [] = ⊤
AreAscending line (m ∷ ms) = (line ≤ m.line) × AreAscending (suc m.line) ms

-- a fault's line, if it has one, comes after the first `count`
abbrev pub IsFaultBeyond : ℕ → FaultValue → Type 0
IsFaultBeyond count fault = IfSome fault.place (λ place. count < place.line)

-- the members and the fault are on lines after the first `count`
pub record IsBeyond {A : Type 0} (count : ℕ) (good : Good A) : Type 0 where
  pub members : All (λ m. count < m.line) good.members
  pub fault : IfSome good.fault (IsFaultBeyond count)

-- what a reader of members holds
pub record MemberReader (S A State : Type 0) : Type 0 where
  pub format : Format A State
  -- the reader of lines below
  pub below : LineReader S
  -- what is known after the member that was consumed last
  pub state : State
  -- the members that are known to come next, on the lines that follow those given
  pub buffered : List A
  -- the fault that is kept
  pub fault : Option FaultValue

-- what is good after the last member: nothing but the fault, if one is kept
abbrev pub good_behind : {A State : Type 0} → Format A State → Input → Option FaultValue → State
    → List TextLine → Good A
good_behind format input (Some fault) state lines = ends_with (Some fault)
good_behind format input None state lines = good_after format input state lines

-- why a line that says this gave no item: it is at fault, or memory ran out for its item
abbrev pub IsLost : {A : Type 0} → Place → Result (Option A) Kind → FaultValue → Type 0
IsLost place (Err kind) fault = fault ≡ fault_at_line place.input place.line kind
IsLost place (Ok None) fault = ⊥
IsLost place (Ok (Some item)) fault = fault ≡ no_memory

-- a line says the item, by what is known before it
abbrev pub IsSaidBehind : {A State : Type 0} → Format A State → State → A → Type 0
IsSaidBehind format state item = (line : TextLine) × (format.says state line ≡ Ok (Some item))

-- each of these items is what a line says after those before it
abbrev pub AreSaid : {A State : Type 0} → Format A State → State → List A → Type 0
AreSaid format state [] = ⊤
AreSaid format state (item ∷ items) =
    IsSaidBehind format state item × AreSaid format (format.after state item) items

-- what is known after these items
abbrev pub state_behind : {A State : Type 0} → Format A State → State → List A → State
state_behind format state [] = state
state_behind format state (item ∷ items) = state_behind format (format.after state item) items

-- items on lines that follow one another, of which the first has this number
abbrev pub members_from : {A : Type 0} → ℕ → List A → List (Member A)
members_from line [] = []
members_from line (item ∷ items) = record { line = line; item = item } ∷ members_from (suc line) items

-- the first of them
abbrev pub first_from : {A : Type 0} → ℕ → List A → Option (Member A)
first_from line [] = None
first_from line (item ∷ items) = Some (record { line = line; item = item })

-- members before others
abbrev pub with_members : {A : Type 0} → List (Member A) → Good A → Good A
with_members members good = record { members = members ++ good.members; fault = good.fault }

module _ {S : Type 0} where
  -- once these bytes were handed over, the lines that come are those after the ones given, whatever follows
  abbrev pub LinesPass : LineReader S → List ℕ → LineReader S → Type 0
  LinesPass old bytes new = (rest : List ℕ) → MayStillCome new rest
      → lines_coming rest new ≡ drop (lines_given new - lines_given old) (lines_coming (bytes ++ rest) old)

  -- once these bytes were handed over, the source failed, or its text is too long
  pub record ReadingFails (device : Source S) (old : LineReader S) (bytes : List ℕ) (new : LineReader S)
      (fault : FaultValue) : Type 0 where
    pub is : fault ≡ read_failed (input_of old) (suc (lines_given new))
    pub kept : line_fault new ≡ Some fault
    pub cause : (device.has_failed (source_of new) ≡ true) ⊎ (2 ^ 63 ≤ bytes_taken new)
    -- it comes before the end
    pub before_end : end_told old ≡ false
    -- the complete lines among those bytes are those that were given
    pub cut : IsKept device old → CutsOff old bytes new

  -- memory ran out, and no failed read is kept
  pub record MemoryRanOut (failed : S → Bool) (old new : LineReader S) (fault : FaultValue) : Type 0 where
    pub is : fault ≡ no_memory
    pub served : failed (source_of new) ≡ failed (source_of old)
    pub no_read : IsReadFailed (line_fault new) → ⊥

module _ {S A State : Type 0} where
  -- the member ahead, once it is known
  abbrev pub ahead_in : MemberReader S A State → Option (Member A)
  ahead_in reader = first_from (suc (lines_given reader.below)) reader.buffered

  -- its line
  abbrev pub line_of_ahead : MemberReader S A State → Option ℕ
  line_of_ahead reader = option_map (λ m. m.line) (ahead_in reader)

  -- what comes, the members that are buffered included, if these bytes come from the source
  unfoldable pub coming : List ℕ → MemberReader S A State → Good A
  coming rest reader =
      good_behind reader.format (input_of reader.below) reader.fault reader.state (lines_coming rest reader.below)

  -- the members that are buffered are the first of those that come, whatever follows
  abbrev pub BeginsComing : MemberReader S A State → Type 0
  BeginsComing reader = (rest : List ℕ) → MayStillCome reader.below rest → (more : List (Member A))
      × ((coming rest reader).members ≡ members_from (suc (lines_given reader.below)) reader.buffered ++ more)

  -- how many bytes may still come: it never rises, and falls with each member taken
  abbrev pub room : MemberReader S A State → ℕ
  room reader = line_room reader.below

  -- what no call changes
  pub record Stays (device : Source S) (old new : MemberReader S A State) : Type 0 where
    pub bytes : (bytes : List ℕ) × Hands device old.below bytes new.below
    pub format : new.format ≡ old.format

  -- a member is ahead
  pub record GivesMember (device : Source S)
      (old : MemberReader S A State) (m : Member A) (new : MemberReader S A State) : Type 0 where
    pub stays : Stays device old new
    pub ahead : ahead_in new ≡ Some m
    pub state : new.state ≡ old.state
    -- whatever follows the bytes handed over, nothing of what comes is lost, and the member is the first of it
    pub good : (rest : List ℕ) → MayStillCome new.below rest → coming (stays.bytes.0 ++ rest) old ≡ coming rest new
    pub first : (rest : List ℕ) → MayStillCome new.below rest → (more : List (Member A))
        × ((coming (stays.bytes.0 ++ rest) old).members ≡ m ∷ more)
    -- it is what a line says after the member before it
    pub said : IsSaidBehind old.format old.state m.item
    -- if it was ahead before, nothing is read
    pub again : IsSome (ahead_in old) → new ≡ old
    -- its line comes next, after those given before
    pub at : m.line ≡ suc (lines_given new.below)
    pub rises : lines_given old.below ≤ lines_given new.below
    pub below : m.line < 2 ^ 63
    pub served : device.has_failed (source_of new.below) ≡ device.has_failed (source_of old.below)
    -- after a fault none is given
    pub was_going : old.fault ≡ None
    pub goes : new.fault ≡ old.fault
    pub below_goes : line_fault new.below ≡ None
    pub lines : LinesPass old.below stays.bytes.0 new.below
    -- what follows the lines given and its own is still to come, except at most a block
    pub near : IsNear old.below stays.bytes.0 new.below
    pub shrinks : room new ≤ room old

  -- no member is left
  pub record EndsMembers (device : Source S) (old new : MemberReader S A State) : Type 0 where
    pub stays : Stays device old new
    -- the bytes handed over were the last, and had none
    pub none_left : coming stays.bytes.0 old ≡ ends_with None
    pub none_comes : coming [] new ≡ ends_with None
    pub was_none : old.buffered ≡ []
    pub none_buffered : new.buffered ≡ []
    pub state : new.state ≡ old.state
    pub ends : has_ended new.below ≡ true
    pub told : end_told new.below ≡ true
    pub rises : lines_given old.below ≤ lines_given new.below
    -- all lines were given
    pub lines : drop (lines_given new.below - lines_given old.below) (lines_coming stays.bytes.0 old.below) ≡ []
    -- once the end is reached, nothing more is read
    pub again : has_ended old.below ≡ true → new ≡ old
    pub served : device.has_failed (source_of new.below) ≡ device.has_failed (source_of old.below)
    -- after a fault no end is reported
    pub was_going : old.fault ≡ None
    pub goes : new.fault ≡ None
    pub below_goes : line_fault new.below ≡ None
    pub shrinks : room new ≤ room old

  -- a line is at fault: the last one given
  pub record LineIsWrong (device : Source S) (old : MemberReader S A State) (bytes : List ℕ)
      (fault : FaultValue) (new : MemberReader S A State) : Type 0 where
    -- whatever follows, only this fault comes
    pub none_left : (rest : List ℕ) → MayStillCome new.below rest → coming (bytes ++ rest) old ≡ ends_with (Some fault)
    -- it is what is wrong with a line after the last member
    pub kind : Kind
    pub line : TextLine
    pub says : old.format.says old.state line ≡ Err kind
    pub of_line : is_of_line kind ≡ true
    pub place : fault ≡ fault_at_line (input_of old.below) (lines_given new.below) kind
    pub rises : lines_given old.below < lines_given new.below
    pub going : line_fault new.below ≡ None
    pub served : device.has_failed (source_of new.below) ≡ device.has_failed (source_of old.below)
    -- after it at most a block is held
    pub near : length (held new.below) ≤ block_size

  -- the lines that were given said nothing: what comes lies after them, whatever follows
  abbrev pub SaidNothing : MemberReader S A State → List ℕ → MemberReader S A State → Type 0
  SaidNothing old bytes new = (rest : List ℕ) → MayStillCome new.below rest
      → IsBeyond (lines_given new.below) (coming (bytes ++ rest) old)

  -- a line couldn't be read, and no line before it was at fault or had a member
  pub record LineUnread (device : Source S) (old : MemberReader S A State) (bytes : List ℕ)
      (fault : FaultValue) (new : MemberReader S A State) : Type 0 where
    pub fails : ReadingFails device old.below bytes new.below fault
    pub passed : SaidNothing old bytes new

  -- the last line given has the first member that comes, whatever follows, and it couldn't be kept
  pub record LastUnkept (old : MemberReader S A State) (bytes : List ℕ)
      (new : MemberReader S A State) : Type 0 where
    pub item : A
    pub first : (rest : List ℕ) → MayStillCome new.below rest → (more : List (Member A))
        × ((coming (bytes ++ rest) old).members ≡ record { line = lines_given new.below; item = item } ∷ more)
    pub rises : lines_given old.below < lines_given new.below
    pub going : line_fault new.below ≡ None
    -- after it at most a block is held
    pub near : length (held new.below) ≤ block_size

  -- memory ran out: for a line that couldn't be read, once those before it were checked, or for the
  -- member of the last line given, once it was
  pub record RunsOut (device : Source S) (old : MemberReader S A State) (bytes : List ℕ)
      (fault : FaultValue) (new : MemberReader S A State) : Type 0 where
    pub is : fault ≡ no_memory
    pub checked : ((line_fault new.below ≡ Some no_memory) × SaidNothing old bytes new)
        ⊎ LastUnkept old bytes new
    pub served : device.has_failed (source_of new.below) ≡ device.has_failed (source_of old.below)

  -- why a fault came, once these bytes were handed over
  abbrev pub Cause : Source S → MemberReader S A State → List ℕ
      → FaultValue → MemberReader S A State → Type 0
  Cause device old bytes fault new =
      LineIsWrong device old bytes fault new ⊎ (LineUnread device old bytes fault new
      ⊎ RunsOut device old bytes fault new)

  -- a fault was returned
  pub record AnswersFault (device : Source S)
      (old : MemberReader S A State) (fault : FaultValue) (new : MemberReader S A State) : Type 0 where
    pub stays : Stays device old new
    pub kept : new.fault ≡ Some fault
    pub was_none : old.buffered ≡ []
    pub none_buffered : new.buffered ≡ []
    pub state : new.state ≡ old.state
    -- a fault is returned again, and nothing is read
    pub again : (before : FaultValue) → old.fault ≡ Some before → (fault ≡ before) × (new ≡ old)
    pub first : old.fault ≡ None → Cause device old stays.bytes.0 fault new
    pub below_was_going : old.fault ≡ None → line_fault old.below ≡ None
    pub rises : lines_given old.below ≤ lines_given new.below
    -- if the line read last could be read, the lines that come are those after the ones given
    pub lines : line_fault new.below ≡ None → LinesPass old.below stays.bytes.0 new.below
    -- what follows the lines given and one line more is still to come, except at most a block
    pub near : old.fault ≡ None → IsNear old.below stays.bytes.0 new.below

  -- what `fill` returns: a member is buffered, or there is none, for good or after a fault
  abbrev pub FillAnswers : Source S → MemberReader S A State
      → Result Bool Fault → MemberReader S A State → Type 0
  FillAnswers device old (Ok true) new = (m : Member A) × GivesMember device old m new
  FillAnswers device old (Ok false) new = EndsMembers device old new
  FillAnswers device old (Err fault) new = AnswersFault device old (fault_value fault) new

  -- a call of `fill`
  pub record Fills (device : Source S) (old : MemberReader S A State) (answer : Result Bool Fault)
      (new : MemberReader S A State) : Type 0 where
    pub answers : FillAnswers device old answer new
    pub kept : IsKept device old.below → IsKept device new.below

  -- members were taken, which were buffered, and nothing is read
  pub record Takes (device : Source S) (old : MemberReader S A State)
      (taken : List A) (new : MemberReader S A State) : Type 0 where
    pub buffered : old.buffered ≡ taken ++ new.buffered
    pub said : AreSaid old.format old.state taken
    pub state : new.state ≡ state_behind old.format old.state taken
    -- they are the first of what comes, and the others still come, whatever follows
    pub good : (rest : List ℕ) → MayStillCome new.below rest
        → coming rest old ≡ with_members (members_from (suc (lines_given old.below)) taken) (coming rest new)
    pub goes : new.fault ≡ old.fault
    pub below_stays : line_fault new.below ≡ line_fault old.below
    pub format : new.format ≡ old.format
    pub given : lines_given new.below ≡ lines_given old.below + length taken
    pub below : lines_given new.below < 2 ^ 63
    pub hands : Hands device old.below [] new.below
    pub source : source_of new.below ≡ source_of old.below
    pub lines : LinesPass old.below [] new.below
    pub kept : IsKept device old.below → IsKept device new.below
    -- after the lines at most a block is held
    pub near : 0 < length taken → length (held new.below) ≤ block_size
    pub shrinks : room new + length taken ≤ room old
