-- Loops over one reader.
use Rattle.std.specs.Prelude.{◌≡◌, ℕ, suc, ◌+◌, ◌^◌, ◌<◌, ◌≤◌, ◌⊎◌, ⊤, All, true, List, [], ◌∷◌, ◌++◌, drop, length, map, Option, Some, None, ◌≢◌, Result, Ok, Err, false}
use Rattle.bt_lines.specs.declared.device.Source.{Ghosts as Source}
use Rattle.bt_lines.specs.model.Fault.{FaultValue, read_failed}
use Rattle.bt_lines.specs.calls.Faults.{no_memory, write_failed}
use Rattle.bt_lines.specs.model.Lines.{bytes_in, TextLine}
use Rattle.bt_lines.specs.calls.Output.{block_size, Output, IsPrefixOf, Grows, HoldsBlock, WorksAsBefore, FailsToAdd, Grown, SinkFailed}
use Rattle.bt_lines.specs.calls.Reader.{CutsOff, Hands, IsKept, source_of, input_of, bytes_taken, end_told, fault_kept as line_fault, lines_given, MayStillCome, lines_coming, IsSound, feeds_taken}
use Rattle.bt_lines.specs.declared.fault.Input.{Input}
use Rattle.bt_lines.specs.declared.fault.Kind.{Kind}
use Rattle.bt_lines.specs.declared.reader.line_reader.LineReader.{LineReader}
use Rattle.bt_bed.specs.model.Good.{Format, Good, Member}
use Rattle.bt_bed.specs.calls.Reading.{IsBeyond, AreSaid, MemberReader, Takes, ahead_in, coming, state_behind, with_members}
use Rattle.bt_bed.specs.model.Feature.{Feature, intervals_of}
use Rattle.bt_bed.specs.calls.Orders.{AreNonEmpty, ArePlaced}
use Rattle.bt_bed.specs.model.BedLine.{fault_at_line}
use Rattle.bt_lines.specs.calls.Names.{fault_value}
use Rattle.bt_lines.specs.declared.fault.Fault.{Fault}
use Rattle.bt_bed.specs.model.Order.{Order}
use Rattle.bt_bed.specs.calls.Batch.{Passes as PassesBatch, left, line_in}
use Rattle.bt_bed.specs.calls.Records.{below, order_in, view_of}
use Rattle.bt_bed.specs.declared.order.ChromOrder.{Ghosts}
use Rattle.bt_bed.specs.declared.read.batch.Batch.{Batch}
use Rattle.bt_bed.specs.declared.read.records.Records.{Records}
use Rattle.std.specs.Option.{option_map_or}
use Rattle.bt_seq.specs.model.Alignment.{Alignment, alignment_of, sam_format, is_sam_kind}
use Rattle.bt_seq.specs.model.BedLines.{bed_lines}
use Rattle.bt_seq.specs.calls.Sam.{Converting}
use Rattle.bt_tool.specs.model.Written.{IsOneOf, alignment_lines}

-- What a reader of members has consumed, and why it stops.

-- the items of members, without their lines
abbrev pub member_items : {A : Type 0} → List (Member A) → List A
member_items members = map (λ m. m.item) members

-- a reader of lines as one of their members, if so much is known after those that were given
abbrev pub lines_read : {S A State : Type 0} → Format A State → State → LineReader S
    → MemberReader S A State
lines_read format state lines =
    record { format = format; below = lines; state = state; buffered = []; fault = line_fault lines }

-- a failed read that a reader of members keeps is kept by its reader of lines
abbrev pub IsKeptBelow : {S A State : Type 0} → MemberReader S A State → LineReader S → Type 0
IsKeptBelow reader lines =
    (input : Input) (line : ℕ) → reader.fault ≡ Some (read_failed input line)
    → line_fault lines ≡ Some (read_failed input line)

-- whatever may follow once all of these bytes were handed over may follow, behind others, once the first were
abbrev pub IsLater : {S : Type 0} → List ℕ → LineReader S → List ℕ → LineReader S → Type 0
IsLater bytes now all new = (rest : List ℕ) → MayStillCome new rest
    → (more : List ℕ) × MayStillCome now more × (all ++ rest ≡ bytes ++ more)

module _ {S A State : Type 0} where
  -- once these bytes were handed over, this is so of what is good, whatever follows
  abbrev pub WhateverComes : MemberReader S A State → List ℕ → MemberReader S A State → (Good A → Type 0) → Type 0
  WhateverComes old bytes now P = (rest : List ℕ) → MayStillCome now.below rest → P (coming (bytes ++ rest) old)

  -- what follows the first `count` lines and one line more is still to come, whatever it is, except at most a block
  abbrev pub IsNearTo : ℕ → MemberReader S A State → List ℕ → MemberReader S A State → Type 0
  IsNearTo count old bytes now = (rest : List ℕ) → MayStillCome now.below rest
      → bytes_in (drop (suc count) (lines_coming (bytes ++ rest) old.below)) ≤ length rest + block_size

  -- these members come first, whatever follows
  abbrev pub BeginsWith : MemberReader S A State → List ℕ → List (Member A) → MemberReader S A State → Type 0
  BeginsWith old bytes past now =
      WhateverComes old bytes now (λ good. (more : List (Member A)) × (good.members ≡ past ++ more))

  -- these members come first, and what comes after them lies after the first `count` lines, whatever follows
  abbrev pub BeginsBefore : ℕ → MemberReader S A State → List ℕ → List (Member A) → MemberReader S A State → Type 0
  BeginsBefore count old bytes past now = WhateverComes old bytes now (λ good. (more : List (Member A))
      × (good.members ≡ past ++ more) × IsBeyond count (record { members = more; fault = good.fault }))

  -- the member ahead is the first of those still to come, whatever follows
  abbrev pub AheadComes : MemberReader S A State → Type 0
  AheadComes reader = (m : Member A) → ahead_in reader ≡ Some m → (rest : List ℕ) → MayStillCome reader.below rest
      → (more : List (Member A)) × ((coming rest reader).members ≡ m ∷ more)

module _ {S A State : Type 0} (device : Source S) where
  -- members that were buffered are taken
  pub record HasTaken (old : MemberReader S A State) (taken : List A)
      (new : MemberReader S A State) : Type 0 where
    pub takes : Takes device old taken new
    pub ahead : AheadComes new

  module _ (old : MemberReader S A State) where
    -- these members were consumed, and more may be buffered
    pub record PassesMembers (past : List (Member A)) (now : MemberReader S A State) : Type 0 where
      pub format : now.format ≡ old.format
      pub bytes : (bytes : List ℕ) × Hands device old.below bytes now.below
      pub said : AreSaid old.format old.state (member_items past)
      pub state : now.state ≡ state_behind old.format old.state (member_items past)
      -- they come first, and the others are still to come, whatever follows
      pub come : (rest : List ℕ) → MayStillCome now.below rest
          → coming (bytes.0 ++ rest) old ≡ with_members past (coming rest now)
      pub behind : All (λ m. m.line ≤ lines_given now.below) past
      -- the lines that come are those after the lines given
      pub lines : (rest : List ℕ) → MayStillCome now.below rest
          → lines_coming rest now.below ≡ drop (lines_given now.below) (lines_coming (bytes.0 ++ rest) old.below)
      pub going : now.fault ≡ None
      pub clear : line_fault now.below ≡ None
      pub kept : IsKept device now.below
      pub served : device.has_failed (source_of now.below) ≡ device.has_failed (source_of old.below)
      pub ahead : AheadComes now
      pub near : IsNearTo (lines_given now.below) old bytes.0 now

    -- How far the input was read once these bytes were handed over: the first `count` lines, one more and at
    -- most a block, and what is good after these members comes after the first `count` lines.
    pub record IsReadTo (bytes : List ℕ) (past : List (Member A)) (now : MemberReader S A State) : Type 0 where
      pub count : ℕ
      pub near : IsNearTo count old bytes now
      pub behind : BeginsBefore count old bytes past now

    -- The members on the first `count` lines are `past`,
    -- and all that were given are on them and the next.
    pub record IsReadFor (bytes : List ℕ) (past given : List (Member A))
        (now : MemberReader S A State) : Type 0 where
      pub to : IsReadTo bytes past now
      pub low : All (λ m. m.line ≤ to.count) past
      pub high : All (λ m. m.line ≤ suc to.count) given
      pub begins : BeginsWith old bytes given now

    -- they are all that is good of the input, which has no fault
    abbrev pub AreAll : List ℕ → List (Member A) → MemberReader S A State → Type 0
    AreAll bytes past now = WhateverComes old bytes now (λ good. (good.members ≡ past) × (good.fault ≡ None))

    -- a line after them is at fault
    pub record IsWrongBehind (Kinds : Kind → Type 0) (bytes : List ℕ) (past : List (Member A)) (fault : FaultValue)
        (new : MemberReader S A State) : Type 0 where
      pub whole : WhateverComes old bytes new (λ good. (good.members ≡ past) × (good.fault ≡ Some fault))
      pub line : ℕ
      pub kind : Kind
      pub is : fault ≡ fault_at_line (input_of old.below) line kind
      pub of_kind : Kinds kind
      pub served : device.has_failed (source_of new.below) ≡ device.has_failed (source_of old.below)
      pub clear : line_fault new.below ≡ None
      pub within : bytes_taken new.below < 2 ^ 63

    -- the source failed, or its text is too long: after the lines that were given
    pub record IsUnreadBehind (bytes : List ℕ) (past : List (Member A)) (fault : FaultValue)
        (new : MemberReader S A State) : Type 0 where
      pub is : fault ≡ read_failed (input_of old.below) (suc (lines_given new.below))
      pub kept : new.fault ≡ Some fault
      pub cause : (device.has_failed (source_of new.below) ≡ true) ⊎ (2 ^ 63 ≤ bytes_taken new.below)
      pub cut : CutsOff old.below bytes new.below
      -- the lines given have these members, and none of them is at fault
      pub members : BeginsBefore (lines_given new.below) old bytes past new
      pub behind : All (λ m. m.line ≤ lines_given new.below) past

    -- the fault of the input lies after these members
    abbrev pub HasFaultBehind : (Kind → Type 0) → List ℕ → List (Member A) → FaultValue → MemberReader S A State
        → Type 0
    HasFaultBehind Kinds bytes past fault new =
        IsWrongBehind Kinds bytes past fault new ⊎ IsUnreadBehind bytes past fault new

    -- memory ran out
    pub record LacksMemory (fault : FaultValue) (new : MemberReader S A State) : Type 0 where
      pub is : fault ≡ no_memory
      pub served : device.has_failed (source_of new.below) ≡ device.has_failed (source_of old.below)

    -- the reader stopped after these members
    pub record StopsAfter (Kinds : Kind → Type 0) (past : List (Member A)) (fault : FaultValue)
        (new : MemberReader S A State) : Type 0 where
      pub bytes : (bytes : List ℕ) × Hands device old.below bytes new.below
      pub cause : HasFaultBehind Kinds bytes.0 past fault new ⊎ LacksMemory fault new

-- What feeding an engine with the members of a reader does to the devices.

-- these lines were put after what was put before
abbrev pub PutsLines : Output → List ℕ → Output → Type 0
PutsLines old lines new = new.put ≡ old.put ++ lines

-- the sink took a prefix of what was put before and these lines, and failed
pub record CutsLines (old : Output) (lines : List ℕ) (new : Output) : Type 0 where
  pub front : IsPrefixOf new.took old.put lines
  pub failed : new.has_failed ≡ true
  pub sink_failed : SinkFailed new

-- these lines were put, and the sink took all but a block of what was put
pub record HasPut (old : Output) (lines : List ℕ) (new : Output) : Type 0 where
  pub puts : PutsLines old lines new
  pub works : WorksAsBefore old new
  pub block : HoldsBlock new.took new.put
  pub grows : Grows old.took new.took

-- of these bytes, put after what was put before, the sink took all but a block;
-- and unless a write failed, all of them were put
pub record TookButBlock (old : Output) (bytes : List ℕ) (new : Output) : Type 0 where
  pub took : length (old.put ++ bytes) ≤ length new.took + block_size
  pub put : (new.has_failed ≡ true) ⊎ (length (old.put ++ bytes) ≤ length new.put)

module _ {S A State : Type 0} (device : Source S) where
  -- a reader of members that has given nothing yet
  pub record IsFresh (reader : MemberReader S A State) : Type 0 where
    pub none_given : (lines_given reader.below ≡ 0) × (bytes_taken reader.below ≡ 0)
        × (feeds_taken reader.below ≡ 0)
    pub none_buffered : reader.buffered ≡ []
    pub going : reader.fault ≡ None
    pub clear : line_fault reader.below ≡ None
    pub sound : IsSound device reader.below

module _ {S A State : Type 0} (settled : List A → List ℕ) (Kinds : Kind → Type 0)
    (Sorted : List A → Type 0) (device : Source S) where
  -- these members were taken
  pub record Took (old : MemberReader S A State) (out : Output) (past : List (Member A))
      (new : MemberReader S A State) (grown : Output) : Type 0 where
    pub bytes : (bytes : List ℕ) × Hands device old.below bytes new.below
    -- they are ordered as the input's format requires
    pub sorted : Sorted (member_items past)
    pub grows : Grows out.took grown.took
    -- how far the input was read: what the members of the lines before settle was taken, except at most a
    -- block
    pub before : List (Member A)
    pub read : IsReadFor device old bytes.0 before before new
    pub kept : TookButBlock out (settled (member_items before)) grown

  -- all members were taken, and the engine is after them
  pub record FeedsAll (Stands : List A → Type 0) (old : MemberReader S A State) (out : Output)
      (new : MemberReader S A State) (grown : Output) : Type 0 where
    pub past : List (Member A)
    pub took : Took old out past new grown
    pub whole : AreAll device old took.bytes.0 past new
    pub stands : Stands (member_items past)
    pub puts : PutsLines out (settled (member_items past)) grown
    pub works : WorksAsBefore out grown
    pub served : device.has_failed (source_of new.below) ≡ device.has_failed (source_of old.below)
    pub told : end_told new.below ≡ true
    pub clear : line_fault new.below ≡ None
    pub within : bytes_taken new.below < 2 ^ 63

  -- a line is at fault, or the source failed, or its text is too long; or memory ran out
  pub record StopsTaking (old : MemberReader S A State) (out : Output) (bytes : List ℕ) (past : List (Member A))
      (fault : FaultValue) (new : MemberReader S A State) (grown : Output) : Type 0 where
    pub cause : HasFaultBehind device old Kinds bytes past fault new ⊎ LacksMemory device old fault new
    pub puts : PutsLines out (settled (member_items past)) grown
    pub works : WorksAsBefore out grown

  -- the sink failed
  pub record StopsWriting (old : MemberReader S A State) (out : Output) (past : List (Member A))
      (fault : FaultValue) (new : MemberReader S A State) (grown : Output) : Type 0 where
    pub is : fault ≡ write_failed
    pub cuts : CutsLines out (settled (member_items past)) grown
    pub served : device.has_failed (source_of new.below) ≡ device.has_failed (source_of old.below)

  -- why the members weren't all taken
  abbrev pub FeedStopCause : MemberReader S A State → Output → List ℕ → List (Member A) → FaultValue
      → MemberReader S A State → Output → Type 0
  FeedStopCause old out bytes past fault new grown =
      StopsTaking old out bytes past fault new grown ⊎ StopsWriting old out past fault new grown

  -- the members were taken up to a fault
  pub record FeedsUpTo (old : MemberReader S A State) (out : Output) (fault : FaultValue)
      (new : MemberReader S A State) (grown : Output) : Type 0 where
    pub past : List (Member A)
    pub took : Took old out past new grown
    pub begins : BeginsWith old took.bytes.0 past new
    pub cause : FeedStopCause old out took.bytes.0 past fault new grown
    -- unless a write failed, what was put is what the members of the lines before settle
    pub exact : fault ≢ write_failed → PutsLines out (settled (member_items took.before)) grown

  -- what feeding an engine with all members does
  abbrev pub FeedsMembers : {T : Type 0} → (List A → Type 0) → MemberReader S A State → Output
      → Result T Fault → MemberReader S A State → Output → Type 0
  FeedsMembers Stands old out (Ok done) new grown = FeedsAll Stands old out new grown
  FeedsMembers Stands old out (Err fault) new grown = FeedsUpTo old out (fault_value fault) new grown

-- records are in the order of their chromosomes, and each has a base
abbrev pub AreInOrder : Order → List Feature → Type 0
AreInOrder order records =
    ArePlaced order (intervals_of records) × AreNonEmpty (intervals_of records)

-- a reader consumed what was given of its batch, and has buffered what the batch has left
pub record ConsumesGiven {S O : Type 0} {g : Ghosts O} (device : Source S) (old : Records S O g)
    (first last : Batch) (new : Records S O g) : Type 0 where
  pub takes : (records : List Feature) → PassesBatch first records last
      → HasTaken device (view_of old) records (view_of new)
  pub left_is : (view_of new).buffered ≡ left last
  pub line_is : line_in last ≡ lines_given (below new)
  pub order : order_in new ≡ order_in old

-- What a run does with one line of a SAM input, and with all of them.

-- the line is at fault
pub record LineRefused (input : Input) (line : TextLine) (out : Output) (fault : FaultValue)
    (grown : Output) : Type 0 where
  pub kind : Kind
  pub says : alignment_of line.text ≡ Err kind
  pub is : fault ≡ fault_at_line input line.number kind
  pub unchanged : grown ≡ out

-- what a line of the input does: what it says was written, or the line is at fault, or the lines of
-- its alignment couldn't be written
abbrev pub ConvertsLine : {T : Type 0} → Input → Converting → TextLine → Output → Result T Fault
    → Converting → Output → Type 0
ConvertsLine input old line out (Ok done) new grown = (said : Option Alignment)
    × (alignment_of line.text ≡ Ok said)
    × Grown out (option_map_or (bed_lines old.split old.with_cigar) said []) grown
    × (new ≡ old)
ConvertsLine input old line out (Err fault) new grown =
    LineRefused input line out (fault_value fault) grown
    ⊎ ((said : Alignment) × (alignment_of line.text ≡ Ok (Some said))
    × FailsToAdd out (bed_lines old.split old.with_cigar said) (fault_value fault) grown)

-- a reader of lines as one of the alignments on them
abbrev pub sam_reader : {S : Type 0} → LineReader S → MemberReader S Alignment ⊤
sam_reader reader = lines_read sam_format tt reader

-- what writing the alignments of all lines does
abbrev pub ConvertsAll : {S T : Type 0} → Source S → Converting → LineReader S → Output → Result T Fault
    → LineReader S → Output → Type 0
ConvertsAll {S} device converting old out answer new grown =
    (members : MemberReader S Alignment ⊤) × (members.below ≡ new)
    × FeedsMembers (alignment_lines converting.split converting.with_cigar) (IsOneOf is_sam_kind)
    (λ past. ⊤) device (λ past. ⊤) (sam_reader old) out answer members grown
    × IsKeptBelow members new

-- How a run ends at its output.

-- all that was put has been taken, and the fault stays what it was
pub record FlushesAll (old : Output) (fault : Option FaultValue) (answer : Option FaultValue)
    (new : Output) : Type 0 where
  pub was : fault ≢ Some write_failed
  pub same_fault : answer ≡ fault
  pub taken : new.took ≡ old.put
  pub was_served : old.has_failed ≡ false
  pub sink_served : new.sink_has_failed ≡ old.sink_has_failed

-- the sink failed now, and took a prefix of what was put
pub record FlushFails (old : Output) (fault : Option FaultValue) (answer : Option FaultValue)
    (new : Output) : Type 0 where
  pub was : fault ≢ Some write_failed
  pub is : answer ≡ Some write_failed
  pub front : IsPrefixOf new.took old.put []
  pub sink_failed : SinkFailed new

-- the sink had failed, and nothing more is written
pub record StaysFailed (old : Output) (fault : Option FaultValue) (answer : Option FaultValue)
    (new : Output) : Type 0 where
  pub was : fault ≡ Some write_failed
  pub is : answer ≡ Some write_failed
  pub unchanged : new ≡ old

-- the output of a run that ends with this fault, or without one, is handed on,
-- unless a write failed
pub record Flushes (old : Output) (fault : Option FaultValue) (answer : Option FaultValue)
    (new : Output) : Type 0 where
  pub ends : (FlushesAll old fault answer new ⊎ FlushFails old fault answer new)
      ⊎ StaysFailed old fault answer new
  pub grows : Grows old.took new.took
