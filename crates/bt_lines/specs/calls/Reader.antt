-- What a reader of lines holds, what its calls do, and the lines that are left of those buffered.
use Rattle.std.specs.Prelude.{◌≡◌, ℕ, suc, ◌+◌, ◌-◌, ◌≤◌, Bool, true, false, List, ◌∷◌, drop, length, nat_lt, take, ◌^◌, ◌<◌, ◌⊎◌, [], ◌++◌, Option, Some, None, Result, Ok, Err, IsSome, ⊤, vec_capacity}
use Rattle.bt_lines.specs.calls.Line.{Shown, ending_at, line_seen, line_feeds}
use Rattle.bt_lines.specs.model.Lines.{TextLine, lines_from, whole_lines_from, bytes_in, spelled}
use Rattle.bt_lines.specs.inside.Shape.{is_fed, held_at}
use Rattle.bt_lines.specs.declared.reader.buffered_lines.BufferedLines.{BufferedLines}
use Rattle.bt_lines.specs.declared.reader.buffered_lines.ConsumedLines.{ConsumedLines}
use Rattle.bt_lines.specs.declared.device.Source.{Ghosts as Source}
use Rattle.bt_lines.specs.inside.ReadBuffer.{complete, unread, ended_at, fault_at, open_at, taken_at, told_at}
use Rattle.bt_lines.specs.calls.Device.{EndsAfter, FailsAfter, ReadsOn}
use Rattle.bt_lines.specs.calls.Output.{block_size}
use Rattle.bt_lines.specs.model.Fault.{FaultValue, read_failed}
use Rattle.bt_lines.specs.calls.Faults.{no_memory}
use Rattle.bt_lines.specs.calls.Names.{fault_value}
use Rattle.bt_lines.specs.declared.fault.Input.{Input}
use Rattle.bt_lines.specs.declared.fault.Fault.{Fault}
use Rattle.bt_lines.specs.declared.reader.line.Line.{Line}
use Rattle.bt_lines.specs.declared.reader.line_reader.LineReader.{LineReader}

-- The lines that are left of those buffered.

-- the lines of bytes after `number` lines, by whether the last byte is a line feed that was added
abbrev pub buffered_lines : Bool → ℕ → List ℕ → List TextLine
buffered_lines false lines bytes = whole_lines_from (suc lines) bytes
buffered_lines true lines bytes = lines_from (suc lines) (take (length bytes - 1) bytes)

-- the bytes of those that are left
unfoldable pub rest_in : BufferedLines → List ℕ
rest_in cursor = drop cursor.at cursor.all.now

-- those that are left
unfoldable pub lines_in : BufferedLines → List TextLine
lines_in cursor = buffered_lines cursor.is_open cursor.lines (rest_in cursor)

-- those after the first one, whose length in bytes is given
abbrev pub lines_after : BufferedLines → ℕ → List TextLine
lines_after cursor size = buffered_lines cursor.is_open (cursor.lines + 1) (drop size (rest_in cursor))

-- the first one
abbrev pub shown_text_line : BufferedLines → Shown → TextLine
shown_text_line cursor line = record {
  number = suc cursor.lines;
  text = line.text;
  ending = ending_at cursor.is_open (nat_lt (length line.text + 1) line.size);
}

-- none of these bytes was consumed
pub record BeginsLines (bytes : List ℕ) (lines : ℕ) (is_open : Bool) (cursor : BufferedLines) : Type 0 where
  pub bytes_are : cursor.all.now ≡ bytes
  pub at : cursor.at ≡ 0
  pub given : cursor.lines ≡ lines
  pub open_is : cursor.is_open ≡ is_open

-- a line was consumed
pub record PassesLine (old : BufferedLines) (line : TextLine) (new : BufferedLines) : Type 0 where
  pub left_is : lines_in old ≡ line ∷ lines_in new
  pub all_is : new.all ≡ old.all
  pub given : new.lines ≡ old.lines + 1
  pub open_is : new.is_open ≡ old.is_open

-- `count` lines were consumed
pub record PassesLines (old : BufferedLines) (count : ℕ) (new : BufferedLines) : Type 0 where
  pub left_is : lines_in new ≡ drop count (lines_in old)
  pub all_is : new.all ≡ old.all
  pub rises : old.at ≤ new.at
  pub fed : is_fed (take (new.at - old.at) (rest_in old)) ≡ true
  pub feeds : line_feeds (take (new.at - old.at) (rest_in old)) ≡ count
  pub given : new.lines ≡ old.lines + count
  pub open_is : new.is_open ≡ old.is_open

-- what was consumed up to here
pub record IsWhere (cursor : BufferedLines) (consumed : ConsumedLines) : Type 0 where
  pub bytes : consumed.bytes ≡ cursor.at
  pub lines : consumed.lines ≡ cursor.lines

-- What a reader of lines holds, and what one call of `next` does.

-- a failed read is kept
abbrev pub IsReadFailed : Option FaultValue → Type 0
IsReadFailed kept = (input : Input) × (line : ℕ) × (kept ≡ Some (read_failed input line))

module _ {S : Type 0} where
  unfoldable pub source_of : LineReader S → S
  source_of reader = reader.source

  unfoldable pub input_of : LineReader S → Input
  input_of reader = reader.input

  unfoldable pub lines_given : LineReader S → ℕ
  lines_given reader = reader.lines

  unfoldable pub bytes_taken : LineReader S → ℕ
  bytes_taken reader = taken_at reader.state reader.taken

  -- the bytes that were taken from the source and not given as lines
  unfoldable pub held : LineReader S → List ℕ
  held reader = held_at (open_at reader.state) (complete reader.buffer) (unread reader.buffer)

  unfoldable pub fault_kept : LineReader S → Option FaultValue
  fault_kept reader = fault_at reader.state reader.input reader.lines

  -- whether the end was reported to it
  unfoldable pub end_told : LineReader S → Bool
  end_told reader = told_at reader.state

  -- whether it is after the last line
  unfoldable pub has_ended : LineReader S → Bool
  has_ended reader = ended_at reader.state

  -- how many bytes may still come: it falls with each line given
  abbrev pub room : LineReader S → ℕ
  room reader = (2 ^ 63 - bytes_taken reader) + length (held reader)

  -- the lines that come after those given, if these bytes come from the source
  unfoldable pub lines_coming : List ℕ → LineReader S → List TextLine
  lines_coming rest reader = lines_from (suc (lines_given reader)) (held reader ++ rest)

  -- these bytes may still come: none once the end was reported
  abbrev pub MayStillCome : LineReader S → List ℕ → Type 0
  MayStillCome reader rest = end_told reader ≡ true → rest ≡ []

  -- how many line feeds were taken: each ended a line that was given, or is held
  unfoldable pub feeds_taken : LineReader S → ℕ
  feeds_taken reader = lines_given reader + line_feeds (held reader)

  -- what holds of a reader whose lines are given one at a time: `new` establishes it, and `next` keeps it; `fill` and
  -- `consume` keep `IsKept`
  pub record IsSound (device : Source S) (reader : LineReader S) : Type 0 where
    -- without a fault, fewer than 2^63 bytes were taken
    pub within : fault_kept reader ≡ None → bytes_taken reader < 2 ^ 63
    -- without a fault, at most a block is held after the lines given
    pub near : fault_kept reader ≡ None → length (held reader) ≤ block_size

  -- How these bytes came, whatever the source. Either every read succeeded, and a failed read is kept since then only if
  -- the text passed the bound. Or the last read failed, and it is kept.
  unfoldable pub AreRead : Source S → LineReader S → List ℕ → LineReader S → Type 0
  AreRead device old bytes new =
      (ReadsOn device.is_read (source_of old) bytes (source_of new)
      × (fault_kept old ≡ None → IsReadFailed (fault_kept new) → 2 ^ 63 ≤ bytes_taken new))
      ⊎ (FailsAfter device.is_read (source_of old) bytes (source_of new) × IsReadFailed (fault_kept new))

  -- Once the end was reported, nothing is read. If it is reported now, the last read handed over no bytes. After a fault
  -- it isn't.
  unfoldable pub EndsReads : Source S → LineReader S → List ℕ → LineReader S → Type 0
  EndsReads device old bytes new = (end_told old ≡ true → source_of new ≡ source_of old)
      × (end_told old ≡ false → end_told new ≡ true → EndsAfter device.is_read (source_of old) bytes (source_of new))
      × (IsSome (fault_kept old) → end_told new ≡ end_told old)

  -- the source handed over these bytes in the call
  pub record Hands (device : Source S) (old : LineReader S) (bytes : List ℕ)
      (new : LineReader S) : Type 0 where
    pub reads : AreRead device old bytes new
    -- after a fault nothing is read, and it is kept
    pub stops : IsSome (fault_kept old)
        → (bytes ≡ []) × (source_of new ≡ source_of old) × (fault_kept new ≡ fault_kept old)
    -- once the end was reported, nothing is handed over
    pub ends : end_told old ≡ true → bytes ≡ []
    pub ends_reads : EndsReads device old bytes new
    pub counted : bytes_taken new ≡ bytes_taken old + length bytes
    pub same_input : input_of new ≡ input_of old
    -- line feeds are counted as bytes are, unless the end was reported or the text passed the bound
    pub fed : end_told new ≡ false → bytes_taken new < 2 ^ 63
        → feeds_taken new ≡ feeds_taken old + line_feeds bytes
    -- an end that was reported stays reported
    pub told_stays : end_told old ≡ true → end_told new ≡ true

  -- a line was given
  pub record GivesLine (device : Source S) (old : LineReader S)
      (line : TextLine) (new : LineReader S) : Type 0 where
    -- the bytes taken are the line's and at most a block more; it is the first of the lines that come, whatever follows
    pub bytes : (bytes : List ℕ) × Hands device old bytes new
        × (held old ++ bytes ≡ spelled line ++ held new)
        × ((rest : List ℕ) → MayStillCome new rest → lines_coming (bytes ++ rest) old ≡ line ∷ lines_coming rest new)
    pub ahead : length (held new) ≤ block_size
    -- nothing is read while a complete line is held
    pub ready : 0 < line_feeds (held old) → source_of new ≡ source_of old
    pub number : line.number ≡ suc (lines_given old)
    pub counted : lines_given new ≡ suc (lines_given old)
    pub below : lines_given new < 2 ^ 63
    pub shrinks : room new < room old
    pub served : device.has_failed (source_of new) ≡ device.has_failed (source_of old)
    pub was_going : (fault_kept old ≡ None) × (has_ended old ≡ false)
    pub goes : fault_kept new ≡ None

  -- the end was reached
  pub record GivesEnd (device : Source S) (old new : LineReader S) : Type 0 where
    pub nothing_held : held new ≡ []
    pub counted : lines_given new ≡ lines_given old
    pub bytes : (bytes : List ℕ) × Hands device old bytes new × (held old ++ bytes ≡ [])
    pub served : device.has_failed (source_of new) ≡ device.has_failed (source_of old)
    pub was_going : fault_kept old ≡ None
    pub goes : fault_kept new ≡ None
    pub ends : has_ended new ≡ true
    pub told : end_told new ≡ true
    -- once it is reached, nothing more is read
    pub again : has_ended old ≡ true → new ≡ old

  -- a failed read: the source has failed, or the text is too long (that a read of this call
  -- failed `Hands` says)
  pub record FailsToRead (device : Source S) (old : LineReader S)
      (fault : FaultValue) (new : LineReader S) : Type 0 where
    pub is : fault ≡ read_failed (input_of old) (suc (lines_given old))
    pub cause : (device.has_failed (source_of new) ≡ true) ⊎ (2 ^ 63 ≤ bytes_taken new)

  -- the piece that was cut off is no line: the line feeds among the bytes handed over, the last one past
  -- the bound aside, all end lines that were given
  abbrev pub CutsOff : LineReader S → List ℕ → LineReader S → Type 0
  CutsOff old bytes new = lines_given new ≡ feeds_taken old + line_feeds (take (2 ^ 63 - 1 - bytes_taken old) bytes)

  -- once these bytes were handed over, what follows the lines given and one line more is still to come, whatever it is,
  -- except at most a block
  abbrev pub IsNear : LineReader S → List ℕ → LineReader S → Type 0
  IsNear old bytes new = (rest : List ℕ) → MayStillCome new rest
      → bytes_in (drop (suc (lines_given new) - lines_given old) (lines_coming (bytes ++ rest) old)) ≤ length rest + block_size

  -- a fault was returned
  pub record GivesFault (device : Source S) (old : LineReader S)
      (fault : FaultValue) (new : LineReader S) : Type 0 where
    pub kept : fault_kept new ≡ Some fault
    pub bytes : (bytes : List ℕ) × Hands device old bytes new
    pub counted : lines_given new ≡ lines_given old
    -- a fault is returned again, and nothing is read
    pub again : (before : FaultValue) → fault_kept old ≡ Some before → (fault ≡ before) × (new ≡ old)
    -- after the end no fault comes
    pub was_going : has_ended old ≡ false
    pub before_end : fault_kept old ≡ None → end_told old ≡ false
    -- nor while a complete line is held
    pub no_line : fault_kept old ≡ None → line_feeds (held old) ≡ 0
    pub first : fault_kept old ≡ None → FailsToRead device old fault new ⊎ (fault ≡ no_memory)
    pub cut_off : fault_kept old ≡ None → fault ≡ read_failed (input_of old) (suc (lines_given old))
        → CutsOff old bytes.0 new
    -- what follows the line that couldn't be given is still to come, except at most a block
    pub near : fault_kept old ≡ None → IsNear old bytes.0 new
    pub served : fault ≡ no_memory → device.has_failed (source_of new) ≡ device.has_failed (source_of old)

  -- what a result says
  abbrev pub Answers : Source S → LineReader S → Result (Option Line) Fault → LineReader S → Type 0
  Answers device old (Ok (Some line)) new = GivesLine device old (line_seen line) new
  Answers device old (Ok None) new = GivesEnd device old new
  Answers device old (Err fault) new = GivesFault device old (fault_value fault) new

  -- how many bytes a line that is longer than a block may have before its buffer has to grow
  unfoldable pub line_room : LineReader S → ℕ
  line_room reader = vec_capacity reader.buffer.spilled

  -- the bytes of the line so far, those that were held and those of this call, are at least `count`
  abbrev pub HasLongLine : ℕ → LineReader S → LineReader S → Type 0
  HasLongLine count old new = count + bytes_taken old ≤ length (held old) + bytes_taken new

  -- memory runs out for the first time only if the line so far fills the block, and the room of earlier long lines
  abbrev pub FillsItsRoom : {A : Type 0} → LineReader S → Result A Fault → LineReader S → Type 0
  FillsItsRoom old (Ok done) new = ⊤
  FillsItsRoom old (Err fault) new = fault_kept old ≡ None → fault_value fault ≡ no_memory
      → HasLongLine block_size old new × HasLongLine (line_room old) old new

  -- one call of `next`
  pub record NextLine (device : Source S) (old : LineReader S) (answer : Result (Option Line) Fault)
      (new : LineReader S) : Type 0 where
    pub answers : Answers device old answer new
    pub memory : FillsItsRoom old answer new
    pub sound : IsSound device old → IsSound device new

  -- the complete lines that are buffered, as bytes
  unfoldable pub buffered_bytes : LineReader S → List ℕ
  buffered_bytes reader = complete reader.buffer

  -- a line was made buffered
  pub record MakesLine (device : Source S) (old new : LineReader S) : Type 0 where
    pub some : 0 < length (buffered_bytes new)
    pub bytes : (bytes : List ℕ) × Hands device old bytes new × (held new ≡ held old ++ bytes)
    pub counted : lines_given new ≡ lines_given old
    -- nothing is read while a complete line is held
    pub ready : 0 < line_feeds (held old) → source_of new ≡ source_of old
    pub served : device.has_failed (source_of new) ≡ device.has_failed (source_of old)
    pub was_going : (fault_kept old ≡ None) × (has_ended old ≡ false)
    pub goes : fault_kept new ≡ None
    pub within : bytes_taken new < 2 ^ 63

  abbrev pub FillAnswers : Source S → LineReader S → Result Bool Fault → LineReader S → Type 0
  FillAnswers device old (Ok true) new = MakesLine device old new
  FillAnswers device old (Ok false) new = GivesEnd device old new
  FillAnswers device old (Err fault) new = GivesFault device old (fault_value fault) new

  -- what holds of a reader at all times, except how much it has buffered
  pub record IsKept (device : Source S) (reader : LineReader S) : Type 0 where
    pub within : fault_kept reader ≡ None → bytes_taken reader < 2 ^ 63

  -- a call of `fill`
  pub record FillsLines (device : Source S)
      (old : LineReader S) (answer : Result Bool Fault) (new : LineReader S) : Type 0 where
    pub answers : FillAnswers device old answer new
    -- if a line is buffered, nothing changes
    pub unread : 0 < length (buffered_bytes old) → new ≡ old
    pub kept : IsKept device old → IsKept device new

  -- whether the last line that is buffered has no line feed of its own
  unfoldable pub is_open : LineReader S → Bool
  is_open reader = open_at reader.state

  -- the lines that are buffered
  abbrev pub buffered_in : LineReader S → List TextLine
  buffered_in reader = buffered_lines (is_open reader) (lines_given reader) (buffered_bytes reader)

  -- the lines that come begin with those that are buffered, whatever follows
  abbrev pub IsPrefix : LineReader S → Type 0
  IsPrefix reader = (rest : List ℕ) → MayStillCome reader rest
      → take (length (buffered_in reader)) (lines_coming rest reader) ≡ buffered_in reader

  -- lines were consumed of those that are buffered
  pub record IsTaken (reader : LineReader S) (consumed : ConsumedLines) : Type 0 where
    pub within : consumed.bytes ≤ length (buffered_bytes reader)
    pub fed : is_fed (take consumed.bytes (buffered_bytes reader)) ≡ true
    pub lines : consumed.lines
        ≡ lines_given reader + line_feeds (take consumed.bytes (buffered_bytes reader))

  -- `count` lines were
  pub record TakenLines (reader : LineReader S) (consumed : ConsumedLines) (count : ℕ) : Type 0 where
    pub taken : IsTaken reader consumed
    pub feeds : line_feeds (take consumed.bytes (buffered_bytes reader)) ≡ count
    pub given : consumed.lines ≡ lines_given reader + count
    pub left_is : buffered_lines (is_open reader) consumed.lines (drop consumed.bytes (buffered_bytes reader))
        ≡ drop count (buffered_in reader)

  -- they were taken
  pub record TakesLines (device : Source S) (old : LineReader S)
      (consumed : ConsumedLines) (new : LineReader S) : Type 0 where
    pub kept : IsKept device old → IsKept device new
    -- after the lines at most a block is held
    pub near : 0 < consumed.bytes → length (held new) ≤ block_size
    -- of the lines that come, the first `count` are gone, whatever follows
    pub left_is : (rest : List ℕ) → MayStillCome new rest
        → lines_coming rest new ≡ drop (line_feeds (take consumed.bytes (buffered_bytes old))) (lines_coming rest old)
    pub bytes : buffered_bytes new ≡ drop consumed.bytes (buffered_bytes old)
    pub given : lines_given new ≡ consumed.lines
    pub below : lines_given new < 2 ^ 63
    pub source_is : source_of new ≡ source_of old
    pub input_is : input_of new ≡ input_of old
    pub taken_is : bytes_taken new ≡ bytes_taken old
    pub open_is : is_open new ≡ is_open old
    pub fault_is : fault_kept new ≡ fault_kept old
    pub told_is : end_told new ≡ end_told old
    pub ended_is : has_ended new ≡ has_ended old
    -- nothing is handed over
    pub hands : Hands device old [] new
    -- and so much less is held
    pub shrinks : length (held new) + line_feeds (take consumed.bytes (buffered_bytes old)) ≤ length (held old)
