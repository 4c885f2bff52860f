-- What the calls of a masking engine do.
use Rattle.std.specs.Prelude.{◌≡◌, ◌⊎◌, Bool, true, false, List, [], Option, Some, None, is_some, option_map, ◌||◌, ℕ, length, nat_lt, not, cond, ◌∷◌, ◌++◌, Result, Ok, Err, ⊤, ◌+◌, ◌*◌}
use Rattle.std.specs.List.{last_or}
use Rattle.bt_bed.specs.model.Feature.{Feature}
use Rattle.bt_bed.specs.model.BedLine.{fault_at_line}
use Rattle.bt_bed.specs.calls.Orders.{AreInBlocks}
use Rattle.bt_bed.specs.calls.Stage.{given}
use Rattle.bt_seq.specs.calls.MaskStage.{MaskStage, held_by, reached_by, want_at, is_written_at_once, reached, with_bed_ended, with_decided, with_line, with_record, LineBefore, GoesOn, PassesTextLines, MayComeNext, held_for_line}
use Rattle.bt_seq.specs.calls.MaskState.{Masking, Waiting, left_after}
use Rattle.bt_seq.specs.inside.Masking.{KnowsStage}
use Rattle.bt_seq.specs.model.Masked.{line_decided, is_unnamed, masked_line}
use Rattle.bt_seq.specs.model.Fasta.{SequenceLine, is_sequence_header, sequence_says}
use Rattle.bt_seq.specs.declared.mask.mask_how.MaskHow.{MaskHow}
use Rattle.bt_lines.specs.model.Fault.{FaultValue}
use Rattle.bt_lines.specs.calls.Faults.{no_memory}
use Rattle.bt_lines.specs.model.Lines.{TextLine}
use Rattle.bt_lines.specs.calls.Names.{fault_value}
use Rattle.bt_lines.specs.calls.Output.{Output, FailsToAdd, Grown}
use Rattle.bt_lines.specs.declared.fault.Fault.{Fault}
use Rattle.bt_lines.specs.declared.fault.Input.TheVariants.{First, Second}
use Rattle.bt_lines.specs.declared.fault.Kind.{Kind}
use Rattle.bt_lines.specs.declared.fault.Kind.TheVariants.{NoSequence}
use Rattle.bt_seq.specs.declared.mask.MaskWant.TheVariants.{Nothing, Line, Bed}
use Rattle.bt_bed.specs.declared.read.cursor.Cursor.{Ghosts as Cursor}
use Rattle.bt_bed.specs.declared.record.taken.Taken.{Taken}
use Rattle.bt_bed.specs.declared.record.taken.Taken.TheVariants.{Yes, No}
use Rattle.bt_lines.specs.calls.Reader.{lines_in}
use Rattle.bt_lines.specs.declared.reader.buffered_lines.BufferedLines.{BufferedLines}
use Rattle.bt_seq.specs.declared.mask.MaskWant.{MaskWant}

-- The stage of a masking engine.

-- no more records were taken than the lines given need: none,
-- or the last line isn't decided by them
abbrev pub IsOpen : Option SequenceLine → List Feature → Type 0
IsOpen None taken = taken ≡ []
IsOpen (Some line) taken = (taken ≡ []) ⊎ (line_decided line taken ≡ false)

-- a line as it is kept
abbrev pub kept_line : SequenceLine → Waiting
kept_line line = record { text = line.text; ending = line.ending }

-- a line waits only while neither input has ended, and after a header
pub record Waits (stage : MaskStage) (line : SequenceLine) : Type 0 where
  pub lines : stage.inputs.first_ended ≡ false
  pub bed : stage.inputs.second_ended ≡ false
  pub named : is_unnamed line.names ≡ false
  -- a header has no bases before it
  pub header : is_sequence_header line.text ≡ true → line.before ≡ 0

-- The engine is at the stage, if this line was given last: what waits, what is wanted and what is held are
-- those of the stage.
pub record IsAtStage (stage : MaskStage) (last : Option SequenceLine) (m : Masking) : Type 0 where
  pub waiting_is : m.waiting ≡ option_map kept_line stage.inputs.waiting
  pub want_is : m.want ≡ want_at stage
  pub bed_ended_is : m.bed_ended ≡ stage.inputs.second_ended
  pub waits : (line : SequenceLine) → stage.inputs.waiting ≡ Some line → Waits stage line
  -- the records that are held are those that the last line needs: after the end of the lines too,
  -- if the records of each block rise
  pub holds : (stage.inputs.first_ended ≡ false) ⊎ AreInBlocks stage.inputs.taken
      → m.window.held ≡ held_by last stage.inputs.taken
  -- no record was taken but those that left the last line undecided
  pub is_open : stage.inputs.first_ended ≡ false → IsOpen last stage.inputs.taken
  -- each block taken belongs to a sequence
  pub owned : is_some (left_after (reached_by last).names stage.inputs.taken) ≡ true
  pub inside : KnowsStage stage last m

-- the engine is at the stage
abbrev pub MaskStandsAt : MaskStage → Masking → Type 0
MaskStandsAt stage m = IsAtStage stage (last_or None (given stage.inputs)) m

-- it is at the stage, and masks and names sequences like this
pub record MaskMovesTo (how : MaskHow) (full : Bool) (stage : MaskStage)
    (new : Masking) : Type 0 where
  pub stands : MaskStandsAt stage new
  pub how_is : new.how ≡ how
  pub full_is : new.full ≡ full

-- What the calls of a masking engine do.

-- the bytes that are written when a line is given: its own if it is written at once,
-- and else none
abbrev pub bytes_with : MaskHow → MaskStage → SequenceLine → List ℕ
bytes_with how stage line =
    cond (is_written_at_once stage line) (masked_line how stage.inputs.taken line) []

-- whether a line may need memory: a header for its name, and for its text a line that waits, or
-- into which a record reaches
abbrev pub may_need_memory : MaskStage → SequenceLine → Bool
may_need_memory stage line =
    is_sequence_header line.text || (not (is_written_at_once stage line)
    || nat_lt 0 (length (held_for_line line stage.inputs.taken)))

-- if a record decides a line, it stays as it is, whatever follows in order
abbrev pub IsSettled : MaskHow → MaskStage → SequenceLine → Type 0
IsSettled how stage line =
    (r : Feature) → line_decided line (stage.inputs.taken ++ r ∷ []) ≡ true → LineBefore how line stage.inputs.taken r

-- one more line of the FASTA input
module _ (how : MaskHow) (full : Bool) (stage : MaskStage) (line : TextLine) (out : Output) where
  -- it is a line of a sequence, or a blank one before the first
  pub record TakesNextLine (new : Masking) (grown : Output) : Type 0 where
    pub item : SequenceLine
    pub says : sequence_says full (reached stage) line ≡ Ok (Some item)
    pub stands : MaskMovesTo how full (with_line stage item) new
    pub puts : Grown out (bytes_with how stage item) grown
    -- by the law that decided lines stay, said here for the caller
    pub settled : IsSettled how stage item

  -- it is at fault
  pub record RefusesLine (fault : FaultValue) (grown : Output) : Type 0 where
    pub kind : Kind
    pub says : sequence_says full (reached stage) line ≡ Err kind
    pub is : fault ≡ fault_at_line First line.number kind
    pub same_output : grown ≡ out

  -- it can't be written, only if the sink failed, and a prefix of it was; or there is no memory
  -- for it, which it may need
  pub record FailsWithLine (fault : FaultValue) (grown : Output) : Type 0 where
    pub item : SequenceLine
    pub says : sequence_says full (reached stage) line ≡ Ok (Some item)
    pub fails : FailsToAdd out (bytes_with how stage item) fault grown
        ⊎ ((fault ≡ no_memory) × (grown ≡ out) × (may_need_memory stage item ≡ true))
    pub settled : IsSettled how stage item

  -- what the result says; after a fault nothing is wanted
  abbrev pub GivesNextLine : {A : Type 0} → Result A Fault → Masking → Output → Type 0
  GivesNextLine (Ok done) new grown = TakesNextLine new grown
  GivesNextLine (Err fault) new grown =
      (new.want ≡ Nothing) × (RefusesLine (fault_value fault) grown ⊎ FailsWithLine (fault_value fault) grown)

-- one more record, while a line waits
module _ (how : MaskHow) (full : Bool) (stage : MaskStage) (line : SequenceLine) (r : Feature)
    (out : Output) where
  -- it leaves the line undecided, and is taken
  pub record TakesUndecided (new : Masking) (grown : Output) : Type 0 where
    pub undecided : line_decided line (stage.inputs.taken ++ r ∷ []) ≡ false
    pub stands : MaskMovesTo how full (with_record stage r) new
    pub same_output : grown ≡ out

  -- it decides the line, which is written as it stays, whatever follows in order
  pub record WritesLine (new : Masking) (grown : Output) : Type 0 where
    pub decides : line_decided line (stage.inputs.taken ++ r ∷ []) ≡ true
    pub stands : MaskMovesTo how full (with_decided stage r) new
    pub puts : Grown out (masked_line how stage.inputs.taken line) grown
    pub settled : LineBefore how line stage.inputs.taken r

  -- it decides the line, which couldn't be written
  pub record FailsToWriteLine (fault : FaultValue) (grown : Output) : Type 0 where
    pub decides : line_decided line (stage.inputs.taken ++ r ∷ []) ≡ true
    pub fails : FailsToAdd out (masked_line how stage.inputs.taken line) fault grown
    pub settled : LineBefore how line stage.inputs.taken r

  -- it leaves the line undecided and has to be held, for which there is no memory
  pub record FailsToHoldRecord (fault : FaultValue) (grown : Output) : Type 0 where
    pub undecided : line_decided line (stage.inputs.taken ++ r ∷ []) ≡ false
    pub to_hold : held_for_line line (stage.inputs.taken ++ r ∷ []) ≡ held_for_line line stage.inputs.taken ++ r ∷ []
    pub is : fault ≡ no_memory
    pub same_output : grown ≡ out

  -- what the result says
  abbrev pub GivesBed : Result Taken Fault → Masking → Output → Type 0
  GivesBed (Ok Yes) new grown = TakesUndecided new grown
  GivesBed (Ok No) new grown = WritesLine new grown
  GivesBed (Err fault) new grown =
      (new.want ≡ Nothing) × (FailsToWriteLine (fault_value fault) grown
      ⊎ FailsToHoldRecord (fault_value fault) grown)

-- one more record after the last line, which is on this line
module _ (how : MaskHow) (full : Bool) (stage : MaskStage) (r : Feature) (number : ℕ)
    (out : Output) where
  -- its block belongs to none, which no block before it does
  pub record LacksSequence (fault : FaultValue) (grown : Output) : Type 0 where
    pub owned_before : is_some (left_after (reached stage).names stage.inputs.taken) ≡ true
    pub unowned : left_after (reached stage).names (stage.inputs.taken ++ r ∷ []) ≡ None
    pub is : fault ≡ fault_at_line Second number NoSequence
    pub same_output : grown ≡ out

  -- what the result says; at a stage each block that was taken belongs to a sequence
  abbrev pub ChecksRecord : Result Taken Fault → Masking → Output → Type 0
  ChecksRecord (Ok Yes) new grown = MaskMovesTo how full (with_record stage r) new × (grown ≡ out)
  ChecksRecord (Ok No) new grown = ⊥
  ChecksRecord (Err fault) new grown = (new.want ≡ Nothing) × LacksSequence (fault_value fault) grown

-- what the end of the records does, while a line waits
abbrev pub EndsRecords : {A : Type 0} → MaskHow → Bool → MaskStage → SequenceLine → Output
    → Result A Fault → Masking → Output → Type 0
EndsRecords how full stage line out (Ok done) new grown =
    MaskMovesTo how full (with_bed_ended stage) new
    × Grown out (masked_line how stage.inputs.taken line) grown
EndsRecords how full stage line out (Err fault) new grown =
    (new.want ≡ Nothing) × FailsToAdd out (masked_line how stage.inputs.taken line) (fault_value fault) grown

-- what it does after the last line: nothing is written, and nothing more is wanted
abbrev pub EndsCheck : {A : Type 0} → MaskHow → Bool → MaskStage → Output → Result A Fault → Masking
    → Output → Type 0
EndsCheck how full stage out (Ok done) new grown =
    MaskMovesTo how full (with_bed_ended stage) new × (grown ≡ out)
EndsCheck how full stage out (Err fault) new grown = ⊥

-- What a masking engine does with lines and records that are given together.

-- a line may still be wanted before the next record
abbrev pub asks_more : MaskWant → ℕ
asks_more Line = 0
asks_more Bed = 1
asks_more Nothing = 0

module _ (how : MaskHow) (full : Bool) where
  -- Up to a stage lines were given and records taken, and all bytes that are settled were put.
  pub record HasCome (old : MaskStage) (lines : List TextLine) (records : List Feature) (out : Output)
      (mask : Masking) (grown : Output) : Type 0 where
    pub stage : MaskStage
    pub bytes : List ℕ
    pub goes_on : GoesOn how full old lines records stage bytes
    pub stands : MaskMovesTo how full stage mask
    pub puts : Grown out bytes grown

  -- lines that nothing masks weren't all written
  pub record FailsToCopy (old : MaskStage) (lines : List TextLine) (out : Output) (fault : FaultValue)
      (grown : Output) : Type 0 where
    pub stage : MaskStage
    pub bytes : List ℕ
    pub goes_on : GoesOn how full old lines [] stage bytes
    pub ahead_is : stage.ahead ≡ old.ahead
    pub fails : FailsToAdd out bytes fault grown

  -- the next line failed, or the next lines that nothing masks
  abbrev pub FailsAtLines : MaskStage → List TextLine → Output → FaultValue → Output → Type 0
  FailsAtLines stage lines out fault grown =
      ((line : TextLine) × (lines ≡ line ∷ [])
      × (RefusesLine how full stage line out fault grown
      ⊎ FailsWithLine how full stage line out fault grown))
      ⊎ FailsToCopy stage lines out fault grown

  -- the next record, which is on this line, failed
  abbrev pub FailsAtRecord : Option SequenceLine → MaskStage → Feature → ℕ → Output → FaultValue → Output
      → Type 0
  FailsAtRecord None stage r number out fault grown =
      LacksSequence how full stage r number out fault grown
  FailsAtRecord (Some waiting) stage r number out fault grown =
      FailsToWriteLine how full stage waiting r out fault grown
      ⊎ FailsToHoldRecord how full stage waiting r out fault grown

module _ {C R : Type 0} (cursor : Cursor C R) where
  -- whatever record comes next, it is the one ahead, if one is known to be
  abbrev pub GivesAhead : Option Feature → C → Type 0
  GivesAhead ahead records = (r : Feature) (later : C) → cursor.gives records (r ∷ []) later → MayComeNext ahead r

  -- the record ahead is the one that was, or it comes next after those that were taken
  abbrev pub ComesAfter : Option Feature → C → List Feature → Option Feature → Type 0
  ComesAfter was records taken ahead = (r : Feature) → ahead ≡ Some r
      → ((was ≡ Some r) × (taken ≡ []))
      ⊎ ((before : C) × (later : C) × cursor.gives records taken before × cursor.gives before (r ∷ []) later)

  -- what is wanted isn't available
  abbrev pub StopsAt : MaskWant → BufferedLines → C → Type 0
  StopsAt Line lines records = lines_in lines ≡ []
  StopsAt Bed lines records = cursor.has_ended records
  StopsAt Nothing lines records = ⊤

  module _ (how : MaskHow) (full : Bool) (old : MaskStage) (lines : List TextLine)
      (taken : List Feature) (out : Output) (from : C) where
    -- what was given last failed, after the lines before it: lines, or the record that comes next
    pub record FailsAfter (fault : FaultValue) (records : C) (grown : Output) : Type 0 where
      pub before : List TextLine
      pub failing : List TextLine
      pub parts : lines ≡ before ++ failing
      pub mask : Masking
      pub through : Output
      pub comes : HasCome how full old before taken out mask through
      pub next : GivesAhead comes.stage.ahead records
      pub after : ComesAfter old.ahead from taken comes.stage.ahead
      pub fails : ((want_at comes.stage ≡ Line)
          × FailsAtLines how full comes.stage failing through fault grown)
          ⊎ ((r : Feature) × (later : C) × (failing ≡ []) × (want_at comes.stage ≡ Bed)
          × cursor.gives records (r ∷ []) later
          × FailsAtRecord how full comes.stage.inputs.waiting comes.stage r (cursor.line later) through fault grown)

    -- what the result says
    abbrev pub BothCome : {A : Type 0} → Result A Fault → Masking → C → Output → Type 0
    BothCome (Ok done) new records grown =
        (comes : HasCome how full old lines taken out new grown)
        × GivesAhead comes.stage.ahead records × ComesAfter old.ahead from taken comes.stage.ahead
    BothCome (Err fault) new records grown =
        (new.want ≡ Nothing) × FailsAfter (fault_value fault) records grown

  -- lines and records were given, one after another
  pub record GivesBoth {A : Type 0} (old : Masking) (lines : BufferedLines) (records : C)
      (out : Output) (answer : Result A Fault) (new : Masking) (lines_left : BufferedLines)
      (records_left : C) (grown : Output) : Type 0 where
    pub texts : List TextLine
    pub passes : PassesTextLines lines texts lines_left
    pub taken : List Feature
    pub given : cursor.gives records taken records_left
    pub comes : (stage : MaskStage) → MaskStandsAt stage old
        → GivesAhead stage.ahead records
        → BothCome old.how old.full stage texts taken out records answer new records_left grown

-- nothing is taken and nothing is written
abbrev pub DoesNothing : {C : Type 0} → Masking → BufferedLines → C → Output → Masking → BufferedLines → C
    → Output → Type 0
DoesNothing old lines records out new lines_left records_left grown =
    (new ≡ old) × (lines_left ≡ lines) × (records_left ≡ records) × (grown ≡ out)

-- how much may be given: it falls with each line and each record
abbrev pub left_to_give : {C R : Type 0} → Cursor C R → Masking → BufferedLines → C → ℕ
left_to_give cursor mask lines records =
    2 * (length (lines_in lines) + cursor.room records) + asks_more mask.want
