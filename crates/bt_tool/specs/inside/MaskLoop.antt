-- How far masking the lines of a reader by the records of another has come, and how it ends, as a run
-- over two inputs.
use Rattle.std.specs.Prelude.{◌≡◌, ◌⊎◌, ⊤, ℕ, ◌+◌, ◌*◌, Bool, true, false, not, List, [], Option, Some, IsTrue, is_some, length}
use Rattle.std.specs.List.{list_any}
use Rattle.bt_lines.specs.declared.device.Source.{Ghosts as Source}
use Rattle.bt_lines.specs.model.Fault.{FaultValue}
use Rattle.bt_lines.specs.calls.Output.{Output}
use Rattle.bt_lines.specs.calls.Reader.{buffered_bytes, has_ended, input_of, room as line_room}
use Rattle.bt_lines.specs.declared.fault.Input.TheVariants.{First}
use Rattle.bt_lines.specs.declared.reader.line_reader.LineReader.{LineReader}
use Rattle.bt_bed.specs.model.Feature.{Feature}
use Rattle.bt_bed.specs.model.Good.{Member, block_format}
use Rattle.bt_bed.specs.calls.Orders.{AreInBlocks}
use Rattle.bt_bed.specs.model.Sorted.{Locus}
use Rattle.bt_bed.specs.calls.Blocks.{view_of}
use Rattle.bt_bed.specs.calls.Reading.{MemberReader, room}
use Rattle.bt_seq.specs.calls.MaskStage.{MaskStage}
use Rattle.bt_seq.specs.calls.MaskState.{Masking, left_after}
use Rattle.bt_seq.specs.calls.MaskSteps.{MaskStandsAt}
use Rattle.bt_seq.specs.model.Masked.{line_decided, masked_line, names_of_sequences, no_sequence}
use Rattle.bt_seq.specs.model.Fasta.{Reached, SequenceLine, sequence_format}
use Rattle.bt_seq.specs.declared.mask.mask_how.MaskHow.{MaskHow}
use Rattle.bt_seq.specs.declared.mask.MaskWant.{MaskWant}
use Rattle.bt_seq.specs.declared.mask.MaskWant.TheVariants.{Line as WantLine, Bed as WantBed, Nothing}
use Rattle.bt_sweep.specs.declared.sweep.Want.{Want}
use Rattle.bt_sweep.specs.declared.sweep.Want.TheVariants.{A as WantA, B as WantB, Nothing as WantNothing}
use Rattle.bt_tool.specs.declared.loops.masking.MaskRun.{MaskRun}
use Rattle.bt_tool.specs.model.Written.{IsOneOf}
use Rattle.bt_tool.specs.model.Reaches.{lines_need}
use Rattle.bt_tool.specs.model.TwoInputs.{is_fasta_kind, is_mask_kind}
use Rattle.bt_tool.specs.inside.Pair.{Comes, JoinDef, Pair, item_ahead, IsOverWith}
use Rattle.bt_tool.specs.inside.Rounds.{IsBuffered, TwoInputDef}
use Rattle.bt_tool.specs.inside.Feed.{lines_read}

-- a reader of lines as one of the lines of sequences, if those that were given have come so far
abbrev pub line_members : {S : Type 0} → Bool → Reached → LineReader S
    → MemberReader S SequenceLine Reached
line_members full reached lines = lines_read (sequence_format full) reached lines

-- these records leave one of the lines undecided
abbrev pub leaves_some_line : List SequenceLine → List Feature → Bool
leaves_some_line lines records = list_any (λ line. not (line_decided line records)) lines

-- the block of each of these records belongs to a sequence of the lines
abbrev pub AreOwned : List SequenceLine → List Feature → Type 0
AreOwned lines records = is_some (left_after (names_of_sequences lines) records) ≡ true

-- what masking makes of a line by records
abbrev pub mask_join : MaskHow → JoinDef SequenceLine Feature
mask_join how = record {
  decided = line_decided;
  bytes = λ line records. masked_line how records line;
  within_limit = λ lines second. second;
  Fits = λ lines members. ⊤;
  -- the first record without a sequence
  last = λ lines members. no_sequence (names_of_sequences lines) members;
  reaches = lines_need;
  -- if records were taken, they leave one of the lines given undecided
  Asks = λ lines records. (records ≡ []) ⊎ IsTrue (leaves_some_line lines records);
  InOrder = AreInBlocks;
  first_kinds = IsOneOf is_fasta_kind;
  second_kinds = IsOneOf is_mask_kind;
}

-- before the first header
abbrev pub nothing_reached : Reached
nothing_reached = record { names = []; bases = 0 }

-- what an engine that masks wants, as of two inputs
abbrev pub wanted_by : MaskWant → Want
wanted_by WantLine = WantA
wanted_by WantBed = WantB
wanted_by Nothing = WantNothing

-- how many rounds are wanted beside those that consume: a line that waits is to be written, then
-- lines come, then records alone
abbrev pub mask_rounds : Bool → MaskWant → ℕ
mask_rounds waits WantLine = 2
mask_rounds true WantBed = 3
mask_rounds false WantBed = 1
mask_rounds waits Nothing = 0

module _ {A B : Type 0} where
  abbrev pub mask_wanted : MaskRun A B → Want
  mask_wanted now = wanted_by now.mask.want

  abbrev pub is_mask_ready : MaskRun A B → Type 0
  is_mask_ready now =
      IsBuffered (mask_wanted now) (length (buffered_bytes now.lines))
      (length (view_of now.records).buffered)

  -- it falls with each line and each record, and if neither comes
  abbrev pub left_to_mask : MaskRun A B → ℕ
  left_to_mask now = 4 * (line_room now.lines + room (view_of now.records))
      + mask_rounds (is_some now.mask.waiting) now.mask.want

module _ {A B : Type 0} (source_a : Source A) (source_b : Source B) where
  abbrev pub mask_pair : Bool → LineReader A → MemberReader B Feature (Option Locus)
      → Pair A B SequenceLine Feature Reached (Option Locus)
  mask_pair full lines records = record {
    source_a = source_a;
    source_b = source_b;
    first = line_members full nothing_reached lines;
    second = records;
  }

module _ {A B : Type 0} (source_a : Source A) (source_b : Source B) (start : MaskRun A B)
    (out : Output) where
  abbrev pub begun_pair : Pair A B SequenceLine Feature Reached (Option Locus)
  begun_pair = mask_pair source_a source_b start.mask.full start.lines (view_of start.records)

  -- lines and records so far were given, and the lines have come so far
  pub record Masks (reached : Reached) (lines : LineReader A)
      (second : MemberReader B Feature (Option Locus)) (mask : Masking) (grown : Output) : Type 0 where
    pub past_first : List (Member SequenceLine)
    pub past_second : List (Member Feature)
    pub stage : MaskStage
    pub stands : MaskStandsAt stage mask
    pub first_is : input_of start.lines ≡ First
    pub blocks_is : (view_of start.records).format ≡ block_format
    pub how_is : mask.how ≡ start.mask.how
    pub full_is : mask.full ≡ start.mask.full
    pub comes : Comes (mask_join start.mask.how) begun_pair out stage.inputs past_first past_second
        (line_members start.mask.full reached lines) second grown
    -- the record ahead, if one is known to be, is the next one
    pub kept_ahead : (r : Feature) → stage.ahead ≡ Some r → item_ahead second ≡ Some r
    pub lines_over : stage.inputs.first_ended ≡ true → has_ended lines ≡ true

  abbrev pub LoopGoesOn : LineReader A → MemberReader B Feature (Option Locus) → Masking → Output
      → Type 0
  LoopGoesOn lines second mask grown = (reached : Reached) × Masks reached lines second mask grown

  -- the lines and the records so far were given
  pub record MaskComes (now : MaskRun A B) (grown : Output) : Type 0 where
    pub goes : LoopGoesOn now.lines (view_of now.records) now.mask grown

  abbrev pub MaskIsOver : Option FaultValue → MaskRun A B → Output → Type 0
  MaskIsOver fault now grown = (members : MemberReader A SequenceLine Reached)
      × (members.below ≡ now.lines)
      × IsOverWith begun_pair (mask_join start.mask.how) out fault
      members (view_of now.records) grown

-- masking as a run over two inputs
abbrev pub mask_run : {A B : Type 0} → Source A → Source B → TwoInputDef (MaskRun A B)
mask_run source_a source_b = record {
  comes = MaskComes source_a source_b;
  ends = MaskIsOver source_a source_b;
  wants = mask_wanted;
  is_ready = is_mask_ready;
  left = left_to_mask;
}
