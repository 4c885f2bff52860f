-- How far a masking engine has come, and what its lines decide.
use Rattle.std.specs.Prelude.{◌≡◌, ℕ, ◌&&◌, not, Bool, true, false, List, [], ◌∷◌, ◌++◌, Option, Some, None, ◌||◌, length, Ok, cond, is_some, ⊤, option_to_list, ◌+◌, flat_map, map, filter, nat_lt}
use Rattle.std.specs.List.{last_or, list_all}
use Rattle.bt_bed.specs.model.Feature.{Feature}
use Rattle.bt_bed.specs.model.BedLine.{fault_at_line}
use Rattle.bt_seq.specs.model.Masked.{line_decided, is_unnamed, masked_from, masked_line, masked_text, no_sequence}
use Rattle.bt_seq.specs.model.Fasta.{is_sequence_header, Reached, SequenceLine, bases_up_to, sequence_says}
use Rattle.bt_seq.specs.model.SequenceBlocks.{own_records}
use Rattle.bt_seq.specs.calls.MaskState.{left_after}
use Rattle.bt_lines.specs.model.Lines.{TextLine}
use Rattle.bt_lines.specs.declared.fault.Input.TheVariants.{Second}
use Rattle.bt_lines.specs.declared.fault.Kind.TheVariants.{NoSequence}
use Rattle.bt_seq.specs.declared.mask.mask_how.MaskHow.{MaskHow}
use Rattle.bt_seq.specs.declared.mask.MaskWant.{MaskWant}
use Rattle.bt_seq.specs.declared.mask.MaskWant.TheVariants.{Line, Bed, Nothing}
use Rattle.bt_bed.specs.model.Good.{Member}
use Rattle.bt_bed.specs.calls.Orders.{AreInBlocks}
use Rattle.bt_bed.specs.calls.Stage.{Follows, Stage, at_start, given, with_first, with_first_ended, with_second, with_second_ended, with_written}
use Rattle.bt_lines.specs.calls.Reader.{lines_in}
use Rattle.bt_lines.specs.declared.reader.buffered_lines.BufferedLines.{BufferedLines}

-- How far a masking engine has come: which lines of the FASTA input are written, which one waits, and
-- which records of the BED input were taken. Then what it wants there, and what it holds.

-- How far it has come with its inputs, and the record that decided the line written last, if that one
-- wasn't taken since.
pub record MaskStage : Type 0 where
  pub inputs : Stage SequenceLine Feature
  pub ahead : Option Feature

-- at the start
abbrev pub first_stage : MaskStage
first_stage = record { inputs = at_start; ahead = None }

-- how far a line has come
abbrev pub reached_by : Option SequenceLine → Reached
reached_by None = record { names = []; bases = 0 }
reached_by (Some line) = record { names = line.names; bases = bases_up_to line }

-- how far the lines given have come
abbrev pub reached : MaskStage → Reached
reached stage = reached_by (last_or None (given stage.inputs))

-- what is wanted: a record while a line waits, then a line; after the last line the records
-- that are left; and nothing once both inputs have ended
abbrev pub mask_want_of : Bool → Bool → Bool → MaskWant
mask_want_of true lines_ended bed_ended = Bed
mask_want_of false false bed_ended = Line
mask_want_of false true false = Bed
mask_want_of false true true = Nothing

abbrev pub want_at : MaskStage → MaskWant
want_at stage = mask_want_of (is_some stage.inputs.waiting) stage.inputs.first_ended stage.inputs.second_ended

-- a record may be given next: any, or the one that is ahead
abbrev pub MayComeNext : Option Feature → Feature → Type 0
MayComeNext None r = ⊤
MayComeNext (Some ahead) r = ahead ≡ r

-- what is held by a line: of the records of its sequence's block those that start before its end
-- and reach past its start
abbrev pub held_for_line : SequenceLine → List Feature → List Feature
held_for_line line records =
    filter (λ r. nat_lt r.start (bases_up_to line) && nat_lt line.before r.stop)
    (own_records line.names records)

-- what is held by the line that was given last
abbrev pub held_by : Option SequenceLine → List Feature → List Feature
held_by None taken = []
held_by (Some line) taken = held_for_line line taken

-- whether a line is written because of the record ahead. A header isn't: the record is given again
-- first, since its block may belong to the sequence that the header begins
abbrev pub is_written_ahead : Option Feature → List Feature → SequenceLine → Bool
is_written_ahead None taken line = false
is_written_ahead (Some r) taken line = not (is_sequence_header line.text) && line_decided line (taken ++ r ∷ [])

-- Whether a line is written as soon as it is given. It is if the records have ended, if no header has
-- come, or if it is no header and the record ahead decides it.
abbrev pub is_written_at_once : MaskStage → SequenceLine → Bool
is_written_at_once stage line =
    stage.inputs.second_ended || (is_unnamed line.names || is_written_ahead stage.ahead stage.inputs.taken line)

-- the stage with one more line
abbrev pub with_line : MaskStage → SequenceLine → MaskStage
with_line stage line =
    record stage { inputs = with_first (is_written_at_once stage line) stage.inputs line }

-- the stage with one more record
abbrev pub with_record : MaskStage → Feature → MaskStage
with_record stage r = record { inputs = with_second stage.inputs r; ahead = None }

-- the stage with the line that waits written, since this record decided it
abbrev pub with_decided : MaskStage → Feature → MaskStage
with_decided stage r = record { inputs = with_written stage.inputs; ahead = Some r }

-- the stage after the end of the lines, and after that of the records
abbrev pub with_lines_ended : MaskStage → MaskStage
with_lines_ended stage = record stage { inputs = with_first_ended stage.inputs }

abbrev pub with_bed_ended : MaskStage → MaskStage
with_bed_ended stage = record stage { inputs = with_second_ended stage.inputs }

-- How a masking engine goes on from one stage to another, and which lines are settled then.

-- these lines were consumed of those that are buffered
pub record PassesTextLines (old : BufferedLines) (lines : List TextLine) (new : BufferedLines) : Type 0 where
  pub left_is : lines_in old ≡ lines ++ lines_in new
  pub all_is : new.all ≡ old.all
  pub given : new.lines ≡ old.lines + length lines
  pub open_is : new.is_open ≡ old.is_open

-- each says a line of a sequence, after those before it
abbrev pub SayEach : Bool → Reached → List TextLine → List SequenceLine → Type 0
SayEach full reached [] items = items ≡ []
SayEach full reached (line ∷ lines) [] = ⊥
SayEach full reached (line ∷ lines) (item ∷ items) =
    (sequence_says full reached line ≡ Ok (Some item))
    × SayEach full (reached_by (Some item)) lines items

-- the records that were seen: those taken, and the one ahead
abbrev pub seen_at : MaskStage → List Feature
seen_at stage = stage.inputs.taken ++ cond stage.inputs.second_ended [] (option_to_list stage.ahead)

-- these may be all records: those seen are the first, and after their end the only ones
pub record MayFollow (stage : MaskStage) (records : List Feature) : Type 0 where
  pub more : List Feature
  pub begins : records ≡ seen_at stage ++ more
  pub all : stage.inputs.second_ended ≡ true → more ≡ []

-- whatever records follow in order, these lines are decided and have these bytes
pub record SettlesLines (how : MaskHow) (stage : MaskStage) (lines : List SequenceLine)
    (bytes : List ℕ) : Type 0 where
  pub are_decided : (records : List Feature) → MayFollow stage records → stage.inputs.second_ended ≡ false
      → list_all (λ line. line_decided line records) lines ≡ true
  pub bytes_are : (records : List Feature) → AreInBlocks records → MayFollow stage records
      → flat_map (masked_line how records) lines ≡ bytes

-- these lines were given from one stage on and these records taken: up to the other stage these bytes of lines
-- are settled
pub record GoesOn (how : MaskHow) (full : Bool) (old : MaskStage) (lines : List TextLine)
    (records : List Feature) (new : MaskStage) (bytes : List ℕ) : Type 0 where
  pub items : List SequenceLine
  pub say : SayEach full (reached old) lines items
  pub newly : List SequenceLine
  pub follows : Follows old.inputs items newly records new.inputs
  pub settles : SettlesLines how new newly bytes
  pub sees : (later : List Feature) → MayFollow new later → MayFollow old later

-- What lines that are decided early are in the end, and what records that are held mask of a line.

-- what is decided stays decided
abbrev pub decided_lines_stay : Type 0
decided_lines_stay = (line : SequenceLine) (records more : List Feature)
    → line_decided line records ≡ true → line_decided line (records ++ more) ≡ true

-- and the masked line stays as it is, whatever follows in order
abbrev pub masked_lines_stay : Type 0
masked_lines_stay = (how : MaskHow) (line : SequenceLine) (records more : List Feature)
    → AreInBlocks (records ++ more) → line_decided line records ≡ true
    → masked_line how (records ++ more) line ≡ masked_line how records line

-- the record that decides a line, and what follows it in order, mask none of its bases
abbrev pub LineBefore : MaskHow → SequenceLine → List Feature → Feature → Type 0
LineBefore how line taken r = (more : List Feature) → AreInBlocks (taken ++ r ∷ more)
    → masked_line how (taken ++ r ∷ more) line ≡ masked_line how taken line

abbrev pub masked_lines_are_before : Type 0
masked_lines_are_before = (how : MaskHow) (line : SequenceLine) (taken : List Feature) (r : Feature)
    → line_decided line (taken ++ r ∷ []) ≡ true → LineBefore how line taken r

-- if the block of each record belongs to a sequence, none lacks one
abbrev pub owned_lack_none : Type 0
owned_lack_none = (names : List (List ℕ)) (members : List (Member Feature))
    → is_some (left_after names (map (λ (m : Member Feature). m.item) members)) ≡ true
    → no_sequence names members ≡ None

-- the first record whose block belongs to none is reported
abbrev pub first_unowned_is_told : Type 0
first_unowned_is_told =
    (names : List (List ℕ)) (past more : List (Member Feature)) (m : Member Feature)
    → is_some (left_after names (map (λ (m : Member Feature). m.item) past)) ≡ true
    → left_after names (map (λ (m : Member Feature). m.item) (past ++ m ∷ [])) ≡ None
    → no_sequence names (past ++ m ∷ more) ≡ Some (fault_at_line Second m.line NoSequence)

-- what is held by a line masks it as all records of its block do
abbrev pub held_mask_alone : Type 0
held_mask_alone =
    (how : MaskHow) (line : SequenceLine) (records : List Feature) → is_sequence_header line.text ≡ false
    → masked_from how (held_for_line line records) line.before line.text ≡ masked_text how records line
