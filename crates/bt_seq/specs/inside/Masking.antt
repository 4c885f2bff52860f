-- What a masking engine knows, and how it copies lines through.
use Rattle.std.specs.Prelude.{◌≡◌, ◌⊎◌, ⊤, ℕ, ◌≤◌, ◌<◌, Bool, false, true, List, [], ◌∷◌, ◌++◌, min, Option, Some, None, is_some, option_to_list, ◌+◌, flat_map, length, Result, Ok, Err}
use Rattle.std.specs.List.{AllByRecursion, last_or}
use Rattle.std.specs.Option.{option_map_or}
use Rattle.bt_bed.specs.model.Feature.{Feature}
use Rattle.bt_lines.specs.model.Lines.{max_number, TextLine, spelled}
use Rattle.bt_seq.specs.calls.MaskStage.{MaskStage, reached_by, want_at, PassesTextLines}
use Rattle.bt_seq.specs.calls.MaskState.{Knows, KnowsEarlier, Matched, Masking, passed, stays_as_given, goes_on_block, left_after}
use Rattle.bt_seq.specs.model.Masked.{line_decided, is_unnamed}
use Rattle.bt_seq.specs.model.Fasta.{SequenceLine, is_sequence_header}
use Rattle.bt_seq.specs.model.SequenceBlocks.{names_behind}
use Rattle.bt_seq.specs.inside.Window.{Bounds, limit, gone_on}
use Rattle.bt_seq.specs.declared.mask.MaskWant.TheVariants.{Line, Nothing, Bed}
use Rattle.bt_lines.specs.calls.Reader.{PassesLine, rest_in}
use Rattle.bt_lines.specs.calls.Names.{fault_value}
use Rattle.bt_lines.specs.calls.Output.{Output, FailsToAdd, Grown}
use Rattle.bt_lines.specs.declared.reader.buffered_lines.BufferedLines.{BufferedLines}
use Rattle.bt_lines.specs.declared.fault.Fault.{Fault}
use Rattle.bt_seq.specs.declared.mask.copy_through.CopyThrough.{CopyThrough}
use Rattle.bt_seq.specs.declared.mask.MaskWant.{MaskWant}
use Rattle.bt_seq.specs.declared.mask.phase.Phase.{Phase}
use Rattle.bt_seq.specs.declared.mask.phase.Phase.TheVariants.{Lines, Waits, Checks, Ended}

-- What a masking engine knows at its stage: which sequence and which block came
-- last, how many bases were counted, and how far the record ahead decides lines.

-- the last line is decided by these records, if there is one
abbrev pub IsDecided : Option SequenceLine → List Feature → Type 0
IsDecided None records = ⊤
IsDecided (Some line) records = line_decided line records ≡ true

-- the bases before the line and up to its end are counted as far as records reach
pub record Counts (last : Option SequenceLine) (window : Bounds) : Type 0 where
  pub before : window.before ≡ min (option_map_or (λ line. line.before) last 0) limit
  pub bases : window.bases ≡ min (reached_by last).bases limit

module _ (names : List (List ℕ)) (taken : List Feature) (m : Matched) where
  -- there is no sequence
  pub record KnowsNone : Type 0 where
    pub unnamed : names ≡ []
    pub untaken : taken ≡ []
    pub last : m.last ≡ None
    pub own : m.own ≡ false

  -- the sequence of the last block is known; it is the last sequence or the one before
  pub record KnowsLast : Type 0 where
    pub knows : Knows names taken m
    pub near : (e : KnowsEarlier names taken m) → e.before ≡ []

-- the record ahead, which begins a block, belongs to no sequence before the last one
pub record KnowsAhead (names : List (List ℕ)) (taken : List Feature) (r : Feature)
    (m : Matched) : Type 0 where
  pub knows : Knows names taken m
  pub begins : goes_on_block taken r ≡ false
  pub none : (e : KnowsEarlier names taken m) → names_behind r.chrom e.before ≡ None

-- What is known of the sequences and the blocks of records, if one may be ahead. If no line
-- waits, the one ahead has decided the last line: its block belongs to the last sequence,
-- or to none.
abbrev pub KnowsNext : Bool → List (List ℕ) → List Feature → Option Feature → Matched → Type 0
KnowsNext waits names taken None m = KnowsNone names taken m ⊎ KnowsLast names taken m
KnowsNext waits names taken (Some r) m =
    (KnowsLast names (taken ++ r ∷ []) m
    × (waits ≡ false → left_after names (taken ++ r ∷ []) ≡ Some []))
    ⊎ (KnowsAhead names taken r m × (waits ≡ false → left_after names (taken ++ r ∷ []) ≡ None))

-- Up to which base of the last sequence a record decides lines, if these names are left after
-- the sequence of its block: up to its start, or all if its block belongs to none. It is used
-- if that sequence is the last.
abbrev pub decided_up_to : Option (List (List ℕ)) → Feature → ℕ
decided_up_to None r = limit
decided_up_to (Some names) r = r.start

-- records end within the greatest number of a BED file
abbrev pub AreInRange : List Feature → Type 0
AreInRange records = AllByRecursion (λ r. r.stop ≤ max_number) records

-- what the state inside says of the stage, if this line was given last; callers of the engine don't look at it
pub record KnowsStage (stage : MaskStage) (last : Option SequenceLine) (m : Masking) : Type 0 where
  pub counts : Counts last m.window
  pub name_is : m.matched.name ≡ last_or None (reached_by last).names
  -- if no line waits and records may come, those taken and the one ahead decide the last line
  pub is_decided : stage.inputs.waiting ≡ None → stage.inputs.second_ended ≡ false
      → IsDecided last (stage.inputs.taken ++ option_to_list stage.ahead)
  pub in_range : AreInRange stage.inputs.taken
  pub knows : stage.inputs.second_ended ≡ false
      → KnowsNext (is_some stage.inputs.waiting) (reached_by last).names stage.inputs.taken stage.ahead m.matched
  -- while lines are wanted after the first header, and records may come, one is ahead
  pub has_ahead : want_at stage ≡ Line → stage.inputs.second_ended ≡ false
      → is_unnamed (reached_by last).names ≡ false → is_some stage.ahead ≡ true
  pub ahead_in_range : (r : Feature) → stage.ahead ≡ Some r → r.start < limit
  -- if no line waits, it is known how far the record ahead decides lines
  pub decided_to_is : stage.inputs.waiting ≡ None → stage.inputs.second_ended ≡ false → (r : Feature)
      → stage.ahead ≡ Some r
      → m.decided_to ≡ decided_up_to (left_after (reached_by last).names (stage.inputs.taken ++ r ∷ [])) r

-- Lines of bases that are copied through, several at once.

-- where the line lies that was consumed last; nothing is held
abbrev pub bounds_of : CopyThrough → Bounds
bounds_of through = record { before = through.before; bases = through.bases; held = [] }

-- a line was consumed: it is no header, and has its bases up to this one
pub record CopiesLine (to : ℕ) (old : CopyThrough) (line : TextLine) (new : CopyThrough) : Type 0 where
  pub passes : PassesLine old.lines line new.lines
  pub bytes_are : rest_in old.lines ≡ spelled line ++ rest_in new.lines
  pub at : new.lines.at ≡ old.lines.at + length (spelled line)
  pub no_header : is_sequence_header line.text ≡ false
  pub counts : bounds_of new ≡ gone_on (bounds_of old) (length line.text)
  pub within : new.bases ≤ to

-- lines were, one after another
abbrev pub CopiesLines : ℕ → CopyThrough → List TextLine → CopyThrough → Type 0
CopiesLines to old [] new = new ≡ old
CopiesLines to old (line ∷ lines) new =
    (mid : CopyThrough) × CopiesLine to old line mid × CopiesLines to mid lines new

-- with lines that were written as they were given, one after another
abbrev pub passed_all : Masking → List TextLine → Masking
passed_all m [] = m
passed_all m (line ∷ lines) = passed_all (passed m line.text) lines

-- each of them is known to be written as it is, after those before it
abbrev pub StayEach : Masking → List TextLine → Type 0
StayEach m [] = ⊤
StayEach m (line ∷ lines) =
    (stays_as_given m line.text ≡ true) × StayEach (passed m line.text) lines

-- writing them together
abbrev pub WritesAll : {A : Type 0} → Masking → List TextLine → Output → Result A Fault → Masking
    → Output → Type 0
WritesAll old lines out (Ok done) new grown =
    (new ≡ passed_all old lines) × Grown out (flat_map spelled lines) grown
WritesAll old lines out (Err fault) new grown =
    (new.want ≡ Nothing) × FailsToAdd out (flat_map spelled lines) (fault_value fault) grown

-- those of the lines that are buffered were copied through that are known to be written as they are
pub record CopiesThrough {A : Type 0} (old : Masking) (lines : BufferedLines) (out : Output)
    (answer : Result A Fault) (new : Masking) (left : BufferedLines) (grown : Output) : Type 0 where
  pub texts : List TextLine
  pub passes : PassesTextLines lines texts left
  pub stay : StayEach old texts
  pub writes : WritesAll old texts out answer new grown

-- How far a masking engine has come.

-- what is wanted
abbrev pub mask_want_in : Phase → MaskWant
mask_want_in Lines = Line
mask_want_in Waits = Bed
mask_want_in Checks = Bed
mask_want_in Ended = Nothing

-- whether a line waits
abbrev pub waits_in : Phase → Bool
waits_in Waits = true
waits_in _ = false
