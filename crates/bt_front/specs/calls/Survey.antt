-- What leaves a text to bedtools, and what surveying a source does.
use Rattle.std.specs.Prelude.{ℕ, Bool, ◌≡◌, ◌⊎◌, true, false, List, [], ◌∷◌, ◌++◌, map, Some, Result, Ok, Err}
use Rattle.std.specs.List.{list_all}
use Rattle.bt_lines.specs.declared.device.Source.{Ghosts as Source}
use Rattle.bt_lines.specs.calls.Device.{EndsAfter, FailsAfter, ReadsOn, TellsText}
use Rattle.bt_lines.specs.calls.Names.{fault_value}
use Rattle.bt_bed.specs.model.Feature.{Feature, intervals_of}
use Rattle.bt_bed.specs.model.Good.{Good, Member}
use Rattle.bt_bed.specs.calls.Reading.{is_of_line}
use Rattle.bt_front.specs.declared.survey.Survey.{Survey}
use Rattle.bt_front.specs.declared.survey.oddity.OddLine.{OddLine}
use Rattle.bt_front.specs.declared.survey.trouble.Trouble.{Trouble}
use Rattle.bt_front.specs.declared.survey.trouble.Trouble.TheVariants.{ComesBack, Odd, Refused}
use Rattle.bt_front.specs.model.Odd.{IsOddLine}
use Rattle.bt_front.specs.model.Survey.{IsSurveyOf, are_together, chroms_of, is_odd_record, is_plain_record, read_of}

-- What leaves a text to bedtools.

-- nothing in these records does
pub record AreQuiet (records : List Feature) : Type 0 where
  pub plain : list_all is_plain_record records ≡ true
  pub together : are_together (chroms_of (intervals_of records)) ≡ true

-- the record is on this line, and nothing in those before it leaves a text to bedtools
pub record ComesFirst (good : Good Feature) (before : List (Member Feature)) (line : ℕ) (r : Feature) : Type 0 where
  pub rest : List (Member Feature)
  pub members : good.members ≡ before ++ record { line = line; item = r } ∷ rest
  pub quiet : AreQuiet (map (λ m. m.item) before)

-- the line of the first record that is odd
pub record IsOddRecord (good : Good Feature) (odd : OddLine) : Type 0 where
  pub before : List (Member Feature)
  pub r : Feature
  pub comes : ComesFirst good before odd.line r
  pub is : is_odd_record odd.oddity r ≡ true

-- the line of the first record whose chromosome comes back after others
pub record ComesBackAt (good : Good Feature) (line : ℕ) : Type 0 where
  pub before : List (Member Feature)
  pub r : Feature
  pub comes : ComesFirst good before line r
  pub is : are_together (chroms_of (intervals_of (map (λ m. m.item) before)) ++ r.chrom ∷ []) ≡ false

-- what of the records and the first line at fault leaves a text to bedtools
abbrev pub IsTroubleIn : Good Feature → Trouble → Type 0
IsTroubleIn good (Odd odd) = IsOddRecord good odd
IsTroubleIn good (Refused fault) = is_of_line fault.kind ≡ true → good.fault ≡ Some (fault_value fault)
IsTroubleIn good (ComesBack line) = ComesBackAt good line

-- what leaves a text to bedtools: an odd line, a line that Dunekettle refuses, or a chromosome that comes back
abbrev pub IsTroubleOf : List ℕ → Trouble → Type 0
IsTroubleOf text (Odd odd) = IsOddLine text odd ⊎ IsTroubleIn (read_of text) (Odd odd)
IsTroubleOf text (Refused fault) = IsTroubleIn (read_of text) (Refused fault)
IsTroubleOf text (ComesBack line) = IsTroubleIn (read_of text) (ComesBack line)

-- What surveying a source does.

module _ {S : Type 0} (device : Source S) (before after : S) where
  -- all that the source had was read, and this is said of it
  pub record Surveys (survey : Survey) : Type 0 where
    -- the bytes that the reads of the call handed over; each served, and the last one reported the end
    pub bytes : List ℕ
    pub told : EndsAfter device.is_read before bytes after
    -- they are as the survey says, whatever the source
    pub is : IsSurveyOf bytes survey

  -- something leaves the text to bedtools
  pub record LeavesText (trouble : Trouble) : Type 0 where
    -- the bytes that the reads of the call handed over: all of them served, or the last one failed
    pub bytes : List ℕ
    pub handed : ReadsOn device.is_read before bytes after ⊎ FailsAfter device.is_read before bytes after
    -- whether the end was reported to the call
    pub ended : Bool
    pub told : ended ≡ true → EndsAfter device.is_read before bytes after
    -- whatever may still follow them, the text has this trouble
    pub is : (rest : List ℕ) → (ended ≡ true → rest ≡ []) → IsTroubleOf (bytes ++ rest) trouble

  -- what a call tells
  abbrev pub ReadsSurvey : Result Survey Trouble → Type 0
  ReadsSurvey (Ok survey) = Surveys survey
  ReadsSurvey (Err trouble) = LeavesText trouble

-- If a source tells its text, a survey is of all of it, and the bytes that leave it to bedtools come first in it.
abbrev pub surveys_tell_the_text : {S : Type 0} → Source S → Type 0
surveys_tell_the_text {S} device = (before after : S) (text : List ℕ) → TellsText device.is_read before text
    → ((survey : Survey) (surveys : Surveys device before after survey) → text ≡ surveys.bytes)
    × ((trouble : Trouble) (leaves : LeavesText device before after trouble)
    → (rest : List ℕ) × (text ≡ leaves.bytes ++ rest) × (leaves.ended ≡ true → rest ≡ []))
