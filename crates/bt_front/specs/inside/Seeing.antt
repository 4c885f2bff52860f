-- What a survey has seen of the records of a text.
use Rattle.std.specs.Prelude.{ℕ, suc, ◌≡◌, ◌+◌, ◌-◌, ◌^◌, ◌<◌, ◌≤◌, ◌||◌, true, false, ◌⊎◌, List, [], ◌∷◌, ◌++◌, length, map, max, min, None, Result, Ok, Err}
use Rattle.std.specs.List.{list_any}
use Rattle.bt_lines.specs.declared.device.Source.{Ghosts as Source}
use Rattle.bt_lines.specs.calls.Reader.{Hands, IsKept, end_told, lines_given, fault_kept as line_fault, MayStillCome}
use Rattle.bt_bed.specs.model.Feature.{Feature, Interval, intervals_of, is_same_strand, length_of}
use Rattle.bt_bed.specs.model.Good.{items_in}
use Rattle.bt_bed.specs.model.Order.{is_among}
use Rattle.bt_bed.specs.declared.record.strand.Strand.TheVariants.{Dot}
use Rattle.bt_bed.specs.calls.Batch.{Passes, left, line_in}
use Rattle.bt_bed.specs.calls.Blocks.{below, view_of}
use Rattle.bt_bed.specs.calls.Reading.{BeginsComing, Takes, coming, is_of_line}
use Rattle.bt_bed.specs.declared.read.batch.Batch.{Batch}
use Rattle.bt_bed.specs.declared.read.blocks.Blocks.{Blocks}
use Rattle.bt_front.specs.declared.survey.Survey.{Survey}
use Rattle.bt_front.specs.declared.survey.records_seen.RecordsSeen.{RecordsSeen}
use Rattle.bt_front.specs.model.Extents.{extents_in}
use Rattle.bt_front.specs.calls.Chromosomes.{is_last_name}
use Rattle.bt_front.specs.declared.survey.oddity.OddLine.{OddLine}
use Rattle.bt_front.specs.declared.survey.oddity.Oddity.TheVariants.{HeaderName}
use Rattle.bt_front.specs.declared.survey.trouble.Trouble.{Trouble}
use Rattle.bt_front.specs.declared.survey.trouble.Trouble.TheVariants.{ComesBack, Odd, Refused}
use Rattle.bt_front.specs.model.Odd.{is_header_name}
use Rattle.bt_front.specs.calls.Survey.{AreQuiet, IsTroubleIn}
use Rattle.bt_front.specs.model.Survey.{AreSeen, are_together, chroms_of, is_odd_record, largest, largest_end}

-- these records were looked at too
pub record Sees (old : RecordsSeen) (given : List Feature) (new : RecordsSeen) : Type 0 where
  pub count : new.count ≡ min (2 ^ 64 - 1) (old.count + length given)
  pub longest : new.longest ≡ max old.longest (largest (map length_of (intervals_of given)))
  pub lacks_strand : new.lacks_strand ≡ (old.lacks_strand || list_any (λ r. is_same_strand r.strand Dot) given)

-- the largest of the ends of records
abbrev pub last_end : List Feature → ℕ
last_end records = largest (map (λ r. r.stop) records)

-- Records that come after others, of which the first is on the line after the one given.

-- the first odd one of them
pub record IsOddAmong (past records : List Feature) (line : ℕ) (odd : OddLine) : Type 0 where
  pub before : List Feature
  pub r : Feature
  pub rest : List Feature
  pub are : records ≡ before ++ r ∷ rest
  pub quiet : AreQuiet (past ++ before)
  pub line_is : odd.line ≡ suc line + length before
  pub is : is_odd_record odd.oddity r ≡ true

-- the first one comes back to a chromosome
pub record FirstComesBack (past records : List Feature) (line back : ℕ) : Type 0 where
  pub r : Feature
  pub rest : List Feature
  pub are : records ≡ r ∷ rest
  pub quiet : AreQuiet past
  pub line_is : back ≡ suc line
  pub is : are_together (chroms_of (intervals_of past) ++ r.chrom ∷ []) ≡ false

-- what of them leaves a text to bedtools, or that memory ran out
abbrev pub LeavesOf : List Feature → List Feature → ℕ → Trouble → Type 0
LeavesOf past records line (Odd odd) = IsOddAmong past records line odd
LeavesOf past records line (ComesBack back) = FirstComesBack past records line back
LeavesOf past records line (Refused fault) = is_of_line fault.kind ≡ false

-- what seeing them tells
abbrev pub SeesAfter : List Feature → List Feature → ℕ → Result Unit Trouble → Survey → Type 0
SeesAfter past records line (Ok done) new = AreSeen (past ++ records) new
SeesAfter past records line (Err trouble) new = LeavesOf past records line trouble

-- a batch was seen: some of its records were given, all of them if it went well
pub record SeesBatch (old : Survey) (first : Batch) (result : Result Unit Trouble) (new : Survey) (last : Batch)
    : Type 0 where
  pub given : List Feature
  pub passes : Passes first given last
  pub all : result ≡ Ok tt → left last ≡ []
  pub tells : (past : List Feature) → AreSeen past old → SeesAfter past (left first) (line_in first) result new

-- the first of some records that ends past the last bin, of which the first is on the line after the one given
pub record FindsFarEnd (records : List Feature) (line far : ℕ) : Type 0 where
  pub before : List Feature
  pub r : Feature
  pub rest : List Feature
  pub are : records ≡ before ++ r ∷ rest
  pub within : last_end before ≤ largest_end
  pub past : largest_end < r.stop
  pub is : far ≡ suc line + length before

-- Going on to a chromosome.

-- the chromosomes with this one as the last, up to its records: it was that, or it is new
pub record HasEntered (old : List Interval) (name : List ℕ) (start : ℕ) (new : List Interval) : Type 0 where
  pub is : ((is_last_name (chroms_of old) name ≡ true) × (new ≡ old))
      ⊎ ((is_among (chroms_of old) name ≡ false) × (is_header_name name ≡ false)
      × (new ≡ old ++ record { chrom = name; start = start; stop = 0 } ∷ []))

-- why it wasn't gone on to
abbrev pub Refuses : List Interval → List ℕ → ℕ → Trouble → Type 0
Refuses old name line (Odd odd) = (odd ≡ record { line = line; oddity = HeaderName })
    × (is_header_name name ≡ true)
Refuses old name line (ComesBack back) = (back ≡ line)
    × (is_among (chroms_of old) name ≡ true) × (is_last_name (chroms_of old) name ≡ false)
Refuses old name line (Refused fault) = is_of_line fault.kind ≡ false

abbrev pub Enters : Survey → List ℕ → ℕ → ℕ → Result Unit Trouble → Survey → Type 0
Enters old name start line (Ok done) new = (new.records ≡ old.records)
    × HasEntered (extents_in old.chromosomes) name start (extents_in new.chromosomes)
Enters old name start line (Err trouble) new = Refuses (extents_in old.chromosomes) name line trouble

module _ {S : Type 0} (device : Source S) (old new : Blocks S) where
  -- records that were buffered were seen and taken, all of them if it went well
  pub record SeesBuffered (before : Survey) (result : Result Unit Trouble) (after : Survey) : Type 0 where
    pub given : List Feature
    pub rest : List Feature
    pub buffered : (view_of old).buffered ≡ given ++ rest
    pub takes : Takes device (view_of old) given (view_of new)
    pub all : result ≡ Ok tt → rest ≡ []
    pub tells : (past : List Feature) → AreSeen past before
        → SeesAfter past (view_of old).buffered (lines_given (below old)) result after
    pub comes : BeginsComing (view_of old)

  -- all records of a reader were seen, and nothing in them leaves its text to bedtools
  pub record HasSeenAll (survey : Survey) : Type 0 where
    pub bytes : (bytes : List ℕ) × Hands device (below old) bytes (below new)
    pub going : line_fault (below new) ≡ None
    pub told : end_told (below new) ≡ true
    pub kept : IsKept device (below new)
    pub faultless : (coming bytes.0 (view_of old)).fault ≡ None
    pub records : AreSeen (items_in (coming bytes.0 (view_of old))) survey

  -- something does
  pub record StopsSeeing (trouble : Trouble) : Type 0 where
    pub bytes : (bytes : List ℕ) × Hands device (below old) bytes (below new)
    pub kept : IsKept device (below new)
    pub trouble_is : (rest : List ℕ) → MayStillCome (below new) rest → IsTroubleIn (coming (bytes.0 ++ rest) (view_of old)) trouble

  abbrev pub SeesAll : Result Unit Trouble → Survey → Type 0
  SeesAll (Ok done) survey = HasSeenAll survey
  SeesAll (Err trouble) survey = StopsSeeing trouble
