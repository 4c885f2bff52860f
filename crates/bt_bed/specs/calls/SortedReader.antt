-- What a reader of sorted records holds, and what the calls of one do.
use Rattle.std.specs.Prelude.{◌≡◌, ℕ, List, [], ◌∷◌, ◌++◌, drop, length, take, ◌-◌, ◌≤◌, ◌&&◌, not, Bool, true, false, Option, Some, None, Result, Ok, Err, IsTrue, option_map, IfSome, bytes_eq, ⊤}
use Rattle.bt_lines.specs.calls.Reader.{BeginsLines, IsKept, MayStillCome, TakenLines, TakesLines, buffered_bytes, buffered_in as lines_buffered, input_of, is_open, fault_kept as line_fault, lines_given}
use Rattle.bt_bed.specs.model.Feature.{Feature}
use Rattle.bt_bed.specs.calls.Features.{IsFeature}
use Rattle.bt_bed.specs.calls.Bed.{is_some_left, last_start, feature_lent}
use Rattle.bt_bed.specs.declared.read.batch.Batch.{Batch}
use Rattle.bt_bed.specs.declared.read.batch.Consumed.{Consumed}
use Rattle.std.specs.Option.{ForSome}
use Rattle.bt_lines.specs.declared.device.Source.{Ghosts as Source}
use Rattle.bt_lines.specs.calls.Faults.{no_memory}
use Rattle.bt_lines.specs.model.Fault.{FaultValue}
use Rattle.bt_lines.specs.model.Lines.{TextLine}
use Rattle.bt_lines.specs.calls.Names.{fault_value}
use Rattle.bt_lines.specs.declared.reader.buffered_lines.ConsumedLines.{ConsumedLines}
use Rattle.bt_lines.specs.declared.fault.Fault.{Fault}
use Rattle.bt_lines.specs.declared.reader.line_reader.LineReader.{LineReader}
use Rattle.bt_bed.specs.model.Good.{Member, or_else, bed_format, line_says, locus_at}
use Rattle.bt_bed.specs.inside.OrderedLookahead.{IsElsewhere, KeepsLast, ahead_of, last_in, name_in, start_in as kept_start}
use Rattle.bt_bed.specs.model.Sorted.{Locus, Sorting, falls_in}
use Rattle.bt_bed.specs.calls.Reading.{AnswersFault, EndsMembers, FillAnswers, Fills, GivesMember, IsLost, IsSaidBehind, MemberReader, Takes, ahead_in, coming}
use Rattle.bt_bed.specs.declared.record.bed.BedRef.{BedRef}
use Rattle.bt_bed.specs.declared.read.sorted.Sorted.{Ghosts as SortedGhosts}
use Rattle.bt_bed.specs.declared.read.sorted_reader.SortedReader.{SortedReader}
use Rattle.bt_bed.specs.declared.read.lookahead.OrderedLookahead.{OrderedLookahead}
use Rattle.bt_bed.specs.calls.Batch.{cursor_in, chrom_in, start_in, left}

-- the fault of a result, if it is one
abbrev pub fault_in : {T : Type 0} → Result T Fault → Option FaultValue
fault_in (Ok done) = None
fault_in (Err fault) = Some (fault_value fault)

-- whether each of these records fits after those before it
abbrev pub are_in_order : Sorting → Option Locus → List Feature → Bool
are_in_order sorting last [] = true
are_in_order sorting last (r ∷ records) =
    sorting.knows r.chrom && not (falls_in sorting last (locus_at r))
    && are_in_order sorting (Some (locus_at r)) records

-- the chromosome of the last record is known, what is buffered fits after it, and no fault is kept while a record is
pub record IsPlaced {S : Type 0} (sorting : Sorting)
    (reader : MemberReader S Feature (Option Locus)) : Type 0 where
  pub last : ForSome reader.state (λ place. IsTrue (sorting.knows place.chrom))
  pub in_order : are_in_order sorting reader.state reader.buffered ≡ true
  pub going : is_some_left reader.buffered ≡ true → reader.fault ≡ None

-- the reader's next line was consumed
pub record TakesOne {S : Type 0} (device : Source S) (old new : LineReader S) : Type 0 where
  pub consumed : ConsumedLines
  pub are : TakenLines old consumed 1
  pub takes : TakesLines device old consumed new

-- how the records are sorted, by what the rule means
abbrev pub sorting_in : {Q : Type 0} → SortedGhosts Q → OrderedLookahead Q → Sorting
sorting_in g lookahead = g.sorting lookahead.rule

module _ {S Q : Type 0} where
  -- a reader of lines and two neighbours, with a fault of their own and records that are buffered, as a reader of records
  unfoldable pub view_with : Sorting → Option FaultValue → LineReader S → OrderedLookahead Q → List Feature
      → MemberReader S Feature (Option Locus)
  view_with sorting own reader lookahead records = record {
    format = bed_format sorting;
    below = reader;
    state = last_in lookahead;
    buffered = records;
    fault = or_else own (line_fault reader);
  }

  -- the records that are buffered
  unfoldable pub buffered_in : SortedReader S Q → List Feature
  buffered_in sorted = ahead_of sorted.is_ahead sorted.reader sorted.lookahead

  abbrev pub view_in : Sorting → SortedReader S Q → MemberReader S Feature (Option Locus)
  view_in sorting sorted = view_with sorting
      (option_map fault_value sorted.fault) sorted.reader sorted.lookahead (buffered_in sorted)

  -- a reader as a reader of records that are sorted as those of the first
  abbrev pub view_by : SortedGhosts Q → SortedReader S Q → SortedReader S Q → MemberReader S Feature (Option Locus)
  view_by g first sorted = view_in (sorting_in g first.lookahead) sorted

  abbrev pub IsPlacedBy : SortedGhosts Q → SortedReader S Q → SortedReader S Q → Type 0
  IsPlacedBy g first sorted = IsPlaced (sorting_in g first.lookahead) (view_by g first sorted)

  -- the batch has them
  pub record Lends (sorted : SortedReader S Q) (batch : Batch) : Type 0 where
    pub left_is : left batch ≡ buffered_in sorted
    pub start : start_in batch ≡ kept_start sorted.lookahead
    pub chrom : chrom_in batch ≡ name_in sorted.lookahead
    pub at : (cursor_in batch).at ≡ 0
    pub given : (cursor_in batch).lines ≡ lines_given sorted.reader
    pub begins : is_some_left (buffered_in sorted) ≡ true
        → BeginsLines (buffered_bytes sorted.reader) (lines_given sorted.reader) (is_open sorted.reader) (cursor_in batch)

  -- how many records were consumed
  abbrev pub count_in : SortedReader S Q → Consumed → ℕ
  count_in sorted consumed = consumed.lines.lines - lines_given sorted.reader

  -- `count` of those that are buffered were consumed
  pub record IsTaken (sorted : SortedReader S Q) (consumed : Consumed) : Type 0 where
    pub lines : TakenLines sorted.reader consumed.lines (count_in sorted consumed)
    pub within : count_in sorted consumed ≤ length (buffered_in sorted)
    pub start : consumed.start
        ≡ last_start (kept_start sorted.lookahead) (take (count_in sorted consumed) (buffered_in sorted))
    pub ahead : consumed.is_ahead ≡ is_some_left (drop (count_in sorted consumed) (buffered_in sorted))

  module _ (device : Source S) (sorting : Sorting) where
    -- the line says a record, which is buffered now
    pub record FindsRecord (old : SortedReader S Q) (line : TextLine) (new : SortedReader S Q) : Type 0 where
      pub r : Feature
      pub says : line_says sorting (last_in old.lookahead) line.text ≡ Ok (Some r)
      pub same : new.reader ≡ old.reader
      pub ahead : new.is_ahead ≡ true
      pub more : List Feature
      pub buffered : buffered_in new ≡ r ∷ more
      pub in_order : are_in_order sorting (last_in old.lookahead) (buffered_in new) ≡ true

    -- it says nothing
    pub record SkipsLine (old : SortedReader S Q) (line : TextLine) (new : SortedReader S Q) : Type 0 where
      pub says : line_says sorting (last_in old.lookahead) line.text ≡ Ok None
      pub takes : TakesOne device old.reader new.reader
      pub none : new.is_ahead ≡ false

    -- it is at fault, or memory ran out for the name of another chromosome
    pub record LosesLine (old : SortedReader S Q) (line : TextLine) (fault : FaultValue) (new : SortedReader S Q) : Type 0 where
      pub cause : IsLost (record { input = input_of old.reader; line = line.number })
          (line_says sorting (last_in old.lookahead) line.text) fault
      pub elsewhere : IsElsewhere (last_in old.lookahead) (line_says sorting (last_in old.lookahead) line.text)
      pub takes : TakesOne device old.reader new.reader
      pub none : new.is_ahead ≡ false

    abbrev pub TakesAs : SortedReader S Q → TextLine → Result Bool Fault → SortedReader S Q → Type 0
    TakesAs old line (Ok true) new = FindsRecord old line new
    TakesAs old line (Ok false) new = SkipsLine old line new
    TakesAs old line (Err fault) new = LosesLine old line (fault_value fault) new

    -- what taking the next line does
    pub record TakesFirst (old : SortedReader S Q) (answer : Result Bool Fault) (new : SortedReader S Q) : Type 0 where
      pub line : TextLine
      pub more : List TextLine
      pub first : lines_buffered old.reader ≡ line ∷ more
      pub takes : TakesAs old line answer new
      pub keeps : KeepsLast old.lookahead new.lookahead

-- the record of the last line given lies on another chromosome than the record consumed last, and its name couldn't be kept
pub record NameUnkept {S : Type 0} (old : MemberReader S Feature (Option Locus)) (bytes : List ℕ) (new : LineReader S) : Type 0 where
  pub r : Feature
  -- it is the first of what comes, whatever follows
  pub first : (rest : List ℕ) → MayStillCome new rest → (more : List (Member Feature))
      × ((coming (bytes ++ rest) old).members ≡ record { line = lines_given new; item = r } ∷ more)
  -- it is what a line says after the record consumed last
  pub said : IsSaidBehind old.format old.state r
  pub elsewhere : IfSome old.state (λ last. bytes_eq last.chrom r.chrom ≡ false)

-- once these bytes were handed over, memory ran out only for a line that couldn't be read, or for the name of
-- another chromosome
abbrev pub RunsOutForName : {S T : Type 0} → MemberReader S Feature (Option Locus) → Result T Fault → List ℕ
    → LineReader S → Type 0
RunsOutForName old (Ok done) bytes new = ⊤
RunsOutForName old (Err fault) bytes new = old.fault ≡ None → fault_value fault ≡ no_memory → line_fault new ≡ None
    → NameUnkept old bytes new

-- the bytes handed over in a call of `fill`
abbrev pub fill_bytes : {S : Type 0} (device : Source S) (old new : MemberReader S Feature (Option Locus))
    (answer : Result Bool Fault) → FillAnswers device old answer new → List ℕ
fill_bytes device old new (Ok true) answers = answers.1.stays.bytes.0
fill_bytes device old new (Ok false) answers = answers.stays.bytes.0
fill_bytes device old new (Err fault) answers = answers.stays.bytes.0

-- a call of `fill`, and what name it was if memory ran out for one
pub record FillsByName {S : Type 0} (device : Source S) (old : MemberReader S Feature (Option Locus))
    (answer : Result Bool Fault) (new : MemberReader S Feature (Option Locus)) : Type 0 where
  pub fills : Fills device old answer new
  pub for_name : RunsOutForName old answer (fill_bytes device old new answer fills.answers) new.below

-- What the calls do, whatever the rule. `Next` is what is known of the record ahead, and `Keeps` is
-- what else the call leaves as it was.
module _ {S : Type 0} (device : Source S) (Next : Feature → Type 0) (Keeps : Type 0)
    (old new : MemberReader S Feature (Option Locus)) where
  -- a call of `fill`
  pub record FillsSorted (answer : Result Bool Fault) : Type 0 where
    pub answers : FillAnswers device old answer new
    -- the record ahead, if there is one, is one that a line can say, and comes next
    pub next : IfSome (ahead_in new) (λ m. IsFeature m.item × Next m.item)
    pub for_name : RunsOutForName old answer (fill_bytes device old new answer answers) new.below
    pub kept : IsKept device old.below → IsKept device new.below
    pub order : Keeps

  -- what `peek` returns
  abbrev pub PeekAnswers : Result (Option BedRef) Fault → Type 0
  PeekAnswers (Ok (Some bed)) =
      (line : ℕ) × GivesMember device old (record { line = line; item = feature_lent bed }) new
  PeekAnswers (Ok None) = EndsMembers device old new
  PeekAnswers (Err fault) = AnswersFault device old (fault_value fault) new

  -- the bytes handed over in the call
  abbrev pub peek_bytes : (answer : Result (Option BedRef) Fault) → PeekAnswers answer → List ℕ
  peek_bytes (Ok (Some bed)) answers = answers.1.stays.bytes.0
  peek_bytes (Ok None) answers = answers.stays.bytes.0
  peek_bytes (Err fault) answers = answers.stays.bytes.0

  -- a call of `peek`
  pub record PeeksSorted (answer : Result (Option BedRef) Fault) : Type 0 where
    pub answers : PeekAnswers answer
    pub next : IfSome (ahead_in new) (λ m. IsFeature m.item × Next m.item)
    pub for_name : RunsOutForName old answer (peek_bytes answer answers) new.below
    pub kept : IsKept device old.below → IsKept device new.below
    pub order : Keeps

  -- a call of `consume` or `advance`: the first `count` of those that are buffered are taken, and nothing is read
  pub record TakesSorted (count : ℕ) : Type 0 where
    pub takes : Takes device old (take count old.buffered) new
    pub order : Keeps
