-- The last record and the chromosome of the one ahead, sorted by some rule.
use Rattle.std.specs.Prelude.{◌≡◌, ℕ, Bool, ◌&&◌, IsTrue, IfSome, List, [], ◌∷◌, bytes_eq, is_some, if◌then◌else◌, Option, Some, None, Result, Ok, Err, option_map, unwrap_or, ⊤, false}
use Rattle.bt_lines.specs.calls.Names.{fault_value}
use Rattle.bt_lines.specs.calls.Reader.{buffered_in}
use Rattle.bt_lines.specs.model.Lines.{TextLine}
use Rattle.bt_lines.specs.declared.fault.Fault.{Fault}
use Rattle.bt_lines.specs.declared.fault.Kind.{Kind}
use Rattle.bt_lines.specs.declared.fault.Place.{Place}
use Rattle.bt_lines.specs.declared.reader.line_reader.LineReader.{LineReader}
use Rattle.bt_bed.specs.calls.Reading.{IsLost}
use Rattle.bt_bed.specs.calls.Bed.{run_of}
use Rattle.bt_bed.specs.model.Feature.{Feature}
use Rattle.bt_bed.specs.model.Good.{line_says}
use Rattle.bt_bed.specs.model.Sorted.{Locus, Sorting}
use Rattle.bt_bed.specs.declared.read.lookahead.OrderedLookahead.{OrderedLookahead}

-- the chromosome of the last record is known
abbrev pub IsKnownLast : Sorting → Option Locus → Type 0
IsKnownLast sorting last = IfSome last (λ place. IsTrue (sorting.knows place.chrom))

-- what a line says is no record on the chromosome of the last one, whose name isn't copied
abbrev pub IsElsewhere : Option Locus → Result (Option Feature) Kind → Type 0
IsElsewhere last (Ok (Some r)) = IfSome last (λ place. bytes_eq place.chrom r.chrom ≡ false)
IsElsewhere last other = ⊤

-- from where on records on the chromosome of this name may start after the last one
abbrev pub start_after : Option Locus → List ℕ → ℕ
start_after None name = 0
start_after (Some last) name = if bytes_eq last.chrom name then last.start else 0

module _ {Q : Type 0} where
  -- where the last record started, if there was one
  unfoldable pub last_in : OrderedLookahead Q → Option Locus
  last_in lookahead =
      option_map (λ s. record { chrom = lookahead.last_name.items; start = s }) lookahead.last

  -- the name of the chromosome of the record ahead
  unfoldable pub name_in : OrderedLookahead Q → List ℕ
  name_in lookahead =
      if lookahead.is_elsewhere then lookahead.ahead_name.items else lookahead.last_name.items

  -- from where on records may start on it
  unfoldable pub start_in : OrderedLookahead Q → ℕ
  start_in lookahead = if lookahead.is_elsewhere then 0 else unwrap_or lookahead.last 0

  -- the records on it that a reader of lines has buffered: none if none is known to be ahead
  abbrev pub ahead_of : {S : Type 0} → Bool → LineReader S → OrderedLookahead Q → List Feature
  ahead_of is_ahead reader lookahead =
      if is_ahead then run_of (name_in lookahead) (start_in lookahead) (buffered_in reader) else []

  -- whether there was a last record, and its chromosome has this name
  abbrev pub goes_on : OrderedLookahead Q → List ℕ → Bool
  goes_on lookahead name = is_some lookahead.last && bytes_eq lookahead.last_name.items name

  -- the next of these lines says a record on the chromosome of the last one, which it may follow
  pub record HasNext (lookahead : OrderedLookahead Q) (lines : List TextLine) : Type 0 where
    pub r : Feature
    pub more : List Feature
    pub run : run_of (name_in lookahead) (start_in lookahead) lines ≡ r ∷ more
    pub last : last_in lookahead ≡ Some (record { chrom = name_in lookahead; start = start_in lookahead })

  -- the rule and the last record stay
  pub record KeepsLast (old new : OrderedLookahead Q) : Type 0 where
    pub rule : new.rule ≡ old.rule
    pub last : last_in new ≡ last_in old

  -- the record ahead lies on the chromosome of this name
  pub record HoldsChrom (old : OrderedLookahead Q) (name : List ℕ) (new : OrderedLookahead Q) : Type 0 where
    pub name_is : name_in new ≡ name
    pub start_is : start_in new ≡ start_after (last_in old) name

  -- the last record is another one on the chromosome of the one ahead, which starts here
  pub record MakesLast (old : OrderedLookahead Q) (start : ℕ) (new : OrderedLookahead Q) : Type 0 where
    pub rule : new.rule ≡ old.rule
    pub last : last_in new ≡ Some (record { chrom = name_in old; start = start })
    pub name_is : name_in new ≡ name_in old
    pub start_is : start_in new ≡ start

  -- a line was taken: nothing, or a record that is ahead now
  pub record LineTaken (sorting : Sorting) (text : List ℕ) (old : OrderedLookahead Q) (is_record : Bool)
      (new : OrderedLookahead Q) : Type 0 where
    pub said : Option Feature
    pub says : line_says sorting (last_in old) text ≡ Ok said
    pub is : is_record ≡ is_some said
    pub ahead : IfSome said (λ r. HoldsChrom old r.chrom new)
    pub keeps : KeepsLast old new

  -- what taking a line does
  abbrev pub TakesLine : Sorting → Place → List ℕ → OrderedLookahead Q → Result Bool Fault → OrderedLookahead Q
      → Type 0
  TakesLine sorting place text old (Ok is_record) new = LineTaken sorting text old is_record new
  TakesLine sorting place text old (Err fault) new =
      IsLost place (line_says sorting (last_in old) text) (fault_value fault)
      × IsElsewhere (last_in old) (line_says sorting (last_in old) text) × KeepsLast old new
