-- Lines, records and their orders.
use Rattle.std.specs.Prelude.{◌≡◌, ℕ, ◌<◌, ◌≤◌, List, max, min, Bool, IsTrue, false, Some, Ok, All, ◌++◌, length, take, Option, None, ◌≢◌, IfSome, IfErr, ◌∷◌, ◌⊎◌, IsFalse, []}
use Rattle.bt_bed.specs.model.Feature.{Interval, Span, Feature, intervals_of, last_of}
use Rattle.bt_bed.specs.calls.Orders.{AreNonEmpty, AreDistinct, AreContiguous}
use Rattle.bt_bed.specs.model.Positions.{AreStretchesOf}
use Rattle.bt_bed.specs.model.BedLine.{says_nothing, bed_text, record_of, IsBedKind}
use Rattle.bt_bed.specs.calls.Features.{IsFeature}
use Rattle.bt_lines.specs.model.Lines.{Handed, text_lines, TextLine}
use Rattle.bt_lines.specs.model.Fault.{FaultValue}
use Rattle.bt_lines.specs.declared.fault.Input.{Input}
use Rattle.bt_lines.specs.declared.fault.Kind.TheVariants.{UnknownChrom}
use Rattle.bt_bed.specs.model.Good.{Member, good, items_in, bed_format, block_format, block_good}
use Rattle.bt_bed.specs.model.Meeting.{Rule, join_report, written}
use Rattle.bt_bed.specs.calls.Reading.{AreAscending, IsBeyond, IsFaultBeyond}
use Rattle.bt_bed.specs.model.Order.{Order, byte_order}
use Rattle.bt_bed.specs.model.Sorted.{sorting_of, has_records}
use Rattle.bt_bed.specs.model.Genome.{Entry, genome_names, genome_of}
use Rattle.std.specs.declared.cmp.Ordering.TheVariants.{Less}
use Rattle.bt_lines.specs.declared.fault.Kind.{Kind}

-- Laws of features: the bases of their intervals, and their bytes.

-- the position of the chromosome is one of the interval's bases
pub record HasBase (r : Interval) (chrom : List ℕ) (p : ℕ) : Type 0 where
  pub same : r.chrom ≡ chrom
  pub from_start : r.start ≤ p
  pub before_stop : p < r.stop

-- the bases that two intervals on one chromosome have in common are those from
-- the greater start up to the smaller stop
pub record HasShared (a b : Interval) (chrom : List ℕ) (p : ℕ) : Type 0 where
  pub first : a.chrom ≡ chrom
  pub second : b.chrom ≡ chrom
  pub from_start : max a.start b.start ≤ p
  pub before_stop : p < min a.stop b.stop

-- so it is
abbrev pub shared_are_common : Type 0
shared_are_common =
    (a b : Interval) (chrom : List ℕ) (p : ℕ)
    → (HasBase a chrom p × HasBase b chrom p → HasShared a b chrom p)
    × (HasShared a b chrom p → HasBase a chrom p × HasBase b chrom p)

-- two lists that make up one set, given by a test, are one list
abbrev pub stretches_are_one : Type 0
stretches_are_one =
    (test : ℕ → Bool) (xs ys : List Span) → AreStretchesOf (λ p. IsTrue (test p)) xs
    → AreStretchesOf (λ p. IsTrue (test p)) ys → xs ≡ ys

-- the bytes of a feature that a line can say (`IsFeature`) say it, unless they are a header line
abbrev pub written_are_read : Type 0
written_are_read =
    (feature : Feature) → IsFeature feature → says_nothing (bed_text feature) ≡ false
    → record_of (bed_text feature) ≡ Ok (Some feature)

-- what a line says is said by its bytes, written anew
abbrev pub read_are_rewritten : Type 0
read_are_rewritten =
    (text : List ℕ) (feature : Feature) → record_of text ≡ Ok (Some feature)
    → record_of (bed_text feature) ≡ Ok (Some feature)

-- Laws of what inputs give.

-- each member of a text is on a line of its own, in their order
abbrev pub good_stand_on_lines : Type 0
good_stand_on_lines = (input : Input) (order : Order) (text : List ℕ)
    → AreAscending 1 (good (bed_format (sorting_of order)) input (text_lines text)).members
    × All (λ m. m.line ≤ length (text_lines text))
    (good (bed_format (sorting_of order)) input (text_lines text)).members

-- If the members of a text up to some line are these, and what else it has lies after that
-- line, they are what is good of its first lines.
abbrev pub first_lines_have_the_first : Type 0
first_lines_have_the_first = (input : Input) (order : Order) (count : ℕ) (text : List ℕ)
    (past rest : List (Member Feature)) (fault : Option FaultValue)
    → good (bed_format (sorting_of order)) input
    (text_lines text) ≡ record { members = past ++ rest; fault = fault }
    → All (λ m. m.line ≤ count) past → IsBeyond count (record { members = rest; fault = fault })
    → good (bed_format (sorting_of order)) input
    (take count (text_lines text)) ≡ record { members = past; fault = None }

-- each good record of an input in blocks has at least one base
abbrev pub good_in_blocks_are_non_empty : Type 0
good_in_blocks_are_non_empty = (input : Input) (handed : Handed)
    → AreNonEmpty (intervals_of (items_in (block_good input handed)))

-- each member of a text is on a line of its own, in their order
abbrev pub good_in_blocks_stand_on_lines : Type 0
good_in_blocks_stand_on_lines = (input : Input) (text : List ℕ)
    → AreAscending 1 (good block_format input (text_lines text)).members
    × All (λ m. m.line ≤ length (text_lines text))
    (good block_format input (text_lines text)).members

-- no line is at fault for its chromosome: every name is one
abbrev pub blocks_know_each_chromosome : Type 0
blocks_know_each_chromosome = (input : Input) (handed : Handed)
    → IfSome (block_good input handed).fault (λ fault. fault.kind ≢ UnknownChrom)

-- no chromosome comes twice
abbrev pub genome_names_are_distinct : Type 0
genome_names_are_distinct = (input : Input) (lines : List TextLine) (entries : List Entry)
    → genome_of input lines ≡ Ok entries → AreDistinct (genome_names entries)

-- if a text's fault, if it has one, lies after the first `count` lines, these have no fault
abbrev pub first_lines_make_entries : Type 0
first_lines_make_entries = (input : Input) (count : ℕ) (text : List ℕ)
    → IfErr (genome_of input (text_lines text)) (IsFaultBeyond count)
    → (entries : List Entry) × (genome_of input (take count (text_lines text)) ≡ Ok entries)

module _ {A : Type 0} where
  -- a member that is decided early stays decided, and has the lines that it has in the end
  abbrev pub StaysDecided : Rule A → Rule A → A → Type 0
  StaysDecided early late member = IsTrue (early.decided member)
      → IsTrue (late.decided member) × (early.lines member ≡ late.lines member)

-- what is written early begins what is written in the end, whichever fault is reported
abbrev pub EarlyLinesBegin : (A : Type 0) → Type 0
EarlyLinesBegin A = (early late : Rule A) (members more : List A) (fault : Option FaultValue)
    → All (StaysDecided early late) members
    → (rest : List ℕ) × ((join_report late (members ++ more) fault).output ≡ written early members ++ rest)

-- Laws of orders: of names, and of sorted records.

-- a name comes before the longer ones that it begins
abbrev pub prefixes_come_first : Type 0
prefixes_come_first =
    (name : List ℕ) (byte : ℕ) (rest : List ℕ)
    → byte_order.compare name (name ++ byte ∷ rest) ≡ Less

-- of two other names the first byte in which they differ decides, whatever their lengths
abbrev pub first_difference_decides : Type 0
first_difference_decides =
    (front : List ℕ) (low high : ℕ) (left right : List ℕ) → low < high
    → byte_order.compare (front ++ low ∷ left) (front ++ high ∷ right) ≡ Less

-- no chromosome is unknown to the order of bytes
abbrev pub bytes_know_each_chromosome : Type 0
bytes_know_each_chromosome = (kind : Kind) → IsBedKind byte_order kind → kind ≢ UnknownChrom

-- a record keeps them together that goes on from the last, or is the first of its chromosome
abbrev pub contiguous_grows : Type 0
contiguous_grows =
    (past : List Interval) (r : Interval) → AreContiguous past
    → IfSome (last_of past) (λ last. ((r.chrom ≡ last.chrom) × (last.start ≤ r.start))
    ⊎ IsFalse (has_records r.chrom past)) → AreContiguous (past ++ r ∷ [])
