-- What a complete input gives: its good members, and the first line at fault.
use Rattle.std.specs.Prelude.{ℕ, List, [], ◌∷◌, map, Option, Some, None, Result, Ok, Err, if◌then◌else◌}
use Rattle.bt_lines.specs.model.Fault.{FaultValue}
use Rattle.bt_lines.specs.model.Lines.{Handed, cut_fault, lines_handed, TextLine}
use Rattle.bt_lines.specs.declared.fault.Input.{Input}
use Rattle.bt_lines.specs.declared.fault.Kind.{Kind}
use Rattle.bt_bed.specs.model.Feature.{Feature, interval_of}
use Rattle.bt_bed.specs.model.BedLine.{fault_at_line, record_of}
use Rattle.bt_lines.specs.declared.fault.Kind.TheVariants.{UnknownChrom, OutOfOrder}
use Rattle.bt_bed.specs.model.Order.{Order}
use Rattle.bt_bed.specs.model.Sorted.{Locus, locus_of, Sorting, falls_in, sorting_of, block_sorting}

-- What an input gives: its members (records, sequences' lines, alignments) up to its first line at
-- fault.

-- a member of an input, and the number of its line
pub record Member (A : Type 0) : Type 0 where
  pub line : ℕ
  pub item : A

-- the members before the first line at fault, and the fault of that line, if there is one
pub record Good (A : Type 0) : Type 0 where
  pub members : List (Member A)
  pub fault : Option FaultValue

-- the members without their lines
abbrev pub items_in : {A : Type 0} → Good A → List A
items_in good = map (λ m. m.item) good.members

-- What the lines of an input say, one after another: nothing, a member, or what is wrong with the
-- line.
-- This depends on what is known of the members before it.
pub record Format (A State : Type 0) : Type 0 where
  -- what is known at the start
  pub begin : State
  pub says : State → TextLine → Result (Option A) Kind
  -- what is known after this member
  pub after : State → A → State

-- no member, and a fault if there is one
abbrev pub ends_with : {A : Type 0} → Option FaultValue → Good A
ends_with fault = record { members = []; fault = fault }

-- a member before others
abbrev pub with_member : {A : Type 0} → Member A → Good A → Good A
with_member m good = record { members = m ∷ good.members; fault = good.fault }

-- what a line says, and then what is good after it
abbrev pub good_with : {A State : Type 0} → Format A State → Input → ℕ → State
    → Result (Option A) Kind → (State → Good A) → Good A
good_with format input line state (Err kind) rest = ends_with (Some (fault_at_line input line kind))
good_with format input line state (Ok None) rest = rest state
good_with format input line state (Ok (Some item)) rest =
    with_member (record { line = line; item = item }) (rest (format.after state item))

-- what is good of the lines, by what is known before them
unfoldable pub good_after : {A State : Type 0} → Format A State → Input → State
    → List TextLine → Good A
good_after format input state [] = ends_with None
good_after format input state (line ∷ lines) =
    good_with format input line.number state (format.says state line)
    (λ now. good_after format input now lines)

-- what is good of all lines of an input
abbrev pub good : {A State : Type 0} → Format A State → Input → List TextLine → Good A
good format input lines = good_after format input format.begin lines

-- the first of two faults, if there is one
abbrev pub or_else : Option FaultValue → Option FaultValue → Option FaultValue
or_else None other = other
or_else (Some fault) other = Some fault

-- the same members, and after them this fault, if none of theirs comes before
abbrev pub cut_by : {A : Type 0} → Option FaultValue → Good A → Good A
cut_by fault good = record { members = good.members; fault = or_else good.fault fault }

-- What is good of an input that may have been cut off: the good members of the lines handed over.
-- The failed read comes after them, if none of these lines is at fault.
abbrev pub good_handed : {A State : Type 0} → Format A State → Input → Handed → Good A
good_handed format input handed =
    cut_by (cut_fault input handed) (good format input (lines_handed handed))

-- The good records of a BED input. Sorted input has its chromosomes in an order, as that of the
-- genome file, and on each of them the starts don't fall (bedtools manual, sorted input and genome
-- files).

-- where a feature starts
abbrev pub locus_at : Feature → Locus
locus_at r = locus_of (interval_of r)

-- the record after the last place, or what is wrong with it
abbrev pub in_order : Sorting → Option Locus → Feature → Result (Option Feature) Kind
in_order sorting last r =
    if sorting.knows r.chrom
    then (if falls_in sorting last (locus_at r) then Err OutOfOrder else Ok (Some r))
    else Err UnknownChrom

-- what a line says, given the last place
abbrev pub said_after : Sorting → Option Locus → Result (Option Feature) Kind → Result
    (Option Feature) Kind
said_after sorting last (Err kind) = Err kind
said_after sorting last (Ok None) = Ok None
said_after sorting last (Ok (Some r)) = in_order sorting last r

-- what a line says after the last place: nothing, a record, or what is wrong with it
unfoldable pub line_says : Sorting → Option Locus → List ℕ → Result (Option Feature) Kind
line_says sorting last text = said_after sorting last (record_of text)

-- sorted records, of which the place of the last is known
abbrev pub bed_format : Sorting → Format Feature (Option Locus)
bed_format sorting = record {
  begin = None;
  says = λ last line. line_says sorting last line.text;
  after = λ last r. Some (locus_at r);
}

-- what is good of a BED input in an order of the chromosomes
abbrev pub bed_good : Input → Order → Handed → Good Feature
bed_good input order handed = good_handed (bed_format (sorting_of order)) input handed

-- The good records of a BED input whose chromosomes come in any order. A block is a maximal run of
-- records of one chromosome; in each block the starts don't fall, and a chromosome may have several
-- blocks (bedtools manual, maskfasta).

-- records in blocks, of which the place of the last is known
abbrev pub block_format : Format Feature (Option Locus)
block_format = bed_format block_sorting

-- what is good of a BED input in blocks
abbrev pub block_good : Input → Handed → Good Feature
block_good input handed = good_handed block_format input handed
