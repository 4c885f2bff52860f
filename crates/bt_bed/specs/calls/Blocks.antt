-- What a reader of records in blocks holds, and what its calls do.
use Rattle.std.specs.Prelude.{ℕ, Bool, List, Option, Result, IfSome, ⊤}
use Rattle.bt_lines.specs.declared.device.Source.{Ghosts as Source}
use Rattle.bt_lines.specs.model.Fault.{FaultValue}
use Rattle.bt_lines.specs.declared.fault.Fault.{Fault}
use Rattle.bt_lines.specs.declared.reader.line_reader.LineReader.{LineReader}
use Rattle.bt_bed.specs.calls.SortedReader.{FillsSorted, IsTaken as IsTakenIn, Lends as LendsFrom, PeeksSorted, TakesSorted, count_in as count_from, view_in}
use Rattle.bt_bed.specs.model.Feature.{Feature}
use Rattle.bt_bed.specs.model.Good.{locus_at}
use Rattle.bt_bed.specs.calls.Orders.{IsBlockUpTo}
use Rattle.bt_bed.specs.model.Sorted.{Locus, block_sorting}
use Rattle.bt_bed.specs.calls.Reading.{MemberReader}
use Rattle.bt_bed.specs.declared.read.batch.Batch.{Batch}
use Rattle.bt_bed.specs.declared.read.batch.Consumed.{Consumed}
use Rattle.bt_bed.specs.declared.record.bed.BedRef.{BedRef}
use Rattle.bt_bed.specs.declared.read.blocks.Blocks.{Blocks}

module _ {S : Type 0} where
  -- what it holds, as a reader of members
  unfoldable pub view_of : Blocks S → MemberReader S Feature (Option Locus)
  view_of blocks = view_in block_sorting blocks.sorted

  -- the reader of lines below
  abbrev pub below : Blocks S → LineReader S
  below blocks = (view_of blocks).below

  -- the records that are buffered
  abbrev pub buffered_in : Blocks S → List Feature
  buffered_in blocks = (view_of blocks).buffered

  -- the fault that is kept
  abbrev pub fault_kept : Blocks S → Option FaultValue
  fault_kept blocks = (view_of blocks).fault

  -- the record comes next: in its block it doesn't start before the record before it
  abbrev pub IsNext : Blocks S → Feature → Type 0
  IsNext blocks r = IfSome (view_of blocks).state (λ last. IsBlockUpTo last (locus_at r))

  -- a call of `fill`
  abbrev pub FillsBlocks : Source S → Blocks S → Result Bool Fault → Blocks S → Type 0
  FillsBlocks device old answer new =
      FillsSorted device (IsNext old) ⊤ (view_of old) (view_of new) answer

  -- a call of `peek`
  abbrev pub PeeksBlocks : Source S → Blocks S → Result (Option BedRef) Fault → Blocks S → Type 0
  PeeksBlocks device old answer new =
      PeeksSorted device (IsNext old) ⊤ (view_of old) (view_of new) answer

  -- the batch has the records that are buffered
  abbrev pub Lends : Blocks S → Batch → Type 0
  Lends blocks batch = LendsFrom blocks.sorted batch

  -- how many of them were consumed
  abbrev pub count_in : Blocks S → Consumed → ℕ
  count_in blocks consumed = count_from blocks.sorted consumed

  -- what was consumed of the batch
  abbrev pub IsTaken : Blocks S → Consumed → Type 0
  IsTaken blocks consumed = IsTakenIn blocks.sorted consumed

  -- a call of `consume`, or of `advance`, which takes one
  abbrev pub TakesBlocks : Source S → Blocks S → ℕ → Blocks S → Type 0
  TakesBlocks device old count new =
      TakesSorted device (IsNext old) ⊤ (view_of old) (view_of new) count
