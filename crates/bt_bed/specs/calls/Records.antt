-- What a reader of records holds, and what its calls do.
use Rattle.std.specs.Prelude.{◌≡◌, ℕ, Bool, IsTrue, List, Option, Result, IfSome}
use Rattle.bt_lines.specs.declared.device.Source.{Ghosts as Source}
use Rattle.bt_lines.specs.model.Fault.{FaultValue}
use Rattle.bt_lines.specs.declared.fault.Fault.{Fault}
use Rattle.bt_lines.specs.declared.reader.line_reader.LineReader.{LineReader}
use Rattle.bt_bed.specs.calls.SortedReader.{FillsSorted, IsTaken as IsTakenIn, Lends as LendsFrom, PeeksSorted, TakesSorted, count_in as count_from, view_in}
use Rattle.bt_bed.specs.model.Feature.{Feature}
use Rattle.bt_bed.specs.model.Good.{locus_at}
use Rattle.bt_bed.specs.model.Order.{Order}
use Rattle.bt_bed.specs.model.Sorted.{Locus, sorting_of}
use Rattle.bt_bed.specs.calls.Orders.{IsUpTo}
use Rattle.bt_bed.specs.calls.Reading.{MemberReader, room as room_in}
use Rattle.bt_bed.specs.declared.read.batch.Batch.{Batch}
use Rattle.bt_bed.specs.declared.read.batch.Consumed.{Consumed}
use Rattle.bt_bed.specs.declared.record.bed.BedRef.{BedRef}
use Rattle.bt_bed.specs.declared.order.ChromOrder.{Ghosts}
use Rattle.bt_bed.specs.declared.read.records.Records.{Records}

module _ {S O : Type 0} {g : Ghosts O} where
  -- the order of the chromosomes
  unfoldable pub order_in : Records S O g → Order
  order_in records = g.order records.sorted.lookahead.rule.order.now

  -- what it holds, as a reader of members
  unfoldable pub view_of : Records S O g → MemberReader S Feature (Option Locus)
  view_of records = view_in
      (sorting_of (g.order records.sorted.lookahead.rule.order.now)) records.sorted

  -- the reader of lines below
  abbrev pub below : Records S O g → LineReader S
  below records = (view_of records).below

  -- where the record that was consumed last started, if there was one
  abbrev pub last_locus : Records S O g → Option Locus
  last_locus records = (view_of records).state

  -- the records that are buffered
  abbrev pub buffered_in : Records S O g → List Feature
  buffered_in records = (view_of records).buffered

  -- the fault that is kept
  abbrev pub fault_kept : Records S O g → Option FaultValue
  fault_kept records = (view_of records).fault

  -- how many bytes may still come: it never rises, and falls with each record taken
  abbrev pub room : Records S O g → ℕ
  room records = room_in (view_of records)

  -- the record comes next: its chromosome is known, and its place isn't below that of the record before it
  abbrev pub IsNext : Records S O g → Feature → Type 0
  IsNext records r = IsTrue ((order_in records).knows r.chrom)
      × IfSome (last_locus records) (λ last. IsUpTo (order_in records) last (locus_at r))

  -- a call of `fill`
  abbrev pub FillsRecords : Source S → Records S O g → Result Bool Fault → Records S O g → Type 0
  FillsRecords device old answer new =
      FillsSorted device (IsNext old) (order_in new ≡ order_in old) (view_of old) (view_of new) answer

  -- a call of `peek`
  abbrev pub PeeksRecord : Source S → Records S O g → Result (Option BedRef) Fault → Records S O g
      → Type 0
  PeeksRecord device old answer new =
      PeeksSorted device (IsNext old) (order_in new ≡ order_in old) (view_of old) (view_of new) answer

  -- the batch has the records that are buffered
  abbrev pub Lends : Records S O g → Batch → Type 0
  Lends records batch = LendsFrom records.sorted batch

  -- how many of them were consumed
  abbrev pub count_in : Records S O g → Consumed → ℕ
  count_in records consumed = count_from records.sorted consumed

  -- what was consumed of the batch
  abbrev pub IsTaken : Records S O g → Consumed → Type 0
  IsTaken records consumed = IsTakenIn records.sorted consumed

  -- a call of `consume`, or of `advance`, which takes one
  abbrev pub TakesRecords : Source S → Records S O g → ℕ → Records S O g → Type 0
  TakesRecords device old count new =
      TakesSorted device (IsNext old) (order_in new ≡ order_in old) (view_of old) (view_of new) count
