-- The records that a batch has left.
use Rattle.std.specs.Prelude.{◌≡◌, ℕ, List, [], ◌∷◌, ◌++◌, drop, length, take}
use Rattle.bt_lines.specs.calls.Reader.{IsWhere as IsLineWhere, PassesLines, lines_in, rest_in}
use Rattle.bt_lines.specs.calls.Line.{Cut, Shown}
use Rattle.bt_lines.specs.declared.reader.buffered_lines.BufferedLines.{BufferedLines}
use Rattle.bt_bed.specs.model.Feature.{Feature}
use Rattle.bt_bed.specs.calls.Bed.{raw_in, record_in, text_in, is_some_left, last_start, run_of}
use Rattle.bt_bed.specs.declared.read.batch.Batch.{Batch}
use Rattle.bt_bed.specs.declared.read.batch.Consumed.{Consumed}
use Rattle.bt_bed.specs.declared.record.raw_record.RawRecord.{RawRecord}

-- the lines that are left
unfoldable pub cursor_in : Batch → BufferedLines
cursor_in batch = batch.lines

-- the chromosome of the records
unfoldable pub chrom_in : Batch → List ℕ
chrom_in batch = batch.name.now

-- from where on they start
unfoldable pub start_in : Batch → ℕ
start_in batch = batch.start

-- the line of the record that was consumed last
unfoldable pub line_in : Batch → ℕ
line_in batch = batch.lines.lines

-- the bytes of the lines that were consumed
unfoldable pub consumed_in : Batch → List ℕ
consumed_in batch = take batch.lines.at batch.lines.all.now

-- the records that are left
unfoldable pub left : Batch → List Feature
left batch = run_of batch.name.now batch.start (lines_in batch.lines)

-- those after the next one, which starts here
unfoldable pub left_after : Batch → ℕ → List Feature
left_after batch start = run_of batch.name.now start (drop 1 (lines_in batch.lines))

-- the record comes next
pub record StandsFirst (batch : Batch) (r : RawRecord) : Type 0 where
  pub left_is : left batch ≡ record_in r ∷ left_after batch (record_in r).start
  pub line : Shown
  pub cut : Cut (rest_in (cursor_in batch)) line
  pub text_is : text_in r ≡ line.text
  pub size_is : line.size ≡ length (raw_in r)
  pub bytes_are : take line.size (rest_in (cursor_in batch)) ≡ raw_in r

-- the records were given, one after another, and are consumed
pub record Passes (old : Batch) (records : List Feature) (new : Batch) : Type 0 where
  pub left_is : left old ≡ records ++ left new
  pub lines : PassesLines (cursor_in old) (length records) (cursor_in new)
  pub start : start_in new ≡ last_start (start_in old) records
  pub chrom : chrom_in new ≡ chrom_in old

-- none is left
pub record HasEnded (batch : Batch) : Type 0 where
  pub none : left batch ≡ []

-- how many are left
abbrev pub batch_room : Batch → ℕ
batch_room batch = length (left batch)

-- what was consumed up to here
pub record IsWhere (batch : Batch) (consumed : Consumed) : Type 0 where
  pub lines : IsLineWhere (cursor_in batch) consumed.lines
  pub start : consumed.start ≡ start_in batch
  pub ahead : consumed.is_ahead ≡ is_some_left (left batch)
