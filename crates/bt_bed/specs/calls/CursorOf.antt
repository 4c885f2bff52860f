-- The ghost members of each `impl Cursor` of this crate, as one record.
use Rattle.std.specs.Prelude.{[], length}
use Rattle.bt_bed.specs.calls.Batch.{HasEnded, Passes, batch_room, chrom_in, consumed_in, line_in}
use Rattle.bt_bed.specs.calls.Bed.{GivesSingle, HasNone, single_left, single_line, single_name}
use Rattle.bt_bed.specs.declared.read.batch.Batch.{Batch}
use Rattle.bt_bed.specs.declared.read.cursor.Cursor.{Ghosts as Cursor}
use Rattle.bt_bed.specs.declared.read.cursor.Single.{Single}
use Rattle.bt_bed.specs.declared.record.bed.BedRef.{BedRef}
use Rattle.bt_bed.specs.declared.record.raw_record.RawRecord.{RawRecord}

-- the records that a reader has buffered
abbrev pub batch_cursor : Cursor Batch RawRecord
batch_cursor = record {
  name = chrom_in;
  gives = Passes;
  has_ended = HasEnded;
  room = batch_room;
  line = line_in;
  consumed = consumed_in;
}

-- one record, or none
abbrev pub single_cursor : Cursor Single BedRef
single_cursor = record {
  name = single_name;
  gives = GivesSingle;
  has_ended = HasNone;
  room = λ one. length (single_left one);
  line = single_line;
  consumed = λ one. [];
}
