-- How far reading the records of a mosaic has come: what reading the next record answers, and what is past it. Nothing here is
-- cited by a public promise.
-- Assumes nothing.
use Rattle.std.specs.Prelude.{Result, Ok, Err, ◌≡◌, ◌+◌}
use Rattle.mosaic_read.specs.BorderRecord.{IsAt}
use Rattle.mosaic_read.specs.Method.{FirstFault}
use Rattle.mosaic_read.specs.Records.{RecordOk}
use Rattle.mosaic_read.specs.declared.ReadError.{ReadError}
use Rattle.mosaic_read.specs.declared.reading.Reading.{Reading}
use Rattle.mosaic_read.specs.declared.record.BorderRecord.{BorderRecord}

-- the record, which is well formed, or its first fault
abbrev pub ReadsRecord : Reading → Result BorderRecord ReadError → Type 0
ReadsRecord s (Ok r) = RecordOk s.records.now s.tile_cols s.t × IsAt s.records.now s.start r
ReadsRecord s (Err e) = FirstFault s.records.now s.tile_cols s.t e

-- the same mosaic, one record on
pub record NextRecord (s n : Reading) : Type 0 where
  pub records_are : n.records.now ≡ s.records.now
  pub tile_cols_are : n.tile_cols ≡ s.tile_cols
  pub t_is : n.t ≡ s.t + 1
