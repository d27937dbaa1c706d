-- A border record whose sides are a tile's, as the code holds it: what reading one answers, and its fields in the words of Records. Nothing here is
-- cited by a public promise.
-- Assumes nothing.
use Rattle.std.specs.Prelude.{Option, Some, None, List, ◌≡◌, ℕ, ◌≤◌, length}
use Rattle.mosaic_read.specs.Records.{cell_count, cell_way, cell_code, end_at, SidesOk, CountsOk, WayOk, WaysOk}
use Rattle.mosaic_read.specs.declared.record.BorderRecord.{BorderRecord}

-- it is read at byte o of these bytes
pub record IsAt (bytes : List ℕ) (o : ℕ) (r : BorderRecord) : Type 0 where
  pub bytes_are : r.bytes.now ≡ bytes
  pub start_is : r.start ≡ o

-- what reading field 1 answers: the record, or that the field is not well formed
abbrev pub ReadsSides : (bytes : List ℕ) (o : ℕ) → Option BorderRecord → Type 0
ReadsSides bytes o (Some r) = SidesOk bytes o × IsAt bytes o r
ReadsSides bytes o None = SidesOk bytes o → ⊥

-- the byte after it; the bytes go on to there
abbrev pub record_end : BorderRecord → ℕ
record_end r = end_at r.start r.borders

abbrev pub Inside : BorderRecord → Type 0
Inside r = record_end r ≤ length r.bytes.now

-- the count of border cell b, and the border number and the code of its way
abbrev pub record_count : BorderRecord → ℕ → ℕ
record_count r b = cell_count r.bytes.now r.start b

abbrev pub record_way : BorderRecord → ℕ → ℕ
record_way r b = cell_way r.bytes.now r.start r.borders b

abbrev pub record_code : BorderRecord → ℕ → ℕ
record_code r b = cell_code r.bytes.now r.start r.borders b

-- its parts
abbrev pub RecordCountsOk : BorderRecord → Type 0
RecordCountsOk r = CountsOk r.bytes.now r.start r.tile.rows r.tile.cols r.borders

abbrev pub RecordWayOk : BorderRecord → ℕ → Type 0
RecordWayOk r b = WayOk r.bytes.now r.start r.tile.rows r.tile.cols r.borders b

abbrev pub RecordWaysOk : BorderRecord → Type 0
RecordWaysOk r = WaysOk r.bytes.now r.start r.tile.rows r.tile.cols r.borders
