-- A table of the records of a mosaic, two numbers to a tile: the byte at which its record begins, and the number of its first border cell. Nothing here is cited
-- by a public promise.
-- Assumes nothing.
use Rattle.std.specs.Prelude.{List, ◌≡◌, ℕ, ◌+◌, ◌*◌, ◌<◌, length}
use Rattle.sheet.specs.Sheet.{count_at}
use Rattle.mosaic.specs.Layout.{borders_before}
use Rattle.mosaic_read.specs.Records.{start_of, heights, widths, RecordOk}
use Rattle.mosaic_read.specs.Read.{MosaicShape}

-- the bytes are the well-formed records of an allowed mosaic, and nothing else
pub record WellFormed (I J : ℕ) (bytes : List ℕ) : Type 0 where
  pub shape : MosaicShape I J
  pub records : (t : ℕ) → t < I * J → RecordOk bytes J t
  pub ends : length bytes ≡ start_of bytes (I * J)

-- the two numbers of tile t
abbrev pub start_in : List ℕ → ℕ → ℕ
start_in table t = count_at table (2 * t)

abbrev pub first_in : List ℕ → ℕ → ℕ
first_in table t = count_at table (2 * t + 1)

-- they stand in the table for each of the first k tiles
pub record Filled (J : ℕ) (bytes table : List ℕ) (k : ℕ) : Type 0 where
  pub long : length table ≡ 128
  pub starts : (t : ℕ) → t < k → start_in table t ≡ start_of bytes t
  pub firsts : (t : ℕ) → t < k → first_in table t ≡ borders_before J (heights bytes J) (widths bytes) t

-- for every tile
abbrev pub Table : (I J : ℕ) → List ℕ → List ℕ → Type 0
Table I J bytes table = Filled J bytes table (I * J)
