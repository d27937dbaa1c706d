-- The sheets, tiles and mosaics that the demands speak of: those for which no refusal before 4 applies.
-- Assumes nothing.
use Rattle.std.specs.Prelude.{List, ◌≡◌, ℕ, ◌*◌, ◌/◌, ◌%◌, ◌<◌, length}
use Rattle.flow.specs.Net.{OnLoop}
use Rattle.mosaic_join.specs.Joining.{JoinLengths, Work}
use Rattle.mosaic_read.specs.Said.{borders, feeds_by}
use Rattle.mosaic_read.specs.Read.{MosaicShape}
use Rattle.mosaic_read.specs.Records.{PartOk, start_of}
use Rattle.sheet.specs.Shape.{SheetShape, TileShape}
use Rattle.sheet.specs.Sheet.{CodeOk, SheetLengths, SheetOnLoop}
use Rattle.tile.specs.Border.{border_cells}
use Rattle.tile_finish.specs.Finish.{FinishLengths, IncomingOk}
use Rattle.tile_record.specs.Record.{RecordLengths, TilePosition}

-- a sheet of permitted size and codes, with buffers of the stated lengths
pub record Permitted (rows cols : ℕ) (grid counts : List ℕ) : Type 0 where
  pub shape : SheetShape rows cols
  pub lengths : SheetLengths rows cols grid counts
  pub codes : (p : ℕ) → p < rows * cols → CodeOk grid p

-- the same of a tile whose record is to be written, at an allowed position
pub record PermittedRecord (rows cols tile_row tile_col : ℕ) (grid bytes work1 work2 : List ℕ) : Type 0 where
  pub shape : TileShape rows cols
  pub position : TilePosition tile_row tile_col
  pub lengths : RecordLengths rows cols grid bytes work1 work2
  pub codes : (p : ℕ) → p < rows * cols → CodeOk grid p

-- of a tile that is to be finished, with incoming that can be taken
pub record PermittedFinish (rows cols : ℕ) (grid incoming counts work : List ℕ) : Type 0 where
  pub shape : TileShape rows cols
  pub lengths : FinishLengths rows cols grid incoming counts work
  pub codes : (p : ℕ) → p < rows * cols → CodeOk grid p
  pub incoming_ok : (b : ℕ) → b < border_cells rows cols → IncomingOk rows cols grid incoming b

-- the records of a mosaic are well formed: each of the four parts of each is
abbrev pub RecordsWellFormed : (I J : ℕ) → List ℕ → Type 0
RecordsWellFormed I J bytes = (m : ℕ) → m < 4 * (I * J) → PartOk bytes J (m / 4) (m % 4)

-- and of a mosaic whose records are to be joined: they are well formed, and nothing follows the last
pub record PermittedJoin (I J : ℕ) (bytes incoming : List ℕ) (work : Work) : Type 0 where
  pub shape : MosaicShape I J
  pub parts : RecordsWellFormed I J bytes
  pub end : length bytes ≡ start_of bytes (I * J)
  pub lengths : JoinLengths I J bytes incoming work

-- the arrows of a sheet or a tile form a loop
abbrev pub ArrowsFormLoop : (rows cols : ℕ) → List ℕ → Type 0
ArrowsFormLoop rows cols grid = (p : ℕ) × SheetOnLoop rows cols grid p

-- exits feed each other round
abbrev pub ExitsFormLoop : (I J : ℕ) → List ℕ → Type 0
ExitsFormLoop I J bytes = (g : ℕ) × OnLoop (borders I J bytes) (feeds_by I J bytes) g
