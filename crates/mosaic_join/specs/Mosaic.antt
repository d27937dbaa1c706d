-- Joining the records of a mosaic, as the code holds it. Nothing here is cited by a public promise.
-- Assumes nothing.
use Rattle.std.specs.Prelude.{List, ℕ}
use Rattle.mosaic_read.specs.Said.{record_of}
use Rattle.mosaic_step.specs.declared.records.Mosaic.{Mosaic}
use Rattle.mosaic_join.specs.Joining.{Work, JoinOutcome, JoinLengths, JoinExits, cleared}

-- the buffers have the lengths that its border cells ask for
abbrev pub LengthsFit : Mosaic → List ℕ → Work → Type 0
LengthsFit m = JoinLengths m.tile_rows m.tile_cols m.records.now

-- its exits are joined, or feed each other round
abbrev pub ExitsJoined : Mosaic → JoinOutcome → Type 0
ExitsJoined m = JoinExits m.tile_rows m.tile_cols m.records.now

-- its work buffers, cleared
abbrev pub work_cleared : Mosaic → Work
work_cleared m = cleared m.tile_rows m.tile_cols m.records.now

-- the tile of border cell g
abbrev pub tile_in : Mosaic → ℕ → ℕ
tile_in m g = record_of m.records.now m.tile_rows m.tile_cols g
