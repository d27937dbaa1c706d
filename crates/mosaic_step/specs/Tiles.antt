-- A tile of a mosaic, as the code holds it: its exits, and what they step onto. Nothing here is cited by a public promise.
-- Assumes nothing.
use Rattle.std.specs.Prelude.{◌≡◌, ℕ, ◌+◌, ◌<◌}
use Rattle.mosaic.specs.Join.{onto}
use Rattle.mosaic_read.specs.BorderRecord.{record_way}
use Rattle.mosaic_read.specs.Records.{heights, widths}
use Rattle.mosaic_read.specs.Said.{said_code}
use Rattle.mosaic_step.specs.declared.tiles.MosaicTile.{MosaicTile}

-- its border cell b is an exit: its way is itself
pub record IsExit (m : MosaicTile) (b : ℕ) : Type 0 where
  pub border : b < m.border.borders
  pub itself : record_way m.border b ≡ b

-- the border cell that it steps onto, or the number of all border cells where it steps off the mosaic
abbrev pub sought_by : MosaicTile → ℕ → ℕ
sought_by m b =
    let mosaic = m.tiles.mosaic in
    let bytes = mosaic.records.now in
    onto mosaic.tile_rows mosaic.tile_cols (heights bytes mosaic.tile_cols) (widths bytes) (said_code bytes mosaic.tile_rows mosaic.tile_cols) (m.first + b)
