-- A mosaic, as the code holds it: its border cells, and its table. Nothing here is cited by a public promise.
-- Assumes nothing.
use Rattle.std.specs.Prelude.{List, ℕ}
use Rattle.mosaic_read.specs.Said.{borders}
use Rattle.mosaic_step.specs.Table.{Table}
use Rattle.mosaic_step.specs.declared.records.Mosaic.{Mosaic}

-- how many border cells it has
abbrev pub all_in : Mosaic → ℕ
all_in m = borders m.tile_rows m.tile_cols m.records.now

-- its table is filled
abbrev pub TableOf : Mosaic → List ℕ → Type 0
TableOf m table = Table m.tile_rows m.tile_cols m.records.now table
