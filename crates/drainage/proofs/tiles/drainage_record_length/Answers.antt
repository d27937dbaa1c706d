-- `drainage::tiles::drainage_record_length` meets its contract: a tile has few border cells.
-- Assumes nothing.
use native.Mathlib.Omega.{arith}
use Rattle.tile.proofs.Cells.{cells_most}
use Rattle.drainage.proofs.tiles.drainage_record_length.Goals as goal

pub overflow_mul-result : goal.overflow_mul-result
overflow_mul-result c = omega (arith, c.border_cells.ensures, cells_most _ _ c.in-Some.tile.bounds)

pub overflow_add-result : goal.overflow_add-result
overflow_add-result c = omega (arith, c.border_cells.ensures, cells_most _ _ c.in-Some.tile.bounds)
