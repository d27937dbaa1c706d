-- `tile::border::border_cells` meets its contract: one column, one row, and all other tiles.
-- Assumes nothing.
use native.Mathlib.Omega.{arith}
use Rattle.tile.proofs.Cells.{cells_thin, cells_flat, cells_round}
use Rattle.tile.proofs.border.border_cells.Goals as goal

pub returns-then-cols-eq1 : goal.returns-then-cols-eq1
returns-then-cols-eq1 c = let a = c.args in omega (arith, cells_thin a.tile.rows a.tile.cols (omega arith))

pub returns-then-rows-eq1 : goal.returns-then-rows-eq1
returns-then-rows-eq1 c = let a = c.args in omega (arith, cells_flat a.tile.rows a.tile.cols (omega arith))

pub returns : goal.returns
returns c = let a = c.args in omega (arith, cells_round a.tile.rows a.tile.cols (omega arith) (omega arith))
