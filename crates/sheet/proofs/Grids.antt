-- A grid as the code holds it, in the words for a sheet with its buffers.
-- Assumes nothing.
use mathlib.Core.List.{List}
use mathlib.Core.Path.{◌≡◌}
use Prim.Native.Nat.{ℕ, ◌*◌}
use lib.ListN.{length}
use Rattle.sheet.specs.Leaves.{Laid}
use Rattle.sheet.specs.declared.grid.Grid.{Grid}

-- a grid with a buffer of its length
pub grid_laid : (g : Grid) {counts : List ℕ} → length counts ≡ g.sheet.rows * g.sheet.cols → Laid g.sheet.rows g.sheet.cols g.codes.now counts
grid_laid g e = record { rows_fit = g.sheet.bounds.rows_most; cols_fit = g.sheet.bounds.cols_most; grid_long = g.long; counts_long = e }
