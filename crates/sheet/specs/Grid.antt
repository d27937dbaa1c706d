-- A sheet with its codes, as the code holds it: its cells, the place of a row and a column, and its net.
-- Assumes nothing.
use Rattle.std.specs.Prelude.{Bool, List, length, Option, Some, None, ◌≡◌, ℕ, ◌*◌, ◌<◌}
use Rattle.sheet.specs.Leaves.{OnSheet, spot_place}
use Rattle.sheet.specs.Sheet.{land_at, dest_of}
use Rattle.sheet.specs.declared.grid.Grid.{Grid}
use Rattle.sheet.specs.declared.shape.Shape.{Shape}
use Rattle.sheet.specs.declared.step.Spot.{Spot}

-- what making a grid answers: the grid, or that there are not as many codes as the sheet has cells
abbrev pub MakesGrid : Shape 4096 → List ℕ → Option Grid → Type 0
MakesGrid sheet codes (Some g) = (g.sheet ≡ sheet) × (g.codes.now ≡ codes)
MakesGrid sheet codes None = length codes ≡ sheet.rows * sheet.cols → ⊥

-- how many cells it has
abbrev pub cells_in : Grid → ℕ
cells_in g = g.sheet.rows * g.sheet.cols

-- a row and a column of it, and their place
abbrev pub OnGrid : Grid → Spot → Type 0
OnGrid g at = OnSheet g.sheet at

abbrev pub place_in : Grid → Spot → ℕ
place_in g at = spot_place g.sheet at

-- place p is land
abbrev pub land_in : Grid → ℕ → Bool
land_in g p = land_at g.codes.now p

-- where the water of place p goes
abbrev pub dest_in : Grid → ℕ → ℕ
dest_in g p = dest_of g.sheet.rows g.sheet.cols g.codes.now p

-- water that goes to d goes to a cell of n, or to none
abbrev pub LeadsTo : (n d : ℕ) → Option ℕ → Type 0
LeadsTo n d (Some q) = (q ≡ d) × (q < n)
LeadsTo n d None = d ≡ n
