-- What a look-around answers; last, what the functions that make one promise each other.
-- Assumes nothing.
use Rattle.std.specs.Prelude.{Option, Some, None, List, ◌≡◌, ℕ, ◌+◌, ◌*◌, ◌/◌, ◌%◌, ◌<◌, ◌≤◌, eqb}
use Rattle.flow.specs.Net.{on, given}
use Rattle.sheet.specs.Compass.{step_at}
use Rattle.sheet.specs.Sheet.{code_at, count_at, step_from, dest_of}
use Rattle.sheet.specs.Grid.{cells_in}
use Rattle.sheet.specs.declared.grid.Grid.{Grid}

-- what a look-around at p finds: some giver has no count yet, or all have one, and their sum
abbrev pub LooksAround : ℕ → ℕ → List ℕ → List ℕ → ℕ → Option ℕ → Type 0
LooksAround rows cols g counts p None = (q : ℕ) × (q < rows * cols) × (dest_of rows cols g q ≡ p) × (count_at counts q ≡ 0)
LooksAround rows cols g counts p (Some s) =
    ((q : ℕ) → q < rows * cols → dest_of rows cols g q ≡ p → count_at counts q ≡ 0 → ⊥)
    × (s ≡ given (rows * cols) (dest_of rows cols g) (count_at counts) p)

-- ---- among its functions

-- p is a place that is not on the sheet's edge
pub record Inner (rows cols p : ℕ) : Type 0 where
  pub rows_fit : rows ≤ 4096
  pub cols_fit : cols ≤ 4096
  pub top : 1 ≤ p / cols
  pub bottom : p / cols + 1 < rows
  pub left : 1 ≤ p % cols
  pub right : p % cols + 1 < cols
  pub above : cols + 1 ≤ p
  pub below : p + cols + 1 < rows * cols

-- the number of the opposite step's line in the table
abbrev pub opposite : ℕ → ℕ
opposite j = (j + 4) % 8

-- the neighbour from which the step of line j leads to p
abbrev pub comes_from : ℕ → ℕ → ℕ → ℕ → ℕ
comes_from rows cols p j = step_from rows cols (step_at (opposite j)) p

-- what place q adds to a sum of w where it has the code x
abbrev pub adds : List ℕ → (ℕ → ℕ) → ℕ → ℕ → ℕ
adds g w q x = on (eqb (code_at g q) x) (w q)

-- what the neighbour from which the step of line j leads to p adds
unfoldable pub term : ℕ → ℕ → List ℕ → (ℕ → ℕ) → ℕ → ℕ → ℕ
term rows cols g w p j = adds g w (comes_from rows cols p j) (step_at j).0

-- the same in a grid
abbrev pub terms : Grid → (ℕ → ℕ) → ℕ → ℕ → ℕ
terms g w p j = term g.sheet.rows g.sheet.cols g.codes.now w p j

-- each cell of a grid is covered
abbrev pub Covers : Grid → (ℕ → Type 0) → Type 0
Covers g Covered = (q : ℕ) → q < cells_in g → Covered q
