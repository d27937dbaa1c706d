-- What the leaves ask of their callers; last, what they promise each other and the crates that call them.
-- Assumes nothing.
use Rattle.std.specs.Prelude.{Bool, not, Option, Some, None, List, ◌≡◌, ℕ, ◌+◌, ◌*◌, ◌<◌, ◌≤◌, leb, ℤ, pos, negsuc, length}
use Rattle.sheet.specs.Compass.{is_code}
use Rattle.sheet.specs.Shape.{Within}
use Rattle.sheet.specs.Sheet.{code_at}
use Rattle.sheet.specs.declared.shape.Shape.{Shape}
use Rattle.sheet.specs.declared.step.Spot.{Spot}

-- what making a shape answers: the shape, or that it lies outside the bounds
abbrev pub Makes : (most rows cols : ℕ) → Option (Shape most) → Type 0
Makes most rows cols (Some s) = Within most rows cols × (s.rows ≡ rows) × (s.cols ≡ cols)
Makes most rows cols None = Within most rows cols → ⊥

-- p is a place of a sheet of an allowed size
pub record Place (rows cols p : ℕ) : Type 0 where
  pub rows_fit : rows ≤ 4096
  pub cols_fit : cols ≤ 4096
  pub below : p < rows * cols

-- r and c are a row and a column of a sheet of an allowed size
pub record Cell (rows cols r c : ℕ) : Type 0 where
  pub rows_fit : rows ≤ 4096
  pub cols_fit : cols ≤ 4096
  pub row_in : r < rows
  pub col_in : c < cols

-- a row and a column of a sheet, and their place
abbrev pub OnSheet : Shape 4096 → Spot → Type 0
OnSheet s at = Cell s.rows s.cols at.row at.col

abbrev pub spot_place : Shape 4096 → Spot → ℕ
spot_place s at = at.row * s.cols + at.col

-- a spot is that of place q, and there is none where q is no place
pub record SpotIs (rows cols : ℕ) (s : Spot) (q : ℕ) : Type 0 where
  pub place_is : s.row * cols + s.col ≡ q
  pub row_in : s.row < rows
  pub col_in : s.col < cols

abbrev pub SpotOf : (rows cols : ℕ) → Option Spot → ℕ → Type 0
SpotOf rows cols (Some s) q = SpotIs rows cols s q
SpotOf rows cols None q = q ≡ rows * cols

-- a sheet of an allowed size, with buffers of its length
pub record Laid (rows cols : ℕ) (grid counts : List ℕ) : Type 0 where
  pub rows_fit : rows ≤ 4096
  pub cols_fit : cols ≤ 4096
  pub grid_long : length grid ≡ rows * cols
  pub counts_long : length counts ≡ rows * cols

-- ---- among the leaves

-- a step's number is -1, 0 or 1
abbrev pub small : ℤ → Bool
small (pos n) = leb n 1
small (negsuc n) = leb n 0

-- one more than such a number
abbrev pub lift : ℤ → ℕ
lift (pos n) = n + 1
lift (negsuc n) = 0

-- place p holds a bad code
unfoldable pub bad_at : List ℕ → ℕ → Bool
bad_at g p = not (is_code (code_at g p))
