-- The lengths of the buffers that a caller lends for a tile.
-- Assumes nothing.
use Rattle.std.specs.Prelude.{◌≡◌, ℕ, ◌*◌}
use Rattle.sheet.specs.Shape.{TileShape}

-- a tile's number of cells
abbrev pub cells : ℕ → ℕ → ℕ
cells rows cols = rows * cols

-- `told` is `n` where rows and cols are the sides of a tile, and 0 where they are not
pub record InTile (rows cols n told : ℕ) : Type 0 where
  pub fits : TileShape rows cols → told ≡ n
  pub outside : (TileShape rows cols → ⊥) → told ≡ 0
