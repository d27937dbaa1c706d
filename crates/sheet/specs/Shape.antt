-- The shapes of paper 01: a sheet has 1 to 4,096 rows and 1 to 4,096 columns, a tile 1 to 256 each.
-- Assumes nothing.
use Rattle.std.specs.Prelude.{Bool, ◌&&◌, ℕ, ◌≤◌, leb}

-- 1 to `most` rows and 1 to `most` columns
pub record Within (most rows cols : ℕ) : Type 0 where
  pub some_row : 1 ≤ rows
  pub rows_most : rows ≤ most
  pub some_col : 1 ≤ cols
  pub cols_most : cols ≤ most

abbrev pub SheetShape : ℕ → ℕ → Type 0
SheetShape rows cols = Within 4096 rows cols

abbrev pub TileShape : ℕ → ℕ → Type 0
TileShape rows cols = Within 256 rows cols

-- 1 ≤ n ≤ most
unfoldable pub within : ℕ → ℕ → Bool
within n most = leb 1 n && leb n most
