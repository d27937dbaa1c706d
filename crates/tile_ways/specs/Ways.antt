-- What the functions that find and write the ways of a tile promise each other and the crate that calls them. Nothing here is cited by a public promise.
-- Assumes nothing.
use Rattle.std.specs.Prelude.{cond, List, ◌≡◌, ℕ, ◌+◌, ◌*◌, ◌<◌, length}
use Rattle.sheet.specs.Shape.{TileShape}
use Rattle.sheet.specs.Sheet.{count_at, SheetNoLoop}
use Rattle.sheet.specs.declared.grid.Grid.{Grid}
use Rattle.tile.specs.Border.{border_cells}
use Rattle.tile.specs.Way.{Way, crosses, last_cell, ends_inside, over, way_at}
use Rattle.tile_bytes.specs.Bytes.{border_way}

-- a tile without loops
pub record FreeTile (rows cols : ℕ) (grid : List ℕ) : Type 0 where
  pub shape : TileShape rows cols
  pub grid_long : length grid ≡ rows * cols
  pub free : SheetNoLoop rows cols grid

-- the last cells that are known: a cell holds 0 where its path's last cell is not known yet, and else one more than that cell's place
pub record Known (rows cols : ℕ) (grid known : List ℕ) : Type 0 where
  pub long : length known ≡ rows * cols
  pub right : (p : ℕ) → p < rows * cols → (count_at known p ≡ 0 → ⊥) → count_at known p ≡ last_cell rows cols grid p + 1

-- the way of a path whose last cell is e: over the edge there, or it ends inside
unfoldable pub end_way : (rows cols : ℕ) → List ℕ → ℕ → Way
end_way rows cols grid e = cond (crosses rows cols grid e) (over rows cols grid e) ends_inside

-- ---- the same of a tile with its codes

abbrev pub last_in : Grid → ℕ → ℕ
last_in g p = last_cell g.sheet.rows g.sheet.cols g.codes.now p

abbrev pub end_way_in : Grid → ℕ → Way
end_way_in g e = end_way g.sheet.rows g.sheet.cols g.codes.now e

abbrev pub way_in : Grid → ℕ → Way
way_in g p = way_at g.sheet.rows g.sheet.cols g.codes.now p

abbrev pub borders_in : Grid → ℕ
borders_in g = border_cells g.sheet.rows g.sheet.cols

abbrev pub border_way_in : Grid → ℕ → Way
border_way_in g b = border_way g.sheet.rows g.sheet.cols g.codes.now b
