-- The way of a cell of a tile: where its water leaves the tile, if it does. A tile is a sheet by itself, so arrows over its edge end there.
-- Assumes nothing.
use Rattle.std.specs.Prelude.{Bool, cond, not, ◌&&◌, List, ℕ, ◌*◌, ltb}
use Rattle.flow.specs.Path.{last}
use Rattle.sheet.specs.Compass.{step_of}
use Rattle.sheet.specs.Sheet.{code_at, land_at, step_from, dest_of}
use Rattle.tile.specs.Border.{border_number}

-- p is land, and its arrow crosses the tile's edge
unfoldable pub crosses : (rows cols : ℕ) → List ℕ → ℕ → Bool
crosses rows cols g p = land_at g p && not (ltb (step_from rows cols (step_of (code_at g p)) p) (rows * cols))

-- the last cell of p's path inside the tile
unfoldable pub last_cell : (rows cols : ℕ) → List ℕ → ℕ → ℕ
last_cell rows cols g p = last (rows * cols) (dest_of rows cols g) p

-- a way as a record holds it: a border number and a code
pub record Way : Type 0 where
  pub number : ℕ
  pub code : ℕ

-- the way of an absent cell
abbrev pub no_way : Way
no_way = record { number = 65535; code = 255 }

-- the way of a cell whose water ends inside
abbrev pub ends_inside : Way
ends_inside = record { number = 65535; code = 0 }

-- the way over the edge at place e: its border number and its code
abbrev pub over : (rows cols : ℕ) → List ℕ → ℕ → Way
over rows cols g e = record { number = border_number rows cols e; code = code_at g e }

-- the way of p
unfoldable pub way_at : (rows cols : ℕ) → List ℕ → ℕ → Way
way_at rows cols g p = cond (land_at g p) (cond (crosses rows cols g (last_cell rows cols g p)) (over rows cols g (last_cell rows cols g p)) ends_inside) no_way
