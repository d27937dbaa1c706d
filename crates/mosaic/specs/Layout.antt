-- A mosaic: a sheet cut by full rows and columns into tiles, I tile rows of the heights hs 0, hs 1, .. and J tile columns of the widths ws 0, ws 1, ..
-- Tiles are numbered from 0, tile row by tile row; the border cells of all tiles are numbered in record order, tile by tile and in a tile by place.
-- Assumes nothing.
use Rattle.std.specs.Prelude.{cond, List, ◌≡◌, ℕ, zero, suc, ◌+◌, ◌-◌, ◌*◌, ◌/◌, ◌%◌, ◌<◌, ◌≤◌, ltb, length}
use Rattle.flow.specs.Net.{sum}
use Rattle.sheet.specs.Sheet.{code_at}
use Rattle.tile.specs.Border.{border_cells, border_number, border_place}

-- ---- the sheet and its tiles

-- the summed rows
abbrev pub sheet_rows : ℕ → (ℕ → ℕ) → ℕ
sheet_rows I hs = sum I hs

-- the summed columns
abbrev pub sheet_cols : ℕ → (ℕ → ℕ) → ℕ
sheet_cols J ws = sum J ws

-- the rows and the columns of tile t
abbrev pub height_of : ℕ → (ℕ → ℕ) → ℕ → ℕ
height_of J hs t = hs (t / J)

abbrev pub width_of : ℕ → (ℕ → ℕ) → ℕ → ℕ
width_of J ws t = ws (t % J)

-- its number of cells
abbrev pub cells_in : ℕ → (ℕ → ℕ) → (ℕ → ℕ) → ℕ → ℕ
cells_in J hs ws t = height_of J hs t * width_of J ws t

-- the place on the sheet of row r and column c of tile t: below the tile rows before its own, and beside the tile columns before its own
abbrev pub spot_at : ℕ → (ℕ → ℕ) → (ℕ → ℕ) → ℕ → ℕ → ℕ → ℕ
spot_at J hs ws t r c = (sum (t / J) hs + r) * sheet_cols J ws + (sum (t % J) ws + c)

-- the place on the sheet of place x of tile t
unfoldable pub sheet_place : ℕ → ℕ → (ℕ → ℕ) → (ℕ → ℕ) → ℕ → ℕ → ℕ
sheet_place I J hs ws t x = spot_at J hs ws t (x / width_of J ws t) (x % width_of J ws t)

-- the tiles hold the sheet's codes
pub record Cut (I J : ℕ) (hs ws : ℕ → ℕ) (sheet : List ℕ) (tiles : ℕ → List ℕ) : Type 0 where
  pub sheet_long : length sheet ≡ sheet_rows I hs * sheet_cols J ws
  pub tile_long : (t : ℕ) → t < I * J → length (tiles t) ≡ cells_in J hs ws t
  pub codes : (t x : ℕ) → t < I * J → x < cells_in J hs ws t → code_at (tiles t) x ≡ code_at sheet (sheet_place I J hs ws t x)

-- an allowed mosaic: at least one tile row and one tile column, at most 64 tiles of allowed sides, summed rows and summed columns at most 4,096 each
pub record Fits (I J : ℕ) (hs ws : ℕ → ℕ) : Type 0 where
  pub some_row : 1 ≤ I
  pub some_col : 1 ≤ J
  pub tiles_most : I * J ≤ 64
  pub heights : (i : ℕ) → i < I → (1 ≤ hs i) × (hs i ≤ 256)
  pub widths : (j : ℕ) → j < J → (1 ≤ ws j) × (ws j ≤ 256)
  pub rows_most : sheet_rows I hs ≤ 4096
  pub cols_most : sheet_cols J ws ≤ 4096

-- ---- the border cells of all tiles

-- of a line in pieces of the lengths f 0, f 1, .., which of the first k pieces x lies in: the last that starts at x or before it (`piece_is` and `piece_unique`,
-- proofs/Pieces.antt)
unfoldable pub piece : (ℕ → ℕ) → ℕ → ℕ → ℕ
piece f zero x = 0
piece f (suc k) x = let r = piece f k x in cond (ltb x (sum k f)) r k

-- how many border cells tile t has
unfoldable pub borders_in : ℕ → (ℕ → ℕ) → (ℕ → ℕ) → ℕ → ℕ
borders_in J hs ws t = border_cells (height_of J hs t) (width_of J ws t)

-- how many border cells the tiles before tile t have: the number of tile t's first border cell
abbrev pub borders_before : ℕ → (ℕ → ℕ) → (ℕ → ℕ) → ℕ → ℕ
borders_before J hs ws t = sum t (borders_in J hs ws)

-- how many border cells the mosaic has
abbrev pub all_borders : ℕ → ℕ → (ℕ → ℕ) → (ℕ → ℕ) → ℕ
all_borders I J hs ws = borders_before J hs ws (I * J)

-- the tile of border cell g of the mosaic, and its number there
unfoldable pub border_tile : ℕ → ℕ → (ℕ → ℕ) → (ℕ → ℕ) → ℕ → ℕ
border_tile I J hs ws g = piece (borders_in J hs ws) (I * J) g

unfoldable pub number_in_tile : ℕ → ℕ → (ℕ → ℕ) → (ℕ → ℕ) → ℕ → ℕ
number_in_tile I J hs ws g = g - borders_before J hs ws (border_tile I J hs ws g)

-- the place of border cell b of tile t in its tile
abbrev pub place_in : ℕ → (ℕ → ℕ) → (ℕ → ℕ) → ℕ → ℕ → ℕ
place_in J hs ws t b = border_place (height_of J hs t) (width_of J ws t) b

-- the place on the sheet of border cell g of the mosaic
abbrev pub border_sheet_place : ℕ → ℕ → (ℕ → ℕ) → (ℕ → ℕ) → ℕ → ℕ
border_sheet_place I J hs ws g = sheet_place I J hs ws (border_tile I J hs ws g) (place_in J hs ws (border_tile I J hs ws g) (number_in_tile I J hs ws g))

-- the number in the mosaic of the border cell at place x of tile t
abbrev pub number_in_mosaic : ℕ → (ℕ → ℕ) → (ℕ → ℕ) → ℕ → ℕ → ℕ
number_in_mosaic J hs ws t x = borders_before J hs ws t + border_number (height_of J hs t) (width_of J ws t) x
