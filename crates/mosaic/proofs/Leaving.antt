-- An arrow that steps outside its tile lands in no cell of that tile, wherever it lands on the sheet.
-- Assumes nothing.
use mathlib.Core.Path.{◌≡◌, sym, ap, ◌∙◌}
use mathlib.Core.Bool.{true}
use Prim.Native.Nat.{ℕ, ◌+◌, ◌-◌, ◌*◌, ◌/◌, ◌%◌, ◌<◌}
use native.Mathlib.Omega.{arith}
use Rattle.sheet.specs.Compass.{is_arrow, step_of}
use Rattle.sheet.specs.Sheet.{step_from}
use Rattle.sheet.proofs.Places.{row_of, col_of}
use Rattle.mosaic.specs.Layout.{sheet_rows, sheet_cols, height_of, width_of, cells_in, sheet_place}
use Rattle.mosaic.proofs.Grid.{tile_row, tile_col, tile_below}
use Rattle.mosaic.proofs.Pieces.{row_in, col_in}
use Rattle.mosaic.proofs.Steps.{down, right, Inside, place_inside, place_says, place_lands}

-- cells x and y of tile t, and an arrow that steps from x onto y on the sheet
module _ (I J : ℕ) (hs ws : ℕ → ℕ) (a : ℕ) (arrow : is_arrow a ≡ true) (t x y : ℕ) (lt : t < I * J) (lx : x < cells_in J hs ws t) (ly : y < cells_in J hs ws t)
    (steps : step_from (sheet_rows I hs) (sheet_cols J ws) (step_of a) (sheet_place I J hs ws t x) ≡ sheet_place I J hs ws t y) where
  on_sheet : Inside (sheet_rows I hs) (sheet_cols J ws) (sheet_place I J hs ws t x / sheet_cols J ws) (sheet_place I J hs ws t x % sheet_cols J ws) (down a) (right a)
  on_sheet = place_says a arrow (sheet_rows I hs) (sheet_cols J ws) (sheet_place I J hs ws t x) (tile_below I J hs ws t x lt lx) (omega (arith, steps, tile_below I J hs ws t y lt ly))

  lands : sheet_place I J hs ws t y ≡ (sheet_place I J hs ws t x / sheet_cols J ws + down a - 1) * sheet_cols J ws + (sheet_place I J hs ws t x % sheet_cols J ws + right a - 1)
  lands = sym steps ∙ place_inside a arrow (sheet_rows I hs) (sheet_cols J ws) (sheet_place I J hs ws t x) (tile_below I J hs ws t x lt lx) on_sheet

  col_small : sheet_place I J hs ws t x % sheet_cols J ws + right a - 1 < sheet_cols J ws
  col_small = omega (arith, on_sheet.west, on_sheet.east)

  -- it stays in the tile: its row and its column there are those of y
  row_there : x / width_of J ws t + down a ≡ y / width_of J ws t + 1
  row_there =
      let r : sheet_place I J hs ws t y / sheet_cols J ws ≡ sheet_place I J hs ws t x / sheet_cols J ws + down a - 1
      = ap (λ (p : ℕ). p / sheet_cols J ws) lands ∙ row_of (sheet_cols J ws) _ _ col_small in
      omega (arith, r, tile_row I J hs ws t x lt lx, tile_row I J hs ws t y lt ly, on_sheet.north)

  col_there : x % width_of J ws t + right a ≡ y % width_of J ws t + 1
  col_there =
      let c : sheet_place I J hs ws t y % sheet_cols J ws ≡ sheet_place I J hs ws t x % sheet_cols J ws + right a - 1
      = ap (λ (p : ℕ). p % sheet_cols J ws) lands ∙ col_of (sheet_cols J ws) _ _ col_small in
      omega (arith, c, tile_col I J hs ws t x lt lx, tile_col I J hs ws t y lt ly, on_sheet.west)

  -- so it does not leave it
  pub stays : step_from (height_of J hs t) (width_of J ws t) (step_of a) x < cells_in J hs ws t
  stays = place_lands a arrow (height_of J hs t) (width_of J ws t) x lx (record {
    north = omega (arith, row_there);
    south = omega (arith, row_there, row_in (height_of J hs t) (width_of J ws t) y ly);
    west = omega (arith, col_there);
    east = omega (arith, col_there, col_in (height_of J hs t) (width_of J ws t) y ly);
  })
