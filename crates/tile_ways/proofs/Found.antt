-- The way that is found for a cell, for each way through the code.
-- Assumes nothing.
use mathlib.Core.Bool.{true, false}
use mathlib.Core.List.{List}
use mathlib.Core.Path.{◌≡◌, sym, ap, ◌∙◌}
use Prim.Native.Nat.{ℕ, ◌+◌, ◌*◌, ◌<◌}
use native.Mathlib.Omega.{arith}
use lib.ListN.{length, get_or}
use Rattle.sheet.specs.Compass.{is_arrow, step_of}
use Rattle.sheet.specs.Leaves.{Cell, SpotIs}
use Rattle.sheet.specs.declared.step.Spot.{Spot}
use Rattle.sheet.specs.Shape.{TileShape}
use Rattle.sheet.specs.Sheet.{code_at, land_at, step_from}
use Rattle.sheet.proofs.Dest.{code_read, land_read}
use Rattle.sheet.proofs.Places.{place_lt}
use Rattle.sheet.proofs.Spots.{cell_below}
use Rattle.tile.specs.Border.{on_border, edge_at, border_number}
use Rattle.tile.specs.Way.{last_cell, crosses, way_at, no_way, ends_inside}
use Rattle.tile.proofs.Borders.{number_below}
use Rattle.tile.proofs.Cells.{cells_most}
use Rattle.tile.proofs.Edge.{border_at}
use Rattle.tile.proofs.Ways.{crosses_border, steps_out, steps_in, way_absent}
use Rattle.tile_ways.specs.Ways.{end_way}

module _ (rows cols : ℕ) (g : List ℕ) where
  -- a land cell's way is told by the last cell of its path
  pub way_land : (p : ℕ) → land_at g p ≡ true → way_at rows cols g p ≡ end_way rows cols g (last_cell rows cols g p)
  unfolding way_at end_way
  way_land p a = rw a

  -- the cell at row r and column c, as it is read
  module _ (r c : ℕ) (cell : Cell rows cols r c) (long : length g ≡ rows * cols) where
    there : r * cols + c < length g
    there = omega (arith, cell_below cell)

    pub land_there : land_at g (r * cols + c) ≡ is_arrow (get_or g (r * cols + c) 0)
    land_there = sym (land_read g (r * cols + c) there)

    pub found_absent : is_arrow (get_or g (r * cols + c) 0) ≡ false → no_way ≡ way_at rows cols g (r * cols + c)
    found_absent e = sym (way_absent rows cols g (r * cols + c) (land_there ∙ e))

    module _ (land : land_at g (r * cols + c) ≡ true) where
      stepped : step_from rows cols (step_of (code_at g (r * cols + c))) (r * cols + c) ≡ step_from rows cols (step_of (get_or g (r * cols + c) 0)) (r * cols + c)
      stepped = ap (λ (x : ℕ). step_from rows cols (step_of x) (r * cols + c)) (sym (code_read g (r * cols + c) there))

      -- its arrow stays inside, so that it points at an absent cell
      pub found_inside : (s : Spot) → SpotIs rows cols s (step_from rows cols (step_of (get_or g (r * cols + c) 0)) (r * cols + c)) → ends_inside ≡ end_way rows cols g (r * cols + c)
      unfolding end_way
      found_inside s to = rw (steps_in rows cols g (r * cols + c) (omega (arith, stepped, to.place_is, place_lt rows cols s.row s.col to.row_in to.col_in)))

      -- it crosses the edge
      module _ (out : step_from rows cols (step_of (get_or g (r * cols + c) 0)) (r * cols + c) ≡ rows * cols) where
        crossed : crosses rows cols g (r * cols + c) ≡ true
        crossed = steps_out rows cols g (r * cols + c) land (omega (arith, stepped))

        on_edge : on_border rows cols (r * cols + c) ≡ true
        on_edge = crosses_border rows cols g (r * cols + c) crossed (cell_below cell)

        pub found_edge : edge_at rows cols r c ≡ true
        found_edge = sym (border_at rows cols r c cell.col_in) ∙ on_edge

        pub found_over : (n : ℕ) → n ≡ border_number rows cols (r * cols + c) → record { number = n; code = get_or g (r * cols + c) 0 } ≡ end_way rows cols g (r * cols + c)
        unfolding end_way
        found_over n e = rw (crossed, e, code_read g (r * cols + c) there)

        -- and its number fits two bytes
        pub number_fits : TileShape rows cols → border_number rows cols (r * cols + c) < 65536
        number_fits shape = omega (arith, cells_most rows cols shape, number_below rows cols (r * cols + c) (cell_below cell) on_edge)
