-- Well-formed records are those of an allowed mosaic: the sides of each are those of its tile row and of its tile column.
-- Assumes nothing.
use mathlib.Core.List.{List}
use mathlib.Core.Path.{◌≡◌, ap₂}
use Prim.Native.Nat.{ℕ, suc, ◌+◌, ◌-◌, ◌*◌, ◌≤◌, ◌<◌}
use native.Mathlib.Omega.{arith}
use Rattle.flow.specs.Net.{sum}
use Rattle.sheet.proofs.Places.{row_of, col_of, place_lt}
use Rattle.tile.specs.Border.{border_cells}
use Rattle.mosaic.specs.Layout.{height_of, width_of, borders_in, Fits}
use Rattle.mosaic_read.specs.Records.{rows_of, cols_of, borders_of, heights, widths, RecordOk}
use Rattle.mosaic_read.specs.Read.{MosaicShape}
use Rattle.mosaic_read.proofs.AllRecords.{AllOk}

module _ {bytes : List ℕ} {J t : ℕ} (r : RecordOk bytes J t) where
  pub rows_height : rows_of bytes t ≡ height_of J (heights bytes J) t
  rows_height = r.placed.height

  pub cols_width : cols_of bytes t ≡ width_of J (widths bytes) t
  cols_width = r.placed.width

  pub borders_in_lem : borders_of bytes t ≡ borders_in J (heights bytes J) (widths bytes) t
  unfolding borders_of borders_in
  borders_in_lem = ap₂ border_cells r.placed.height r.placed.width

module _ (bytes : List ℕ) (I J : ℕ) (shape : MosaicShape I J) (ok : AllOk bytes J (I * J)) where
  -- the first record of tile row i, and that of tile column j
  row_record : (i : ℕ) → i < I → i * J < I * J
  row_record i l = omega (arith, place_lt I J i 0 l shape.some_col)

  col_record : (j : ℕ) → j < J → j < I * J
  col_record j l = omega (arith, place_lt I J 0 j shape.some_row l)

  -- the bounds on the sums, up to each
  rows_sum : (i : ℕ) → i < I → sum (suc i) (heights bytes J) ≤ 4096
  rows_sum i l = rw (row_of J i 0 shape.some_col) at (ok (i * J + 0) (place_lt I J i 0 l shape.some_col)).placed.rows_most

  cols_sum : (j : ℕ) → j < J → sum (suc j) (widths bytes) ≤ 4096
  cols_sum j l = rw (col_of J 0 j l) at (ok (0 * J + j) (place_lt I J 0 j shape.some_row l)).placed.cols_most

  height_in : (i : ℕ) → i < I → (1 ≤ heights bytes J i) × (heights bytes J i ≤ 256)
  unfolding heights
  height_in i l = let s = (ok (i * J) (row_record i l)).sides.shape in (s.some_row, s.rows_most)

  width_in : (j : ℕ) → j < J → (1 ≤ widths bytes j) × (widths bytes j ≤ 256)
  unfolding widths
  width_in j l = let s = (ok j (col_record j l)).sides.shape in (s.some_col, s.cols_most)

  pub read_fits : Fits I J (heights bytes J) (widths bytes)
  read_fits =
      let last_row : suc (I - 1) ≡ I = omega (arith, shape.some_row) in
      let last_col : suc (J - 1) ≡ J = omega (arith, shape.some_col) in
      record {
        some_row = shape.some_row;
        some_col = shape.some_col;
        tiles_most = shape.tiles_most;
        heights = height_in;
        widths = width_in;
        rows_most = rw last_row at (rows_sum (I - 1) (omega arith));
        cols_most = rw last_col at (cols_sum (J - 1) (omega arith));
      }
