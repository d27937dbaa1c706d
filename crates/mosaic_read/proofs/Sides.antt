-- A record that is read where record t begins has the sides of record t, as many border cells, and the same end.
-- Assumes nothing.
use mathlib.Core.List.{List}
use mathlib.Core.Path.{◌≡◌, ap, ap₂, ◌∙◌}
use Prim.Native.Nat.{ℕ, suc, ◌≤◌}
use native.Mathlib.Omega.{arith}
use Rattle.tile.specs.Border.{border_cells}
use Rattle.tile.proofs.Cells.{cells_most}
use Rattle.mosaic_read.specs.BorderRecord.{IsAt, record_end}
use Rattle.mosaic_read.specs.Records.{start_of, rows_at, cols_at, rows_of, cols_of, borders_of}
use Rattle.mosaic_read.specs.declared.record.BorderRecord.{BorderRecord}
use Rattle.mosaic_read.proofs.Starts.{start_next}

-- its border cells are few
pub borders_most : (r : BorderRecord) → r.borders ≤ 1020
borders_most r = omega (arith, r.size, cells_most r.tile.rows r.tile.cols r.tile.bounds)

module _ {bytes : List ℕ} {o : ℕ} {r : BorderRecord} (at : IsAt bytes o r) where
  -- as they are read at its start
  pub rows_read : r.tile.rows ≡ rows_at bytes o
  rows_read = r.rows ∙ ap₂ rows_at at.bytes_are at.start_is

  pub cols_read : r.tile.cols ≡ cols_at bytes o
  cols_read = r.cols ∙ ap₂ cols_at at.bytes_are at.start_is

  -- which is that of record t
  module _ (t : ℕ) (start : o ≡ start_of bytes t) where
    pub rows_are : r.tile.rows ≡ rows_of bytes t
    rows_are = rows_read ∙ ap (rows_at bytes) start

    pub cols_are : r.tile.cols ≡ cols_of bytes t
    cols_are = cols_read ∙ ap (cols_at bytes) start

    pub borders_are : r.borders ≡ borders_of bytes t
    unfolding borders_of
    borders_are = r.size ∙ ap₂ border_cells rows_are cols_are

    pub end_is : record_end r ≡ start_of bytes (suc t)
    end_is = omega (arith, at.start_is, start, borders_are, start_next bytes t)
