-- `tile_record::write_record` meets its contract: shape, position and lengths fit, and the rest.
-- Assumes nothing.
use mathlib.Core.Path.{◌≡◌, ap, ◌∙◌}
use native.Mathlib.Omega.{arith}
use Rattle.promise.specs.Links.Unless.{met}
use Rattle.tile.proofs.Cells.{cells_most}
use Rattle.tile_record.proofs.write_record.Goals as goal

pub overflow_mul-border_cells : goal.overflow_mul-border_cells
overflow_mul-border_cells c = let most = cells_most _ _ c.in_ok-tile.tile.bounds in omega arith

pub overflow_add-border_cells : goal.overflow_add-border_cells
overflow_add-border_cells c = let most = cells_most _ _ c.in_ok-tile.tile.bounds in omega arith

pub returns : goal.returns
returns c =
    let m = rw c.in_ok-tile.ensures.ok_part at c.new.ensures in
    let p = rw c.in_ok-position.ensures.ok_part at c.new-2.ensures in
    let made = rw c.in_ok-grid.ensures.ok_part at c.new-3.ensures in
    let r : c.in_ok-grid.grid.sheet.rows ≡ c.args.rows = ap (λ s. s.rows) made.0 ∙ c.sheet-sheet.ensures.rows ∙ m.1 in
    let k : c.in_ok-grid.grid.sheet.cols ≡ c.args.cols = ap (λ s. s.cols) made.0 ∙ c.sheet-sheet.ensures.cols ∙ m.2 in
    let n = rw (c.sheet-sheet.ensures.rows ∙ m.1, c.sheet-sheet.ensures.cols ∙ m.2) at c.cells-n.ensures in
    let b = rw (m.1, m.2) at c.border_cells.ensures in
    let long = rw (r, k, made.1) at c.in_ok-grid.grid.long in
    let at = c.in_ok-position.position.most in
    met m.0 (met record { row_most = omega arith; col_most = omega arith } (met record { grid_long = long; bytes_long = omega arith; work1_long = omega arith; work2_long = omega arith } (rw (r, k, p.0, p.1, made.1) at c.record_cells.ensures)))
