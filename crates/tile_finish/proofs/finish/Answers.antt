-- `tile_finish::finish` meets its contract: shape and lengths fit, and the rest.
-- Assumes nothing.
use mathlib.Core.Path.{◌≡◌, ap, ◌∙◌}
use native.Mathlib.Omega.{arith}
use Rattle.promise.specs.Links.Unless.{met}
use Rattle.tile_finish.proofs.finish.Goals as goal

pub returns : goal.returns
returns c =
    let m = rw c.in_ok-tile.ensures.ok_part at c.new.ensures in
    let made = rw c.in_ok-grid.ensures.ok_part at c.new-2.ensures in
    let r : c.in_ok-grid.grid.sheet.rows ≡ c.args.rows = ap (λ s. s.rows) made.0 ∙ c.sheet-sheet.ensures.rows ∙ m.1 in
    let k : c.in_ok-grid.grid.sheet.cols ≡ c.args.cols = ap (λ s. s.cols) made.0 ∙ c.sheet-sheet.ensures.cols ∙ m.2 in
    let n = rw (c.sheet-sheet.ensures.rows ∙ m.1, c.sheet-sheet.ensures.cols ∙ m.2) at c.cells-n.ensures in
    let b = rw (m.1, m.2) at c.border_cells.ensures in
    let long = rw (r, k, made.1) at c.in_ok-grid.grid.long in
    met m.0 (met record { grid_long = long; incoming_long = omega arith; counts_long = omega arith; work_long = omega arith } (rw (r, k, made.1) at c.finish_cells.ensures))
