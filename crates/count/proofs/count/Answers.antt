-- `count::count` meets its contract: 1 and 2 are passed, and the rest is that of the grid that is made.
-- Assumes nothing.
use mathlib.Core.Path.{◌≡◌, ap, ◌∙◌}
use Rattle.promise.specs.Links.Unless.{met}
use Rattle.count.proofs.count.Goals as goal

pub returns : goal.returns
returns c =
    let shape = rw c.in_ok-sheet.ensures.ok_part at c.new.ensures in
    let made = rw c.in_ok-grid.ensures.ok_part at c.new-2.ensures in
    let rows : c.in_ok-grid.grid.sheet.rows ≡ c.args.rows = ap (λ s. s.rows) made.0 ∙ shape.1 in
    let cols : c.in_ok-grid.grid.sheet.cols ≡ c.args.cols = ap (λ s. s.cols) made.0 ∙ shape.2 in
    let cells = rw (shape.1, shape.2) at c.cells.ensures in
    let long = rw (rows, cols, made.1) at c.in_ok-grid.grid.long in
    met shape.0 (met record { grid_long = long; counts_long = c.if-counts-cells.false ∙ cells } (rw (rows, cols, made.1) at c.count_cells.ensures))
