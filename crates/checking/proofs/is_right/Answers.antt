-- `checking::is_right` meets its contract: a law of the test for each way through it.
-- Assumes nothing.
use mathlib.Core.Path.{sym, ◌∙◌}
use native.Mathlib.Omega.{arith}
use Prim.Native.Nat.{◌+◌, ◌*◌}
use Rattle.sheet.proofs.Spots.{cell_below, cell_place}
use Rattle.around.proofs.Weigh.{given_small}
use Rattle.checking.proofs.Right.{right_land, right_absent}
use Rattle.checking.proofs.is_right.Goals as goal

pub overflow_add-result : goal.overflow_add-result
overflow_add-result c =
    let g = c.args.grid.now in
    let land = rw c.place-p.ensures at (sym c.is_land.ensures ∙ c.if-not-is_land.false) in
    record {
      fits = omega (arith, c.givers_sum_at.ensures, given_small g.sheet.rows g.sheet.cols g.codes.now c.args.counts.now (c.args.at.row * g.sheet.cols + c.args.at.col) (cell_place c.requires.on_grid) g.long land (λ q. (c.type_inv.counts q).fits));
    }

pub returns-then-not-is_land : goal.returns-then-not-is_land
returns-then-not-is_land c =
    let g = c.args.grid.now in
    rw c.place-p.ensures (right_absent g.sheet.rows g.sheet.cols g.codes.now c.args.counts.now (c.args.at.row * g.sheet.cols + c.args.at.col) (cell_below c.requires.on_grid) (rw c.place-p.ensures at (sym c.is_land.ensures ∙ c.if-not-is_land.true)))

pub returns-else-not-is_land : goal.returns-else-not-is_land
returns-else-not-is_land c =
    let g = c.args.grid.now in
    let land = rw c.place-p.ensures at (sym c.is_land.ensures ∙ c.if-not-is_land.false) in
    rw (c.from.ensures, c.place-p.ensures) (right_land g.sheet.rows g.sheet.cols g.codes.now c.args.counts.now (c.args.at.row * g.sheet.cols + c.args.at.col) land c.givers_sum_at.ensures)
