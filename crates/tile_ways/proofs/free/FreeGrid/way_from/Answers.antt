-- `tile_ways::free::FreeGrid::way_from` meets its contract: the arrow crosses the edge, or it does not.
-- Assumes nothing.
use mathlib.Core.Path.{sym, ◌∙◌}
use native.Mathlib.Omega.{arith}
use Rattle.tile_ways.proofs.Found.{land_there, found_inside, found_edge, found_over, number_fits}
use Rattle.tile_ways.proofs.free.FreeGrid.way_from.Goals as goal

pub beside-requires-clause-code_is_arrow : goal.beside-requires-clause-code_is_arrow
beside-requires-clause-code_is_arrow c =
    let g = c.args.self.now.grid in
    rw c.place.ensures (sym (land_there g.sheet.rows g.sheet.cols g.codes.now c.args.at.row c.args.at.col c.requires.on_grid g.long) ∙ c.requires.on_land)

pub border_number-requires-clause-on_edge : goal.border_number-requires-clause-on_edge
border_number-requires-clause-on_edge c =
    let g = c.args.self.now.grid in
    rw (c.as_tile.ensures.rows, c.as_tile.ensures.cols)
    (found_edge g.sheet.rows g.sheet.cols g.codes.now c.args.at.row c.args.at.col c.requires.on_grid g.long c.requires.on_land (rw c.place.ensures at c.in-None.ensures))

pub overflow_cast-result : goal.overflow_cast-result
overflow_cast-result c =
    let g = c.args.self.now.grid in
    omega (
      arith,
      number_fits g.sheet.rows g.sheet.cols g.codes.now c.args.at.row c.args.at.col c.requires.on_grid g.long c.requires.on_land (rw c.place.ensures at c.in-None.ensures) c.args.self.now.free.shape,
      rw (c.as_tile.ensures.rows, c.as_tile.ensures.cols) at c.border_number.ensures,
    )

pub returns-in-Some : goal.returns-in-Some
returns-in-Some c =
    let g = c.args.self.now.grid in
    found_inside g.sheet.rows g.sheet.cols g.codes.now c.args.at.row c.args.at.col c.requires.on_grid g.long c.requires.on_land _ (rw c.place.ensures at c.in-Some.ensures)

pub returns-in-None : goal.returns-in-None
returns-in-None c =
    let g = c.args.self.now.grid in
    rw c.place.ensures
    (found_over g.sheet.rows g.sheet.cols g.codes.now c.args.at.row c.args.at.col c.requires.on_grid g.long c.requires.on_land (rw c.place.ensures at c.in-None.ensures) _
    (rw (c.as_tile.ensures.rows, c.as_tile.ensures.cols) at c.border_number.ensures))
