-- `tile_ways::walk::Walk::way_of` meets its contract: no way, or the way at the last cell of the path.
-- Assumes nothing.
use mathlib.Core.Bool.{true}
use mathlib.Core.Path.{◌≡◌, sym, ap, ◌∙◌}
use native.Mathlib.Omega.{arith}
use Rattle.sheet.specs.Grid.{land_in, place_in}
use Rattle.sheet.proofs.Spots.{cell_below}
use Rattle.tile_ways.specs.Ways.{end_way_in}
use Rattle.tile_ways.proofs.Found.{land_there, found_absent, way_land}
use Rattle.tile_ways.proofs.Last.{last_below, last_land}
use Rattle.tile_ways.proofs.walk.Walk.way_of.Goals as goal

pub returns-then-not-is_arrow-clause-way : goal.returns-then-not-is_arrow-clause-way
returns-then-not-is_arrow-clause-way c =
    let g = c.args.self.now.free.now.grid in
    found_absent g.sheet.rows g.sheet.cols g.codes.now c.args.at.row c.args.at.col c.requires g.long (rw c.place.ensures at (sym c.is_arrow.ensures ∙ c.if-not-is_arrow.true))

pub spot-end-requires : goal.spot-end-requires
spot-end-requires c =
    let g = c.args.self.now.free.now in
    omega (arith, last_below g.grid g.free c.args.at c.requires, c.last_of.ensures.value)

pub way_from-requires-clause-on_land : goal.way_from-requires-clause-on_land
way_from-requires-clause-on_land c =
    let g = c.args.self.now.free.now in
    let land : land_in g.grid (place_in g.grid c.args.at) ≡ true = land_there g.grid.sheet.rows g.grid.sheet.cols g.grid.codes.now c.args.at.row c.args.at.col c.requires g.grid.long ∙ (rw c.place.ensures at (sym c.is_arrow.ensures ∙ c.if-not-is_arrow.false)) in
    ap (land_in g.grid) (c.spot-end.ensures.place_is ∙ c.last_of.ensures.value) ∙ last_land g.grid.sheet.rows g.grid.sheet.cols g.grid.codes.now g.free (place_in g.grid c.args.at) (cell_below c.requires) land

pub returns-clause-way : goal.returns-clause-way
returns-clause-way c =
    let g = c.args.self.now.free.now in
    let land : land_in g.grid (place_in g.grid c.args.at) ≡ true = land_there g.grid.sheet.rows g.grid.sheet.cols g.grid.codes.now c.args.at.row c.args.at.col c.requires g.grid.long ∙ (rw c.place.ensures at (sym c.is_arrow.ensures ∙ c.if-not-is_arrow.false)) in
    c.way_from.ensures ∙ ap (end_way_in g.grid) (c.spot-end.ensures.place_is ∙ c.last_of.ensures.value) ∙ sym (way_land g.grid.sheet.rows g.grid.sheet.cols g.grid.codes.now (place_in g.grid c.args.at) land)
