-- Case O of paper 01, a tile of two cells with arrows to the east: its border cells and their ways, from the definitions.
-- Assumes nothing.
use mathlib.Core.Path.{◌≡◌, refl}
use mathlib.Core.List.{List, [], ◌∷◌}
use Prim.Native.Nat.{ℕ}
use Rattle.flow.specs.Net.{sum}
use Rattle.flow.specs.Path.{last, last_in}
use Rattle.sheet.specs.Compass.{is_arrow, line_of, step_of}
use Rattle.sheet.specs.Sheet.{land_at, step_from, dest_of}
use Rattle.tile.specs.Border.{edge_at, on_border, border_cells, border_number, nth, border_place}
use Rattle.tile.specs.Way.{crosses, last_cell, way_at}

abbrev o : List ℕ
o = 1 ∷ 1 ∷ []

pub two_cells : (border_cells 1 2 ≡ 2) × (border_place 1 2 0 ≡ 0) × (border_place 1 2 1 ≡ 1)
unfolding border_cells border_place nth sum on_border edge_at
two_cells = (refl, refl, refl)

pub both_ways : (way_at 1 2 o 0 ≡ record { number = 1; code = 1 }) × (way_at 1 2 o 1 ≡ record { number = 1; code = 1 })
unfolding way_at crosses last_cell last last_in land_at is_arrow line_of step_of step_from dest_of border_number sum on_border edge_at
both_ways = (refl, refl)
