-- Case O of paper 01: the tile `1 1` at 0, 0, its record written out.
-- Assumes nothing.
use mathlib.Core.Path.{◌≡◌, refl}
use mathlib.Core.List.{List, [], ◌∷◌}
use Prim.Native.Nat.{ℕ}
use Rattle.flow.specs.Net.{sum}
use Rattle.flow.specs.Path.{last, last_in}
use Rattle.sheet.specs.Compass.{is_arrow, line_of, step_of}
use Rattle.sheet.specs.Sheet.{land_at, step_from, dest_of}
use Rattle.tile.specs.Border.{edge_at, on_border, border_cells, border_number, nth, border_place}
use Rattle.tile.specs.Way.{crosses, last_cell, way_at}
use Rattle.tile_bytes.specs.Bytes.{each, record_bytes}

-- 01 0008 0001 0002 0000 0000, 02 0008 00000001 00000002, 03 0006 0001 01 0001 01
abbrev case_o : List ℕ
case_o =
    1 ∷ 0 ∷ 8 ∷ 0 ∷ 1 ∷ 0 ∷ 2 ∷ 0 ∷ 0 ∷ 0 ∷ 0 ∷
    2 ∷ 0 ∷ 8 ∷ 0 ∷ 0 ∷ 0 ∷ 1 ∷ 0 ∷ 0 ∷ 0 ∷ 2 ∷
    3 ∷ 0 ∷ 6 ∷ 0 ∷ 1 ∷ 1 ∷ 0 ∷ 1 ∷ 1 ∷
    []

pub case_o_bytes : record_bytes 1 2 0 0 (1 ∷ 1 ∷ []) (1 ∷ 2 ∷ []) ≡ case_o
unfolding record_bytes each way_at crosses last_cell last last_in land_at is_arrow line_of step_of step_from dest_of border_cells border_number border_place nth sum on_border edge_at
case_o_bytes = refl
