-- `tile_ways::write_ways` meets its contract: a field of ways, of which there are few enough for its length.
-- Assumes nothing.
use native.Mathlib.Omega.{arith}
use Rattle.tile.proofs.Cells.{cells_most}
use Rattle.tile_bytes.specs.Bytes.{each, way_bytes}
use Rattle.tile_bytes.proofs.Each.{ways_long}
use Rattle.tile_bytes.proofs.Fields.{puts_field}
use Rattle.tile_ways.specs.Ways.{border_way_in, borders_in}
use Rattle.tile_ways.proofs.write_ways.Goals as goal

pub overflow_mul-border_cells : goal.overflow_mul-border_cells
overflow_mul-border_cells c = let m = cells_most _ _ c.as_tile.result.bounds in omega arith

pub returns : goal.returns
returns c =
    let g = c.args.free.now.grid in
    puts_field {contents = each (borders_in g) (λ b. way_bytes (border_way_in g b))} (omega (arith, ways_long g.sheet.rows g.sheet.cols g.codes.now (borders_in g), rw (c.as_tile.ensures.rows, c.as_tile.ensures.cols) at c.border_cells.ensures)) c.put_head.ensures c.put_ways.ensures
