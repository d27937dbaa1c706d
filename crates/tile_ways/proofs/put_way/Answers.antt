-- `tile_ways::put_way` meets its contract: the way of the cell at the border cell's place.
-- Assumes nothing.
use mathlib.Core.Path.{◌≡◌, ap, ◌∙◌}
use Rattle.tile_bytes.specs.Bytes.{way_bytes}
use Rattle.tile.specs.Told.{told}
use Rattle.tile_ways.specs.Ways.{way_in, border_way_in}
use Rattle.writer.proofs.Wrote.{writes_is, writes_then}
use Rattle.tile_ways.proofs.put_way.Goals as goal

pub returns-clause-puts : goal.returns-clause-puts
returns-clause-puts c =
    let g = c.args.walk.now.free.now.grid in
    let way : told c.way_of.result ≡ border_way_in g c.args.b = c.way_of.ensures.way ∙ ap (way_in g) (rw (c.as_tile.ensures.rows, c.as_tile.ensures.cols) at c.border_spot-spot.ensures.place_is) in
    writes_is (rw (c.from.ensures, c.fields-number.ensures.number, c.fields-number.ensures.code) (ap way_bytes way)) (writes_then c.put_two.ensures c.byte.ensures)
