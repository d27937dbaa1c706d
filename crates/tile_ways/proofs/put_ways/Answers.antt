-- `tile_ways::put_ways` meets its contract: one way a turn.
-- Assumes nothing.
use mathlib.Core.Path.{refl, ap, ◌∙◌}
use native.Mathlib.Omega.{arith}
use Rattle.tile_bytes.specs.Bytes.{way_bytes}
use Rattle.tile_bytes.proofs.Each.{ways_long}
use Rattle.tile_bytes.proofs.Fields.{puts_start, puts_more}
use Rattle.writer.proofs.Wrote.{writes_is, writes_long}
use Rattle.tile_ways.specs.Ways.{border_way_in}
use Rattle.tile_ways.proofs.put_ways.Goals as goal

pub loop-b-init : goal.loop-b-init
loop-b-init c = record { stays = refl; puts = puts_start _ _ (omega arith) }

pub put_way-requires-clause-room : goal.put_way-requires-clause-room
put_way-requires-clause-room c =
    let g = c.args.walk.now.free.now.grid in
    let m = c.loop-b.invariant.puts in
    omega (arith, writes_long m, ways_long g.sheet.rows g.sheet.cols g.codes.now c.loop-b.b, rw (c.as_tile.ensures.rows, c.as_tile.ensures.cols) at c.border_cells-b-end.ensures)

pub loop-b-preserved : goal.loop-b-preserved
loop-b-preserved c =
    let m = c.loop-b.invariant in
    let g = c.args.walk.now.free.now.grid in
    record {
      stays = c.put_way.ensures.stays ∙ m.stays;
      puts = puts_more (λ b. way_bytes (border_way_in g b)) _ m.puts (writes_is (ap (λ f. way_bytes (border_way_in f.now.grid c.loop-b.b)) m.stays) c.put_way.ensures.puts);
    }
