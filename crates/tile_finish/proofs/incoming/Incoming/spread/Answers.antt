-- `tile_finish::incoming::Incoming::spread` meets its contract: each turn lays out one border cell's number.
-- Assumes nothing.
use mathlib.Core.Path.{refl}
use native.Mathlib.Omega.{arith}
use Rattle.tile_finish.proofs.Laying.{spread_next}
use Rattle.tile_finish.proofs.incoming.Incoming.spread.Goals as goal

pub loop-b-preserved : goal.loop-b-preserved
loop-b-preserved c =
    let i = c.args.self.now in
    let at = rw (c.as_tile-tile.ensures.rows, c.as_tile-tile.ensures.cols) at c.border_place.ensures.value in
    spread_next i.grid.sheet.rows i.grid.sheet.cols i.numbers.now c.loop-b.work c.loop-b.b (omega (arith, i.numbers_long)) at refl c.loop-b.invariant
