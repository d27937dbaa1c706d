-- `mosaic_net::write::fill` meets its contract: tile after tile, and in each tile border cell after border cell.
-- Assumes nothing.
use mathlib.Core.Path.{◌≡◌, sym}
use native.Mathlib.Omega.{arith}
use Prim.Native.Nat.{◌+◌}
use Rattle.mosaic_step.specs.Mosaic.{all_in}
use Rattle.mosaic_step.proofs.Known.{before_none}
use Rattle.mosaic_net.specs.Method.{first_of}
use Rattle.mosaic_net.proofs.Filled.{filled_none, filled_at, filled_next}
use Rattle.mosaic_net.proofs.Marks.{below_all, next_first}
use Rattle.mosaic_net.proofs.Told.{borders_most}
use Rattle.mosaic_net.proofs.write.fill.Goals as goal

pub loop-t-init : goal.loop-t-init
loop-t-init g c =
    let m = c.args.tiles.now.mosaic in
    filled_at (all_in m) (g.T.Told.tells c.args.told.now m) (sym (before_none m.well_formed)) (filled_none (all_in m) (g.T.Told.tells c.args.told.now m) c.requires.long)

pub overflow_add-list : goal.overflow_add-list
overflow_add-list g c =
    omega (arith, below_all c.tile-tile.result c.loop-b.b c.loop-b-test.true c.tile-tile.ensures.tiles_are, borders_most _ _ _ c.args.tiles.now.mosaic.well_formed)

pub offset_bounds-list-tile : goal.offset_bounds-list-tile
offset_bounds-list-tile g c =
    omega (arith, below_all c.tile-tile.result c.loop-b.b c.loop-b-test.true c.tile-tile.ensures.tiles_are, borders_most _ _ _ c.args.tiles.now.mosaic.well_formed)

pub bounds-list-tile : goal.bounds-list-tile
bounds-list-tile g c =
    omega (arith, below_all c.tile-tile.result c.loop-b.b c.loop-b-test.true c.tile-tile.ensures.tiles_are, c.loop-b.invariant.long)

pub loop-b-preserved : goal.loop-b-preserved
loop-b-preserved g c =
    let m = c.args.tiles.now.mosaic in
    let f = g.T.Told.tells c.args.told.now in
    let k = c.tile-tile.result.first + c.loop-b.b in
    let e : c.tell.result ≡ f m k = rw c.tile-tile.ensures.tiles_are at c.tell.ensures in
    filled_at (all_in m) (f m) (omega arith)
    (filled_next (all_in m) (f m) c.loop-b.list k c.tell.result (below_all c.tile-tile.result c.loop-b.b c.loop-b-test.true c.tile-tile.ensures.tiles_are)
    e c.loop-b.invariant)

pub loop-t-preserved : goal.loop-t-preserved
loop-t-preserved g c =
    let m = c.args.tiles.now.mosaic in
    let e : c.tile-tile.result.first + c.loop-b.b ≡ first_of m.tile_rows m.tile_cols m.records.now (c.loop-t.t + 1) =
    omega (arith, next_first c.tile-tile.result c.tile-tile.ensures.tiles_are c.tile-tile.ensures.number_is) in
    filled_at (all_in m) (g.T.Told.tells c.args.told.now m) e c.loop-b.invariant
