-- `mosaic_join::settle::tile_holding` meets its contract: tile after tile, until the next begins past the border cell.
-- Assumes nothing.
use native.Mathlib.Omega.{arith}
use Rattle.mosaic_step.proofs.Known.{before_none}
use Rattle.mosaic_join.proofs.TileFound.{some_tile, tile_before, tile_last}
use Rattle.mosaic_join.proofs.settle.tile_holding.Goals as goal

pub loop-t-init : goal.loop-t-init
loop-t-init c = omega (arith, before_none c.args.tiles.now.mosaic.well_formed)

pub returns-then-g-first : goal.returns-then-g-first
returns-then-g-first c =
    let m = c.args.tiles.now.mosaic in
    tile_before m.tile_rows m.tile_cols m.records.now m.well_formed c.args.g c.requires c.loop-t.t (omega arith) (omega (arith, c.count-count.ensures)) c.loop-t.invariant (omega (arith, c.first.ensures))

pub returns : goal.returns
returns c =
    let m = c.args.tiles.now.mosaic in
    let some = some_tile m.tile_rows m.tile_cols m.records.now m.well_formed c.args.g c.requires in
    omega (arith, c.count-count.ensures, tile_last m.tile_rows m.tile_cols m.records.now m.well_formed c.args.g c.requires c.loop-t.t (omega (arith, c.count-count.ensures)) c.loop-t.invariant)
