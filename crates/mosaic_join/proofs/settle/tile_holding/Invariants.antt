-- The loop of `mosaic_join::settle::tile_holding`: no tile that was passed begins past the border cell.
use Prim.Native.Nat.{◌≤◌, ◌-◌}
use Rattle.mosaic_net.specs.Method.{first_of}
use Rattle.mosaic_join.proofs.settle.tile_holding.Given as goal

abbrev pub invariant-loop-t : goal.invariant-loop-t
invariant-loop-t l = first_of l.tiles.mosaic.tile_rows l.tiles.mosaic.tile_cols l.tiles.mosaic.records.now (l.t - 1) ≤ l.g
