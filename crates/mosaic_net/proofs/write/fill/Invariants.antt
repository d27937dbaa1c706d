-- The loops of `mosaic_net::write::fill`: what they keep.
use Prim.Native.Nat.{◌+◌}
use Rattle.mosaic_net.specs.Method.{first_of}
use Rattle.mosaic_net.specs.Net.{FilledTo}
use Rattle.mosaic_net.proofs.write.fill.Given as goal

abbrev pub invariant-loop-t : goal.invariant-loop-t
invariant-loop-t g l = FilledTo l.tiles.mosaic (g.T.Told.tells l.told l.tiles.mosaic) l.list (first_of l.tiles.mosaic.tile_rows l.tiles.mosaic.tile_cols l.tiles.mosaic.records.now l.t)

abbrev pub invariant-loop-b : goal.invariant-loop-b
invariant-loop-b g l = FilledTo l.tiles.mosaic (g.T.Told.tells l.told l.tiles.mosaic) l.list (l.tile.first + l.b)
