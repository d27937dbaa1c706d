-- `mosaic_step::tiles::Tiles::tile_at` meets its contract: the table tells where the tile's record begins, and its first border number.
-- Assumes nothing.
use mathlib.Core.Path.{sym, ◌∙◌}
use Prim.Native.Nat.{◌+◌, ◌*◌, ◌<◌}
use Rattle.sheet.proofs.Places.{place_lt, row_of, col_of}
use Rattle.mosaic_step.proofs.tiles.Tiles.tile_at.Goals as goal

pub invariant_of-result : goal.invariant_of-result
invariant_of-result c =
    let m = c.args.self.now.mosaic in
    let number = c.args.spot.row * m.tile_cols + c.args.spot.col in
    let l : number < m.tile_rows * m.tile_cols = place_lt m.tile_rows m.tile_cols c.args.spot.row c.args.spot.col c.requires.0 c.requires.1 in
    record {
      stands = record { tile = l; row = sym (row_of m.tile_cols c.args.spot.row c.args.spot.col c.requires.1); col = sym (col_of m.tile_cols c.args.spot.row c.args.spot.col c.requires.1) };
      told = record { bytes_are = c.at.ensures.bytes_are; start_is = c.at.ensures.start_is ∙ c.args.self.now.filled.starts number l };
      before = c.first.ensures;
    }
