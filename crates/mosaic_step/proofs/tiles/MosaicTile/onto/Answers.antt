-- `mosaic_step::tiles::MosaicTile::onto` meets its contract: a law of the border cell sought for each way through it.
-- Assumes nothing.
use native.Mathlib.Omega.{arith}
use Prim.Native.Nat.{◌*◌}
use Rattle.mosaic_step.proofs.OfTile.{inside}
use Rattle.mosaic_step.proofs.Known.{before_most}
use Rattle.mosaic_step.proofs.Stepped.{arrow, rows_end, cols_end, row_stays, col_stays, cell, on_edge, sought, below}
use Rattle.mosaic_step.proofs.tiles.MosaicTile.onto.Goals as goal

pub code-requires : goal.code-requires
code-requires c = (inside c.args.self.now, c.requires.border)

pub after-past-requires-clause-code_is_arrow : goal.after-past-requires-clause-code_is_arrow
after-past-requires-clause-code_is_arrow c = arrow c.args.self.now c.requires c.border_spot.ensures c.code.ensures

pub returns-in_err-row : goal.returns-in_err-row
returns-in_err-row c = rw c.from_residual.ensures (rows_end c.args.self.now c.requires c.border_spot.ensures c.code.ensures c.after-past.ensures.row c.in_err-row.ensures)

pub returns-in_err-col : goal.returns-in_err-col
returns-in_err-col c =
    rw c.from_residual-in_err-col.ensures
    (cols_end c.args.self.now c.requires c.border_spot.ensures c.code.ensures c.after-past.ensures.row c.in_ok-row.ensures.0 c.after-past.ensures.col c.in_err-col.ensures)

pub number_after-requires : goal.number_after-requires
number_after-requires c =
    (c.tile_at-next.result.border.tile.bounds.some_row, row_stays c.args.self.now c.requires c.border_spot.ensures c.code.ensures c.after-past.ensures.row c.in_ok-row.ensures.0 c.after-past.ensures.col c.in_ok-row.ensures.1 c.in_ok-col.ensures.0 c.in_ok-col.ensures.1 c.tile_at-next.result c.tile_at-next.ensures.tiles_are c.tile_at-next.ensures.spot_is)

pub number_after-requires-2 : goal.number_after-requires-2
number_after-requires-2 c =
    (c.tile_at-next.result.border.tile.bounds.some_col, col_stays c.args.self.now c.requires c.border_spot.ensures c.code.ensures c.after-past.ensures.row c.in_ok-row.ensures.0 c.after-past.ensures.col c.in_ok-row.ensures.1 c.in_ok-col.ensures.0 c.in_ok-col.ensures.1 c.tile_at-next.result c.tile_at-next.ensures.tiles_are c.tile_at-next.ensures.spot_is)

pub border_number-requires : goal.border_number-requires
border_number-requires c =
    record {
      cell = cell c.args.self.now c.requires c.border_spot.ensures c.code.ensures c.after-past.ensures.row c.in_ok-row.ensures.0 c.after-past.ensures.col c.in_ok-row.ensures.1 c.in_ok-col.ensures.0 c.in_ok-col.ensures.1 c.tile_at-next.result c.tile_at-next.ensures.tiles_are c.tile_at-next.ensures.spot_is c.number_after.ensures c.number_after-2.ensures;
      on_edge = on_edge c.args.self.now c.requires c.border_spot.ensures c.code.ensures c.after-past.ensures.row c.in_ok-row.ensures.0 c.after-past.ensures.col c.in_ok-row.ensures.1 c.in_ok-col.ensures.0 c.in_ok-col.ensures.1 c.tile_at-next.result c.tile_at-next.ensures.tiles_are c.tile_at-next.ensures.spot_is c.number_after.ensures c.number_after-2.ensures;
    }

pub overflow_add-result : goal.overflow_add-result
overflow_add-result c =
    omega (arith, below c.args.self.now c.requires c.border_spot.ensures c.code.ensures c.after-past.ensures.row c.in_ok-row.ensures.0 c.after-past.ensures.col c.in_ok-row.ensures.1 c.in_ok-col.ensures.0 c.in_ok-col.ensures.1 c.tile_at-next.result c.tile_at-next.ensures.tiles_are c.tile_at-next.ensures.spot_is c.number_after.ensures c.number_after-2.ensures c.border_number.ensures, before_most c.args.self.now.tiles.mosaic.well_formed (c.args.self.now.tiles.mosaic.tile_rows * c.args.self.now.tiles.mosaic.tile_cols) (omega arith), c.args.self.now.tiles.mosaic.well_formed.shape.tiles_most)

pub returns : goal.returns
returns c = (
  sought c.args.self.now c.requires c.border_spot.ensures c.code.ensures c.after-past.ensures.row c.in_ok-row.ensures.0 c.after-past.ensures.col c.in_ok-row.ensures.1 c.in_ok-col.ensures.0 c.in_ok-col.ensures.1 c.tile_at-next.result c.tile_at-next.ensures.tiles_are c.tile_at-next.ensures.spot_is c.number_after.ensures c.number_after-2.ensures c.border_number.ensures,
  below c.args.self.now c.requires c.border_spot.ensures c.code.ensures c.after-past.ensures.row c.in_ok-row.ensures.0 c.after-past.ensures.col c.in_ok-row.ensures.1 c.in_ok-col.ensures.0 c.in_ok-col.ensures.1 c.tile_at-next.result c.tile_at-next.ensures.tiles_are c.tile_at-next.ensures.spot_is c.number_after.ensures c.number_after-2.ensures c.border_number.ensures,
)
